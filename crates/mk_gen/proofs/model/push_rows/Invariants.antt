use Rattle.std.proofs.Common.{◌≡◌, ◌++◌, take}
use Rattle.std.specs.List.{flat_map}
use Rattle.mk_model.specs.Tables.{rows_of}
use Rattle.mk_gen.specs.Models.{times_difference}
use Rattle.mk_gen.proofs.model.push_rows.Given as goal

abbrev pub invariant-loop-r : goal.invariant-loop-r
invariant-loop-r l = l.entries.items ≡ l.fn.entries.items ++ flat_map (times_difference l.size l.s) (take l.r (rows_of l.table))
