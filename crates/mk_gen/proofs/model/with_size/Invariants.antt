use Rattle.std.proofs.Common.{◌≡◌}
use Rattle.std.specs.List.{flat_map, range_with_len}
use Rattle.mk_model.specs.Tables.{rows_of}
use Rattle.mk_gen.specs.Models.{times_difference}
use Rattle.mk_gen.proofs.model.with_size.Given as goal

abbrev pub invariant-loop-s : goal.invariant-loop-s
invariant-loop-s l = l.entries.items ≡ flat_map (λ s. flat_map (times_difference l.size s) (rows_of l.table)) (range_with_len 0 l.s)
