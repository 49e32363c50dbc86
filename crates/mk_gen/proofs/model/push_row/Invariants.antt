use Rattle.std.proofs.Common.{◌≡◌, ◌++◌}
use Rattle.std.specs.List.{flat_map, range_with_len}
use Rattle.mk_model.specs.Vectors.{scale}
use Rattle.mk_gen.specs.Models.{neighbour_entry}
use Rattle.mk_gen.proofs.model.push_row.Given as goal

abbrev pub invariant-loop-p : goal.invariant-loop-p
invariant-loop-p l = l.entries.items ≡ l.fn.entries.items ++ flat_map (λ p. scale (neighbour_entry l.s p) l.row) (range_with_len 0 l.p)
