use Rattle.std.proofs.Common.{◌≡◌, All, take}
use Rattle.mk_model.specs.Vectors.{entry, positive_part}
use Rattle.mk_move.proofs.orders.compare_along.Given as goal

abbrev pub invariant-loop-column : goal.invariant-loop-column
invariant-loop-column l = All (λ c. entry (positive_part l.a) c ≡ entry (positive_part l.b) c) (take l.column-index l.columns)
