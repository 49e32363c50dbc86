use Rattle.std.proofs.Common.{All, take, pos, ◌≤ℤ◌}
use Rattle.mk_grading.proofs.given.weights_of.Given as goal

abbrev pub invariant-loop-column : goal.invariant-loop-column
invariant-loop-column l = All (λ k. pos 1 ≤ℤ k) (take l.column l.row)
