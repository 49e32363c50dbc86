use Rattle.std.proofs.Common.{◌≡◌, ◌<◌, ℕ, pos}
use Rattle.mk_model.specs.Vectors.{entry}
use Rattle.mk_move.proofs.steps.is_zero.Given as goal

abbrev pub invariant-loop-entry : goal.invariant-loop-entry
invariant-loop-entry l = (c : ℕ) → c < l.entry-index → entry l.row c ≡ pos 0
