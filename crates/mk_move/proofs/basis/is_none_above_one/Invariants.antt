use Rattle.std.proofs.Common.{ℕ, ◌<◌, get_or, pos}
use Rattle.mk_move.specs.Masks.{IsAtMostOne}
use Rattle.mk_move.proofs.basis.is_none_above_one.Given as goal

abbrev pub invariant-loop-entry : goal.invariant-loop-entry
invariant-loop-entry l = (c : ℕ) → c < l.entry-index → IsAtMostOne (get_or l.row c (pos 0))
