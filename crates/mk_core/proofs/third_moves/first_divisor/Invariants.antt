use Rattle.std.proofs.Common.{ℕ, ◌<◌, get_or}
use Rattle.mk_core.specs.Neighbours.{IsMaskWithin}
use Rattle.mk_core.proofs.third_moves.first_divisor.Given as goal

abbrev pub invariant-loop-below : goal.invariant-loop-below
invariant-loop-below l = (other : ℕ) → other < l.below → ¬ (IsMaskWithin (get_or l.masks l.place 0) (get_or l.masks other 0))
