use Rattle.mk_move.proofs.Multiples.{IsMultipleSoFar}
use Rattle.mk_move.proofs.in_place.is_multiple_each.Given as goal

abbrev pub invariant-loop-left : goal.invariant-loop-left
invariant-loop-left l = IsMultipleSoFar l.row l.right l.times l.left

abbrev pub decreases-loop-left : goal.decreases-loop-left
decreases-loop-left l = l.left
