use Rattle.mk_move.proofs.Takings.{IsTaking}
use Rattle.mk_move.proofs.in_place.take_off_each.Given as goal

abbrev pub invariant-loop-left : goal.invariant-loop-left
invariant-loop-left l = IsTaking l.initial.row l.right l.times l.left l.row l.taken

abbrev pub decreases-loop-left : goal.decreases-loop-left
decreases-loop-left l = l.left
