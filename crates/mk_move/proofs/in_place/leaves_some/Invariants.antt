use Rattle.mk_move.proofs.Takings.{IsLeaving}
use Rattle.mk_move.proofs.in_place.leaves_some.Given as goal

abbrev pub invariant-loop-column : goal.invariant-loop-column
invariant-loop-column l = IsLeaving l.left l.right l.times l.column l.some
