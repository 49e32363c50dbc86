use Rattle.mk_move.proofs.Takings.{IsTakenUpTo}
use Rattle.mk_move.proofs.in_place.take_off_all.Given as goal

abbrev pub invariant-loop-column : goal.invariant-loop-column
invariant-loop-column l = IsTakenUpTo l.initial.row l.right l.times l.column l.row l.in_range
