use Rattle.mk_move.proofs.Orientations.{IsTurnedUpTo}
use Rattle.mk_move.proofs.moves.negate_all.Given as goal

abbrev pub invariant-loop-entry : goal.invariant-loop-entry
invariant-loop-entry l = IsTurnedUpTo l.initial.row l.row l.entry-index
