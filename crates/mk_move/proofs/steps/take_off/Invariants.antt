use Rattle.mk_move.proofs.Differences.{IsTakenOff}
use Rattle.mk_move.proofs.steps.take_off.Given as goal

abbrev pub invariant-loop-column : goal.invariant-loop-column
invariant-loop-column l = IsTakenOff l.initial.row l.right l.times l.column l.row
