use Rattle.mk_move.proofs.Divisions.{IsTimesSoFar}
use Rattle.mk_move.proofs.leads.most_times.Given as goal

abbrev pub invariant-loop-column : goal.invariant-loop-column
invariant-loop-column l = IsTimesSoFar l.lead l.row l.side l.column l.times
