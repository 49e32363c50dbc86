use Rattle.mk_move.proofs.Divisions.{DividesUpTo}
use Rattle.mk_move.proofs.leads.divides_part.Given as goal

abbrev pub invariant-loop-column : goal.invariant-loop-column
invariant-loop-column l = DividesUpTo l.lead l.row l.side l.column
