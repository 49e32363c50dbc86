use Rattle.mk_move.proofs.Divisions.{IsTimesOver}
use Rattle.mk_move.proofs.BitWalks.{AreAhead, IsDone}
use Rattle.mk_move.proofs.leads.most_times_at.Given as goal

abbrev pub invariant-loop-left : goal.invariant-loop-left
invariant-loop-left l = AreAhead l.lead l.left × IsTimesOver l.lead l.row l.side (IsDone l.left) l.times

abbrev pub decreases-loop-left : goal.decreases-loop-left
decreases-loop-left l = l.left
