use Rattle.mk_move.specs.Sides.{part_of}
use Rattle.mk_move.proofs.BitWalks.{AreAhead, IsWithin}
use Rattle.mk_move.proofs.leads.divides_part_at.Given as goal

abbrev pub invariant-loop-left : goal.invariant-loop-left
invariant-loop-left l = AreAhead l.lead l.left × IsWithin l.lead (part_of l.side l.row) l.left

abbrev pub decreases-loop-left : goal.decreases-loop-left
decreases-loop-left l = l.left
