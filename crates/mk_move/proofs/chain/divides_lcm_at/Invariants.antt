use Rattle.mk_model.specs.Vectors.{positive_part}
use Rattle.mk_model.specs.Reductions.{lcm}
use Rattle.mk_move.proofs.BitWalks.{AreAhead, IsWithin}
use Rattle.mk_move.proofs.chain.divides_lcm_at.Given as goal

abbrev pub invariant-loop-left : goal.invariant-loop-left
invariant-loop-left l = AreAhead l.lead l.left × IsWithin l.lead (lcm (positive_part l.a) (positive_part l.b)) l.left

abbrev pub decreases-loop-left : goal.decreases-loop-left
decreases-loop-left l = l.left
