use Rattle.mk_inter.specs.TailSteps.{HasTailReduced}
use Rattle.mk_inter.proofs.LeastTails.{tail_rank}
use Rattle.std.proofs.Common.{length}
use Rattle.mk_inter.proofs.tail.reduce_tail.Given as goal

abbrev pub invariant-loop-place : goal.invariant-loop-place
invariant-loop-place l = HasTailReduced l.basis l.index l.rest

abbrev pub decreases-loop-place : goal.decreases-loop-place
decreases-loop-place l = tail_rank (length l.basis.grading) l.basis.grading l.rest.entries
