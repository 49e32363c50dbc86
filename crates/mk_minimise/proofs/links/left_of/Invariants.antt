use Rattle.mk_reduce.proofs.Heights.{height}
use Rattle.mk_minimise.proofs.LinkEnds.{IsSoFar}
use Rattle.mk_minimise.proofs.links.left_of.Given as goal

abbrev pub invariant-loop-place : goal.invariant-loop-place
invariant-loop-place l = IsSoFar l.basis l.links l.fn.m l.rest

abbrev pub decreases-loop-place : goal.decreases-loop-place
decreases-loop-place l = height l.basis.grading l.basis.priority l.rest.entries
