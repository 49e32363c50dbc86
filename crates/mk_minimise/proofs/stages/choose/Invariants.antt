use Rattle.mk_minimise.proofs.StageSteps.{IsChoosing}
use Rattle.mk_minimise.proofs.stages.choose.Given as goal

abbrev pub invariant-loop-place : goal.invariant-loop-place
invariant-loop-place l = IsChoosing l.basis l.place l.chosen.items
