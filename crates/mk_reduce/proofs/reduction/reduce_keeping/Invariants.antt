use Rattle.mk_reduce.specs.Traces.{IsLeftTraced}
use Rattle.mk_reduce.proofs.Heights.{height}
use Rattle.mk_reduce.proofs.reduction.reduce_keeping.Given as goal

abbrev pub invariant-loop-step : goal.invariant-loop-step
invariant-loop-step g l = IsLeftTraced l.basis l.initial.rest.entries (g.K.StepKeeper.has l.initial.keeper) l.rest (g.K.StepKeeper.has l.keeper)

abbrev pub decreases-loop-step : goal.decreases-loop-step
decreases-loop-step g l = height l.basis.grading l.basis.priority l.rest.entries
