use Rattle.std.proofs.Common.{length, ◌-◌}
use Rattle.mk_minimise.proofs.RunsOfWeight.{IsRunSoFar}
use Rattle.mk_minimise.proofs.stages.end_of_weight.Given as goal

abbrev pub invariant-loop-end : goal.invariant-loop-end
invariant-loop-end l = IsRunSoFar l.basis l.start l.end

abbrev pub decreases-loop-end : goal.decreases-loop-end
decreases-loop-end l = length l.basis.moves - l.end
