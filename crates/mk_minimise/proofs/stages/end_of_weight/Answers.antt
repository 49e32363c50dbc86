use Rattle.mk_minimise.specs.Stages.{IsAsHeavy}
use Rattle.mk_minimise.proofs.LinkEnds.{failed}
use Rattle.mk_minimise.proofs.RunsOfWeight.{run_ends}
use Rattle.mk_minimise.proofs.stages.end_of_weight.Goals as goal

pub returns : goal.returns
returns c =
    run_ends c.args.basis.now c.requires.reduced c.args.start c.loop-end.end c.loop-end.invariant
    (failed (IsAsHeavy c.args.basis.now c.args.start c.loop-end.end) c.is_as_heavy.result c.is_as_heavy.ensures c.loop-end-test.false)
