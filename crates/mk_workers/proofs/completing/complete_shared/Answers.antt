use Rattle.std.proofs.Common.{◌∙◌}
use Rattle.mk_core.proofs.JobPhases.{exactly_used_up}
use Rattle.mk_workers.proofs.Closings.{completes_shared}
use Rattle.mk_workers.proofs.Gatherings.{same_outset}
use Rattle.mk_workers.proofs.completing.complete_shared.Goals as goal

pub returns-clause-answer : goal.returns-clause-answer
returns-clause-answer g c =
    let closed = c.close.ensures in
    let outset = same_outset c.args.job c.args.workers c.in_ok-shared.shared c.in_ok-shared.first c.work_together-first.result c.in_ok-shared.ensures.ok c.work_together-first.ensures in
    completes_shared c.args.job c.args.workers c.close.result closed.kept (closed.outset ∙ outset) closed.given_up c.finish_alone.result c.finish_alone.ensures.answer
    c.finish_alone.ensures.halted

pub returns-clause-over_budget : goal.returns-clause-over_budget
returns-clause-over_budget g c = exactly_used_up c.args.job c.finish_alone.result (returns-clause-answer g c)
