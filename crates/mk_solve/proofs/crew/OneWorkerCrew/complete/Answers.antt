use Rattle.mk_core.proofs.JobPhases.{completes_alone, exactly_used_up}
use Rattle.mk_solve.proofs.crew.OneWorkerCrew.complete.Goals as goal

pub returns-clause-answer : goal.returns-clause-answer
returns-clause-answer c = completes_alone c.args.job c.complete_alone.result c.complete_alone.ensures.answer

pub returns-clause-over_budget : goal.returns-clause-over_budget
returns-clause-over_budget c =
    exactly_used_up c.args.job c.complete_alone.result (completes_alone c.args.job c.complete_alone.result c.complete_alone.ensures.answer)
