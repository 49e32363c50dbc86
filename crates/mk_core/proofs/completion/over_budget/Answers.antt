use Rattle.mk_core.proofs.Finishing.{finishes_over_budget}
use Rattle.mk_core.proofs.completion.over_budget.Goals as goal

pub returns : goal.returns
returns c = finishes_over_budget c.args.ledger c.phase_of-phase.result.0 c.phase_of-phase.ensures.phase c.requires
