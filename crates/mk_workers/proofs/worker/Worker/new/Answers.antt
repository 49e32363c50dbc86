use Rattle.mk_workers.proofs.Steps.{no_leads}
use Rattle.mk_workers.proofs.worker.Worker.new.Goals as goal

pub returns-clause-leads : goal.returns-clause-leads
returns-clause-leads c = no_leads c.new.result c.args.seat.copy c.new.ensures
