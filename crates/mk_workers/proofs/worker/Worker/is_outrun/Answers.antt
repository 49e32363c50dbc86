use Rattle.mk_workers.specs.declared.stage.SeatStage.TheVariants.{Reduced}
use Rattle.mk_workers.proofs.Stays.{stays, reads}
use Rattle.mk_workers.proofs.worker.Worker.is_outrun.Goals as goal

pub returns-then-is_none : goal.returns-then-is_none
returns-then-is_none c = stays c.args.self.now.seat c.args.self.now.finder (Reduced c.args.work.now) c.requires.leads c.requires.stage

pub returns : goal.returns
returns c = reads c.args.self.now.seat c.news.new.seat c.args.self.now.finder c.requires.leads c.news.result (Reduced c.args.work.now) c.news.ensures.seat c.requires.stage
