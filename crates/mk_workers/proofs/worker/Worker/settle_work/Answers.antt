use Rattle.mk_workers.proofs.Steps.{steps_then, is_stale}
use Rattle.mk_workers.proofs.worker.Worker.settle_work.Goals as goal

pub returns-then-is_outrun : goal.returns-then-is_outrun
returns-then-is_outrun c = is_stale c.args.self.now.seat c.is_outrun.new.self.seat c.is_outrun.new.self.finder c.args.work c.is_outrun.ensures

pub returns : goal.returns
returns c = steps_then c.args.self.now.seat c.is_outrun.new.self.seat c.settle_by.new.self.seat c.settle_by.new.self.finder c.settle_by.result c.is_outrun.ensures.same c.settle_by.ensures
