use Rattle.std.proofs.Common.{sym, subst}
use Rattle.mk_ledger.specs.Halts.{halt_as}
use Rattle.mk_ledger.specs.declared.halt.Halt.{Halt}
use Rattle.mk_workers.specs.Stages.{Steps}
use Rattle.mk_workers.specs.declared.stage.SeatStage.TheVariants.{Stopping}
use Rattle.mk_workers.proofs.Stays.{misses, halts}
use Rattle.mk_workers.proofs.worker.Worker.halt_by.Goals as goal

pub returns-in-Ok : goal.returns-in-Ok
returns-in-Ok c = halts c.args.self.now.seat c.try_stop.new.seat c.args.self.now.finder c.requires.leads (halt_as c.args.halt) c.in-Ok.ensures

pub returns-in-Err : goal.returns-in-Err
returns-in-Err c =
    let (missed, same) = c.in-Err.ensures in
    rw (c.try_again.ensures.stage, c.try_again.ensures.seat, c.try_again.ensures.finder)
    (subst (λ (halt : Halt). Steps c.args.self.now.seat c.try_stop.new.seat c.args.self.now.finder (Stopping halt)) (sym same)
    (misses c.args.self.now.seat c.try_stop.new.seat c.args.self.now.finder c.requires.leads c.in-Err.field-0-0.word (Stopping c.args.halt) missed c.requires.stage))
