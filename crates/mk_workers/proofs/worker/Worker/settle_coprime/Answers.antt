use Rattle.mk_model.specs.CoreStates.Way.{Coprime}
use Rattle.mk_workers.specs.declared.stage.SeatStage.TheVariants.{Disjoint}
use Rattle.mk_workers.proofs.Stays.{misses, settles, runs_out}
use Rattle.mk_workers.proofs.worker.Worker.settle_coprime.Goals as goal

pub returns-in-Ok : goal.returns-in-Ok
returns-in-Ok c = settles c.args.self.now.seat c.try_settle_coprime.new.seat c.args.self.now.finder c.requires.leads Coprime c.in-Ok.ensures

pub returns-in-Err-Busy : goal.returns-in-Err-Busy
returns-in-Err-Busy c =
    let (word, missed) = rw c.in-Err-Busy.field-0-is at c.in-Err-Busy.ensures in
    rw (c.try_again.ensures.stage, c.try_again.ensures.seat, c.try_again.ensures.finder)
    (misses c.args.self.now.seat c.try_settle_coprime.new.seat c.args.self.now.finder c.requires.leads word Disjoint missed c.requires.stage)

pub returns-in-Err-Memory : goal.returns-in-Err-Memory
returns-in-Err-Memory c =
    let (ledger, look) = rw c.in-Err-Memory.field-0-is at c.in-Err-Memory.ensures in
    runs_out c.args.self.now.seat c.try_settle_coprime.new.seat c.args.self.now.finder c.requires.leads ledger c.requires.stage.pair look.1 c.requires.stage.claim.claimed
