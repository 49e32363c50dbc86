use Rattle.std.proofs.Common.{◌+◌}
use Rattle.mk_model.specs.CoreStates.Way.{Chain}
use Rattle.mk_workers.specs.declared.stage.SeatStage.TheVariants.{Thirds}
use Rattle.mk_workers.proofs.Stays.{misses, looks, settles, runs_out}
use Rattle.mk_workers.proofs.worker.Worker.try_third.Goals as goal

pub returns-in-Ok : goal.returns-in-Ok
returns-in-Ok c = settles c.args.self.now.seat c.try_settle_chain.new.seat c.args.self.now.finder c.requires.works.leads (Chain c.args.k) c.in-Ok.ensures

pub returns-in-Err-Unsettled : goal.returns-in-Err-Unsettled
returns-in-Err-Unsettled c =
    let h = rw c.in-Err-Unsettled.field-0-is at c.in-Err-Unsettled.ensures in
    looks c.args.self.now.seat c.try_settle_chain.new.seat c.args.self.now.finder c.requires.works.leads h.ledger (Thirds (c.args.k + 1) (c.args.tried + 1)) h.look.1 c.requires.works.stage

pub returns-in-Err-Busy : goal.returns-in-Err-Busy
returns-in-Err-Busy c =
    let (word, missed) = rw c.in-Err-Busy.field-0-is at c.in-Err-Busy.ensures in
    rw (c.try_again.ensures.stage, c.try_again.ensures.seat, c.try_again.ensures.finder)
    (misses c.args.self.now.seat c.try_settle_chain.new.seat c.args.self.now.finder c.requires.works.leads word (Thirds c.args.k c.args.tried) missed c.requires.works.stage)

pub returns-in-Err-Memory : goal.returns-in-Err-Memory
returns-in-Err-Memory c =
    let (ledger, look) = rw c.in-Err-Memory.field-0-is at c.in-Err-Memory.ensures in
    runs_out c.args.self.now.seat c.try_settle_chain.new.seat c.args.self.now.finder c.requires.works.leads ledger c.requires.third.pair look.1 c.requires.third.claim.claimed
