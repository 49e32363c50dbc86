use Rattle.mk_model.specs.CoreStates.Way.{Zero}
use Rattle.mk_workers.specs.declared.stage.SeatStage.TheVariants.{Reduced, Stale}
use Rattle.mk_workers.proofs.Stays.{misses, looks, settles, places, is_full, runs_out}
use Rattle.mk_workers.proofs.worker.Worker.settle_by.Goals as goal

pub returns-in-Ok-Zero : goal.returns-in-Ok-Zero
returns-in-Ok-Zero c =
    let (none, h) = rw c.in-Ok-Zero.field-0-is at c.in-Ok-Zero.ensures in
    settles c.args.self.now.seat c.try_settle.new.seat c.args.self.now.finder c.requires.leads Zero h

pub returns-in-Ok-Placed : goal.returns-in-Ok-Placed
returns-in-Ok-Placed c =
    places c.args.self.now.seat c.try_settle.new.seat c.args.self.now.finder c.requires.leads c.args.work c.in-Ok-Placed.field-0-0 (rw c.in-Ok-Placed.field-0-is at c.in-Ok-Placed.ensures)

pub returns-in-Err-Busy : goal.returns-in-Err-Busy
returns-in-Err-Busy c =
    let (word, missed) = rw c.in-Err-Busy.field-0-is at c.in-Err-Busy.ensures in
    rw (c.try_again.ensures.stage, c.try_again.ensures.seat, c.try_again.ensures.finder)
    (misses c.args.self.now.seat c.try_settle.new.seat c.args.self.now.finder c.requires.leads word (Reduced c.args.work) missed c.requires.stage)

pub returns-in-Err-Behind : goal.returns-in-Err-Behind
returns-in-Err-Behind c =
    let h = rw c.in-Err-Behind.field-0-is at c.in-Err-Behind.ensures in
    looks c.args.self.now.seat c.try_settle.new.seat c.args.self.now.finder c.requires.leads h.ledger (Stale c.args.work) h.look.1 c.requires.stage.0

pub returns-in-Err-BasisFull : goal.returns-in-Err-BasisFull
returns-in-Err-BasisFull c =
    is_full c.args.self.now.seat c.try_settle.new.seat c.args.self.now.finder c.requires.leads c.args.work (rw c.in-Err-BasisFull.field-0-is at c.in-Err-BasisFull.ensures)

pub returns : goal.returns
returns c =
    let (ledger, look) = rw c.in-Err-Memory.field-0-is at c.in-Err-Memory.ensures in
    runs_out c.args.self.now.seat c.try_settle.new.seat c.args.self.now.finder c.requires.leads ledger c.args.work.pair look.1 c.requires.stage.0.claimed
