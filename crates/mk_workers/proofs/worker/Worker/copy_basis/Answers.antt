use Rattle.mk_workers.specs.declared.stage.SeatStage.TheVariants.{Fresh}
use Rattle.mk_workers.proofs.Steps.{copies_then, copies_then_in_part, then_misses}
use Rattle.mk_workers.proofs.worker.Worker.copy_basis.Goals as goal

pub returns-in-Ok : goal.returns-in-Ok
returns-in-Ok c =
    copies_then c.args.self.now.seat c.is_current.new.self.seat c.try_refresh.new.seat c.is_current.new.self.finder c.in-Ok.field-0 c.is_current.ensures.stays c.in-Ok.ensures

pub returns-in-Err-Busy : goal.returns-in-Err-Busy
returns-in-Err-Busy c =
    let (word, missed) = rw c.in-Err-Busy.field-0-is at c.in-Err-Busy.ensures in
    rw (c.try_again.ensures.stage, c.try_again.ensures.seat, c.try_again.ensures.finder)
    (then_misses c.args.self.now.seat c.is_current.new.self.seat c.try_refresh.new.seat c.is_current.new.self.finder word Fresh c.is_current.ensures.stays missed)

pub returns-in-Err-Memory : goal.returns-in-Err-Memory
returns-in-Err-Memory c =
    copies_then_in_part c.args.self.now.seat c.is_current.new.self.seat c.try_refresh.new.seat c.is_current.new.self.finder c.is_current.ensures.stays (rw c.in-Err-Memory.field-0-is at c.in-Err-Memory.ensures)
