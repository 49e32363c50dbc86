use Rattle.std.proofs.Common.{subst, sym}
use Rattle.mk_shared.specs.SharedSeats.{SeatView}
use Rattle.mk_workers.specs.Stages.{HasSeatWork, Steps}
use Rattle.mk_workers.specs.declared.stage.SeatStage.TheVariants.{Stale}
use Rattle.mk_workers.proofs.Stays.{misses}
use Rattle.mk_workers.proofs.Steps.{steps_then, copied_same, copied_leads, copies_in_part, has_work}
use Rattle.mk_workers.proofs.worker.Worker.reduce_again.Goals as goal

pub reduce_work-requires-clause-leads : goal.reduce_work-requires-clause-leads
reduce_work-requires-clause-leads g c =
    rw (c.reach.ensures.seat, c.reach.ensures.finder) (copied_leads c.args.self.now.seat c.try_refresh.new.seat c.args.self.now.finder c.requires.leads c.in-Ok.field-0 c.in-Ok.ensures)

pub reduce_work-requires-clause-work : goal.reduce_work-requires-clause-work
reduce_work-requires-clause-work g c =
    subst (λ (s : SeatView). HasSeatWork s c.args.work) (sym c.reach.ensures.seat)
    (has_work c.args.self.now.seat c.try_refresh.new.seat c.args.self.now.finder c.requires.leads c.in-Ok.field-0 c.in-Ok.ensures c.args.work c.requires.stage)

pub returns-in-Ok : goal.returns-in-Ok
returns-in-Ok g c =
    steps_then c.args.self.now.seat c.try_refresh.new.seat c.reduce_work.new.self.seat c.reduce_work.new.self.finder c.reduce_work.result
    (copied_same c.args.self.now.seat c.try_refresh.new.seat c.args.self.now.finder c.requires.leads c.in-Ok.field-0 c.in-Ok.ensures)
    (subst (λ (s : SeatView). Steps s c.reduce_work.new.self.seat c.reduce_work.new.self.finder c.reduce_work.result) c.reach.ensures.seat c.reduce_work.ensures)

pub returns-in-Err-Busy : goal.returns-in-Err-Busy
returns-in-Err-Busy g c =
    let (word, missed) = rw c.in-Err-Busy.field-0-is at c.in-Err-Busy.ensures in
    rw (c.try_again.ensures.stage, c.try_again.ensures.seat, c.try_again.ensures.finder)
    (misses c.args.self.now.seat c.try_refresh.new.seat c.args.self.now.finder c.requires.leads word (Stale c.args.work) missed c.requires.stage)

pub returns-in-Err-Memory : goal.returns-in-Err-Memory
returns-in-Err-Memory g c =
    copies_in_part c.args.self.now.seat c.try_refresh.new.seat c.args.self.now.finder c.requires.leads c.args.work.pair c.requires.stage.claimed (rw c.in-Err-Memory.field-0-is at c.in-Err-Memory.ensures)
