use Rattle.std.proofs.Common.{◌≡◌, None, subst, sym}
use Rattle.mk_shared.specs.SharedSeats.{SeatView}
use Rattle.mk_workers.specs.Gatherings.{HasGathered}
use Rattle.mk_workers.proofs.Gatherings.{not_split, gathers_none, gathers_one}
use Rattle.mk_workers.proofs.completing.+fn-work_together-join+arg2+work_together.Goals as goal

pub returns-in-Ok : goal.returns-in-Ok
returns-in-Ok g t c =
    let split = c.in-Ok.ensures in
    gathers_one c.args.first c.split.new.seat c.join-first.result.0 c.in-Ok.other c.join-first.result.1 c.join.new.seat split.1 split.2 c.join-first.ensures.first
    c.join-first.ensures.second c.join.ensures

pub worker_loop-requires-clause-table : goal.worker_loop-requires-clause-table
worker_loop-requires-clause-table g t c =
    let same = not_split c.args.first c.in-Err.field-0 c.split.new.seat c.in-Err.ensures in
    subst (λ (seat : SeatView). seat.table ≡ c.args.shared.now) (sym same) c.requires.table

pub worker_loop-requires-clause-idle : goal.worker_loop-requires-clause-idle
worker_loop-requires-clause-idle g t c =
    let same = not_split c.args.first c.in-Err.field-0 c.split.new.seat c.in-Err.ensures in
    subst (λ (seat : SeatView). seat.sight.claim ≡ None) (sym same) c.requires.idle

pub returns-in-Err : goal.returns-in-Err
returns-in-Err g t c =
    let same = not_split c.args.first c.in-Err.field-0 c.split.new.seat c.in-Err.ensures in
    subst (λ seat. HasGathered seat c.worker_loop.result) same (gathers_none c.split.new.seat c.worker_loop.result c.worker_loop.ensures)
