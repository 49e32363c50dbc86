use Rattle.std.proofs.Common.{subst, sym, ◌∙◌, ap}
use Rattle.mk_shared.specs.SharedSeats.{SeatView}
use Rattle.mk_workers.specs.Stages.{HasSeatWork, Steps}
use Rattle.mk_workers.proofs.Steps.{places_ordered, second_within, begins, is_refused}
use Rattle.mk_workers.proofs.worker.Worker.reduce_pair.Goals as goal

pub critical-requires-clause-ordered : goal.critical-requires-clause-ordered
critical-requires-clause-ordered g c =
    let (i, j) = c.claimed_places-i.result in
    let (pair, claim, common) = c.requires.stage in
    let f = c.basis.ensures.value ∙ ap (λ (s : SeatView). s.copy) c.reach.ensures.seat in
    places_ordered c.args.self.now.seat pair i j c.basis.result.now claim c.claimed_places-i.ensures f

pub critical-requires-clause-within : goal.critical-requires-clause-within
critical-requires-clause-within g c =
    let (i, j) = c.claimed_places-i.result in
    let (pair, claim, common) = c.requires.stage in
    let f = c.basis.ensures.value ∙ ap (λ (s : SeatView). s.copy) c.reach.ensures.seat in
    second_within c.args.self.now.seat pair i j c.basis.result.now claim c.claimed_places-i.ensures f

pub reduce_work-requires-clause-work : goal.reduce_work-requires-clause-work
reduce_work-requires-clause-work g c =
    let (i, j) = c.claimed_places-i.result in
    let (pair, claim, common) = c.requires.stage in
    let f = c.basis.ensures.value ∙ ap (λ (s : SeatView). s.copy) c.reach.ensures.seat in
    subst (λ (s : SeatView). HasSeatWork s c.in-Ok.work) (sym c.reach.ensures.seat)
    (begins c.args.self.now.seat c.args.self.now.finder c.basis.result.now pair i j claim common c.claimed_places-i.ensures f c.in-Ok.work c.in-Ok.ensures.work c.in-Ok.ensures.pair)

pub returns-in-Ok : goal.returns-in-Ok
returns-in-Ok g c = subst (λ (s : SeatView). Steps s c.reduce_work.new.self.seat c.reduce_work.new.self.finder c.reduce_work.result) c.reach.ensures.seat c.reduce_work.ensures

pub returns-in-Err : goal.returns-in-Err
returns-in-Err g c =
    let (i, j) = c.claimed_places-i.result in
    let (pair, claim, common) = c.requires.stage in
    let f = c.basis.ensures.value ∙ ap (λ (s : SeatView). s.copy) c.reach.ensures.seat in
    rw (c.reach.ensures.seat, c.reach.ensures.finder)
    (is_refused c.args.self.now.seat c.args.self.now.finder c.basis.result.now pair i j claim common c.claimed_places-i.ensures f c.in-Err.stop c.halt_for_stop.result c.requires.leads c.in-Err.ensures.refused c.halt_for_stop.ensures)
