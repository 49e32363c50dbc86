use Rattle.std.proofs.Common.{subst, ◌∙◌, ap, refl}
use Rattle.mk_turn.specs.Seats.{turn_view}
use Rattle.mk_shared.specs.SeatFields.{seat_of}
use Rattle.mk_shared.specs.SharedSeats.{SeatView}
use Rattle.mk_shared.specs.SharedAnswers.{IsClaimOf}
use Rattle.mk_shared.proofs.SeatTurns.{Turned, claims_whole}
use Rattle.mk_shared.proofs.completion.SharedCompletion.try_claim.Goals as goal

pub invariant_of-seat-2 : goal.invariant_of-seat-2
invariant_of-seat-2 c =
    let s = c.seat.inside in
    let t = record s { turn = c.give.new.seat; claim = c.places_of-seat-inside.result; nothing_left = c.says_end-seat-inside.result } in
    let x = c.in-Some.shared in
    let y = c.claim-answer.new.self in
    let h : Turned s t (turn_view c.take.new.turn) x y = record {
      fields = c.seat.invariant;
      takes = c.in-Some.ensures.some;
      gave = c.give.ensures.view;
      table = c.give.ensures.table ∙ c.take.ensures.table;
      number = refl;
      made = refl;
      workers = refl;
    } in
    (claims_whole s t (turn_view c.take.new.turn) x y h refl (ap (λ (b : SeatView). b.sight.claim) c.seat.view_is ∙ c.requires.idle)
    refl c.claim-answer.result c.claim-answer.ensures c.places_of-seat-inside.ensures c.says_end-seat-inside.ensures).0

pub returns : goal.returns
returns c =
    let s = c.seat.inside in
    let t = record s { turn = c.give.new.seat; claim = c.places_of-seat-inside.result; nothing_left = c.says_end-seat-inside.result } in
    let x = c.in-Some.shared in
    let y = c.claim-answer.new.self in
    let h : Turned s t (turn_view c.take.new.turn) x y = record {
      fields = c.seat.invariant;
      takes = c.in-Some.ensures.some;
      gave = c.give.ensures.view;
      table = c.give.ensures.table ∙ c.take.ensures.table;
      number = refl;
      made = refl;
      workers = refl;
    } in
    subst (λ (b : SeatView). IsClaimOf b c.claim-answer.result (seat_of t)) c.seat.view_is
    (claims_whole s t (turn_view c.take.new.turn) x y h refl (ap (λ (b : SeatView). b.sight.claim) c.seat.view_is ∙ c.requires.idle)
    refl c.claim-answer.result c.claim-answer.ensures c.places_of-seat-inside.ensures c.says_end-seat-inside.ensures).1
