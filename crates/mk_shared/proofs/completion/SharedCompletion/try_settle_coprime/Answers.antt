use Rattle.std.proofs.Common.{None, sym, subst, ◌∙◌, ap, refl}
use Rattle.mk_model.specs.CoreStates.{CoreState}
use Rattle.mk_model.specs.CoreStates.Way.{Coprime}
use Rattle.mk_ledger.specs.Settlings.{IsCoprimeClaim}
use Rattle.mk_turn.specs.Seats.{turn_view}
use Rattle.mk_shared.specs.SeatFields.{seat_of}
use Rattle.mk_shared.specs.SharedSeats.{SeatView, HasCoprimeClaim}
use Rattle.mk_shared.specs.SharedAnswers.{IsSettledTurn}
use Rattle.mk_shared.proofs.Copies.{turn_of, coprime_here}
use Rattle.mk_shared.proofs.SeatTurns.{Turned, settled_turn, looked}
use Rattle.mk_shared.proofs.completion.SharedCompletion.try_settle_coprime.Goals as goal

pub settle_coprime-settled-requires : goal.settle_coprime-settled-requires
settle_coprime-settled-requires c =
    let s = seat_of c.seat.inside in
    subst (IsCoprimeClaim c.in-Some.shared.state) (sym c.seat.invariant.number)
    (coprime_here s c.seat.invariant.seat c.in-Some.shared (turn_of s c.in-Some.shared _ c.in-Some.ensures.some)
    (subst HasCoprimeClaim (sym c.seat.view_is) c.requires.claim))

pub returns-in-Ok : goal.returns-in-Ok
returns-in-Ok c =
    let s = c.seat.inside in
    let t = record s { turn = c.give.new.seat; claim = None } in
    let x = c.in-Some.shared in
    let y = c.settle_coprime-settled.new.self in
    let claim = (subst HasCoprimeClaim (sym c.seat.view_is) c.requires.claim) in
    let h : Turned s t (turn_view c.take.new.turn) x y = record {
      fields = c.seat.invariant;
      takes = c.in-Some.ensures.some;
      gave = c.give.ensures.view;
      table = c.give.ensures.table ∙ c.take.ensures.table;
      number = refl;
      made = refl;
      workers = refl;
    } in
    subst (λ (b : SeatView). IsSettledTurn b Coprime (seat_of t)) c.seat.view_is
    (settled_turn s t (turn_view c.take.new.turn) x y h refl Coprime c.in-Ok.ensures.ok claim.pair claim.claim.claimed refl refl refl
    (ap (λ (u : CoreState). u.basis) c.in-Ok.ensures.ok.settling.changed ∙ c.in-Ok.ensures.ok.settling.settled.1))

pub invariant_of-seat-in-Err : goal.invariant_of-seat-in-Err
invariant_of-seat-in-Err c =
    let s = c.seat.inside in
    let t = record s { turn = c.give.new.seat } in
    let x = c.in-Some.shared in
    let h : Turned s t (turn_view c.take.new.turn) x c.settle_coprime-settled.new.self =
    record {
      fields = c.seat.invariant;
      takes = c.in-Some.ensures.some;
      gave = c.give.ensures.view;
      table = c.give.ensures.table
          ∙ c.take.ensures.table;
      number = refl;
      made = refl;
      workers = refl;
    } in
    (looked s t (turn_view c.take.new.turn) x c.settle_coprime-settled.new.self h c.in-Err.ensures.err.1 refl refl).fields
