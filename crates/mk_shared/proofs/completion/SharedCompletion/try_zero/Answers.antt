use Rattle.std.proofs.Common.{None, sym, subst, ◌∙◌, ap, refl, length}
use Rattle.mk_model.specs.CoreStates.{CoreState}
use Rattle.mk_model.specs.CoreStates.Way.{Zero}
use Rattle.mk_ledger.specs.Settlings.{IsZeroClaim}
use Rattle.mk_turn.specs.Seats.{turn_view}
use Rattle.mk_shared.specs.SeatFields.{seat_of}
use Rattle.mk_shared.specs.SharedSeats.{SeatView, HasWorkDone}
use Rattle.mk_shared.specs.SharedAnswers.{IsSettledTurn}
use Rattle.mk_shared.proofs.Copies.{turn_of, zero_here}
use Rattle.mk_shared.proofs.SeatTurns.{Turned, settled_turn, looked}
use Rattle.mk_shared.proofs.completion.SharedCompletion.try_zero.Goals as goal

pub settle_zero-settled-requires : goal.settle_zero-settled-requires
settle_zero-settled-requires c =
    let s = seat_of c.seat.inside in
    let x = c.in-Some.shared in
    subst (IsZeroClaim (length x.basis.grading) x.state) (sym c.seat.invariant.number)
    (zero_here s c.seat.invariant.seat x (turn_of s x _ c.in-Some.ensures.some) c.args.work.now
    (subst (λ (b : SeatView). HasWorkDone b c.args.work.now) (sym c.seat.view_is) c.requires.work) c.requires.none)

pub returns-in-Ok : goal.returns-in-Ok
returns-in-Ok c =
    let s = c.seat.inside in
    let t = record s { turn = c.give.new.seat; claim = None } in
    let x = c.in-Some.shared in
    let y = c.settle_zero-settled.new.self in
    let work = (subst (λ (b : SeatView). HasWorkDone b c.args.work.now) (sym c.seat.view_is) c.requires.work) in
    let h : Turned s t (turn_view c.take.new.turn) x y = record {
      fields = c.seat.invariant;
      takes = c.in-Some.ensures.some;
      gave = c.give.ensures.view;
      table = c.give.ensures.table ∙ c.take.ensures.table;
      number = refl;
      made = refl;
      workers = refl;
    } in (
      c.requires.none,
      subst (λ (b : SeatView). IsSettledTurn b Zero (seat_of t)) c.seat.view_is
          (settled_turn s t (turn_view c.take.new.turn) x y h refl Zero c.in-Ok.ensures.ok c.args.work.now.pair work.claimed refl refl refl
          (ap (λ (u : CoreState). u.basis) c.in-Ok.ensures.ok.settling.changed ∙ c.in-Ok.ensures.ok.settling.settled.1)),
    )

pub invariant_of-seat-in-Err : goal.invariant_of-seat-in-Err
invariant_of-seat-in-Err c =
    let s = c.seat.inside in
    let t = record s { turn = c.give.new.seat } in
    let x = c.in-Some.shared in
    let y = c.settle_zero-settled.new.self in
    let h : Turned s t (turn_view c.take.new.turn) x y = record {
      fields = c.seat.invariant;
      takes = c.in-Some.ensures.some;
      gave = c.give.ensures.view;
      table = c.give.ensures.table ∙ c.take.ensures.table;
      number = refl;
      made = refl;
      workers = refl;
    } in
    (looked s t (turn_view c.take.new.turn) x y h c.in-Err.ensures.err.1 refl refl).fields
