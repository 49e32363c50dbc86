use Rattle.std.proofs.Common.{◌≤◌, None, true, Err, sym, subst, ◌∙◌, ap, refl, length, arith}
use Rattle.std.proofs.lemmas.Option.{none-some}
use Rattle.mk_move.specs.MoveLists.{BasisView}
use Rattle.mk_turn.specs.Seats.{turn_view}
use Rattle.mk_core.specs.Remainders.{IsRestOfClaim}
use Rattle.mk_shared.specs.SeatFields.{seat_of}
use Rattle.mk_shared.specs.SharedSeats.{SeatView, HasWorkDone}
use Rattle.mk_shared.specs.SharedAnswers.{IsPlacedTurn, IsFullTurn}
use Rattle.mk_shared.specs.declared.settling.Unplaced.{Unplaced}
use Rattle.mk_shared.specs.Placing.{PlacesCopy, IsBasisFilled}
use Rattle.mk_shared.specs.LedgerSteps.{StaysInTurn}
use Rattle.mk_shared.proofs.Copies.{turn_of, rest_here, front_here}
use Rattle.mk_shared.proofs.SeatTurns.{Turned, Raised, looked, placed, placed_turn, filled, full_turn}
use Rattle.mk_shared.proofs.completion.SharedCompletion.try_place.Goals as goal

pub place_copy-requires : goal.place_copy-requires
place_copy-requires c =
    let s = seat_of c.seat.inside in
    let x = c.in-Some.shared in
    let enough : length x.basis.moves ≤ c.args.work.now.front = omega (
      arith,
      c.if-front-length.false,
      c.front.ensures,
      c.len-length.ensures.value,
      ap (λ (b : BasisView). length b.moves) c.basis.ensures.value,
    ) in
    subst (λ n. IsRestOfClaim x n c.args.rest.now) (sym c.seat.invariant.number)
    (rest_here s c.seat.invariant.seat x (turn_of s x _ c.in-Some.ensures.some) c.args.work.now
    (subst (λ (b : SeatView). HasWorkDone b c.args.work.now) (sym c.seat.view_is) c.requires.work) c.args.rest.now c.requires.rest enough)

pub invariant_of-seat-in-Ok : goal.invariant_of-seat-in-Ok
invariant_of-seat-in-Ok c =
    let s = c.seat.inside in
    let x = c.in-Some.shared in
    let y = c.place_copy.new.shared in
    let work = (subst (λ (b : SeatView). HasWorkDone b c.args.work.now) (sym c.seat.view_is) c.requires.work) in
    let t = record s { turn = c.give-in-Ok.new.seat; claim = None } in
    let h : Raised s t (turn_view c.take.new.turn) (turn_view c.raise.new.seat) x y = record {
      same = record {
        fields = c.seat.invariant;
        table = c.give-in-Ok.ensures.table ∙ c.raise.ensures.table ∙ c.take.ensures.table;
        number = refl;
        made = refl;
        workers = refl;
      };
      takes = c.in-Some.ensures.some;
      raises = c.raise.ensures.view;
      gave = c.give-in-Ok.ensures.view;
      copy = refl;
    } in
    (placed s t (turn_view c.take.new.turn) (turn_view c.raise.new.seat)
    x y h c.args.work.now work.claimed c.args.rest.now c.requires.rest c.in-Ok.place c.in-Ok.ensures refl).fields

pub returns-in-Ok : goal.returns-in-Ok
returns-in-Ok c =
    let s = c.seat.inside in
    let x = c.in-Some.shared in
    let y = c.place_copy.new.shared in
    let work = (subst (λ (b : SeatView). HasWorkDone b c.args.work.now) (sym c.seat.view_is) c.requires.work) in
    let t = record s { turn = c.give-in-Ok.new.seat; claim = None } in
    let h : Raised s t (turn_view c.take.new.turn) (turn_view c.raise.new.seat) x y = record {
      same = record {
        fields = c.seat.invariant;
        table = c.give-in-Ok.ensures.table ∙ c.raise.ensures.table ∙ c.take.ensures.table;
        number = refl;
        made = refl;
        workers = refl;
      };
      takes = c.in-Some.ensures.some;
      raises = c.raise.ensures.view;
      gave = c.give-in-Ok.ensures.view;
      copy = refl;
    } in
    let enough : length x.basis.moves ≤ c.args.work.now.front = omega (
      arith,
      c.if-front-length.false,
      c.front.ensures,
      c.len-length.ensures.value,
      ap (λ (b : BasisView). length b.moves) c.basis.ensures.value,
    ) in
    let whole = front_here (seat_of s) c.seat.invariant.seat x (turn_of (seat_of s) x _ c.in-Some.ensures.some)
    c.args.work.now work enough in
    subst (λ (b : SeatView). IsPlacedTurn b c.args.work.now c.in-Ok.place (seat_of t)) c.seat.view_is
    (placed_turn s t (turn_view c.take.new.turn) (turn_view c.raise.new.seat)
    x y h c.args.work.now work.claimed c.args.rest.now c.requires.rest c.in-Ok.place c.in-Ok.ensures refl whole refl refl)

pub invariant_of-seat-in-Err-Full : goal.invariant_of-seat-in-Err-Full
invariant_of-seat-in-Err-Full c =
    let s = c.seat.inside in
    let x = c.in-Some.shared in
    let y = c.place_copy.new.shared in
    let work = (subst (λ (b : SeatView). HasWorkDone b c.args.work.now) (sym c.seat.view_is) c.requires.work) in
    let t = record s { turn = c.give-in-Err-Full.new.seat; claim = None; halted = true } in
    let h : Turned s t (turn_view c.take.new.turn) x y = record {
      fields = c.seat.invariant;
      takes = c.in-Some.ensures.some;
      gave = c.give-in-Err-Full.ensures.view;
      table = c.give-in-Err-Full.ensures.table ∙ c.take.ensures.table;
      number = refl;
      made = refl;
      workers = refl;
    } in
    let filling : IsBasisFilled x s.number y = subst (λ (f : Unplaced). PlacesCopy x s.number c.args.rest.now (Err f) y)
    c.in-Err-Full.field-0-is c.in-Err-Full.ensures in
    (filled s t (turn_view c.take.new.turn) x y h refl c.args.work.now work.claimed filling refl).fields

pub returns-in-Err-Full : goal.returns-in-Err-Full
returns-in-Err-Full c =
    let s = c.seat.inside in
    let x = c.in-Some.shared in
    let y = c.place_copy.new.shared in
    let work = (subst (λ (b : SeatView). HasWorkDone b c.args.work.now) (sym c.seat.view_is) c.requires.work) in
    let t = record s { turn = c.give-in-Err-Full.new.seat; claim = None; halted = true } in
    let h : Turned s t (turn_view c.take.new.turn) x y = record {
      fields = c.seat.invariant;
      takes = c.in-Some.ensures.some;
      gave = c.give-in-Err-Full.ensures.view;
      table = c.give-in-Err-Full.ensures.table ∙ c.take.ensures.table;
      number = refl;
      made = refl;
      workers = refl;
    } in
    let filling : IsBasisFilled x s.number y = subst (λ (f : Unplaced). PlacesCopy x s.number c.args.rest.now (Err f) y)
    c.in-Err-Full.field-0-is c.in-Err-Full.ensures in
    let enough : length x.basis.moves ≤ c.args.work.now.front = omega (
      arith,
      c.if-front-length.false,
      c.front.ensures,
      c.len-length.ensures.value,
      ap (λ (b : BasisView). length b.moves) c.basis.ensures.value,
    ) in
    let whole = front_here (seat_of s) c.seat.invariant.seat x (turn_of (seat_of s) x _ c.in-Some.ensures.some)
    c.args.work.now work enough in
    subst (λ (b : SeatView). IsFullTurn b c.args.work.now (seat_of t)) c.seat.view_is
    (full_turn s t (turn_view c.take.new.turn) x y h refl c.args.work.now work.claimed filling refl
    (λ e. none-some c.args.rest.now (sym e ∙ c.requires.rest)) whole refl refl)

pub invariant_of-seat-in-Err-Memory : goal.invariant_of-seat-in-Err-Memory
invariant_of-seat-in-Err-Memory c =
    let s = c.seat.inside in
    let x = c.in-Some.shared in
    let y = c.place_copy.new.shared in
    let t = record s { turn = c.give-in-Err-Memory.new.seat } in
    let h : Turned s t (turn_view c.take.new.turn) x y = record {
      fields = c.seat.invariant;
      takes = c.in-Some.ensures.some;
      gave = c.give-in-Err-Memory.ensures.view;
      table = c.give-in-Err-Memory.ensures.table ∙ c.take.ensures.table;
      number = refl;
      made = refl;
      workers = refl;
    } in
    let stays : StaysInTurn x y = subst (λ (f : Unplaced). PlacesCopy x s.number c.args.rest.now (Err f) y)
    c.in-Err-Memory.field-0-is c.in-Err-Memory.ensures in
    (looked s t (turn_view c.take.new.turn) x y h stays.1 refl refl).fields
