use Rattle.std.proofs.Common.{sym, subst, ◌∙◌, ap, refl, length, ℕ, Result}
use Rattle.mk_move.specs.MoveLists.{BasisView}
use Rattle.mk_shared.specs.declared.answers.RefreshFault.{RefreshFault}
use Rattle.mk_turn.specs.Seats.{turn_view}
use Rattle.mk_core.specs.GrownBases.{IsLonger}
use Rattle.mk_shared.specs.SeatFields.{seat_of}
use Rattle.mk_shared.specs.SharedSeats.{SeatView}
use Rattle.mk_shared.specs.SharedAnswers.{CopiesWhole, AnswersTryRefresh}
use Rattle.mk_shared.proofs.Copies.{turn_of, copy_longer}
use Rattle.mk_shared.proofs.SeatTurns.{Turned, copies_within, copied, refreshed, refreshed_in_part}
use Rattle.mk_shared.proofs.completion.SharedCompletion.try_refresh.Goals as goal
use Rattle.mk_shared.proofs.completion.SharedCompletion.try_refresh.Goals.{in-Ok, in-Err}

pub copy_new-copied-requires : goal.copy_new-copied-requires
copy_new-copied-requires c =
    let s = seat_of c.seat.inside in
    subst (IsLonger c.seat.inside.copy) (sym c.basis-2.ensures.value)
    (copy_longer s c.seat.invariant.seat c.in-Some.shared (turn_of s c.in-Some.shared _ c.in-Some.ensures.some))

pub invariant_of-seat-2 : goal.invariant_of-seat-2
invariant_of-seat-2 c =
    let s = c.seat.inside in
    let t = record s { turn = c.give.new.seat; copy = c.copy_new-copied.new.copy } in
    let x = c.in-Some.shared in
    let h : Turned s t (turn_view c.take.new.turn) x x = record {
      fields = c.seat.invariant;
      takes = c.in-Some.ensures.some;
      gave = c.give.ensures.view;
      table = c.give.ensures.table ∙ c.take.ensures.table;
      number = refl;
      made = refl;
      workers = refl;
    } in
    let within = copies_within s.copy x.basis t.copy c.copy_new-copied.result
    (copy_longer (seat_of s) c.seat.invariant.seat x (turn_of (seat_of s) x _ c.in-Some.ensures.some))
    (subst (λ (b : BasisView). CopiesWhole s.copy b c.copy_new-copied.result t.copy) c.basis-2.ensures.value c.copy_new-copied.ensures) in
    (copied s t (turn_view c.take.new.turn) x x h refl refl refl refl within.0 within.1).fields

pub returns : goal.returns
returns c =
    let s = c.seat.inside in
    let t = record s { turn = c.give.new.seat; copy = c.copy_new-copied.new.copy } in
    let x = c.in-Some.shared in
    let h : Turned s t (turn_view c.take.new.turn) x x = record {
      fields = c.seat.invariant;
      takes = c.in-Some.ensures.some;
      gave = c.give.ensures.view;
      table = c.give.ensures.table ∙ c.take.ensures.table;
      number = refl;
      made = refl;
      workers = refl;
    } in
    let copies : CopiesWhole s.copy x.basis c.copy_new-copied.result t.copy = subst
    (λ (b : BasisView). CopiesWhole s.copy b c.copy_new-copied.result t.copy) c.basis-2.ensures.value c.copy_new-copied.ensures in
    let within = copies_within s.copy x.basis t.copy c.copy_new-copied.result
    (copy_longer (seat_of s) c.seat.invariant.seat x (turn_of (seat_of s) x _ c.in-Some.ensures.some)) copies in
    subst (λ (b : SeatView). AnswersTryRefresh b c.match-copied.result (seat_of t)) c.seat.view_is
    (elim c.match-copied.branch [
      | in-Ok w ↦ subst (λ (r : Result ℕ RefreshFault). AnswersTryRefresh (seat_of s) r (seat_of t)) (sym w.result-is)
          (refreshed s t (turn_view c.take.new.turn) x x h refl refl refl refl within.0 within.1 c.len-length.result
          (c.len-length.ensures.value ∙ ap (λ (b : BasisView). length b.moves) c.basis.ensures.value)
          (w.in-Ok.ensures ∙ c.basis-2.ensures.value))
      | in-Err w ↦ subst (λ (r : Result ℕ RefreshFault). AnswersTryRefresh (seat_of s) r (seat_of t)) (sym w.result-is)
          (refreshed_in_part s t (turn_view c.take.new.turn) x x h refl refl refl refl within.0 within.1)
    ])
