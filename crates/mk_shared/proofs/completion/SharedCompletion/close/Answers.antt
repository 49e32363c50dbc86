use Rattle.std.proofs.Common.{◌≡◌, ℕ, None, sym, subst, ◌∙◌, ap}
use Rattle.mk_model.specs.CoreStates.{claim_of}
use Rattle.mk_turn.specs.Seats.{turn_view}
use Rattle.mk_turn.specs.Turns.{AllJoined}
use Rattle.mk_ledger.specs.Ledgers.{LedgerView}
use Rattle.mk_shared.specs.SharedSeats.{SeatView}
use Rattle.mk_shared.specs.GivenUp.{HaveGivenUp}
use Rattle.mk_shared.proofs.FirstAndLast.{none_claimed}
use Rattle.mk_shared.proofs.completion.SharedCompletion.close.Goals as goal

pub close-requires-clause-first : goal.close-requires-clause-first
close-requires-clause-first c = ap (λ (b : SeatView). b.sight.number) c.seat.view_is ∙ c.requires.first

pub close-requires-clause-away : goal.close-requires-clause-away
close-requires-clause-away c = c.seat.invariant.seat.no_turn

pub close-requires-clause-joined : goal.close-requires-clause-joined
close-requires-clause-joined c = subst (λ (b : SeatView). AllJoined b.sight) (sym c.seat.view_is) c.requires.joined

pub returns-clause-unclaimed : goal.returns-clause-unclaimed
returns-clause-unclaimed c =
    let v = turn_view c.seat.inside.turn in
    let e = c.seat.view_is in
    let same = c.into_inner-ledger.ensures ∙ c.into_inner.view_is in
    subst (λ (x : LedgerView). (worker : ℕ) → claim_of x.state worker ≡ None) (sym same)
    (none_claimed c.close.result v c.close.ensures (ap (λ (b : SeatView). b.sight.number) e ∙ c.requires.first)
    (ap (λ (b : SeatView). b.sight.claim) e ∙ c.requires.idle)
    (subst (λ (b : SeatView). AllJoined b.sight) (sym e) c.requires.joined))

pub returns-clause-given_up : goal.returns-clause-given_up
returns-clause-given_up c = subst (λ (x : LedgerView). HaveGivenUp x.state) (sym c.into_inner-ledger.ensures) c.into_inner.invariant
