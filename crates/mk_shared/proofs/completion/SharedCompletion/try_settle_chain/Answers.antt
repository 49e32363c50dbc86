use Rattle.std.proofs.Common.{◌≡◌, None, Result, Err, sym, subst, ◌∙◌, ap, refl}
use Rattle.mk_model.specs.CoreStates.{CoreState, pair_of}
use Rattle.mk_model.specs.CoreStates.Way.{Chain}
use Rattle.mk_ledger.specs.Settlings.{IsChainClaim}
use Rattle.mk_ledger.specs.declared.ledger.ChainFault.{ChainFault}
use Rattle.mk_ledger.specs.declared.ledger.ChainFault.TheVariants.{Unsettled}
use Rattle.mk_turn.specs.Seats.{turn_view}
use Rattle.mk_shared.specs.LedgerSteps.{ChainsInTurn}
use Rattle.mk_shared.specs.SeatFields.{seat_of}
use Rattle.mk_shared.specs.SharedSeats.{SeatView, HasThirdMove}
use Rattle.mk_shared.specs.SharedAnswers.{IsSettledTurn, IsUnsettledTurn}
use Rattle.mk_shared.proofs.Copies.{turn_of, chain_here}
use Rattle.mk_shared.proofs.SeatTurns.{Turned, settled_turn, looked, unsettled_turn}
use Rattle.mk_shared.proofs.completion.SharedCompletion.try_settle_chain.Goals as goal

pub settle_chain-settled-requires : goal.settle_chain-settled-requires
settle_chain-settled-requires c =
    let s = seat_of c.seat.inside in
    subst (λ n. IsChainClaim c.in-Some.shared.state n c.args.k) (sym c.seat.invariant.number)
    (chain_here s c.seat.invariant.seat c.in-Some.shared (turn_of s c.in-Some.shared _ c.in-Some.ensures.some) c.args.k
    (subst (λ (b : SeatView). HasThirdMove b c.args.k) (sym c.seat.view_is) c.requires.third))

pub returns-in-Ok : goal.returns-in-Ok
returns-in-Ok c =
    let s = c.seat.inside in
    let t = record s { turn = c.give.new.seat; claim = None } in
    let x = c.in-Some.shared in
    let y = c.settle_chain-settled.new.self in
    let third = (subst (λ (b : SeatView). HasThirdMove b c.args.k) (sym c.seat.view_is) c.requires.third) in
    let h : Turned s t (turn_view c.take.new.turn) x y = record {
      fields = c.seat.invariant;
      takes = c.in-Some.ensures.some;
      gave = c.give.ensures.view;
      table = c.give.ensures.table ∙ c.take.ensures.table;
      number = refl;
      made = refl;
      workers = refl;
    } in
    subst (λ (b : SeatView). IsSettledTurn b (Chain c.args.k) (seat_of t)) c.seat.view_is
    (settled_turn s t (turn_view c.take.new.turn) x y h refl (Chain c.args.k) c.in-Ok.ensures third.pair third.claim.claimed refl refl refl
    (ap (λ (u : CoreState). u.basis) c.in-Ok.ensures.settling.changed ∙ c.in-Ok.ensures.settling.settled.1))

pub invariant_of-seat-in-Err-Unsettled : goal.invariant_of-seat-in-Err-Unsettled
invariant_of-seat-in-Err-Unsettled c =
    let s = c.seat.inside in
    let t = record s { turn = c.give.new.seat } in
    let x = c.in-Some.shared in
    let y = c.settle_chain-settled.new.self in
    let unsettled = pair_of c.in-Err-Unsettled.i c.in-Err-Unsettled.j in
    let is : c.in-Err-Unsettled.field-0 ≡ Unsettled c.in-Err-Unsettled.i c.in-Err-Unsettled.j =
    (rw c.in-Err-Unsettled.is at c.in-Err-Unsettled.field-0-is) in
    let stays : ChainsInTurn x s.number c.args.k (Err (Unsettled c.in-Err-Unsettled.i c.in-Err-Unsettled.j)) y =
    subst (λ (r : Result Unit ChainFault). ChainsInTurn x s.number c.args.k r y)
    (c.in-Err-Unsettled.is ∙ ap Err is) c.settle_chain-settled.ensures in
    let h : Turned s t (turn_view c.take.new.turn) x y = record {
      fields = c.seat.invariant;
      takes = c.in-Some.ensures.some;
      gave = c.give.ensures.view;
      table = c.give.ensures.table ∙ c.take.ensures.table;
      number = refl;
      made = refl;
      workers = refl;
    } in
    (looked s t (turn_view c.take.new.turn) x y h stays.0.1 refl refl).fields

pub returns-in-Err-Unsettled : goal.returns-in-Err-Unsettled
returns-in-Err-Unsettled c =
    let s = c.seat.inside in
    let t = record s { turn = c.give.new.seat } in
    let x = c.in-Some.shared in
    let y = c.settle_chain-settled.new.self in
    let unsettled = pair_of c.in-Err-Unsettled.i c.in-Err-Unsettled.j in
    let is : c.in-Err-Unsettled.field-0 ≡ Unsettled c.in-Err-Unsettled.i c.in-Err-Unsettled.j =
    (rw c.in-Err-Unsettled.is at c.in-Err-Unsettled.field-0-is) in
    let stays : ChainsInTurn x s.number c.args.k (Err (Unsettled c.in-Err-Unsettled.i c.in-Err-Unsettled.j)) y =
    subst (λ (r : Result Unit ChainFault). ChainsInTurn x s.number c.args.k r y)
    (c.in-Err-Unsettled.is ∙ ap Err is) c.settle_chain-settled.ensures in
    let h : Turned s t (turn_view c.take.new.turn) x y = record {
      fields = c.seat.invariant;
      takes = c.in-Some.ensures.some;
      gave = c.give.ensures.view;
      table = c.give.ensures.table ∙ c.take.ensures.table;
      number = refl;
      made = refl;
      workers = refl;
    } in
    subst (λ (b : SeatView). IsUnsettledTurn b c.args.k unsettled (seat_of t)) c.seat.view_is
    (unsettled_turn s t (turn_view c.take.new.turn) x y h stays.0.1 refl refl refl refl c.args.k unsettled stays.1)
