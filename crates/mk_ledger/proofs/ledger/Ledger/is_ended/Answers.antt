use Rattle.std.proofs.Common.{◌≡◌, ◌<◌, ◌≤◌, ◌↔◌, IsTrue, length, arith, rules, ap, sym, ◌∙◌, subst, ⊎_elim}
use Rattle.std.proofs.lemmas.Bool.{cases_lt, false≢true}
use Rattle.std.proofs.lemmas.List.{length-map}
use Rattle.mk_move.specs.Moves.{Weighed}
use Rattle.mk_model.specs.Legal.{IsEnded}
use Rattle.mk_ledger.specs.PairFlags.{pairs_of}
use Rattle.mk_ledger.specs.HeldClaims.{NoneHeld}
use Rattle.mk_ledger.specs.Ledgers.{LedgerView}
use Rattle.mk_ledger.specs.LedgerFields.{ledger_of}
use Rattle.mk_ledger.proofs.InOrder.{all_taken_by_count, ended, not_ended}
use Rattle.mk_ledger.proofs.HeldClaims.{none_of_all}
use Rattle.mk_ledger.proofs.ledger.Ledger.is_ended.Goals as goal

pub returns-then-is_within : goal.returns-then-is_within
returns-then-is_within c =
    let state = (ledger_of c.self.inside).state in
    let within : c.self.inside.next < pairs_of c.len.result = search rules in
    let sizes : length state.basis ≡ c.len.result = length-map c.self.inside.basis.moves (λ (m : Weighed). m.entries)
    ∙ sym c.len.ensures.value in
    let left : state.claims_made < pairs_of (length state.basis) = omega (arith, within, ap pairs_of sizes) in (
      λ e. absurd (false≢true e),
      λ end. absurd (not_ended c.self.invariant.in_order left (subst (λ (l : LedgerView). IsEnded l.state)
          (sym c.self.view_is) end)),
    )

pub returns : goal.returns
returns c =
    let state = (ledger_of c.self.inside).state in
    let behind : pairs_of c.len.result ≤ c.self.inside.next =
    ⊎_elim (λ l. absurd (false≢true (c.if-is_within.ensures.1 l))) (λ l. l) (cases_lt c.self.inside.next (pairs_of c.len.result)) in
    let sizes : length state.basis ≡ c.len.result = length-map c.self.inside.basis.moves (λ (m : Weighed). m.entries)
    ∙ sym c.len.ensures.value in
    let all : pairs_of (length state.basis) ≤ state.claims_made = omega (arith, behind, ap pairs_of sizes) in
    let none : state.claims_given_up ≡ 0 = omega (arith, c.if-self-gt0.false) in
    let tells : IsTrue c.none_held.result ↔ NoneHeld state.claims (length state.claims) =
    subst (λ claims. IsTrue c.none_held.result ↔ NoneHeld claims (length claims)) c.deref.ensures.value c.none_held.ensures in
    subst (λ (l : LedgerView). IsTrue c.none_held.result ↔ IsEnded l.state) c.self.view_is (
      λ e. ended c.self.invariant.in_order (all_taken_by_count c.self.invariant.in_order none) all (none_of_all state.claims (tells.0 e)),
      λ end. tells.1 (λ worker _. end.none_claimed worker),
    )
