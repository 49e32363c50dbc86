use Rattle.std.proofs.Common.{◌≡◌, ◌<◌, length, refl, arith, rules, ap, sym, ◌∙◌, subst}
use Rattle.std.proofs.lemmas.List.{length-map}
use Rattle.mk_move.specs.Moves.{Weighed}
use Rattle.mk_ledger.specs.PairFlags.{pairs_of}
use Rattle.mk_ledger.specs.Ledgers.{LedgerView}
use Rattle.mk_ledger.specs.LedgerFields.{ledger_of}
use Rattle.mk_ledger.specs.Claims.{ClaimIsOverBudget}
use Rattle.mk_ledger.proofs.InOrder.{over_budget}
use Rattle.mk_ledger.proofs.ledger.Ledger.claim.Goals as goal

pub returns-then-made-self-clause-answered : goal.returns-then-made-self-clause-answered
returns-then-made-self-clause-answered c =
    let state = (ledger_of c.self.inside).state in
    let within : c.self.inside.next < pairs_of c.len.result = search rules in
    let sizes : length state.basis ≡ c.len.result = length-map c.self.inside.basis.moves (λ (m : Weighed). m.entries)
    ∙ sym c.len.ensures.value in
    let left : state.claims_made < pairs_of (length state.basis) = omega (arith, within, ap pairs_of sizes) in
    let used : ClaimIsOverBudget state state.claims_made =
    over_budget c.self.invariant.in_order c.self.invariant.ledger.legal c.in_default.is left
    (omega (arith, c.if-made-self.true, c.number-made.ensures)) in (
      sym (ap (λ (l : LedgerView). l.state.first_halted) c.self.view_is) ∙ c.in_default.is,
      subst (λ (l : LedgerView). ClaimIsOverBudget l.state c.number-made.result) c.self.view_is (subst (λ n. ClaimIsOverBudget state n)
          (sym c.number-made.ensures) used),
      refl,
    )
