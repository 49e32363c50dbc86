use Rattle.std.proofs.Common.{subst, ◌∙◌, ◌≡◌}
use Rattle.mk_ledger.specs.Ledgers.{LedgerView}
use Rattle.mk_ledger.specs.Claims.{AnswersClaim}
use Rattle.mk_shared.proofs.LedgerStepLemmas.{claims_in_turn}
use Rattle.mk_shared.proofs.GivingUp.{claim_given_up}
use Rattle.mk_shared.proofs.state.SharedLedger.claim.Goals as goal

pub returns : goal.returns
returns c =
    let e = c.deref_mut.ensures.value ∙ c.self.view_is in let x = c.args.self.now in
    let y = c.claim-answer.new.self in
    claims_in_turn x y c.basis.ensures.kept c.basis-2.ensures.kept c.args.worker c.claim-answer.result
    (subst (λ (l : LedgerView). AnswersClaim l.state c.args.worker c.claim-answer.result y.state) e c.claim-answer.ensures.answered)
    (subst (λ (l : LedgerView). y.basis ≡ l.basis) e c.claim-answer.ensures.basis)

pub invariant_of-self : goal.invariant_of-self
invariant_of-self c =
    let x = c.self.inside.ledger.value in
    let y = c.claim-answer.new.self in
    claim_given_up x.state y.state c.self.invariant c.args.worker c.claim-answer.result
    (subst (λ (l : LedgerView). AnswersClaim l.state c.args.worker c.claim-answer.result y.state)
    c.deref_mut.ensures.value c.claim-answer.ensures.answered)
