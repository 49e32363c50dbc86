use Rattle.std.proofs.Common.{subst, ◌∙◌, length, ap, ◌≡◌}
use Rattle.mk_ledger.specs.Ledgers.{LedgerView}
use Rattle.mk_model.specs.CoreStates.Way.{Zero}
use Rattle.mk_model.specs.Events.{IsSettling}
use Rattle.mk_shared.proofs.LedgerStepLemmas.{settles_in_turn}
use Rattle.mk_shared.proofs.GivingUp.{same_given_up, settle_given_up}
use Rattle.mk_shared.proofs.state.SharedLedger.settle_zero.Goals as goal

pub returns-clause-ok : goal.returns-clause-ok
returns-clause-ok c =
    let e = c.deref_mut.ensures.value ∙ c.self.view_is in let x = c.args.self.now in
    let y = c.settle_zero.new.self in
    settles_in_turn x y c.basis.ensures.kept c.basis-2.ensures.kept c.args.worker Zero
    (subst (λ (l : LedgerView). IsSettling (length l.basis.grading) l.basis.priority l.state c.args.worker Zero y.state)
    e c.in_ok-settle_zero.ensures.ok)
    (subst (λ (l : LedgerView). y.basis ≡ l.basis) e c.in_ok-settle_zero.ensures.basis)

pub invariant_of-self : goal.invariant_of-self
invariant_of-self c =
    same_given_up c.self.inside.ledger.value.state c.settle_zero.new.self.state c.self.invariant
    (ap (λ (l : LedgerView). l.state) (c.in_err-settle_zero.ensures.err ∙ c.deref_mut.ensures.value))

pub invariant_of-self-2 : goal.invariant_of-self-2
invariant_of-self-2 c =
    let y = c.settle_zero.new.self in
    settle_given_up c.self.inside.ledger.value.state y.state c.self.invariant
    (subst (λ (l : LedgerView). IsSettling (length l.basis.grading) l.basis.priority l.state c.args.worker Zero y.state)
    c.deref_mut.ensures.value c.in_ok-settle_zero.ensures.ok)
