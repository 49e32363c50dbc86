use Rattle.std.proofs.Common.{subst, ◌∙◌, length, ap, ◌≡◌}
use Rattle.mk_ledger.specs.Ledgers.{LedgerView}
use Rattle.mk_model.specs.CoreStates.Way.{Coprime}
use Rattle.mk_model.specs.Events.{IsSettling}
use Rattle.mk_shared.proofs.LedgerStepLemmas.{settles_in_turn}
use Rattle.mk_shared.proofs.GivingUp.{same_given_up, settle_given_up}
use Rattle.mk_shared.proofs.state.SharedLedger.settle_coprime.Goals as goal

pub returns-clause-ok : goal.returns-clause-ok
returns-clause-ok c =
    let e = c.deref_mut.ensures.value ∙ c.self.view_is in let x = c.args.self.now in
    let y = c.settle_coprime.new.self in
    settles_in_turn x y c.basis.ensures.kept c.basis-2.ensures.kept c.args.worker Coprime
    (subst (λ (l : LedgerView). IsSettling (length l.basis.grading) l.basis.priority l.state c.args.worker Coprime y.state)
    e c.in_ok-settle_coprime.ensures.ok)
    (subst (λ (l : LedgerView). y.basis ≡ l.basis) e c.in_ok-settle_coprime.ensures.basis)

pub invariant_of-self : goal.invariant_of-self
invariant_of-self c =
    same_given_up c.self.inside.ledger.value.state c.settle_coprime.new.self.state c.self.invariant
    (ap (λ (l : LedgerView). l.state) (c.in_err-settle_coprime.ensures.err ∙ c.deref_mut.ensures.value))

pub invariant_of-self-2 : goal.invariant_of-self-2
invariant_of-self-2 c =
    let y = c.settle_coprime.new.self in
    settle_given_up c.self.inside.ledger.value.state y.state c.self.invariant
    (subst (λ (l : LedgerView). IsSettling (length l.basis.grading) l.basis.priority l.state c.args.worker Coprime y.state)
    c.deref_mut.ensures.value c.in_ok-settle_coprime.ensures.ok)
