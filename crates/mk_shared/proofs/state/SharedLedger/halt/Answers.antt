use Rattle.std.proofs.Common.{sym, subst, ◌∙◌, ◌≡◌}
use Rattle.mk_ledger.specs.Ledgers.{LedgerView, IsLedger}
use Rattle.mk_model.specs.Events.{IsHalting}
use Rattle.mk_ledger.specs.Halts.{halt_as}
use Rattle.mk_shared.proofs.LedgerStepLemmas.{halts_in_turn}
use Rattle.mk_shared.proofs.GivingUp.{halt_given_up}
use Rattle.mk_shared.proofs.state.SharedLedger.halt.Goals as goal

pub returns : goal.returns
returns c =
    let e = c.deref_mut.ensures.value ∙ c.self.view_is in let x = c.args.self.now in
    let y = c.halt.new.self in
    halts_in_turn x y c.basis.ensures.kept c.basis-2.ensures.kept c.args.worker (halt_as c.args.halt)
    (subst (λ (l : LedgerView). IsHalting l.state c.args.worker (halt_as c.args.halt) y.state) e c.halt.ensures.halting)
    (subst (λ (l : LedgerView). y.basis ≡ l.basis) e c.halt.ensures.basis)

pub invariant_of-self : goal.invariant_of-self
invariant_of-self c =
    let x = c.self.inside.ledger.value in
    let y = c.halt.new.self in
    let kept : IsLedger x = subst IsLedger (sym c.self.view_is) c.basis.ensures.kept in
    halt_given_up x.state y.state c.self.invariant kept.legal c.args.worker (halt_as c.args.halt)
    (subst (λ (l : LedgerView). IsHalting l.state c.args.worker (halt_as c.args.halt) y.state)
    c.deref_mut.ensures.value c.halt.ensures.halting)
