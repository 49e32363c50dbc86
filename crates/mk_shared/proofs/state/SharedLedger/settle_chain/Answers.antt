use Rattle.std.proofs.Common.{subst, ◌∙◌}
use Rattle.mk_ledger.specs.Ledgers.{LedgerView}
use Rattle.mk_ledger.specs.Settlings.{AnswersChain}
use Rattle.mk_shared.proofs.LedgerStepLemmas.{chains_in_turn}
use Rattle.mk_shared.proofs.GivingUp.{chain_given_up}
use Rattle.mk_shared.proofs.state.SharedLedger.settle_chain.Goals as goal

pub returns : goal.returns
returns c =
    let e = c.deref_mut.ensures.value ∙ c.self.view_is in let x = c.args.self.now in
    let y = c.settle_chain-settled.new.self in
    chains_in_turn x y c.basis.ensures.kept c.basis-2.ensures.kept c.args.worker c.args.k c.settle_chain-settled.result
    (subst (λ (l : LedgerView). AnswersChain l c.args.worker c.args.k c.settle_chain-settled.result y) e c.settle_chain-settled.ensures.answered)

pub invariant_of-self : goal.invariant_of-self
invariant_of-self c =
    let x = c.self.inside.ledger.value in
    let y = c.settle_chain-settled.new.self in
    chain_given_up x y c.self.invariant c.args.worker c.args.k c.settle_chain-settled.result
    (subst (λ (l : LedgerView). AnswersChain l c.args.worker c.args.k c.settle_chain-settled.result y)
    c.deref_mut.ensures.value c.settle_chain-settled.ensures.answered)
