use Rattle.std.proofs.Common.{sym, subst, ◌∙◌}
use Rattle.mk_ledger.specs.Ledgers.{LedgerView, IsLedger}
use Rattle.mk_ledger.specs.Settlings.{IsPlacing}
use Rattle.mk_shared.proofs.LedgerStepLemmas.{places_in_turn}
use Rattle.mk_shared.proofs.GivingUp.{place_given_up}
use Rattle.mk_shared.proofs.state.SharedLedger.settle_place.Goals as goal

pub returns : goal.returns
returns c =
    let e = c.deref_mut.ensures.value ∙ c.self.view_is in let x = c.args.self.now in
    let y = c.settle_place-placed.new.self in
    places_in_turn x y c.basis.ensures.kept c.basis-2.ensures.kept c.args.worker c.args.front c.args.remainder c.settle_place-placed.result
    (subst (λ (l : LedgerView). IsPlacing l c.args.worker c.args.front c.args.remainder c.settle_place-placed.result y)
    e c.settle_place-placed.ensures.placing)

pub invariant_of-self : goal.invariant_of-self
invariant_of-self c =
    let x = c.self.inside.ledger.value in
    let y = c.settle_place-placed.new.self in
    place_given_up x y c.self.invariant (subst IsLedger (sym c.self.view_is) c.basis.ensures.kept)
    c.args.worker c.args.front c.args.remainder c.settle_place-placed.result
    (subst (λ (l : LedgerView). IsPlacing l c.args.worker c.args.front c.args.remainder c.settle_place-placed.result y)
    c.deref_mut.ensures.value c.settle_place-placed.ensures.placing)
