use Rattle.std.proofs.Common.{◌≡◌, length, refl, ap, sym, ◌∙◌, subst}
use Rattle.mk_model.specs.CoreStates.{Pair, pair_of}
use Rattle.mk_ledger.specs.Ledgers.{LedgerView, IsLedger, AreInOrder}
use Rattle.mk_ledger.specs.HeldClaims.{IsLeastHeld, NoneHeld}
use Rattle.mk_ledger.proofs.InOrder.{all_taken, ended, not_yet}
use Rattle.mk_ledger.proofs.HeldClaims.{none_of_all, least_of_all}
use Rattle.mk_ledger.proofs.ledger.Ledger.none_left.Goals as goal

pub returns-in-Some : goal.returns-in-Some
returns-in-Some c =
    let now = c.args.self.now in
    let order : AreInOrder now.state = subst (λ (l : LedgerView). AreInOrder l.state) c.self.view_is c.self.invariant.in_order in
    let kept : IsLedger now = subst IsLedger c.self.view_is c.self.invariant.ledger in
    let same = c.deref.ensures.value ∙ ap (λ (l : LedgerView). l.state.claims) c.self.view_is in
    let here : pair_of c.held.inside.i c.held.inside.j ≡ c.in-Some.held = cc in
    let least : IsLeastHeld now.state.claims (length now.state.claims) c.in-Some.worker (pair_of c.held.inside.i c.held.inside.j) =
    subst (λ (p : Pair). IsLeastHeld now.state.claims (length now.state.claims) c.in-Some.worker p) (sym here)
    (subst (λ claims. IsLeastHeld claims (length claims) c.in-Some.worker c.in-Some.held) same c.in-Some.ensures) in
    λ worker. (
      c.requires.no_halt,
      not_yet order kept.legal (all_taken order c.requires.no_halt) c.requires.all c.in-Some.worker
          (pair_of c.held.inside.i c.held.inside.j) least.held
          (least_of_all now.state.claims c.in-Some.worker (pair_of c.held.inside.i c.held.inside.j) least),
      refl,
    )

pub returns-in-None : goal.returns-in-None
returns-in-None c =
    let now = c.args.self.now in
    let order : AreInOrder now.state = subst (λ (l : LedgerView). AreInOrder l.state) c.self.view_is c.self.invariant.in_order in
    let same = c.deref.ensures.value ∙ ap (λ (l : LedgerView). l.state.claims) c.self.view_is in
    let none : NoneHeld now.state.claims (length now.state.claims) =
    subst (λ claims. NoneHeld claims (length claims)) same c.in-None.ensures in
    λ worker. (
      c.requires.no_halt,
      ended order (all_taken order c.requires.no_halt) c.requires.all
          (none_of_all now.state.claims none),
      refl,
    )
