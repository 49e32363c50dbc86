use Rattle.std.proofs.Common.{set, Some, arith, sym, subst}
use Rattle.mk_model.specs.CoreStates.{pair_of}
use Rattle.mk_ledger.specs.Ledgers.{LedgerView}
use Rattle.mk_ledger.specs.LedgerFields.{ledger_of}
use Rattle.mk_ledger.specs.Claims.{IsGiven}
use Rattle.mk_ledger.specs.HeldClaims.{MayClaim}
use Rattle.mk_ledger.proofs.Claiming.{claimed_fields, claimed_answer, few_pairs}
use Rattle.mk_ledger.proofs.ledger.Ledger.give.Goals as goal

pub advance-requires : goal.advance-requires
advance-requires c =
    let may : MayClaim (ledger_of c.self.inside).state c.args.worker =
    subst (λ (l : LedgerView). MayClaim l.state c.args.worker) (sym c.self.view_is) c.requires in
    omega (arith, may.left, few_pairs c.self.invariant.ledger)

pub invariant_of-self : goal.invariant_of-self
invariant_of-self c =
    let may : MayClaim (ledger_of c.self.inside).state c.args.worker =
    subst (λ (l : LedgerView). MayClaim l.state c.args.worker) (sym c.self.view_is) c.requires in
    claimed_fields c.self.inside c.args.worker c.pair-i.result.0 c.pair-i.result.1 c.advance.new.self c.self.invariant may
    (record { ordered = c.pair-i.ensures.ordered; number_is = c.pair-i.ensures.number }) c.advance.ensures

pub returns-clause-answered : goal.returns-clause-answered
returns-clause-answered c =
    let may : MayClaim (ledger_of c.self.inside).state c.args.worker =
    subst (λ (l : LedgerView). MayClaim l.state c.args.worker) (sym c.self.view_is) c.requires in
    let pair = pair_of c.pair-i.result.0 c.pair-i.result.1 in
    subst (λ (l : LedgerView). IsGiven l.state c.args.worker pair
    (record (ledger_of c.self.inside).state {
      claims = set c.self.inside.claims.items c.args.worker (Some pair);
      claims_made = c.advance.new.self;
    })) c.self.view_is
    (claimed_answer c.self.inside c.args.worker c.pair-i.result.0 c.pair-i.result.1 c.advance.new.self c.self.invariant may
    (record { ordered = c.pair-i.ensures.ordered; number_is = c.pair-i.ensures.number }) c.advance.ensures)

pub returns-clause-kept : goal.returns-clause-kept
returns-clause-kept c =
    let may : MayClaim (ledger_of c.self.inside).state c.args.worker =
    subst (λ (l : LedgerView). MayClaim l.state c.args.worker) (sym c.self.view_is) c.requires in
    (claimed_fields c.self.inside c.args.worker c.pair-i.result.0 c.pair-i.result.1 c.advance.new.self c.self.invariant may
    (record { ordered = c.pair-i.ensures.ordered; number_is = c.pair-i.ensures.number }) c.advance.ensures).ledger
