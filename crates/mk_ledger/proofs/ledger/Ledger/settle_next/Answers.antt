use Rattle.std.proofs.Common.{arith, sym, subst}
use Rattle.mk_model.specs.CoreStates.{pair_of}
use Rattle.mk_ledger.specs.Ledgers.{LedgerView, IsLedger}
use Rattle.mk_ledger.specs.LedgerFields.{ledger_of}
use Rattle.mk_ledger.specs.DisjointPairs.{IsNextDisjoint}
use Rattle.mk_ledger.proofs.Claiming.{few_pairs}
use Rattle.mk_ledger.proofs.DisjointPairs.{next_small, next_flagged, settled_next_kept, settled_next}
use Rattle.mk_ledger.proofs.ledger.Ledger.settle_next.Goals as goal

pub entry_of-requires-clause-small : goal.entry_of-requires-clause-small
entry_of-requires-clause-small c =
    next_small c.args.self.now c.args.worker (pair_of c.args.i c.args.j) (subst IsLedger c.self.view_is c.self.invariant.ledger) c.requires

pub mark-requires-clause-within : goal.mark-requires-clause-within
mark-requires-clause-within c =
    let pair = pair_of c.args.i c.args.j in
    let next : IsNextDisjoint (ledger_of c.self.inside).state c.args.worker pair =
    subst (λ (l : LedgerView). IsNextDisjoint l.state c.args.worker pair) (sym c.self.view_is) c.requires in
    next_flagged c.self.inside c.args.worker pair c.self.invariant next

pub advance-requires : goal.advance-requires
advance-requires c =
    let pair = pair_of c.args.i c.args.j in
    let next : IsNextDisjoint (ledger_of c.self.inside).state c.args.worker pair =
    subst (λ (l : LedgerView). IsNextDisjoint l.state c.args.worker pair) (sym c.self.view_is) c.requires in
    omega (arith, next.may.left, few_pairs c.self.invariant.ledger)

pub invariant_of-self-2 : goal.invariant_of-self-2
invariant_of-self-2 c =
    let pair = pair_of c.args.i c.args.j in
    let next : IsNextDisjoint (ledger_of c.self.inside).state c.args.worker pair =
    subst (λ (l : LedgerView). IsNextDisjoint l.state c.args.worker pair) (sym c.self.view_is) c.requires in
    settled_next_kept c.self.inside c.self.invariant c.args.worker c.args.i c.args.j next c.entry_of.result c.entry_of.ensures.value
    c.push.new.self c.mark.new.self c.advance.new.self
    c.in_ok-push.ensures.ok c.mark.ensures c.advance.ensures

pub returns-clause-settles : goal.returns-clause-settles
returns-clause-settles c =
    let pair = pair_of c.args.i c.args.j in
    let next : IsNextDisjoint (ledger_of c.self.inside).state c.args.worker pair =
    subst (λ (l : LedgerView). IsNextDisjoint l.state c.args.worker pair) (sym c.self.view_is) c.requires in
    settled_next c.self.inside c.self.invariant c.args.worker c.args.i c.args.j next c.entry_of.result c.entry_of.ensures.value
    c.push.new.self c.mark.new.self c.advance.new.self
    c.in_ok-push.ensures.ok c.mark.ensures c.advance.ensures c.args.self.now c.self.view_is

pub returns-clause-kept : goal.returns-clause-kept
returns-clause-kept c =
    let pair = pair_of c.args.i c.args.j in
    let next : IsNextDisjoint (ledger_of c.self.inside).state c.args.worker pair =
    subst (λ (l : LedgerView). IsNextDisjoint l.state c.args.worker pair) (sym c.self.view_is) c.requires in
    (settled_next_kept c.self.inside c.self.invariant c.args.worker c.args.i c.args.j next c.entry_of.result c.entry_of.ensures.value
    c.push.new.self c.mark.new.self c.advance.new.self
    c.in_ok-push.ensures.ok c.mark.ensures c.advance.ensures).ledger
