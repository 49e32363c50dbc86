use Rattle.std.proofs.Common.{◌≡◌, ◌<◌, ◌↔◌, IsTrue, ℕ, length, arith, sym, subst}
use Rattle.std.proofs.lemmas.List.{length-map}
use Rattle.mk_model.specs.CoreStates.{move_at}
use Rattle.mk_model.specs.Orders.{lead}
use Rattle.mk_model.specs.Pairs.{AreDisjoint}
use Rattle.mk_move.specs.Moves.{Weighed}
use Rattle.mk_ledger.specs.Ledgers.{LedgerView}
use Rattle.mk_ledger.specs.LedgerFields.{ledger_of}
use Rattle.mk_ledger.specs.declared.ledger.Ledger.TheInside.{Inside}
use Rattle.mk_ledger.proofs.ledger.Ledger.have_disjoint_leads.Goals as goal

within : (fields : Inside) (ledger : LedgerView) (k : ℕ) → ledger_of fields ≡ ledger → k < length ledger.state.basis →
    k < length fields.basis.moves
within fields ledger k seen l =
    let here = subst (λ (view : LedgerView). k < length view.state.basis) (sym seen) l in
    omega (arith, here, length-map fields.basis.moves (λ (m : Weighed). m.entries))

pub have_coprime_leads-requires-clause-first : goal.have_coprime_leads-requires-clause-first
have_coprime_leads-requires-clause-first c = within c.self.inside c.args.self.now c.args.i c.self.view_is c.requires.first

pub have_coprime_leads-requires-clause-second : goal.have_coprime_leads-requires-clause-second
have_coprime_leads-requires-clause-second c = within c.self.inside c.args.self.now c.args.j c.self.view_is c.requires.second

pub returns : goal.returns
returns c =
    subst (λ (ledger : LedgerView). IsTrue c.have_coprime_leads.result ↔
    AreDisjoint (lead (move_at ledger.state.basis c.args.i)) (lead (move_at ledger.state.basis c.args.j))) c.self.view_is
    c.have_coprime_leads.ensures
