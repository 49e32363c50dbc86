use Rattle.std.proofs.Common.{◌≡◌, ◌<◌, None, Some, IsSome, sym, subst}
use Rattle.mk_model.specs.CoreStates.{claim_of, halt_of, IsPairOf}
use Rattle.mk_ledger.specs.Ledgers.{IsLedger}
use Rattle.mk_ledger.specs.LedgerFields.{ledger_of}
use Rattle.mk_ledger.proofs.SettledFields.{claim_read, claim_of_basis, claim_small, claim_worker, claim_no_halt}
use Rattle.mk_ledger.proofs.ledger.Ledger.held_by.Goals as goal

pub returns : goal.returns
returns c =
    let fields = c.self.inside in
    let held = c.unwrap.result in
    let some : IsSome (claim_of (ledger_of fields).state c.args.worker) =
    subst (λ l. IsSome (claim_of l.state c.args.worker)) (sym c.self.view_is) c.requires in
    let claimed : claim_of (ledger_of fields).state c.args.worker ≡ Some held =
    claim_read (ledger_of fields).state c.args.worker c.index.result.now held some c.index.ensures c.unwrap.ensures in
    record {
      value = subst (λ l. claim_of l.state c.args.worker ≡ Some held) c.self.view_is claimed;
      pair = subst (λ l. IsPairOf l.state.basis held) c.self.view_is (claim_of_basis fields c.self.invariant c.args.worker held claimed);
      worker = subst (λ l. c.args.worker < l.state.workers) c.self.view_is
          (claim_worker fields c.self.invariant c.args.worker held claimed);
      no_halt = subst (λ l. halt_of l.state c.args.worker ≡ None) c.self.view_is
          (claim_no_halt fields c.self.invariant c.args.worker held claimed);
      small = claim_small fields c.self.invariant c.args.worker held claimed;
      kept = subst IsLedger c.self.view_is c.self.invariant.ledger;
    }
