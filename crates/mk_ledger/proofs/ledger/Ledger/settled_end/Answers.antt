use Rattle.std.proofs.Common.{sym, subst}
use Rattle.mk_model.specs.Events.{AreSettled}
use Rattle.mk_ledger.specs.Ledgers.{LedgerView}
use Rattle.mk_ledger.proofs.SettledPairs.{none_from}
use Rattle.mk_ledger.proofs.ledger.Ledger.settled_end.Goals as goal

pub returns : goal.returns
returns c k l s =
    none_from c.self.invariant.ledger.legal c.self.invariant.in_order c.args.j k (c.end_beside.ensures.first k l)
    (c.end_beside.ensures.second k l)
    (subst (λ (ledger : LedgerView). AreSettled ledger.state.journal c.args.j k) (sym c.self.view_is) s)
