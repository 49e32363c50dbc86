-- The fields of a ledger as the core state, and what they keep.
use Rattle.std.specs.Prelude.{◌≡◌, length}
use Rattle.mk_move.specs.MoveLists.{vectors_of}
use Rattle.mk_journal.specs.Entries.{settles_of}
use Rattle.mk_ledger.specs.Ledgers.{LedgerView, IsLedger, AreFlagged, AreInOrder}
use Rattle.mk_ledger.specs.declared.ledger.Ledger.TheInside.{Inside}

abbrev pub ledger_of : Inside → LedgerView
ledger_of fields = record {
  basis = fields.basis;
  state = record {
    start_length = fields.start_len;
    basis = vectors_of fields.basis.moves;
    journal = settles_of fields.journal;
    claims = fields.claims.items;
    claims_made = fields.next;
    claims_given_up = fields.given_up;
    halts = fields.halts.items;
    first_halted = fields.first;
    budget = fields.budget;
    limit = fields.limit;
    workers = fields.workers;
  };
}

-- it is a ledger; flags tell the settled pairs; claims were made in the order of the pairs
pub record AreFields (fields : Inside) : Type 0 where
  pub ledger : IsLedger (ledger_of fields)
  pub flags_moves : fields.settled.moves ≡ length fields.basis.moves
  pub flagged : AreFlagged (ledger_of fields).state fields.settled.flags
  pub in_order : AreInOrder (ledger_of fields).state
