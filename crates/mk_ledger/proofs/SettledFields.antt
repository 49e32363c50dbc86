-- The fields of a ledger where a claim is settled.
use Rattle.std.proofs.Common.{◌≡◌, ℕ, ◌<◌, true, List, [], ◌∷◌, ◌++◌, length, get_or, set, Option, Some, None, IsSome, arith, refl, sym, ap, ◌∙◌, subst}
use Rattle.std.specs.Vec.{with_item}
use Rattle.std.proofs.lemmas.List.{map-append, get_or_default}
use Rattle.std.proofs.lemmas.Option.{none-some, same_Some}
use Rattle.std.proofs.lemmas.Bool.{false≢true}
use Rattle.mk_model.specs.CoreStates.{Pair, pair_of, Way, settle, Halt, CoreState, claim_of, halt_of, IsPairOf}
use Rattle.mk_model.specs.Events.{IsSettledBy, with_entry, IsSettling}
use Rattle.mk_model.specs.Events.Event.{Settles}
use Rattle.mk_model.proofs.LegalEvents.{within_list, events_keep}
use Rattle.mk_move.specs.MoveLists.{BasisView, vectors_of}
use Rattle.mk_ledger.specs.declared.ledger.Ledger.TheInside.{Inside}
use Rattle.mk_journal.specs.declared.journal.JournalEntry.{JournalEntry}
use Rattle.mk_ledger.specs.PairFlags.{PairFlags, pair_number}
use Rattle.mk_journal.specs.Entries.{settle_of, settles_of}
use Rattle.mk_ledger.specs.Ledgers.{LedgerView, number_of, AreFlagged, AreInOrder}
use Rattle.mk_ledger.specs.LedgerFields.{ledger_of, AreFields}
use Rattle.mk_ledger.specs.Settlings.{IsUnplacedClaim, AreSmall}
use Rattle.mk_ledger.proofs.Settlings.{entry_keeps_order, entry_keeps_flags}

-- the fields with an entry at the journal's end and no claim of the worker
abbrev pub with_settled : Inside → BasisView → PairFlags → JournalEntry → ℕ → Inside
with_settled fields basis settled entry worker =
    record fields { basis = basis; settled = settled; journal = fields.journal ++ entry ∷ []; claims = with_item fields.claims worker None }

-- the state that they are seen as
pub settled_state : (fields : Inside) (basis : BasisView) (settled : PairFlags) (entry : JournalEntry) (worker : ℕ) (pair : Pair)
    (way : Way) → settle_of entry ≡ settle worker pair way →
    (ledger_of (with_settled fields basis settled entry worker)).state ≡ with_entry (ledger_of fields).state worker pair way
    (vectors_of basis.moves)
settled_state fields basis settled entry worker pair way e =
    ap (λ j. record (ledger_of fields).state { basis = vectors_of basis.moves; journal = j; claims = set fields.claims.items worker None })
    (map-append settle_of fields.journal (entry ∷ []) ∙ ap (λ s. settles_of fields.journal ++ s ∷ []) e)

-- the pair that is read at the place of a claim
pub claim_read : (state : CoreState) (worker : ℕ) (read : Option Pair) (held : Pair) → IsSome (claim_of state worker) →
    read ≡ get_or state.claims worker read → read ≡ Some held → claim_of state worker ≡ Some held
claim_read state worker read held some e f = go (claim_of state worker) refl some
  where
    go : (o : Option Pair) → claim_of state worker ≡ o → IsSome o → claim_of state worker ≡ Some held
    go None g t = absurd (false≢true t)
    go (Some pair) g t = get_or_default state.claims worker None read (within_list state.claims worker pair g) ∙ sym e ∙ f

-- a claim is a pair of the basis, and small
module _ (fields : Inside) (kept : AreFields fields) (worker : ℕ) (pair : Pair)
    (claimed : claim_of (ledger_of fields).state worker ≡ Some pair) where
  pub claim_of_basis : IsPairOf (ledger_of fields).state.basis pair
  claim_of_basis = (kept.ledger.legal.claims_unsettled worker pair claimed).0

  pub claim_small : AreSmall pair worker
  claim_small =
      let second : pair.second < 65536 = omega (arith, claim_of_basis.within, kept.ledger.legal.basis_within, kept.ledger.limit) in
      record {
        first = omega (arith, claim_of_basis.ordered, second);
        second = second;
        worker_within = omega (
          arith,
          within_list (ledger_of fields).state.claims worker pair claimed,
          kept.ledger.legal.claims_by_workers,
          kept.ledger.workers,
        );
      }

  pub claim_worker : worker < fields.workers
  claim_worker = omega (arith, within_list (ledger_of fields).state.claims worker pair claimed, kept.ledger.legal.claims_by_workers)

  pub claim_no_halt : halt_of (ledger_of fields).state worker ≡ None
  claim_no_halt = go (halt_of (ledger_of fields).state worker) refl
    where
      go : (o : Option Halt) → halt_of (ledger_of fields).state worker ≡ o → halt_of (ledger_of fields).state worker ≡ None
      go None e = e
      go (Some halt) e = absurd (none-some pair (sym (kept.ledger.legal.halted_without_claim worker halt e) ∙ claimed))

-- ---- no move is placed
module _ (fields : Inside) (kept : AreFields fields) (worker : ℕ) (way : Way) (claim : IsUnplacedClaim
    (length fields.basis.grading) fields.basis.priority (ledger_of fields).state worker way) (entry : JournalEntry)
    (same : settle_of entry ≡ settle worker claim.pair way) where
  abbrev flags : PairFlags
  flags = record { moves = fields.settled.moves; flags = set fields.settled.flags (number_of claim.pair) true }

  abbrev after : Inside
  after = with_settled fields fields.basis flags entry worker

  changed : (ledger_of after).state ≡ with_entry (ledger_of fields).state worker claim.pair way (vectors_of fields.basis.moves)
  changed = settled_state fields fields.basis flags entry worker claim.pair way same

  settles : IsSettling (length fields.basis.grading) fields.basis.priority (ledger_of fields).state worker way (ledger_of after).state
  settles = record {
    pair = claim.pair;
    claimed = claim.claimed;
    moves = vectors_of fields.basis.moves;
    settled = claim.settled;
    changed = changed;
  }

  kept_after : AreFields after
  kept_after = record {
    ledger = record {
      basis = kept.ledger.basis;
      moves = refl;
      legal = events_keep (length fields.basis.grading) fields.basis.priority (ledger_of fields).state (Settles worker way)
          (ledger_of after).state kept.ledger.legal settles;
      limit = kept.ledger.limit;
      some = kept.ledger.some;
      workers = kept.ledger.workers;
    };
    flags_moves = kept.flags_moves;
    flagged = subst (λ s. AreFlagged s flags.flags) (sym changed)
        (entry_keeps_flags fields.settled.flags kept.flagged worker claim.pair way
        (claim_of_basis fields kept worker claim.pair claim.claimed));
    in_order = subst AreInOrder (sym changed) (entry_keeps_order kept.in_order worker claim.pair claim.claimed way
        (vectors_of fields.basis.moves) (omega arith));
  }

-- by the ledger that is seen, the pair that is held, and what the journal and the flags are afterwards
module _ (fields : Inside) (kept : AreFields fields) (ledger : LedgerView) (seen : ledger_of fields ≡ ledger) (worker : ℕ) (way : Way)
    (claim : IsUnplacedClaim (length ledger.basis.grading) ledger.basis.priority ledger.state worker way) (held : Pair)
    (claimed : claim_of ledger.state worker ≡ Some held) (entry : JournalEntry) (same : settle_of entry ≡ settle worker held way)
    (journal : List JournalEntry) (settled : PairFlags) (pushed : journal ≡ fields.journal ++ entry ∷ []) where
  abbrev changed_fields : Inside
  changed_fields = record fields { journal = journal; settled = settled; claims = with_item fields.claims worker None }

  claim_held : IsUnplacedClaim (length ledger.basis.grading) ledger.basis.priority ledger.state worker way
  claim_held = record {
    pair = held;
    claimed = claimed;
    settled = subst (λ p. IsSettledBy (length ledger.basis.grading) ledger.basis.priority ledger.state.limit ledger.state.basis
        ledger.state.journal p way ledger.state.basis)
        (same_Some claim.pair held (sym claim.claimed ∙ claimed)) claim.settled;
  }

  claim_seen : IsUnplacedClaim (length fields.basis.grading) fields.basis.priority (ledger_of fields).state worker way
  unfolding claim_held
  claim_seen = record {
    pair = held;
    claimed = subst (λ l. claim_of l.state worker ≡ Some held) (sym seen) claimed;
    settled = subst (λ l. IsSettledBy (length l.basis.grading) l.basis.priority l.state.limit l.state.basis l.state.journal held way
        l.state.basis) (sym seen) claim_held.settled;
  }

  pub unplaced_keeps : (i j : ℕ) → pair_of i j ≡ held → settled ≡ record {
    moves = fields.settled.moves;
    flags = set fields.settled.flags (pair_number i j) true;
  } → AreFields changed_fields
  unfolding claim_seen
  unplaced_keeps i j e f =
      subst (λ l. AreFields (record fields { journal = l; settled = settled; claims = with_item fields.claims worker None })) (sym pushed)
      (subst (λ s. AreFields (with_settled fields fields.basis s entry worker)) (sym (f ∙ ap (λ p. record {
        moves = fields.settled.moves;
        flags = set fields.settled.flags (number_of p) true;
      }) e))
      (kept_after fields kept worker way claim_seen entry same))

  pub unplaced_settles : IsSettling (length ledger.basis.grading) ledger.basis.priority ledger.state worker way
      (ledger_of changed_fields).state
  unfolding claim_seen
  unplaced_settles =
      subst (λ l. IsSettling (length l.basis.grading) l.basis.priority l.state worker way (ledger_of changed_fields).state) seen
      (subst (λ l. IsSettling (length fields.basis.grading) fields.basis.priority (ledger_of fields).state worker way
      (ledger_of (record fields { journal = l; settled = settled; claims = with_item fields.claims worker None })).state) (sym pushed)
      (settles fields kept worker way claim_seen entry same))
