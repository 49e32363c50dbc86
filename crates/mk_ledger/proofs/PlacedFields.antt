-- The fields of a ledger where a claim is settled by a move that is placed.
use Rattle.std.proofs.Common.{◌≡◌, ℕ, ◌+◌, ◌<◌, true, false, List, [], ◌∷◌, ◌++◌, length, set, replicate, Some, None, ℤ, arith, refl, sym, ap, ◌∙◌, subst, length-append}
use Rattle.std.specs.Vec.{with_item}
use Rattle.std.proofs.lemmas.List.{map-append, length-map, take_all, set-append_left}
use Rattle.std.proofs.lemmas.List.Elements.{All-push}
use Rattle.std.proofs.lemmas.Option.{same_Some}
use Rattle.mk_model.specs.CoreStates.{Pair, pair_of, settle, CoreState, claim_of}
use Rattle.mk_model.specs.CoreStates.Way.{Place}
use Rattle.mk_model.specs.Reductions.{IsNormal}
use Rattle.mk_model.specs.Events.{IsPlaced, with_entry, IsSettling}
use Rattle.mk_model.specs.Events.Event.{Settles}
use Rattle.mk_model.proofs.LegalEvents.{events_keep}
use Rattle.mk_move.specs.Moves.{Weighed}
use Rattle.mk_move.specs.MoveLists.{BasisView, BelongsTo, IsBasis, vectors_of}
use Rattle.mk_ledger.specs.declared.ledger.Ledger.TheInside.{Inside}
use Rattle.mk_journal.specs.declared.journal.JournalEntry.{JournalEntry}
use Rattle.mk_ledger.specs.PairFlags.{PairFlags, pair_number}
use Rattle.mk_journal.specs.Entries.{settle_of}
use Rattle.mk_ledger.specs.Ledgers.{LedgerView, number_of, AreFlagged, AreInOrder}
use Rattle.mk_ledger.specs.LedgerFields.{ledger_of, AreFields}
use Rattle.mk_ledger.specs.Settlings.{IsReductOfClaim, with_placed, IsPlacedLast, IsGrown}
use Rattle.mk_ledger.proofs.Settlings.{entry_keeps_order, entry_keeps_flags, move_keeps_flags, pair_below}
use Rattle.mk_ledger.proofs.SettledFields.{with_settled, settled_state, claim_of_basis}

-- a basis with one move more that belongs to it
pub one_more_move : (basis : BasisView) (m : Weighed) → IsBasis basis → BelongsTo basis.priority basis.grading m →
    length basis.moves < 65536 → IsBasis (with_placed basis m)
one_more_move basis m h belongs few = record {
  priority = h.priority;
  grading = h.grading;
  columns = h.columns;
  few = omega (arith, few, length-append basis.moves (m ∷ []));
  moves = All-push (BelongsTo basis.priority basis.grading) basis.moves m h.moves belongs;
}

-- the vectors of moves with one more
vectors_more : (moves : List Weighed) (m : Weighed) → vectors_of (moves ++ m ∷ []) ≡ vectors_of moves ++ m.entries ∷ []
vectors_more moves m = map-append (λ m. m.entries) moves (m ∷ [])

module _ (fields : Inside) (kept : AreFields fields) (worker : ℕ) (m : Weighed) (claim : IsReductOfClaim (ledger_of fields).state worker
    (length fields.basis.moves) m.entries) (belongs : BelongsTo fields.basis.priority fields.basis.grading m)
    (room : length fields.basis.moves < fields.limit) (entry : JournalEntry) (place : ℕ) (at_end : place ≡ length fields.basis.moves)
    (same : settle_of entry ≡ settle worker claim.pair (Place place)) where
  abbrev state : CoreState
  state = (ledger_of fields).state

  abbrev moves : List (List ℤ)
  moves = state.basis ++ m.entries ∷ []

  abbrev flags : PairFlags
  flags = record {
    moves = fields.settled.moves + 1;
    flags = set fields.settled.flags (number_of claim.pair) true ++ replicate fields.settled.moves false;
  }

  abbrev after : Inside
  after = with_settled fields (with_placed fields.basis m) flags entry worker

  count : length state.basis ≡ length fields.basis.moves
  count = length-map fields.basis.moves (λ (m : Weighed). m.entries)

  placed : IsPlaced fields.basis.priority fields.limit state.basis claim.pair place m.entries
  placed = record {
    at_end = at_end ∙ sym count;
    room = omega (arith, room, count);
    oriented = belongs.oriented;
    normal_reduct = record {
      remainder = claim.rest;
      reduct = claim.reduct;
      normal = subst (λ ms. IsNormal ms claim.rest) (take_all (length fields.basis.moves) state.basis (omega (arith, count))) claim.normal;
    };
    sign = claim.sign;
  }

  changed : (ledger_of after).state ≡ with_entry state worker claim.pair (Place place) moves
  changed =
      settled_state fields (with_placed fields.basis m) flags entry worker claim.pair (Place place) same
      ∙ ap (λ ms. with_entry state worker claim.pair (Place place) ms) (vectors_more fields.basis.moves m)

  settles : IsSettling (length fields.basis.grading) fields.basis.priority state worker (Place place) (ledger_of after).state
  settles = record {
    pair = claim.pair;
    claimed = claim.claimed;
    moves = moves;
    settled = (m.entries, placed, refl);
    changed = changed;
  }

  one_longer : length moves ≡ length state.basis + 1
  one_longer = length-append state.basis (m.entries ∷ [])

  flagged : AreFlagged (with_entry state worker claim.pair (Place place) moves) flags.flags
  flagged =
      subst (λ n. AreFlagged (with_entry state worker claim.pair (Place place) moves) (set fields.settled.flags
      (number_of claim.pair) true ++ replicate n false)) (count ∙ sym kept.flags_moves)
      (move_keeps_flags (set fields.settled.flags (number_of claim.pair) true)
      (entry_keeps_flags fields.settled.flags kept.flagged worker claim.pair (Place place)
      (claim_of_basis fields kept worker claim.pair claim.claimed))
      (entry_keeps_order kept.in_order worker claim.pair claim.claimed (Place place) state.basis (omega arith))
      moves one_longer)

  kept_after : AreFields after
  kept_after = record {
    ledger = record {
      basis = one_more_move fields.basis m kept.ledger.basis belongs (omega (arith, room, kept.ledger.limit));
      moves = refl;
      legal = events_keep (length fields.basis.grading) fields.basis.priority state (Settles worker (Place place))
          (ledger_of after).state kept.ledger.legal settles;
      limit = kept.ledger.limit;
      some = kept.ledger.some;
      workers = kept.ledger.workers;
    };
    flags_moves = omega (arith, kept.flags_moves, length-append fields.basis.moves (m ∷ []));
    flagged = subst (λ s. AreFlagged s flags.flags) (sym changed) flagged;
    in_order = subst AreInOrder (sym changed) (entry_keeps_order kept.in_order worker claim.pair claim.claimed (Place place) moves
        (omega (arith, one_longer)));
  }

  -- the flags as they are written: those of the new pairs first, and then that of the claim
  marked : (grown settled : PairFlags) → grown ≡ record {
    moves = fields.settled.moves + 1;
    flags = fields.settled.flags ++ replicate fields.settled.moves false;
  } → settled ≡ record {
    moves = grown.moves;
    flags = set grown.flags (number_of claim.pair) true;
  } → settled ≡ flags
  marked grown settled e f =
      f ∙ ap (λ (g : PairFlags). record { moves = g.moves; flags = set g.flags (number_of claim.pair) true }) e
      ∙ ap (λ fs. record {
        moves = fields.settled.moves + 1;
        flags = fs;
      }) (set-append_left fields.settled.flags (replicate fields.settled.moves false) (number_of claim.pair) true within)
    where
      within : number_of claim.pair < length fields.settled.flags
      within = omega (
        arith,
        kept.flagged.count,
        pair_below state.basis claim.pair
            (claim_of_basis fields kept worker claim.pair claim.claimed),
      )

-- ---- by the ledger that is seen, and what the code leaves
-- a move that is to be placed, and the pair that the worker holds
pub record IsToBePlaced (ledger : LedgerView) (worker : ℕ) (m : Weighed) (held : Pair) : Type 0 where
  pub claim : IsReductOfClaim ledger.state worker (length ledger.basis.moves) m.entries
  pub belongs : BelongsTo ledger.basis.priority ledger.basis.grading m
  pub room : length ledger.basis.moves < ledger.state.limit
  pub claimed : claim_of ledger.state worker ≡ Some held

-- the place, the entry, and the journal, the moves and the flags afterwards
pub record AreWritten (fields : Inside) (worker : ℕ) (m : Weighed) (held : Pair) (place i j : ℕ) (entry : JournalEntry)
    (journal : List JournalEntry) (basis : BasisView) (grown settled : PairFlags) : Type 0 where
  pub at_end : place ≡ length fields.basis.moves
  pub entry_is : settle_of entry ≡ settle worker held (Place place)
  pub pushed : (journal ≡ fields.journal ++ entry ∷ []) × IsGrown fields.basis fields.settled m basis grown
  pub held_is : pair_of i j ≡ held
  pub marked : settled ≡ record { moves = grown.moves; flags = set grown.flags (pair_number i j) true }

module _ (fields : Inside) (kept : AreFields fields) (ledger : LedgerView) (seen : ledger_of fields ≡ ledger) (worker : ℕ) (m : Weighed)
    (held : Pair) (given : IsToBePlaced ledger worker m held) (place i j : ℕ) (entry : JournalEntry) (journal : List JournalEntry)
    (basis : BasisView) (grown settled : PairFlags) (written : AreWritten fields worker m held place i j entry journal basis grown
    settled) where
  abbrev changed_fields : Inside
  changed_fields = record fields { basis = basis; settled = settled; journal = journal; claims = with_item fields.claims worker None }

  seen_given : IsToBePlaced (ledger_of fields) worker m held
  seen_given = subst (λ l. IsToBePlaced l worker m held) (sym seen) given

  held_pair : held ≡ seen_given.claim.pair
  held_pair = same_Some held seen_given.claim.pair (sym seen_given.claimed ∙ seen_given.claim.claimed)

  entry_pair : settle_of entry ≡ settle worker seen_given.claim.pair (Place place)
  entry_pair = written.entry_is ∙ ap (λ p. settle worker p (Place place)) held_pair

  abbrev fields_after : Inside
  fields_after = after fields kept worker m seen_given.claim seen_given.belongs seen_given.room entry place written.at_end entry_pair

  flags_written : settled ≡ flags fields kept worker m seen_given.claim seen_given.belongs seen_given.room entry place written.at_end
      entry_pair
  flags_written =
      marked fields kept worker m seen_given.claim seen_given.belongs seen_given.room entry place written.at_end entry_pair grown settled
      written.pushed.1.flags
      (written.marked ∙ ap (λ p. record { moves = grown.moves; flags = set grown.flags (number_of p) true }) (written.held_is ∙ held_pair))

  changed_is : fields_after ≡ changed_fields
  changed_is =
      sym (ap (λ b. record fields {
        basis = b;
        settled = settled;
        journal = journal;
        claims = with_item fields.claims worker None;
      }) written.pushed.1.moves
      ∙ ap (λ s. record fields {
        basis = with_placed fields.basis m;
        settled = s;
        journal = journal;
        claims = with_item fields.claims worker None;
      }) flags_written
      ∙ ap (λ l. record fields_after { journal = l }) written.pushed.0)

  pub place_keeps : AreFields changed_fields
  place_keeps = subst AreFields changed_is (kept_after fields kept worker m seen_given.claim seen_given.belongs seen_given.room entry place
      written.at_end entry_pair)

  pub place_settles : IsPlacedLast ledger worker (length ledger.basis.moves) m place (ledger_of changed_fields)
  place_settles =
      subst (λ f. IsPlacedLast ledger worker (length ledger.basis.moves) m place (ledger_of f)) changed_is
      (subst (λ l. IsPlacedLast l worker (length l.basis.moves) m place (ledger_of fields_after)) seen
      (record {
        whole = refl;
        at_end = written.at_end;
        settling = settles fields kept worker m seen_given.claim seen_given.belongs seen_given.room entry place written.at_end entry_pair;
        pushed = refl;
      }))
