-- The next pairs, claimed and settled at once: what one of them leaves, and one after another.
use Rattle.std.proofs.Common.{◌≡◌, ◌≢◌, ◌⊎◌, inl, inr, ℕ, ◌+◌, ◌<◌, ◌≤◌, true, List, [], ◌∷◌, ◌++◌, length, map, set, None, Some, arith, refl, sym, ap, ◌∙◌, subst, append_assoc, length-append}
use Rattle.std.specs.Vec.{with_item}
use Rattle.std.proofs.lemmas.List.{append-nil, length-map, map-append, get_or-set_same, set-set, set-get_or}
use Rattle.mk_model.specs.CoreStates.{Pair, Settle, CoreState, settle, claim_of}
use Rattle.mk_model.specs.CoreStates.Way.{Coprime}
use Rattle.mk_model.specs.Events.{HappenInTurn, IsSettling}
use Rattle.mk_move.specs.Moves.{Weighed}
use Rattle.mk_ledger.specs.declared.ledger.Ledger.TheInside.{Inside}
use Rattle.mk_journal.specs.declared.journal.JournalEntry.{JournalEntry}
use Rattle.mk_ledger.specs.PairFlags.{PairFlags, pairs_of, pair_number}
use Rattle.mk_journal.specs.Entries.{settle_of}
use Rattle.mk_ledger.specs.Ledgers.{LedgerView, IsLedger, number_of, AreFlagged, AreInOrder}
use Rattle.mk_ledger.specs.LedgerFields.{ledger_of, AreFields}
use Rattle.mk_ledger.specs.Claims.{IsGiven}
use Rattle.mk_ledger.specs.HeldClaims.{MayClaim}
use Rattle.mk_ledger.specs.Settlings.{IsUnplacedClaim, AreSmall}
use Rattle.mk_ledger.specs.DisjointPairs.{coprime_events, with_coprime, SettlesDisjoint, IsNextPair, IsNextDisjoint, IsOpenRow, StaysInRow, LeavesNoneInRow}
use Rattle.mk_ledger.proofs.PairNumbers.{pairs_of_more, pairs_of_least, number_below, number_of_one, within_by_number}
use Rattle.mk_ledger.proofs.Claiming.{claimed_fields, claimed_answer}
use Rattle.mk_ledger.proofs.SettledFields.{unplaced_keeps, unplaced_settles}

-- ---- one after another
module _ (n : ℕ) (priority : List ℕ) (worker : ℕ) where
  pub settles_none : (state : CoreState) → SettlesDisjoint n priority state worker state
  settles_none state = record {
    pairs = [];
    events = refl;
    changed = ap (λ j. record state { journal = j }) (sym (append-nil state.journal))
        ∙ ap (λ k. record state { journal = state.journal ++ []; claims_made = k }) made;
  }
    where
      made : state.claims_made ≡ state.claims_made + 0
      made = omega arith

  both_happen : (state middle after : CoreState) (pairs more : List Pair) →
      HappenInTurn n priority state (coprime_events worker pairs) middle →
      HappenInTurn n priority middle (coprime_events worker more) after →
      HappenInTurn n priority state (coprime_events worker (pairs ++ more)) after
  both_happen state middle after [] more e h = subst (λ s. HappenInTurn n priority s (coprime_events worker more) after) e h
  both_happen state middle after (pair ∷ pairs) more (claimed, c, (settled, s, rest)) h =
      (claimed, c, (settled, s, both_happen settled middle after pairs more rest h))

  abbrev entry_for : Pair → Settle
  entry_for pair = settle worker pair Coprime

  both_change : (state : CoreState) (pairs more : List Pair) →
      with_coprime (with_coprime state worker pairs) worker more ≡ with_coprime state worker (pairs ++ more)
  both_change state pairs more =
      ap (λ j. record state { journal = j; claims_made = state.claims_made + length pairs + length more })
      (append_assoc state.journal (map entry_for pairs) (map entry_for more)
      ∙ ap (λ entries. state.journal ++ entries) (sym (map-append entry_for pairs more)))
      ∙ ap (λ k. record state { journal = state.journal ++ map entry_for (pairs ++ more); claims_made = k }) made
    where
      made : state.claims_made + length pairs + length more ≡ state.claims_made + length (pairs ++ more)
      made = omega (arith, length-append pairs more)

  pub settles_both : (state middle after : CoreState) → SettlesDisjoint n priority state worker middle →
      SettlesDisjoint n priority middle worker after → SettlesDisjoint n priority state worker after
  settles_both state middle after g h = record {
    pairs = g.pairs ++ h.pairs;
    events = both_happen state middle after g.pairs h.pairs g.events h.events;
    changed = h.changed ∙ ap (λ s. with_coprime s worker h.pairs) g.changed ∙ both_change state g.pairs h.pairs;
  }

-- ---- a row of pairs
module _ (worker first second end : ℕ) (state : CoreState) (row : IsOpenRow state first second end) (some : first < end) where
  -- a worker that had no claim before its pairs were settled may claim the next one
  pub row_may_claim : (n : ℕ) (priority : List ℕ) (before : CoreState) → SettlesDisjoint n priority before worker state →
      worker < before.workers → claim_of before worker ≡ None → MayClaim state worker
  row_may_claim n priority before settles within idle = record {
    within = omega (arith, within, ap (λ s. s.workers) settles.changed);
    idle = ap (λ s. claim_of s worker) settles.changed ∙ idle;
    no_halt = row.no_halt some;
    left = omega (
      arith,
      row.number_is,
      number_below first second (length state.basis) (omega (arith, row.ordered some, some))
          (row.within some),
    );
    budget = omega (arith, row.number_is, row.budget some, some);
  }

  -- the row behind the next pair
  pub row_behind : (n : ℕ) (priority : List ℕ) (after : CoreState) → SettlesDisjoint n priority state worker after →
      after.claims_made ≡ state.claims_made + 1 → IsOpenRow after (first + 1) second end
  row_behind n priority after settles one = record {
    number_is = omega (arith, row.number_is, one);
    in_row = omega (arith, row.ordered some, some);
    no_halt = λ _. ap (λ s. s.first_halted) settles.changed ∙ row.no_halt some;
    ordered = λ _. row.ordered some;
    within = λ _. omega (arith, row.within some, ap (λ s. length s.basis) settles.changed);
    budget = λ _. omega (arith, row.budget some, ap (λ s. s.budget) settles.changed);
    closed = still row.closed;
  }
    where
      still : (state.first_halted ≢ None) ⊎ ((length state.basis ≤ second) ⊎ ((state.budget ≤ pair_number end second) ⊎ (second ≤ end))) →
          (after.first_halted ≢ None) ⊎ ((length after.basis ≤ second) ⊎ ((after.budget ≤ pair_number end second) ⊎ (second ≤ end)))
      still (inl h) = inl (λ e. h (sym (ap (λ s. s.first_halted) settles.changed) ∙ e))
      still (inr (inl l)) = inr (inl (omega (arith, l, ap (λ s. length s.basis) settles.changed)))
      still (inr (inr (inl l))) = inr (inr (inl (omega (arith, l, ap (λ s. s.budget) settles.changed))))
      still (inr (inr (inr l))) = inr (inr (inr l))

-- ---- how far it goes
-- the next pair before has the second place of the row
pub row_begun : (state : CoreState) (first second : ℕ) → first < second → pair_number first second ≡ state.claims_made →
    (pair : Pair) → IsNextPair state pair → pair.second ≡ second
row_begun state first second l e pair next = (number_of_one pair.first pair.second first second next.ordered l (next.number_is ∙ sym e)).1

module _ (state after : CoreState) (first second end : ℕ) (row : IsOpenRow after first second end) (begun : (pair : Pair) →
    IsNextPair state pair → pair.second ≡ second) where
  pub stays_in_row : StaysInRow state after
  stays_in_row pair next = omega (arith, row.number_is, row.in_row, pairs_of_more second, ap (λ k. pairs_of (k + 1)) (begun pair next))

  -- where the row has ended
  pub none_behind_row : (worker : ℕ) → end ≤ first → LeavesNoneInRow state worker after
  none_behind_row worker ended pair left next here same = go row.closed
    where
      place : pairs_of left.second ≡ pairs_of second
      place = ap pairs_of (same ∙ begun pair next)

      go : (after.first_halted ≢ None) ⊎ ((length after.basis ≤ second) ⊎ ((after.budget ≤ pair_number end second) ⊎ (second ≤ end))) → ⊥
      go (inl h) = h here.may.no_halt
      go (inr (inl l)) = absurd (omega (arith, here.may.left, row.number_is, pairs_of_least (length after.basis) second l))
      go (inr (inr (inl l))) = absurd (omega (arith, here.may.budget, row.number_is, l, ended))
      go (inr (inr (inr l))) = absurd (omega (arith, here.number_is, here.ordered, same, begun pair next, place, row.number_is, l, ended))

-- ---- one pair
-- a claim that was made and settled leaves the claims as they were
claims_again : (state : CoreState) (worker : ℕ) (pair : Pair) → claim_of state worker ≡ None →
    set (set state.claims worker (Some pair)) worker None ≡ state.claims
claims_again state worker pair idle =
    set-set state.claims worker (Some pair) None ∙ ap (set state.claims worker) (sym idle) ∙ set-get_or state.claims worker None

-- what the fields keep is told by the ledger and the flags
same_kept : (fields others : Inside) → ledger_of others ≡ ledger_of fields → others.settled ≡ fields.settled → AreFields fields →
    AreFields others
same_kept fields others e f kept = record {
  ledger = subst IsLedger (sym e) kept.ledger;
  flags_moves = ap (λ s. s.moves) f ∙ kept.flags_moves ∙ ap (λ l. length l.basis.moves) (sym e);
  flagged = subst (λ l. AreFlagged l.state others.settled.flags) (sym e) (subst (λ s. AreFlagged (ledger_of fields).state s.flags)
      (sym f) kept.flagged);
  in_order = subst (λ l. AreInOrder l.state) (sym e) kept.in_order;
}

-- the next pair is one of the basis, and small
next_within : (state : CoreState) (worker : ℕ) (pair : Pair) → IsNextDisjoint state worker pair → pair.second < length state.basis
next_within state worker pair next =
    within_by_number pair.first pair.second (length state.basis) next.ordered (omega (arith, next.number_is, next.may.left))

pub next_small : (ledger : LedgerView) (worker : ℕ) (pair : Pair) → IsLedger ledger → IsNextDisjoint ledger.state worker pair →
    AreSmall pair worker
next_small ledger worker pair kept next =
    let second : pair.second < 65536 = omega (arith, next_within ledger.state worker pair next, kept.legal.basis_within, kept.limit) in
    record { first = omega (arith, next.ordered, second); second = second; worker_within = omega (arith, next.may.within, kept.workers) }

pub next_flagged : (fields : Inside) (worker : ℕ) (pair : Pair) → AreFields fields → IsNextDisjoint (ledger_of fields).state worker pair →
    pair.second < fields.settled.moves
next_flagged fields worker pair kept next =
    omega (
      arith,
      kept.flags_moves,
      next_within (ledger_of fields).state worker pair next,
      length-map fields.basis.moves
          (λ (m : Weighed). m.entries),
    )

module _ (fields : Inside) (kept : AreFields fields) (worker i j : ℕ) where
  abbrev pair : Pair
  pair = record { first = i; second = j }

  module _ (next : IsNextDisjoint (ledger_of fields).state worker pair) (entry : JournalEntry)
      (same : settle_of entry ≡ settle worker pair Coprime) (journal : List JournalEntry) (settled : PairFlags) (made : ℕ)
      (pushed : journal ≡ fields.journal ++ entry ∷ []) (marked : settled ≡ record {
        moves = fields.settled.moves;
        flags = set fields.settled.flags (number_of pair) true;
      }) (advanced : made ≡ fields.next + 1) where
    -- the fields where the claim is made, where it is settled, and as the code leaves them
    abbrev claiming : Inside
    claiming = record fields { claims = with_item fields.claims worker (Some pair); next = made }

    abbrev settling : Inside
    settling = record claiming { journal = journal; settled = settled; claims = with_item claiming.claims worker None }

    abbrev after : Inside
    after = record fields { journal = journal; settled = settled; next = made }

    claiming_kept : AreFields claiming
    claiming_kept = claimed_fields fields worker i j made kept next.may (record {
      ordered = next.ordered;
      number_is = next.number_is;
    }) advanced

    given : IsGiven (ledger_of fields).state worker pair (ledger_of claiming).state
    given = claimed_answer fields worker i j made kept next.may (record { ordered = next.ordered; number_is = next.number_is }) advanced

    has_claim : claim_of (ledger_of claiming).state worker ≡ Some pair
    has_claim = get_or-set_same fields.claims.items worker (Some pair) None
        (omega (arith, next.may.within, kept.ledger.legal.claims_by_workers))

    unplaced : IsUnplacedClaim (length fields.basis.grading) fields.basis.priority (ledger_of claiming).state worker Coprime
    unplaced = record { pair = pair; claimed = has_claim; settled = (next.disjoint, refl) }

    again : ledger_of after ≡ ledger_of settling
    again = ap (λ claims. record (ledger_of after) { state = record (ledger_of after).state { claims = claims } })
        (sym (claims_again (ledger_of fields).state worker pair next.may.idle))

    pub settled_next_kept : AreFields after
    settled_next_kept =
        same_kept settling after again refl
        (unplaced_keeps claiming claiming_kept (ledger_of claiming) refl worker Coprime unplaced pair has_claim entry same journal settled
        pushed i j refl marked)

    settles_it : IsSettling (length fields.basis.grading) fields.basis.priority (ledger_of claiming).state worker Coprime
        (ledger_of after).state
    settles_it =
        subst (λ (l : LedgerView). IsSettling (length fields.basis.grading) fields.basis.priority (ledger_of claiming).state worker Coprime
        l.state) (sym again)
        (unplaced_settles claiming claiming_kept (ledger_of claiming) refl worker Coprime unplaced pair has_claim entry same journal settled
        pushed)

    journal_is : map settle_of journal ≡ map settle_of fields.journal ++ settle worker pair Coprime ∷ []
    journal_is = ap (map settle_of) pushed ∙ map-append settle_of fields.journal (entry ∷ [])
        ∙ ap (λ s. map settle_of fields.journal ++ s ∷ []) same

    settles_next : SettlesDisjoint (length fields.basis.grading) fields.basis.priority (ledger_of fields).state worker
        (ledger_of after).state
    settles_next = record {
      pairs = pair ∷ [];
      events = ((ledger_of claiming).state, given.claim, ((ledger_of after).state, settles_it, refl));
      changed = ap (λ entries. record (ledger_of after).state { journal = entries }) journal_is
          ∙ ap (λ k. record (ledger_of fields).state {
            journal = map settle_of fields.journal ++ settle worker pair Coprime ∷ [];
            claims_made = k;
          }) advanced;
    }

    pub settled_next : (ledger : LedgerView) → ledger_of fields ≡ ledger →
        SettlesDisjoint (length ledger.basis.grading) ledger.basis.priority ledger.state worker (ledger_of after).state
    settled_next ledger seen =
        subst (λ l. SettlesDisjoint (length l.basis.grading) l.basis.priority l.state worker (ledger_of after).state) seen settles_next
