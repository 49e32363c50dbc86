-- A claim that is settled: the order of the claims and the flags afterwards, also where a move is placed.
use Rattle.std.proofs.Common.{◌≡◌, ◌≢◌, ◌⊎◌, inl, inr, ℕ, ◌+◌, ◌-◌, ◌<◌, ◌≤◌, Bool, true, false, List, [], ◌∷◌, ◌++◌, length, get_or, set, replicate, Some, None, ℤ, arith, refl, sym, ap, ◌∙◌, subst, ⊎_elim, length-set, length-append}
use Rattle.std.proofs.lemmas.Bool.{cases_eq, cases_lt, false≢true}
use Rattle.std.proofs.lemmas.Option.{same_Some}
use Rattle.std.proofs.lemmas.List.{get_or-set_same, get_or-set_other, get_or_past, get_or_append_left, get_or-append_right, get_or-replicate, length-replicate}
use Rattle.std.proofs.lemmas.List.Elements.{Contains-push}
use Rattle.mk_model.specs.CoreStates.{Pair, Way, Settle, settle, CoreState, claim_of, IsPairOf, IsSettled, IsClaimed}
use Rattle.mk_model.specs.Events.{with_entry}
use Rattle.mk_model.proofs.Journals.{settled_more, settled_cases}
use Rattle.mk_model.proofs.LegalEvents.{cleared}
use Rattle.mk_ledger.specs.PairFlags.{pairs_of}
use Rattle.mk_ledger.specs.Ledgers.{number_of, AreFlagged, AreAllTaken, IsOneLeft, AreInOrder}
use Rattle.mk_ledger.proofs.PairNumbers.{pairs_of_more, pairs_of_least, number_below, same_pair, within_by_number}

-- the number of a pair is below the count of pairs
pub pair_below : (moves : List (List ℤ)) (p : Pair) → IsPairOf moves p → number_of p < pairs_of (length moves)
pair_below moves p h = number_below p.first p.second (length moves) h.ordered h.within

-- the entry of a pair ends the journal
pub settled_last : (journal : List Settle) (entry : Settle) → IsSettled (journal ++ entry ∷ []) entry.pair
settled_last journal entry = (entry, Contains-push journal entry, refl)

-- ---- the order of the claims
module _ {state : CoreState} (order : AreInOrder state) (worker : ℕ) (pair : Pair) (claimed : claim_of state worker ≡ Some pair) (way : Way)
    (moves : List (List ℤ)) (longer : length state.basis ≤ length moves) where
  abbrev entry : Settle
  entry = settle worker pair way

  abbrev after : CoreState
  after = with_entry state worker pair way moves

  settled_before : (p : Pair) → IsSettled (state.journal ++ entry ∷ []) p → number_of p < state.claims_made
  settled_before p s =
      ⊎_elim (λ h. order.settled p h) (λ e. subst (λ q. number_of q < state.claims_made) e (order.claimed pair (worker, claimed)))
      (settled_cases state.journal entry p s)

  -- a claim of the worker is settled now, and the others are claims still
  still_taken : (p : Pair) → IsSettled state.journal p ⊎ IsClaimed state p → IsSettled (state.journal ++ entry ∷ []) p ⊎ IsClaimed after p
  still_taken p (inl s) = inl (settled_more state.journal (entry ∷ []) p s)
  still_taken p (inr (a, e)) = go (cases_eq a worker)
    where
      go : (a ≡ worker) ⊎ (a ≢ worker) → IsSettled (state.journal ++ entry ∷ []) p ⊎ IsClaimed after p
      go (inl f) = inl (subst (λ q. IsSettled (state.journal ++ entry ∷ []) q) (same_Some pair p (sym claimed
          ∙ ap (λ k. claim_of state k) (sym f) ∙ e)) (settled_last state.journal entry))
      go (inr f) = inr (a, get_or-set_other state.claims worker a None None f ∙ e)

  all_taken : AreAllTaken state → AreAllTaken after
  all_taken h = record {
    none_given_up = h.none_given_up;
    taken = λ p b l. still_taken p (h.taken p (record {
      ordered = b.ordered;
      within = within_by_number p.first p.second (length state.basis) b.ordered (omega (arith, l, order.made));
    }) l);
  }

  one_left : IsOneLeft state → IsOneLeft after
  one_left h = record {
    given_up = h.given_up;
    halted = h.halted;
    pair = h.pair;
    free = record {
      of_basis = record { ordered = h.free.of_basis.ordered; within = omega (arith, h.free.of_basis.within, longer) };
      unsettled = λ s. ⊎_elim h.free.unsettled (λ e. h.free.unclaimed (worker, claimed ∙ ap Some e))
          (settled_cases state.journal entry h.pair s);
      unclaimed = λ (a, e). h.free.unclaimed (a, (cleared state.claims worker a h.pair e).1);
    };
  }

  pub entry_keeps_order : AreInOrder after
  entry_keeps_order = record {
    made = omega (arith, order.made, pairs_of_least (length state.basis) (length moves) longer);
    settled = settled_before;
    claimed = λ p (a, e). order.claimed p (a, (cleared state.claims worker a p e).1);
    before = ⊎_elim (λ h. inl (all_taken h)) (λ h. inr (one_left h)) order.before;
  }

-- ---- the flags
-- the flag of a pair that is settled
pub entry_keeps_flags : {state : CoreState} (flags : List Bool) → AreFlagged state flags → (worker : ℕ) (pair : Pair) (way : Way) →
    IsPairOf state.basis pair →
    AreFlagged (with_entry state worker pair way state.basis) (set flags (number_of pair) true)
entry_keeps_flags {state} flags h worker pair way of_basis = record {
  count = length-set flags (number_of pair) true ∙ h.count;
  each = λ p b. (
    λ e. forth p b e (cases_eq (number_of p) (number_of pair)),
    λ s. back p b (settled_cases state.journal entry p s)
        (cases_eq (number_of p) (number_of pair)),
  );
}
  where
    entry : Settle
    entry = settle worker pair way

    within : number_of pair < length flags
    within = omega (arith, h.count, pair_below state.basis pair of_basis)

    flags_after : List Bool
    flags_after = set flags (number_of pair) true

    at_pair : (p : Pair) → number_of p ≡ number_of pair → get_or flags_after (number_of p) false ≡ true
    at_pair p e = ap (λ k. get_or flags_after k false) e ∙ get_or-set_same flags (number_of pair) true false within

    forth : (p : Pair) → IsPairOf state.basis p → get_or flags_after (number_of p) false ≡ true → (number_of p ≡ number_of pair) ⊎
        (number_of p ≢ number_of pair) → IsSettled (state.journal ++ entry ∷ []) p
    forth p b e (inl f) =
        subst (λ q. IsSettled (state.journal ++ entry ∷ []) q) (same_pair pair p of_basis.ordered b.ordered (sym f))
        (settled_last state.journal entry)
    forth p b e (inr f) =
        settled_more state.journal (entry ∷ []) p ((h.each p b).0 (sym (get_or-set_other flags (number_of pair) (number_of p) true false f)
        ∙ e))

    back : (p : Pair) → IsPairOf state.basis p → IsSettled state.journal p ⊎ (pair ≡ p) → (number_of p ≡ number_of pair) ⊎
        (number_of p ≢ number_of pair) → get_or flags_after (number_of p) false ≡ true
    back p b s (inl f) = at_pair p f
    back p b (inl s) (inr f) = get_or-set_other flags (number_of pair) (number_of p) true false f ∙ (h.each p b).1 s
    back p b (inr e) (inr f) = absurd (f (ap number_of (sym e)))

-- the flags of the pairs of one move more
pub move_keeps_flags : {state : CoreState} (flags : List Bool) → AreFlagged state flags → AreInOrder state →
    (moves : List (List ℤ)) → length moves ≡ length state.basis + 1 →
    AreFlagged (record state { basis = moves }) (flags ++ replicate (length state.basis) false)
move_keeps_flags {state} flags h order moves more = record {
  count = length-append flags (replicate (length state.basis) false)
      ∙ omega (arith, length-replicate (length state.basis) false, h.count, ap pairs_of more, pairs_of_more (length state.basis));
  each = λ p b. go p b (cases_lt p.second (length state.basis));
}
  where
    flags_after : List Bool
    flags_after = flags ++ replicate (length state.basis) false

    clear : (k : ℕ) → get_or (replicate (length state.basis) false) k false ≡ false
    clear k = ⊎_elim (λ l. get_or-replicate (length state.basis) k false false l)
        (λ l. get_or_past (replicate (length state.basis) false) k false (omega (arith, l, length-replicate (length state.basis) false)))
        (cases_lt k (length state.basis))

    go : (p : Pair) → IsPairOf moves p → (p.second < length state.basis) ⊎ (length state.basis ≤ p.second) →
        ((get_or flags_after (number_of p) false ≡ true → IsSettled state.journal p) ×
        (IsSettled state.journal p → get_or flags_after (number_of p) false ≡ true))
    go p b (inl l) =
        let of_basis : IsPairOf state.basis p = record { ordered = b.ordered; within = l } in
        let same : get_or flags_after (number_of p) false ≡ get_or flags (number_of p) false =
        get_or_append_left flags (replicate (length state.basis) false) false (number_of p)
        (omega (arith, h.count, pair_below state.basis p of_basis)) in
        (λ e. (h.each p of_basis).0 (sym same ∙ e), λ s. same ∙ (h.each p of_basis).1 s)
    go p b (inr l) =
        let high : pairs_of (length state.basis) ≤ number_of p = omega (arith, pairs_of_least (length state.basis) p.second l) in
        let same : get_or flags_after (number_of p) false ≡ false =
        get_or-append_right flags (replicate (length state.basis) false) (length flags) (number_of p) false refl
        (omega (arith, h.count)) ∙ clear (number_of p - length flags) in
        (λ e. absurd (false≢true (sym same ∙ e)), λ s. absurd (omega (arith, high, order.settled p s, order.made)))
