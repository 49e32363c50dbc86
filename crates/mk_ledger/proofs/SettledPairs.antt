-- The pairs that the journal of a legal state settles, and the flags that tell them.
use Rattle.std.proofs.Common.{◌≡◌, ◌⊎◌, ◌≢◌, ◌↔◌, inl, inr, ℕ, min, max, ◌<◌, ◌≤◌, Bool, true, false, List, [], ◌∷◌, ◌++◌, length, get_or, ℤ, arith, sym, subst, ⊎_elim, append_assoc}
use Rattle.std.proofs.lemmas.Bool.{cases_lt}
use Rattle.std.proofs.lemmas.List.{append-nil}
use Rattle.mk_model.specs.CoreStates.{Pair, pair_of, Settle, CoreState, start_of, IsPairOf, IsSettled}
use Rattle.mk_model.specs.Events.{AreSettled}
use Rattle.mk_model.specs.Legal.{IsNext, Replays, IsLegal}
use Rattle.mk_model.proofs.Lists.{Contains-none}
use Rattle.mk_model.proofs.Journals.{settled_cases, IsPairOf-append, Grows, moves_grow}
use Rattle.mk_ledger.specs.PairFlags.{pair_number}
use Rattle.mk_ledger.specs.Ledgers.{AreFlagged, AreInOrder}

-- each pair that the journal settles is one of the moves
abbrev ArePairsOf : List Settle → List (List ℤ) → Type 0
ArePairsOf journal moves = (pair : Pair) → IsSettled journal pair → IsPairOf moves pair

module _ (n : ℕ) (priority : List ℕ) (limit : ℕ) where
  next_pairs : (earlier : List Settle) (moves : List (List ℤ)) (entry : Settle) (after : List (List ℤ)) → ArePairsOf earlier moves →
      IsNext n priority limit earlier moves entry after → ArePairsOf (earlier ++ entry ∷ []) after
  next_pairs earlier moves entry after h next pair s =
      subst (λ m. IsPairOf m pair) (sym grows.longer) (IsPairOf-append moves grows.more pair (go (settled_cases earlier entry pair s)))
    where
      grows : Grows limit moves after
      grows = moves_grow n priority limit moves earlier entry.pair entry.way after next.settled

      go : IsSettled earlier pair ⊎ (entry.pair ≡ pair) → IsPairOf moves pair
      go (inl t) = h pair t
      go (inr e) = subst (IsPairOf moves) e next.of_moves

  replayed_pairs : (earlier : List Settle) (moves : List (List ℤ)) (journal : List Settle) (basis : List (List ℤ)) →
      ArePairsOf earlier moves → Replays n priority limit earlier moves journal basis → ArePairsOf (earlier ++ journal) basis
  replayed_pairs earlier moves [] basis h e = rw (append-nil earlier, e) h
  replayed_pairs earlier moves (entry ∷ journal) basis h (after, next, rest) =
      rw append_assoc at (replayed_pairs (earlier ++ entry ∷ []) after journal basis (next_pairs earlier moves entry after h next) rest)

pub settled_of_basis : {n : ℕ} {priority : List ℕ} {state : CoreState} → IsLegal n priority state →
    (pair : Pair) → IsSettled state.journal pair → IsPairOf state.basis pair
settled_of_basis {n = n} {priority = priority} {state = state} legal =
    replayed_pairs n priority state.limit [] (start_of state) state.journal state.basis (λ pair (entry, h, e). absurd
    (Contains-none entry h)) legal.replays

-- the flag of a pair tells whether it is settled, in either order
pub flag_tells : {n : ℕ} {priority : List ℕ} {state : CoreState} {flags : List Bool} → IsLegal n priority state → AreFlagged state flags →
    (i j : ℕ) → i < j → j < length state.basis →
    (get_or flags (pair_number i j) false ≡ true) ↔ AreSettled state.journal i j
flag_tells legal flagged i j l k =
    let here = flagged.each (pair_of i j) (record { ordered = l; within = k }) in
    (λ e. inl (here.0 e), ⊎_elim here.1 (λ s. let p = settled_of_basis legal (pair_of j i) s in absurd (omega (arith, l, p.ordered))))

pub swapped_tells : {n : ℕ} {priority : List ℕ} {state : CoreState} {flags : List Bool} → IsLegal n priority state →
    AreFlagged state flags → (i j : ℕ) → j < i → i < length state.basis →
    (get_or flags (pair_number j i) false ≡ true) ↔ AreSettled state.journal i j
swapped_tells legal flagged i j l k = let here =
    flag_tells legal flagged j i l k in (λ e. ⊎_elim inr inl (here.0 e), λ s. here.1 (⊎_elim inr inl s))

-- no pair of one place, and none past the moves, is settled
pub none_beyond : {n : ℕ} {priority : List ℕ} {state : CoreState} → IsLegal n priority state → (i j : ℕ) → (min i j ≡ max i j) ⊎
    (length state.basis ≤ max i j) → ¬ (AreSettled state.journal i j)
none_beyond legal i j h (inl s) = let p =
    settled_of_basis legal (pair_of i j) s in ⊎_elim (λ e. omega (arith, e, p.ordered)) (λ l. omega (arith, l, p.ordered, p.within)) h
none_beyond legal i j h (inr s) = let p =
    settled_of_basis legal (pair_of j i) s in ⊎_elim (λ e. omega (arith, e, p.ordered)) (λ l. omega (arith, l, p.ordered, p.within)) h

pub either_tells : {n : ℕ} {priority : List ℕ} {state : CoreState} {flags : List Bool} → IsLegal n priority state → AreFlagged state flags →
    (i j : ℕ) → min i j ≢ max i j → max i j < length state.basis →
    (get_or flags (pair_number (min i j) (max i j)) false ≡ true) ↔ AreSettled state.journal i j
either_tells {state = state} {flags = flags} legal flagged i j apart within = go (cases_lt i j)
  where
    go : (i < j) ⊎ (j ≤ i) → (get_or flags (pair_number (min i j) (max i j)) false ≡ true) ↔ AreSettled state.journal i j
    go (inl l) =
        let low : min i j ≡ i = omega (arith, l) in
        let high : max i j ≡ j = omega (arith, l) in
        rw (low, high) (flag_tells legal flagged i j l (omega (arith, within, high)))
    go (inr l) =
        let low : min i j ≡ j = omega (arith, l) in
        let high : max i j ≡ i = omega (arith, l) in
        rw (low, high) (swapped_tells legal flagged i j (omega (arith, l, apart, low, high)) (omega (arith, within, high)))

-- no pair of two places is settled whose number isn't below that of the claims made
pub none_from : {n : ℕ} {priority : List ℕ} {state : CoreState} → IsLegal n priority state → AreInOrder state → (j k : ℕ) →
    (k < j → state.claims_made ≤ pair_number k j) → (j < k → state.claims_made ≤ pair_number j k) →
    ¬ (AreSettled state.journal j k)
none_from legal order j k first second (inl s) = let p =
    settled_of_basis legal (pair_of j k) s in omega (arith, second p.ordered, order.settled (pair_of j k) s)
none_from legal order j k first second (inr s) = let p =
    settled_of_basis legal (pair_of k j) s in omega (arith, first p.ordered, order.settled (pair_of k j) s)
