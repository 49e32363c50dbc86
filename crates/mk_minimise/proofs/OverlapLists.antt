-- Pairs that are listed one after another.
use Rattle.std.proofs.Common.{◌≡◌, ◌⊎◌, inl, inr, ℕ, ◌+◌, ◌<◌, ◌≤◌, List, [], ◌∷◌, ◌++◌, length, ℤ, Contains, arith, sym, subst, ⊎_elim}
use Rattle.std.proofs.lemmas.List.Elements.{All-nil, All-push, Contains-append_left, Contains-push}
use Rattle.mk_model.specs.CoreStates.{pair_of, IsLesser}
use Rattle.mk_minimise.specs.declared.overlaps.Overlap.{Overlap}
use Rattle.mk_minimise.specs.Overlaps.{AreCoprime, HasOtherWeight, overlap_at, IsOverlap, IsListed, ListsBefore, AreOverlaps}

module _ (w : List ℤ) (moves : List (List ℤ)) (bound : ℤ) where
  pub lists_begin : ListsBefore w moves bound (pair_of 0 0) []
  lists_begin = record { each = All-nil (IsOverlap w moves bound); every = λ i j l h. absurd (none i j h) }
    where
      none : (i j : ℕ) → IsLesser (pair_of i j) (pair_of 0 0) → ⊥
      none i j (inl l) = omega arith
      none i j (inr (e, l)) = omega arith

  -- by a longer list
  listed_more : (pairs more : List Overlap) (i j : ℕ) → IsListed w moves bound pairs i j → IsListed w moves bound (pairs ++ more) i j
  listed_more pairs more i j h = elim h [ inl d ↦ inl d | inr k ↦ elim k [ inl l ↦ inr (inl l) | inr c ↦ inr (inr (Contains-append_left pairs more (overlap_at i j) c)) ] ]

  -- the front passes a pair that is listed
  pub lists_pass : (pairs : List Overlap) (first second : ℕ) → ListsBefore w moves bound (pair_of first second) pairs → IsListed w moves bound pairs first second → ListsBefore w moves bound (pair_of (first + 1) second) pairs
  lists_pass pairs first second h listed = record { each = h.each; every = λ i j l k. at i j l (cases i j k) }
    where
      split : (i : ℕ) → i < first + 1 → (i < first) ⊎ (first ≡ i)
      split i l = grind arith

      cases : (i j : ℕ) → IsLesser (pair_of i j) (pair_of (first + 1) second) → IsLesser (pair_of i j) (pair_of first second) ⊎ ((second ≡ j) × (first ≡ i))
      cases i j (inl l) = inl (inl l)
      cases i j (inr (e, l)) = ⊎_elim (λ k. inl (inr (e, k))) (λ f. inr (sym e, f)) (split i l)

      at : (i j : ℕ) → i < j → IsLesser (pair_of i j) (pair_of first second) ⊎ ((second ≡ j) × (first ≡ i)) → IsListed w moves bound pairs i j
      at i j l (inl k) = h.every i j l k
      at i j l (inr (e, f)) = subst (λ t. IsListed w moves bound pairs i t) e (subst (λ t. IsListed w moves bound pairs t second) f listed)

  pub lists_push : (pairs : List Overlap) (first second : ℕ) (pair : Overlap) → ListsBefore w moves bound (pair_of first second) pairs → IsOverlap w moves bound pair → pair ≡ overlap_at first second →
      ListsBefore w moves bound (pair_of (first + 1) second) (pairs ++ pair ∷ [])
  lists_push pairs first second pair h overlap e =
      lists_pass (pairs ++ pair ∷ []) first second
      (record { each = All-push (IsOverlap w moves bound) pairs pair h.each overlap; every = λ i j l k. listed_more pairs (pair ∷ []) i j (h.every i j l k) })
      (inr (inr (subst (Contains (pairs ++ pair ∷ [])) e (Contains-push pairs pair))))

  -- the front passes a pair that is left out
  pub lists_skip : (pairs : List Overlap) (first second : ℕ) → ListsBefore w moves bound (pair_of first second) pairs → AreCoprime moves first second ⊎ HasOtherWeight w moves bound first second → ListsBefore w moves bound (pair_of (first + 1) second) pairs
  lists_skip pairs first second h none = lists_pass pairs first second h (elim none [ inl d ↦ inl d | inr l ↦ inr (inl l) ])

  -- all pairs that a move makes with those before it
  pub lists_row : (pairs : List Overlap) (second : ℕ) → ListsBefore w moves bound (pair_of second second) pairs → ListsBefore w moves bound (pair_of 0 (second + 1)) pairs
  lists_row pairs second h = record { each = h.each; every = λ i j l k. h.every i j l (lesser i j l k) }
    where
      split : (j : ℕ) → j < second + 1 → (j < second) ⊎ (j ≡ second)
      split j l = grind arith

      lesser : (i j : ℕ) → i < j → IsLesser (pair_of i j) (pair_of 0 (second + 1)) → IsLesser (pair_of i j) (pair_of second second)
      lesser i j l (inl k) = ⊎_elim inl (λ e. inr (e, omega arith)) (split j k)
      lesser i j l (inr (e, k)) = absurd (omega arith)

  -- all pairs
  pub lists_all : (pairs : List Overlap) (count : ℕ) → ListsBefore w moves bound (pair_of 0 count) pairs → length moves ≤ count → AreOverlaps w moves bound pairs
  lists_all pairs count h l = record { each = h.each; every = λ i j k within. h.every i j k (inl (omega arith)) }
