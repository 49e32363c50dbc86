-- What holds of any two elements at different places of a list holds in each other order of it.
use Rattle.std.proofs.Common.{◌≡◌, ◌⊎◌, inl, inr, ℕ, ◌<◌, List, length, get_or, AllPairs, arith, ap, refl, sym, ◌∙◌, subst}
use Rattle.std.specs.List.{swap}
use Rattle.std.specs.List.Sorted.{IsPermutation}
use Rattle.std.proofs.lemmas.Bool.{cases_eq}
use Rattle.std.proofs.lemmas.List.Edits.{length-swap, swapped_from_swap}
use Rattle.std.proofs.lemmas.List.Sorted.{IsPermutation-keeps}

module _ {X : Type 0} (R : X → X → Type 0) where
  -- of the elements at any two places, in either order
  abbrev pub AllApart : List X → Type 0
  AllApart xs = (i j : ℕ) (d : X) → ¬ (i ≡ j) → i < length xs → j < length xs → R (get_or xs i d) (get_or xs j d)

  pub AllApart-pairs : (xs : List X) → AllApart xs → AllPairs R xs
  AllApart-pairs xs a i j d h l = a i j d (λ e. omega arith) (omega arith) l

  -- an element of the list after an exchange stands in the list before it at a place of its own
  record Place (xs : List X) (a b k : ℕ) (d : X) (place : ℕ) : Type 0 where
    pub within : place < length xs
    pub same : get_or xs place d ≡ get_or (swap xs a b) k d
    pub back : ((k ≡ a) × (place ≡ b)) ⊎ ((k ≡ b) × (place ≡ a)) ⊎ ((¬ (k ≡ a)) × (¬ (k ≡ b)) × (place ≡ k))

  place_of : (xs : List X) (a b k : ℕ) (d : X) → a < length xs → b < length xs → k < length xs → (place : ℕ) × Place xs a b k d place
  place_of xs a b k d l m h = go (cases_eq k a) (cases_eq k b)
    where
      go : (k ≡ a) ⊎ (k ≡ a → ⊥) → (k ≡ b) ⊎ (k ≡ b → ⊥) → (place : ℕ) × Place xs a b k d place
      go (inl e) f =
          let s = swapped_from_swap xs (swap xs a b) a b d l m refl in
          (b, record { within = m; same = sym s.0 ∙ ap (λ i. get_or (swap xs a b) i d) (sym e); back = inl (e, refl) })
      go (inr e) (inl f) =
          let s = swapped_from_swap xs (swap xs a b) a b d l m refl in
          (a, record { within = l; same = sym s.1 ∙ ap (λ i. get_or (swap xs a b) i d) (sym f); back = inr (inl (f, refl)) })
      go (inr e) (inr f) =
          let s = swapped_from_swap xs (swap xs a b) a b d l m refl in
          (k, record { within = h; same = sym (s.2 k e f); back = inr (inr (e, f, refl)) })

  places_apart : (xs : List X) (a b i j : ℕ) (d : X) (p q : ℕ) → Place xs a b i d p → Place xs a b j d q → p ≡ q → i ≡ j
  places_apart xs a b i j d p q h k e = grind (arith, h.back, k.back)

  swap_keeps : (xs : List X) (a b : ℕ) → a < length xs → b < length xs → AllApart xs → AllApart (swap xs a b)
  swap_keeps xs a b l m f i j d apart h k =
      let (p, s) = place_of xs a b i d l m (omega (arith, h, length-swap xs a b)) in
      let (q, t) = place_of xs a b j d l m (omega (arith, k, length-swap xs a b)) in
      subst (λ x. R x (get_or (swap xs a b) j d)) s.same
      (subst (R (get_or xs p d)) t.same (f p q d (λ e. apart (places_apart xs a b i j d p q s t e)) s.within t.within))

  pub AllApart-permutation : (xs ys : List X) → IsPermutation xs ys → AllApart xs → AllApart ys
  AllApart-permutation xs ys h f = IsPermutation-keeps xs AllApart f swap_keeps ys h
