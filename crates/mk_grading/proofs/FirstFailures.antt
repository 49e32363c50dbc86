-- The first element of a list of which something doesn't hold.
use Rattle.std.proofs.Common.{◌≡◌, ◌⊎◌, ℕ, ◌<◌, List, ℤ, pos, length, take, slice_get, Some, All, Any, subst, ◌∙◌, sym, ap, inl, inr, arith}
use Rattle.std.proofs.lemmas.List.{length-take, get_or-take}
use Rattle.std.proofs.lemmas.Bool.{cases_order}
use Rattle.std.proofs.lemmas.Option.{slice_get_within, get_or_from_slice_get}
use Rattle.mk_model.specs.Vectors.{weight}
use Rattle.mk_model.specs.Tables.{Grid, rows_of}
use Rattle.mk_model.specs.ChosenGradings.{IsFirstProduct, IsOrthogonal}
use Rattle.mk_grading.proofs.RowsRead.{got_holds}

module _ {X : Type 0} (P : X → Type 0) (xs : List X) where
  -- what holds of the elements before a place holds of an earlier one
  earlier : (i j : ℕ) (x : X) → slice_get xs i ≡ Some x → i < j → All P (take j xs) → P x
  earlier i j x e l h =
      let within : i < length (take j xs) = omega (arith, length-take j xs, slice_get_within xs i x e) in
      subst P (get_or-take j xs i x l ∙ get_or_from_slice_get xs i x x e) (h i x within)

  -- there is one first place where it doesn't hold
  pub one_first : (i j : ℕ) (x y : X) → slice_get xs i ≡ Some x → slice_get xs j ≡ Some y → ¬ (P x) → ¬ (P y) → All P (take i xs) → All P (take j xs) → i ≡ j
  one_first i j x y e f m n h k = go (cases_order i j)
    where
      go : (i ≡ j) ⊎ ((i < j) ⊎ (j < i)) → i ≡ j
      go (inl same) = same
      go (inr (inl less)) = absurd (m (earlier i j x e less k))
      go (inr (inr more)) = absurd (n (earlier j i y f more h))

  pub some_not_all : Any (λ x. ¬ (P x)) xs → All P xs → ⊥
  some_not_all (k, x, l, e, n) h = n (subst P e (h k x l))

pub same_element : {X : Type 0} (xs : List X) (i j : ℕ) (x y : X) → slice_get xs i ≡ Some x → slice_get xs j ≡ Some y → i ≡ j → x ≡ y
same_element xs i j x y e f same = let there = ap (slice_get xs) same in cc

-- ---- products with the rows of a lattice
abbrev HasNoWeight : List ℤ → List ℤ → Type 0
HasNoWeight w row = weight w row ≡ pos 0

module _ (lat : Grid) (w : List ℤ) where
  row_not_zero : (r : ℕ) (v : ℤ) (h : IsFirstProduct lat w r v) → ¬ (HasNoWeight w h.row)
  row_not_zero r v h z = h.nonzero (h.product ∙ z)

  pub not_orthogonal : (r : ℕ) (v : ℤ) → IsFirstProduct lat w r v → IsOrthogonal lat w → ⊥
  not_orthogonal r v h k = row_not_zero r v h (got_holds (HasNoWeight w) (rows_of lat) r h.row h.at k)

  pub one_product : (r s : ℕ) (v u : ℤ) → IsFirstProduct lat w r v → IsFirstProduct lat w s u → (r ≡ s) × (v ≡ u)
  one_product r s v u h k =
      let place = one_first (HasNoWeight w) (rows_of lat) r s h.row k.row h.at k.at (row_not_zero r v h) (row_not_zero s u k) h.before k.before in
      (place, h.product ∙ ap (weight w) (same_element (rows_of lat) r s h.row k.row h.at k.at place) ∙ sym k.product)
