-- What stays so from pivot to pivot: the sizes of a tableau, its positive denominator and the minors of its rows.
use Rattle.std.proofs.Common.{◌≡◌, ◌≢◌, ◌==◌, ◌⊎◌, inl, inr, ℕ, zero, suc, ◌+◌, ◌<◌, ◌≤◌, Bool, true, false, if◌then◌else◌, List, [], ◌∷◌, length, get_or, ℤ, pos, ◌-ℤ◌, ◌*ℤ◌, ◌<ℤ◌, int_lt, arith, ap, refl, sym, ◌∙◌, subst, ⊎_elim, length-append}
use Rattle.std.proofs.lemmas.Int.{ints}
use Rattle.std.proofs.lemmas.Bool.{cases_eq}
use Rattle.std.proofs.lemmas.List.Elements.{All-head, All-tail, All-cons}
use Rattle.std.proofs.lemmas.List.FromFn.{length-map-range_with_len}
use lib.IntN.{*ℤ_comm}
use Rattle.mk_model.specs.Vectors.{entry, negate}
use Rattle.mk_model.specs.Tableaux.{Tableau, tableau_row, sided, sided_rows, first_row, first_rows, first_tableau, IsCleared, IsPivot, Pivots, first, next}
use Rattle.mk_model.proofs.VectorAlgebra.{length-negate, length-zeros}
use Rattle.mk_model.proofs.LatticeLaws.{AllColumns, length-combination}
use Rattle.mk_model.proofs.ExactPivots.{Exact, exact_at_first, exact_after}

-- ---- sizes of the first tableau
pub length-sided : (side : ℤ) (row : List ℤ) → length (sided side row) ≡ length row
length-sided side row = go (int_lt side (pos 0))
  where
    go : (b : Bool) → length (if b then negate row else row) ≡ length row
    go true = length-negate row
    go false = refl

length-first_row : (n m i : ℕ) (side : ℤ) (row : List ℤ) → length row ≡ n → length (first_row m i side row) ≡ n + suc m
length-first_row n m i side row l =
    rw (length-append, length-append, length-sided side row, length-sided side (side ∷ []), length-map-range_with_len (λ c. if c == i then pos 1 else pos 0) 0 m) (omega arith)

pub height-first_rows : (m i : ℕ) (sides : List ℤ) (rows : List (List ℤ)) → length (first_rows m i sides rows) ≡ length rows
height-first_rows m i sides [] = refl
height-first_rows m i [] (row ∷ rows) = ap suc (height-first_rows m (suc i) [] rows)
height-first_rows m i (side ∷ sides) (row ∷ rows) = ap suc (height-first_rows m (suc i) sides rows)

width-first_rows : (n m i : ℕ) (sides : List ℤ) (rows : List (List ℤ)) (k : ℕ) → AllColumns n rows → k < length rows →
    length (get_or (first_rows m i sides rows) k []) ≡ n + suc m
width-first_rows n m i sides [] k a l = absurd (omega arith)
width-first_rows n m i [] (row ∷ rows) zero a l = length-first_row n m i (pos 0) row (All-head (λ row. length row ≡ n) row rows a)
width-first_rows n m i [] (row ∷ rows) (suc k) a l = width-first_rows n m (suc i) [] rows k (All-tail (λ row. length row ≡ n) row rows a) (omega arith)
width-first_rows n m i (side ∷ sides) (row ∷ rows) zero a l = length-first_row n m i side row (All-head (λ row. length row ≡ n) row rows a)
width-first_rows n m i (side ∷ sides) (row ∷ rows) (suc k) a l = width-first_rows n m (suc i) sides rows k (All-tail (λ row. length row ≡ n) row rows a) (omega arith)

columns_cons : (n : ℕ) (row : List ℤ) (rows : List (List ℤ)) → length row ≡ n → AllColumns n rows → AllColumns n (row ∷ rows)
columns_cons n row rows l a = grind (arith, All-cons)

pub columns-sided_rows : (n : ℕ) (sides : List ℤ) (rows : List (List ℤ)) → AllColumns n rows → AllColumns n (sided_rows sides rows)
columns-sided_rows n sides [] a = a
columns-sided_rows n [] (row ∷ rows) a =
    columns_cons n row _ (All-head (λ row. length row ≡ n) row rows a) (columns-sided_rows n [] rows (All-tail (λ row. length row ≡ n) row rows a))
columns-sided_rows n (side ∷ sides) (row ∷ rows) a =
    columns_cons n (sided side row) _ (length-sided side row ∙ All-head (λ row. length row ≡ n) row rows a) (columns-sided_rows n sides rows (All-tail (λ row. length row ≡ n) row rows a))

-- ---- what is kept
abbrev pub RowOf : Tableau → List ℤ → Type 0
RowOf t v = (i : ℕ) × (i < length t.rows) × (v ≡ tableau_row t i)

abbrev pub RowOrCosts : Tableau → List ℤ → Type 0
RowOrCosts t v = RowOf t v ⊎ (v ≡ t.costs)

pub record Keeps (n m : ℕ) (t : Tableau) : Type 0 where
  pub height : length t.rows ≡ m
  pub width : (i : ℕ) → i < m → length (tableau_row t i) ≡ n + suc m
  pub costs_width : length t.costs ≡ n + m
  pub positive : pos 0 <ℤ t.denominator
  pub exact_rows : Exact (n + suc m) t.denominator (RowOf t)
  pub exact_costs : Exact (n + m) t.denominator (RowOrCosts t)

first_keeps : (n : ℕ) (sides : List ℤ) (rows : List (List ℤ)) → AllColumns n rows → Keeps n (length rows) (first_tableau n sides rows)
first_keeps n sides rows a = record {
  height = height-first_rows (length rows) 0 sides rows;
  width = λ i l. width-first_rows n (length rows) 0 sides rows i a l;
  costs_width = rw (length-append, length-negate, length-zeros, length-combination n (λ i. pos 1) (sided_rows sides rows) (columns-sided_rows n sides rows a)) refl;
  positive = omega (arith, ints);
  exact_rows = exact_at_first (n + suc (length rows)) (RowOf (first_tableau n sides rows));
  exact_costs = exact_at_first (n + length rows) (RowOrCosts (first_tableau n sides rows));
}

module _ (n m : ℕ) (t u : Tableau) (keeps : Keeps n m t) (pivot : IsPivot n t u) where
  pivot_row : List ℤ
  pivot_row = tableau_row t pivot.place

  cleared_from : (row cleared : List ℤ) → IsCleared t.denominator pivot.column (tableau_row t pivot.place) row cleared → (c : ℕ) → c < length row →
      t.denominator *ℤ entry cleared c ≡ (entry (tableau_row t pivot.place) pivot.column *ℤ entry row c) -ℤ (entry row pivot.column *ℤ entry (tableau_row t pivot.place) c)
  cleared_from row cleared h c l =
      h.entries c l ∙ ap (λ z. z -ℤ (entry row pivot.column *ℤ entry (tableau_row t pivot.place) c)) (*ℤ_comm (entry row c) (entry (tableau_row t pivot.place) pivot.column))

  from_row : (k : ℕ) → k ≤ n + suc m → (g : List ℤ) → RowOf u g →
      (g ≡ tableau_row t pivot.place) ⊎ ((v : List ℤ) × RowOf t v × ((c : ℕ) → c < k →
      t.denominator *ℤ entry g c ≡ (entry (tableau_row t pivot.place) pivot.column *ℤ entry v c) -ℤ (entry v pivot.column *ℤ entry (tableau_row t pivot.place) c)))
  from_row k b g (i, l, e) = go (cases_eq i pivot.place)
    where
      low : i < length t.rows
      low = rw (← pivot.height) l

      go : (i ≡ pivot.place) ⊎ (i ≢ pivot.place) →
          (g ≡ tableau_row t pivot.place) ⊎ ((v : List ℤ) × RowOf t v × ((c : ℕ) → c < k →
          t.denominator *ℤ entry g c ≡ (entry (tableau_row t pivot.place) pivot.column *ℤ entry v c) -ℤ (entry v pivot.column *ℤ entry (tableau_row t pivot.place) c)))
      go (inl same) = inl (e ∙ ap (λ j. tableau_row u j) same ∙ pivot.stays)
      go (inr other) =
          let w = keeps.width i (rw (← keeps.height) low) in
          inr (tableau_row t i, (i, low, refl), λ c q. ap (λ z. t.denominator *ℤ entry z c) e ∙ cleared_from (tableau_row t i) (tableau_row u i) (pivot.others i low other) c (omega arith))

  inside : pivot.column < n
  inside = pivot.entering.within

  pub next_keeps : Keeps n m u
  next_keeps = record {
    height = pivot.height ∙ keeps.height;
    width = λ i l. widths i l (cases_eq i pivot.place);
    costs_width = pivot.costs.columns ∙ keeps.costs_width;
    positive = rw pivot.denominator pivot.leaving.above;
    exact_rows = subst (λ d. Exact (n + suc m) d (RowOf u)) (sym pivot.denominator)
        (exact_after (n + suc m) t.denominator p pivot.column r (RowOf t) keeps.positive pivot.leaving.above (omega arith) refl here keeps.exact_rows (RowOf u) (from_row (n + suc m) (omega arith)));
    exact_costs = subst (λ d. Exact (n + m) d (RowOrCosts u)) (sym pivot.denominator)
        (exact_after (n + m) t.denominator p pivot.column r (RowOrCosts t) keeps.positive pivot.leaving.above (omega arith) refl (inl here) keeps.exact_costs (RowOrCosts u) from_any);
  }
    where
      r : List ℤ
      r = tableau_row t pivot.place

      p : ℤ
      p = entry (tableau_row t pivot.place) pivot.column

      here : RowOf t (tableau_row t pivot.place)
      here = (pivot.place, pivot.leaving.within, refl)

      widths : (i : ℕ) → i < m → (i ≡ pivot.place) ⊎ (i ≢ pivot.place) → length (tableau_row u i) ≡ n + suc m
      widths i l (inl same) = rw (same, pivot.stays) (keeps.width pivot.place (rw (← same) l))
      widths i l (inr other) = (pivot.others i (rw keeps.height l) other).columns ∙ keeps.width i l

      from_any : (g : List ℤ) → RowOrCosts u g →
          (g ≡ tableau_row t pivot.place) ⊎ ((v : List ℤ) × RowOrCosts t v × ((c : ℕ) → c < n + m →
          t.denominator *ℤ entry g c ≡ (entry (tableau_row t pivot.place) pivot.column *ℤ entry v c) -ℤ (entry v pivot.column *ℤ entry (tableau_row t pivot.place) c)))
      from_any g (inl q) = ⊎_elim inl (λ o. inr (o.0, inl o.1, o.2)) (from_row (n + m) (omega arith) g q)
      from_any g (inr e) =
          inr (t.costs, inr refl, λ c q. ap (λ z. t.denominator *ℤ entry z c) e ∙ cleared_from t.costs u.costs pivot.costs c (rw keeps.costs_width q))

pub kept : (n : ℕ) (sides : List ℤ) (rows : List (List ℤ)) → AllColumns n rows → (made : ℕ) (t : Tableau) → Pivots n sides rows made t → Keeps n (length rows) t
kept n sides rows a made t first = first_keeps n sides rows a
kept n sides rows a made t (next {t = before} p f h) = next_keeps n (length rows) before t (kept n sides rows a _ before p) h
