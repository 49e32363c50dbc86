-- What else stays so from pivot to pivot: a base column has the denominator in its own row and 0 else, and no right
-- side is below 0.
use Rattle.std.proofs.Common.{◌≡◌, ◌≢◌, ◌==◌, ◌⊎◌, inl, inr, ℕ, zero, suc, ◌+◌, ◌<◌, ◌≤◌, false, if◌then◌else◌, List, [], ◌∷◌, ◌++◌, length, get_or, ℤ, pos, negsuc, ◌*ℤ◌, ◌≤ℤ◌, ◌<ℤ◌, int_lt, arith, ap, refl, sym, ◌∙◌, subst}
use Rattle.std.proofs.lemmas.Int.{ints, by_lt_z}
use Rattle.std.proofs.lemmas.Bool.{cases_eq}
use Rattle.std.proofs.lemmas.Bool.Decides.{nat_tests}
use Rattle.std.proofs.lemmas.List.{length-set, get_or_append_left, get_or-append-add, get_or-set_same, get_or-set_other}
use Rattle.std.proofs.lemmas.List.FromFn.{length-map-range_with_len, get_or-map-range_with_len}
use lib.IntN.{*ℤ-zero, *ℤ_comm}
use Rattle.mk_model.specs.Vectors.{entry, zeros, negate}
use Rattle.mk_model.specs.Lattices.{combination}
use Rattle.mk_model.specs.Tableaux.{Tableau, tableau_row, base_of, sided, sided_rows, unit_row, first_row, first_rows, first_tableau, IsCleared, IsPivot, Pivots, first, next, cross_product}
use Rattle.mk_model.proofs.VectorAlgebra.{length-negate, entry-zeros}
use Rattle.mk_model.proofs.LatticeLaws.{AllColumns, length-combination}
use Rattle.mk_model.proofs.Integers.{product_nonnegative}
use Rattle.mk_model.proofs.ExactPivots.{cancel}
use Rattle.mk_model.proofs.TableauShapes.{Keeps, kept, length-sided, columns-sided_rows}

-- ---- the first tableau, entry by entry
pub first_rows-at : (m j k : ℕ) (sides : List ℤ) (rows : List (List ℤ)) → k < length rows →
    get_or (first_rows m j sides rows) k [] ≡ first_row m (j + k) (entry sides k) (get_or rows k [])
first_rows-at m j k sides [] l = absurd (omega arith)
first_rows-at m j zero [] (row ∷ rows) l = ap (λ i. first_row m i (pos 0) row) (omega arith)
first_rows-at m j (suc k) [] (row ∷ rows) l =
    first_rows-at m (suc j) k [] rows (omega arith) ∙ ap (λ i. first_row m i (pos 0) (get_or rows k [])) (omega arith)
first_rows-at m j zero (side ∷ sides) (row ∷ rows) l = ap (λ i. first_row m i side row) (omega arith)
first_rows-at m j (suc k) (side ∷ sides) (row ∷ rows) l =
    first_rows-at m (suc j) k sides rows (omega arith) ∙ ap (λ i. first_row m i (entry sides k) (get_or rows k [])) (omega arith)

module _ (n m i : ℕ) (side : ℤ) (row : List ℤ) (columns : length row ≡ n) where
  front : length (sided side row) ≡ n
  front = length-sided side row ∙ columns

  unit_length : length (unit_row m i) ≡ m
  unit_length = length-map-range_with_len (λ c. if c == i then pos 1 else pos 0) 0 m

  pub first_row-lattice : (c : ℕ) → c < n → entry (first_row m i side row) c ≡ entry (sided side row) c
  first_row-lattice c l = get_or_append_left (sided side row) (unit_row m i ++ sided side (side ∷ [])) (pos 0) c (rw front l)

  behind : (c : ℕ) → entry (first_row m i side row) (n + c) ≡ get_or (unit_row m i ++ sided side (side ∷ [])) c (pos 0)
  behind c =
      ap (λ k. entry (first_row m i side row) (k + c)) (sym front) ∙ get_or-append-add (sided side row) (unit_row m i ++ sided side (side ∷ [])) c (pos 0)

  pub first_row-further : (c : ℕ) → c < m → entry (first_row m i side row) (n + c) ≡ (if c == i then pos 1 else pos 0)
  first_row-further c l =
      behind c ∙ get_or_append_left (unit_row m i) (sided side (side ∷ [])) (pos 0) c (rw unit_length l)
      ∙ get_or-map-range_with_len (λ k. if k == i then pos 1 else pos 0) 0 m c c (pos 0) l (omega arith)

  pub first_row-last : entry (first_row m i side row) (n + m) ≡ entry (sided side (side ∷ [])) 0
  first_row-last =
      behind m ∙ ap (λ k. get_or (unit_row m i ++ sided side (side ∷ [])) k (pos 0)) (unit_length_plus)
      ∙ get_or-append-add (unit_row m i) (sided side (side ∷ [])) 0 (pos 0)
    where
      unit_length_plus : m ≡ length (unit_row m i) + 0
      unit_length_plus = omega (arith, unit_length)

pub not_below : (k : ℕ) → int_lt (pos k) (pos 0) ≡ false
not_below k = grind (arith, nat_tests)

pub sided_side : (side : ℤ) → pos 0 ≤ℤ entry (sided side (side ∷ [])) 0
unfolding negate
sided_side (pos k) = rw (not_below k) (omega (arith, ints))
sided_side (negsuc k) = omega (arith, ints)

pub at_itself : (a b : ℕ) → a ≡ b → (if a == b then pos 1 else pos 0) ≡ pos 1
at_itself a b e = grind (arith, nat_tests)

pub at_another : (a b : ℕ) → a ≢ b → (if a == b then pos 1 else pos 0) ≡ pos 0
at_another a b e = grind (arith, nat_tests)

-- ---- what is kept
pub record Based (n m : ℕ) (t : Tableau) : Type 0 where
  pub bases : length t.bases ≡ m
  pub within : (i : ℕ) → i < m → base_of t i < n + m
  pub own : (i : ℕ) → i < m → entry (tableau_row t i) (base_of t i) ≡ t.denominator
  pub others : (k i : ℕ) → k < m → i < m → k ≢ i → entry (tableau_row t k) (base_of t i) ≡ pos 0
  pub cost : (i : ℕ) → i < m → entry t.costs (base_of t i) ≡ pos 0
  pub right : (i : ℕ) → i < m → pos 0 ≤ℤ entry (tableau_row t i) (n + m)

module _ (n : ℕ) (sides : List ℤ) (rows : List (List ℤ)) (a : AllColumns n rows) where
  row_columns : (i : ℕ) → i < length rows → length (get_or rows i []) ≡ n
  row_columns i l = a i [] l

  base_first : (i : ℕ) → i < length rows → base_of (first_tableau n sides rows) i ≡ n + i
  base_first i l = get_or-map-range_with_len (λ k. n + k) 0 (length rows) i i 0 l (omega arith)

  pub row_first : (i : ℕ) → i < length rows → tableau_row (first_tableau n sides rows) i ≡ first_row (length rows) i (entry sides i) (get_or rows i [])
  row_first i l = first_rows-at (length rows) 0 i sides rows l ∙ ap (λ k. first_row (length rows) k (entry sides i) (get_or rows i [])) (omega arith)

  further_first : (k c : ℕ) → k < length rows → c < length rows → entry (tableau_row (first_tableau n sides rows) k) (n + c) ≡ (if c == k then pos 1 else pos 0)
  further_first k c l q =
      ap (λ r. entry r (n + c)) (row_first k l) ∙ first_row-further n (length rows) k (entry sides k) (get_or rows k []) (row_columns k l) c q

  costs_front : length (negate (combination n (λ i. pos 1) (sided_rows sides rows))) ≡ n
  costs_front = length-negate _ ∙ length-combination n (λ i. pos 1) (sided_rows sides rows) (columns-sided_rows n sides rows a)

  pub costs_further : (c : ℕ) → entry (first_tableau n sides rows).costs (n + c) ≡ pos 0
  costs_further c =
      ap (λ k. entry (first_tableau n sides rows).costs (k + c)) (sym costs_front)
      ∙ get_or-append-add (negate (combination n (λ i. pos 1) (sided_rows sides rows))) (zeros (length rows)) c (pos 0) ∙ entry-zeros (length rows) c

  first_based : Based n (length rows) (first_tableau n sides rows)
  first_based = record {
    bases = length-map-range_with_len (λ k. n + k) 0 (length rows);
    within = λ i l. rw (base_first i l) (omega arith);
    own = λ i l. rw (base_first i l) (further_first i i l l ∙ at_itself i i refl);
    others = λ k i l q h. rw (base_first i q) (further_first k i l q ∙ at_another i k (λ e. h (sym e)));
    cost = λ i l. rw (base_first i l) (costs_further i);
    right = λ i l. rw (row_first i l, first_row-last n (length rows) i (entry sides i) (get_or rows i []) (row_columns i l)) (sided_side (entry sides i));
  }

pub nonnegative_from_product : (d a : ℤ) → pos 0 <ℤ d → pos 0 ≤ℤ (d *ℤ a) → pos 0 ≤ℤ a
nonnegative_from_product (pos zero) a h j = absurd (omega (arith, ints))
nonnegative_from_product (pos (suc k)) (pos b) h j = omega (arith, ints)
nonnegative_from_product (pos (suc k)) (negsuc b) h j = absurd (omega (arith, ints))
nonnegative_from_product (negsuc k) a h j = absurd (omega (arith, ints))

product_above : (a b : ℤ) → a ≤ℤ pos 0 → pos 0 ≤ℤ b → (a *ℤ b) ≤ℤ pos 0
product_above (pos zero) b h j = omega (arith, ints)
product_above (pos (suc k)) b h j = absurd (omega (arith, ints))
product_above (negsuc k) (pos b) h j = omega (arith, ints)
product_above (negsuc k) (negsuc b) h j = absurd (omega (arith, ints))

module _ (n m : ℕ) (t u : Tableau) (keeps : Keeps n m t) (based : Based n m t) (pivot : IsPivot n t u) where
  e : ℕ
  e = pivot.column

  low : pivot.place < m
  low = rw (← keeps.height) pivot.leaving.within

  within_columns : (i c : ℕ) → i < m → c ≤ n + m → c < length (tableau_row t i)
  within_columns i c l q = rw (keeps.width i l) (omega arith)

  cleared_entry : (i c : ℕ) → i < m → c ≤ n + m → i ≢ pivot.place →
      t.denominator *ℤ entry (tableau_row u i) c ≡ cross_product pivot.column (tableau_row t pivot.place) (tableau_row t i) c
  cleared_entry i c l q h = (pivot.others i (rw keeps.height l) h).entries c (within_columns i c l q)

  new_base : base_of u pivot.place ≡ pivot.column
  new_base = rw pivot.bases (get_or-set_same t.bases pivot.place pivot.column 0 (rw based.bases low))

  old_base : (i : ℕ) → i ≢ pivot.place → base_of u i ≡ base_of t i
  old_base i h = rw pivot.bases (get_or-set_other t.bases pivot.place i pivot.column 0 h)

  entering_low : pivot.column < n
  entering_low = pivot.entering.within

  -- the entering column is cleared
  cleared_column : (row cleared : List ℤ) → pivot.column < length row → IsCleared t.denominator pivot.column (tableau_row t pivot.place) row cleared → entry cleared pivot.column ≡ pos 0
  cleared_column row cleared l h =
      cancel t.denominator (entry cleared pivot.column) (pos 0) keeps.positive
      (h.entries pivot.column l ∙ omega (arith, ints, *ℤ-zero t.denominator))

  -- a column with 0 in the pivot row
  unchanged_column : (row cleared : List ℤ) (c : ℕ) → c < length row → IsCleared t.denominator pivot.column (tableau_row t pivot.place) row cleared →
      entry (tableau_row t pivot.place) c ≡ pos 0 → t.denominator *ℤ entry cleared c ≡ entry row c *ℤ entry (tableau_row t pivot.place) pivot.column
  unchanged_column row cleared c l h z =
      h.entries c l ∙ omega (arith, ints, ap (λ w. entry row pivot.column *ℤ w) z, *ℤ-zero (entry row pivot.column))

  zero_stays : (row cleared : List ℤ) (c : ℕ) → c < length row → IsCleared t.denominator pivot.column (tableau_row t pivot.place) row cleared →
      entry (tableau_row t pivot.place) c ≡ pos 0 → entry row c ≡ pos 0 → entry cleared c ≡ pos 0
  zero_stays row cleared c l h z o =
      cancel t.denominator (entry cleared c) (pos 0) keeps.positive
      (unchanged_column row cleared c l h z ∙ ap (λ w. w *ℤ entry (tableau_row t pivot.place) pivot.column) o
      ∙ *ℤ_comm (pos 0) (entry (tableau_row t pivot.place) pivot.column) ∙ *ℤ-zero (entry (tableau_row t pivot.place) pivot.column) ∙ sym (*ℤ-zero t.denominator))

  cleared_row : (i : ℕ) → i < m → i ≢ pivot.place → IsCleared t.denominator pivot.column (tableau_row t pivot.place) (tableau_row t i) (tableau_row u i)
  cleared_row i l h = pivot.others i (rw keeps.height l) h

  below_end : (i : ℕ) → i < m → base_of t i < n + m
  below_end i l = based.within i l

  next_within : (i : ℕ) → i < m → (i ≡ pivot.place) ⊎ (i ≢ pivot.place) → base_of u i < n + m
  next_within i l (inl s) = rw (s, new_base) (omega arith)
  next_within i l (inr h) = rw (old_base i h) (based.within i l)

  next_own : (i : ℕ) → i < m → (i ≡ pivot.place) ⊎ (i ≢ pivot.place) → entry (tableau_row u i) (base_of u i) ≡ u.denominator
  next_own i l (inl s) = rw (s, new_base, pivot.stays, pivot.denominator) refl
  next_own i l (inr h) =
      let b = based.within i l in
      let k = unchanged_column (tableau_row t i) (tableau_row u i) (base_of t i) (within_columns i (base_of t i) l (omega arith)) (cleared_row i l h) (based.others pivot.place i low l (λ s. h (sym s))) in
      rw (old_base i h, pivot.denominator)
      (cancel t.denominator (entry (tableau_row u i) (base_of t i)) (entry (tableau_row t pivot.place) pivot.column) keeps.positive
      (k ∙ ap (λ w. w *ℤ entry (tableau_row t pivot.place) pivot.column) (based.own i l)))

  next_others : (k i : ℕ) → k < m → i < m → k ≢ i → (k ≡ pivot.place) ⊎ (k ≢ pivot.place) → (i ≡ pivot.place) ⊎ (i ≢ pivot.place) → entry (tableau_row u k) (base_of u i) ≡ pos 0
  next_others k i l q d (inl s) (inl r) = absurd (d (s ∙ sym r))
  next_others k i l q d (inl s) (inr h) = rw (s, pivot.stays, old_base i h) (based.others pivot.place i low q (λ r. h (sym r)))
  next_others k i l q d (inr g) (inl r) =
      rw (r, new_base) (cleared_column (tableau_row t k) (tableau_row u k) (within_columns k pivot.column l (omega arith)) (cleared_row k l g))
  next_others k i l q d (inr g) (inr h) =
      let b = based.within i q in
      rw (old_base i h)
      (zero_stays (tableau_row t k) (tableau_row u k) (base_of t i) (within_columns k (base_of t i) l (omega arith)) (cleared_row k l g) (based.others pivot.place i low q (λ r. h (sym r))) (based.others k i l q d))

  costs_within : (c : ℕ) → c < n + m → c < length t.costs
  costs_within c l = rw keeps.costs_width l

  next_cost : (i : ℕ) → i < m → (i ≡ pivot.place) ⊎ (i ≢ pivot.place) → entry u.costs (base_of u i) ≡ pos 0
  next_cost i l (inl s) = rw (s, new_base) (cleared_column t.costs u.costs (costs_within pivot.column (omega arith)) pivot.costs)
  next_cost i l (inr h) =
      rw (old_base i h)
      (zero_stays t.costs u.costs (base_of t i) (costs_within (base_of t i) (based.within i l)) pivot.costs (based.others pivot.place i low l (λ r. h (sym r))) (based.cost i l))

  last_column : n + length t.rows ≡ n + m
  last_column = ap (λ k. n + k) keeps.height

  ratio_at : (i : ℕ) → i < m → pos 0 <ℤ entry (tableau_row t i) pivot.column →
      (entry (tableau_row t pivot.place) (n + m) *ℤ entry (tableau_row t i) pivot.column) ≤ℤ (entry (tableau_row t i) (n + m) *ℤ entry (tableau_row t pivot.place) pivot.column)
  ratio_at i l h =
      subst (λ z. (entry (tableau_row t pivot.place) z *ℤ entry (tableau_row t i) pivot.column) ≤ℤ (entry (tableau_row t i) z *ℤ entry (tableau_row t pivot.place) pivot.column))
      last_column (pivot.leaving.ratio i (rw keeps.height l) h)

  side_product : (i : ℕ) → i < m → pos 0 ≤ℤ cross_product pivot.column (tableau_row t pivot.place) (tableau_row t i) (n + m)
  side_product i l =
      by_lt_z (pos 0) (entry (tableau_row t i) pivot.column)
      (λ h. let r = ratio_at i l h in
      omega (arith, ints, r, *ℤ_comm (entry (tableau_row t i) pivot.column) (entry (tableau_row t pivot.place) (n + m))))
      (λ h. let p : pos 0 ≤ℤ entry (tableau_row t pivot.place) pivot.column = omega (arith, ints, pivot.leaving.above) in
      let a = product_nonnegative (entry (tableau_row t i) (n + m)) (entry (tableau_row t pivot.place) pivot.column) (based.right i l) p in
      let b = product_above (entry (tableau_row t i) pivot.column) (entry (tableau_row t pivot.place) (n + m)) (omega (arith, ints, h)) (based.right pivot.place low) in
      omega (arith, ints, a, b))

  next_right : (i : ℕ) → i < m → (i ≡ pivot.place) ⊎ (i ≢ pivot.place) → pos 0 ≤ℤ entry (tableau_row u i) (n + m)
  next_right i l (inl s) = rw (s, pivot.stays) (based.right pivot.place low)
  next_right i l (inr h) =
      nonnegative_from_product t.denominator (entry (tableau_row u i) (n + m)) keeps.positive (rw (cleared_entry i (n + m) l (omega arith) h) (side_product i l))

  next_based : Based n m u
  next_based = record {
    bases = rw pivot.bases (length-set t.bases pivot.place pivot.column ∙ based.bases);
    within = λ i l. next_within i l (cases_eq i pivot.place);
    own = λ i l. next_own i l (cases_eq i pivot.place);
    others = λ k i l q d. next_others k i l q d (cases_eq k pivot.place) (cases_eq i pivot.place);
    cost = λ i l. next_cost i l (cases_eq i pivot.place);
    right = λ i l. next_right i l (cases_eq i pivot.place);
  }

pub based_after : (n : ℕ) (sides : List ℤ) (rows : List (List ℤ)) → AllColumns n rows → (made : ℕ) (t : Tableau) → Pivots n sides rows made t → Based n (length rows) t
based_after n sides rows a made t first = first_based n sides rows a
based_after n sides rows a made t (next {t = before} p f h) =
    next_based n (length rows) before t (kept n sides rows a _ before p) (based_after n sides rows a _ before p) h
