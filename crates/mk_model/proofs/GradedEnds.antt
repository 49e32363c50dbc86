-- A tableau's basic solution in the first rows; where the tableau is feasible it solves them, and gives a grading.
use Rattle.std.proofs.Common.{◌≡◌, ◌≢◌, ◌==◌, ◌⊎◌, inl, inr, ℕ, zero, suc, ◌+◌, ◌<◌, ◌≤◌, if◌then◌else◌, List, [], ◌∷◌, length, get_or, All, ℤ, pos, negsuc, ◌+ℤ◌, ◌*ℤ◌, neg_ℤ, ◌≤ℤ◌, ◌<ℤ◌, arith, ap, refl, sym, ◌∙◌, subst}
use Rattle.std.proofs.lemmas.Int.{ints}
use Rattle.std.proofs.lemmas.Bool.{cases_eq}
use Rattle.std.proofs.lemmas.List.{get_or_default, get_or-replicate, get_or-map, length-replicate}
use Rattle.std.proofs.lemmas.List.FromFn.{length-map-range_with_len, get_or-map-range_with_len}
use lib.IntN.{*ℤ-zero, *ℤ_comm}
use Rattle.mk_model.specs.Vectors.{entry, add, scale, negate, weight}
use Rattle.mk_model.specs.Lattices.{HasGrading, lattice_of, ones}
use Rattle.mk_model.specs.Tableaux.{Tableau, tableau_row, sided, first_row, first_tableau, balancing_sides, IsFeasible, Pivots, IsGradedEnd, basic_value, basic_solution}
use Rattle.mk_model.proofs.VectorAlgebra.{lengths, entries, weight-add, weight-scale, weight-negate}
use Rattle.mk_model.proofs.LatticeLaws.{AllColumns}
use Rattle.mk_model.proofs.Integers.{*ℤ-neg_ℤ}
use Rattle.mk_model.proofs.ExactPivots.{cancel}
use Rattle.mk_model.proofs.Products.{dot, dot-same, dot-split, dot-last, dot-unit, dot_comm, weight-dot, weight-swap}
use Rattle.mk_model.proofs.TableauShapes.{Keeps, kept, height-first_rows}
use Rattle.mk_model.proofs.TableauBases.{Based, based_after, row_first, first_row-lattice, first_row-further, first_row-last, not_below, at_itself, at_another}
use Rattle.mk_model.proofs.BasicSolutions.{Solves, solves_first, value_here, value_there, row_value}

-- what all right sides and 0 have, a value has
pub value_has : (P : ℤ → Type 0) (last : ℕ) (rows : List (List ℤ)) (bases : List ℕ) (c : ℕ) → P (pos 0) →
    ((k : ℕ) → k < length rows → k < length bases → get_or bases k 0 ≡ c → P (entry (get_or rows k []) last)) → P (basic_value last rows bases c)
value_has P last [] bases c z h = z
value_has P last (row ∷ rows) [] c z h = z
value_has P last (row ∷ rows) (b ∷ bases) c z h =
    go (cases_eq b c) (value_has P last rows bases c z (λ k l q e. h (suc k) (omega arith) (omega arith) e))
  where
    go : (b ≡ c) ⊎ (b ≢ c) → P (basic_value last rows bases c) → P (basic_value last (row ∷ rows) (b ∷ bases) c)
    go (inl e) r = subst P (sym (value_here b c (entry row last) (basic_value last rows bases c) e)) (h 0 (omega arith) (omega arith) e)
    go (inr d) r = subst P (sym (value_there b c (entry row last) (basic_value last rows bases c) d)) r

module _ (n : ℕ) (sides : List ℤ) (rows : List (List ℤ)) (a : AllColumns n rows) (made : ℕ) (t : Tableau) (p : Pivots n sides rows made t) where
  keeps : Keeps n (length rows) t
  keeps = kept n sides rows a made t p

  based : Based n (length rows) t
  based = based_after n sides rows a made t p

  unfoldable pub value : ℕ → ℤ
  value c = basic_value (n + length rows) t.rows t.bases c

  -- the basic solution, with the negative of the denominator in the last column
  balanced : ℕ → ℤ
  balanced c = if n + length rows == c then neg_ℤ t.denominator else basic_value (n + length rows) t.rows t.bases c

  balanced_last : balanced (n + length rows) ≡ neg_ℤ t.denominator
  unfolding balanced
  balanced_last = value_here (n + length rows) (n + length rows) (neg_ℤ t.denominator) (basic_value (n + length rows) t.rows t.bases (n + length rows)) refl

  balanced_before : (c : ℕ) → c < n + length rows → balanced c ≡ value c
  unfolding balanced value
  balanced_before c l = value_there (n + length rows) c (neg_ℤ t.denominator) (basic_value (n + length rows) t.rows t.bases c) (λ e. absurd (omega arith))

  balanced_solves : Solves (suc (n + length rows)) t balanced
  unfolding value
  balanced_solves = record {
    product = λ i l.
        let d = t.denominator in
        let r = entry (tableau_row t i) (n + length rows) in
        let s = dot-last (n + length rows) (entry (tableau_row t i)) balanced in
        let b = dot-same (n + length rows) (entry (tableau_row t i)) (entry (tableau_row t i)) balanced (λ c. basic_value (n + length rows) t.rows t.bases c) (λ c q. refl) balanced_before in
        let v = row_value n (length rows) t keeps based (n + length rows) i (rw (← keeps.height) l) in
        omega (arith, ints, s, b, v, ap (λ z. r *ℤ z) balanced_last, *ℤ-neg_ℤ r d, *ℤ_comm r d);
  }

  -- a first row's product with the basic solution, and the value of its further column, make up its right side
  pub first_row_value : (i : ℕ) → i < length rows →
      dot n (entry (sided (entry sides i) (get_or rows i []))) value +ℤ value (n + i) ≡ t.denominator *ℤ entry (sided (entry sides i) (entry sides i ∷ [])) 0
  first_row_value i l =
      let side = entry sides i in
      let row = get_or rows i [] in
      let m = length rows in
      let d = t.denominator in
      let columns : length row ≡ n = a i [] l in
      let f = first_row m i side row in
      let solved = (solves_first n sides rows a (suc (n + m)) balanced (omega arith) made t p balanced_solves).product i (rw keeps_first l) in
      let here : dot (suc (n + m)) (entry f) balanced ≡ pos 0 = rw (row_first n sides rows a i l) at solved in
      let s = dot-last (n + m) (entry f) balanced in
      let b = dot-same (n + m) (entry f) (entry f) balanced value (λ c q. refl) balanced_before in
      let k = dot-split n m (n + m) (entry f) value (λ c. entry f (n + c)) (λ c. value (n + c)) refl (λ c. refl) (λ c. refl) in
      let g = dot-same n (entry f) (entry (sided side row)) value value (first_row-lattice n m i side row columns) (λ c q. refl) in
      let u = dot-same m (λ c. entry f (n + c)) (λ c. if c == i then pos 1 else pos 0) (λ c. value (n + c)) (λ c. value (n + c)) (first_row-further n m i side row columns) (λ c q. refl) in
      let o = dot_comm m (λ c. if c == i then pos 1 else pos 0) (λ c. value (n + c)) in
      let w = dot-unit m i (λ c. value (n + c)) (λ c. if c == i then pos 1 else pos 0) l (at_itself i i refl) (λ c q. at_another c i q) in
      let last = first_row-last n m i side row columns in
      let r = entry (sided side (side ∷ [])) 0 in
      let q = ap (λ z. z *ℤ balanced (n + m)) last in
      let j = ap (λ z. r *ℤ z) balanced_last in
      omega (arith, ints, here, s, b, k, g, u, o, w, q, j, *ℤ-neg_ℤ r d, *ℤ_comm r d)
    where
      keeps_first : length (first_tableau n sides rows).rows ≡ length rows
      keeps_first = height-first_rows (length rows) 0 sides rows

  -- the entries of the basic solution
  pub solution_entry : (c : ℕ) → c < n → entry (basic_solution n t) c ≡ value c
  unfolding value
  solution_entry c l =
      get_or-map-range_with_len (basic_value (n + length t.rows) t.rows t.bases) 0 n c c (pos 0) l (omega arith)
      ∙ ap (λ k. basic_value (n + k) t.rows t.bases c) keeps.height

  pub solution_columns : length (basic_solution n t) ≡ n
  solution_columns = length-map-range_with_len (basic_value (n + length t.rows) t.rows t.bases) 0 n

  pub solution_weight : (row : List ℤ) → weight (basic_solution n t) row ≡ dot n (entry row) value
  solution_weight row =
      weight-dot n (basic_solution n t) row solution_columns ∙ dot-same n (entry (basic_solution n t)) value (entry row) (entry row) solution_entry (λ c l. refl) ∙ dot_comm n value (entry row)

  pub value_nonnegative : (c : ℕ) → pos 0 ≤ℤ value c
  unfolding value
  value_nonnegative c =
      value_has (λ z. pos 0 ≤ℤ z) (n + length rows) t.rows t.bases c (omega (arith, ints)) (λ k l q e. based.right k (rw (← keeps.height) l))

  pub feasible_value : IsFeasible n t → (c : ℕ) → n ≤ c → value c ≡ pos 0
  unfolding value
  feasible_value f c l =
      value_has (λ z. z ≡ pos 0) (n + length rows) t.rows t.bases c refl
      (λ k q r e. ap (λ j. entry (tableau_row t k) (n + j)) (sym keeps.height) ∙ f k q (rw e l))

  -- a row and its right side, both negated or not
  pub signed_side : (side : ℤ) (row : List ℤ) (w : List ℤ) (d : ℤ) → weight w (sided side row) ≡ d *ℤ entry (sided side (side ∷ [])) 0 → weight w row ≡ d *ℤ side
  unfolding negate
  signed_side (pos k) row w d e = rw (not_below k) at e
  signed_side (negsuc k) row w d e = omega (arith, ints, e, weight-negate w row, *ℤ-neg_ℤ d (negsuc k))

  pub solves_sides : IsFeasible n t → (i : ℕ) → i < length rows → weight (basic_solution n t) (get_or rows i []) ≡ t.denominator *ℤ entry sides i
  solves_sides f i l =
      signed_side (entry sides i) (get_or rows i []) (basic_solution n t) t.denominator
      (solution_weight (sided (entry sides i) (get_or rows i [])) ∙ omega (arith, ints, first_row_value i l, feasible_value f (n + i) (omega arith)))

-- ---- the grading
pub entry-ones : (n c : ℕ) → c < n → entry (ones n) c ≡ pos 1
entry-ones n c l = get_or-replicate n c (pos 1) (pos 0) l

one_at_least : (k : ℕ) (d b a : ℤ) → pos 0 <ℤ d → pos 0 ≤ℤ b → pos (suc k) *ℤ a ≡ (d *ℤ pos 1) +ℤ b → pos 1 ≤ℤ a
one_at_least k d b (pos zero) h j e = absurd (omega (arith, ints))
one_at_least k d b (pos (suc a)) h j e = omega (arith, ints)
one_at_least k d b (negsuc a) h j e = absurd (omega (arith, ints))

pub all_from : (P : List ℤ → Type 0) (rows : List (List ℤ)) → ((i : ℕ) → i < length rows → P (get_or rows i [])) → All P rows
all_from P rows h i d l = subst P (get_or_default rows i [] d l) (h i l)

pub balancing_side : (n : ℕ) (rows : List (List ℤ)) (i : ℕ) → i < length rows → entry (balancing_sides n rows) i ≡ neg_ℤ (weight (ones n) (get_or rows i []))
balancing_side n rows i l = get_or-map (λ row. neg_ℤ (weight (ones n) row)) rows i [] (pos 0) l

pub weight-add_left : (v w x : List ℤ) → weight (add v w) x ≡ weight v x +ℤ weight w x
weight-add_left v w x = weight-swap (add v w) x ∙ weight-add x v w ∙ omega (arith, ints, weight-swap x v, weight-swap x w)

pub weight-scale_left : (k : ℤ) (w x : List ℤ) → weight (scale k w) x ≡ k *ℤ weight w x
weight-scale_left k w x = weight-swap (scale k w) x ∙ weight-scale x k w ∙ ap (λ z. k *ℤ z) (weight-swap x w)

pub graded_grading : (n : ℕ) (rows : List (List ℤ)) (a : AllColumns n rows) (made : ℕ) (t : Tableau) (w : List ℤ) →
    Pivots n (balancing_sides n rows) rows made t → IsGradedEnd n t w → HasGrading (lattice_of n rows w)
graded_grading n rows a made t w p end = record {
  columns = columns;
  positive = λ c l.
      let b = solution_entry n sides rows a made t p c l in
      let o = entry-ones n c l in
      let e = ap (λ z. entry z c) end.lowest.scaled in
      let f : (t.denominator *ℤ pos 1) +ℤ entry (basic_solution n t) c ≡ pos (suc end.lowest.divisor) *ℤ entry w c = rw (← o) (simp entries at e) in
      one_at_least end.lowest.divisor t.denominator (entry (basic_solution n t) c) (entry w c) (kept n sides rows a made t p).positive
      (rw b (value_nonnegative n sides rows a made t p c)) (sym f);
  rows_columns = a;
  rows_weight = all_from (λ row. weight w row ≡ pos 0) rows product;
}
  where
    sides : List ℤ
    sides = balancing_sides n rows

    columns : length w ≡ n
    columns =
        let e = ap length end.lowest.scaled in
        let b = solution_columns n (balancing_sides n rows) rows a made t p in
        omega (arith, lengths, e, b, length-replicate n (pos 1))

    product : (i : ℕ) → i < length rows → weight w (get_or rows i []) ≡ pos 0
    product i l =
        let row = get_or rows i [] in
        let d = t.denominator in
        let s = solves_sides n (balancing_sides n rows) rows a made t p end.feasible i l in
        let e = ap (λ z. weight z row) end.lowest.scaled in
        let k = weight-scale_left (pos (suc end.lowest.divisor)) w row in
        let m = weight-add_left (scale d (ones n)) (basic_solution n t) row in
        let o = weight-scale_left d (ones n) row in
        let b = ap (λ z. d *ℤ z) (balancing_side n rows i l) in
        cancel (pos (suc end.lowest.divisor)) (weight w row) (pos 0) (omega (arith, ints))
        (omega (arith, ints, s, e, k, m, o, b, *ℤ-neg_ℤ d (weight (ones n) row), *ℤ-zero (pos (suc end.lowest.divisor))))
