-- Where no column can enter a tableau that is not feasible, its costs are a combination of the rows that forbids a
-- solution.
use Rattle.std.proofs.Common.{◌≡◌, ◌==◌, ◌⊎◌, inl, inr, ℕ, zero, suc, ◌+◌, ◌-◌, ◌<◌, ◌≤◌, nat_lt, Bool, true, false, if◌then◌else◌, List, [], ◌∷◌, length, get_or, ℤ, pos, negsuc, ◌+ℤ◌, ◌-ℤ◌, ◌*ℤ◌, neg_ℤ, ◌≤ℤ◌, ◌<ℤ◌, int_lt, arith, ap, refl, sym, ◌∙◌, subst}
use Rattle.std.proofs.lemmas.Int.{ints, by_lt_z}
use Rattle.std.proofs.lemmas.Bool.{cases_lt}
use Rattle.std.proofs.lemmas.Bool.Decides.{nat_tests}
use Rattle.std.proofs.lemmas.List.{get_or_past, get_or_append_left}
use Rattle.std.proofs.lemmas.List.FromFn.{length-map-range_with_len, get_or-map-range_with_len}
use lib.IntN.{*ℤ-zero, *ℤ_comm}
use Rattle.mk_model.specs.Vectors.{entry, zeros, negate, weight}
use Rattle.mk_model.specs.Lattices.{HasGrading, lattice_of, combination, ones}
use Rattle.mk_model.specs.Tableaux.{Tableau, tableau_row, base_of, sided, sided_rows, first_row, first_tableau, balancing_sides, IsFeasible, Pivots, IsForbiddingEnd, basic_value, basic_solution, forbidding_factor}
use Rattle.mk_model.proofs.VectorAlgebra.{length-scale, entry-scale, entry-negate, length-negate, same_vectors}
use Rattle.mk_model.proofs.LatticeLaws.{AllColumns, length-combination, InLattice-weight}
use Rattle.mk_model.proofs.Integers.{*ℤ-neg_ℤ, one-*ℤ, product_at_least}
use Rattle.mk_model.proofs.Minors.{less-*ℤ}
use Rattle.mk_model.proofs.ExactPivots.{cancel}
use Rattle.mk_model.proofs.Products.{dot, dot-same, dot-products, dot-none, dot-row, dot-split, dot-unit, dot_comm, weight-dot, entry-combination, weight-of_combination, sum_nonnegative, sum_zero}
use Rattle.mk_model.proofs.TableauShapes.{Keeps, kept, height-first_rows, columns-sided_rows}
use Rattle.mk_model.proofs.TableauBases.{Based, based_after, row_first, first_row-lattice, first_row-further, costs_further, not_below, at_itself, at_another, nonnegative_from_product}
use Rattle.mk_model.proofs.BasicSolutions.{Solves, costs_later, value_at_base, costs_value, bases_apart}
use Rattle.mk_model.proofs.GradedEnds.{value, first_row_value, solution_weight, value_nonnegative, balancing_side}

pub sided_rows-at : (sides : List ℤ) (rows : List (List ℤ)) (k : ℕ) → k < length rows → get_or (sided_rows sides rows) k [] ≡ sided (entry sides k) (get_or rows k [])
sided_rows-at sides [] k l = absurd (omega arith)
sided_rows-at [] (row ∷ rows) zero l = refl
sided_rows-at [] (row ∷ rows) (suc k) l = sided_rows-at [] rows k (omega arith)
sided_rows-at (side ∷ sides) (row ∷ rows) zero l = refl
sided_rows-at (side ∷ sides) (row ∷ rows) (suc k) l = sided_rows-at sides rows k (omega arith)

pub length-sided_rows : (sides : List ℤ) (rows : List (List ℤ)) → length (sided_rows sides rows) ≡ length rows
length-sided_rows sides [] = refl
length-sided_rows [] (row ∷ rows) = ap suc (length-sided_rows [] rows)
length-sided_rows (side ∷ sides) (row ∷ rows) = ap suc (length-sided_rows sides rows)

module _ (n : ℕ) (sides : List ℤ) (rows : List (List ℤ)) (a : AllColumns n rows) (made : ℕ) (t : Tableau) (p : Pivots n sides rows made t) where
  keeps : Keeps n (length rows) t
  keeps = kept n sides rows a made t p

  based : Based n (length rows) t
  based = based_after n sides rows a made t p

  -- the rows as they stand in the first tableau
  signed : ℕ → List ℤ
  signed k = sided (entry sides k) (get_or rows k [])

  -- the cost of a row's further column
  further : ℕ → ℤ
  further k = entry t.costs (n + k)

  factor : ℕ → ℤ
  factor k = entry t.costs (n + k) -ℤ t.denominator

  -- a column of the lattice by the further ones
  module _ (j : ℕ) (within : j < n) where
    direction : ℕ → ℤ
    direction c = if nat_lt c n then (if c == j then pos 1 else pos 0) else neg_ℤ (entry (sided (entry sides (c - n)) (get_or rows (c - n) [])) j)

    choice : (b : Bool) (x y : ℤ) → b ≡ true → (if b then x else y) ≡ x
    choice true x y e = refl
    choice false x y e = cc

    other_choice : (b : Bool) (x y : ℤ) → b ≡ false → (if b then x else y) ≡ y
    other_choice true x y e = cc
    other_choice false x y e = refl

    direction_low : (c : ℕ) → c < n → direction c ≡ (if c == j then pos 1 else pos 0)
    unfolding direction
    direction_low c l = choice (nat_lt c n) _ _ (grind (arith, nat_tests))

    direction_high : (c : ℕ) → direction (n + c) ≡ neg_ℤ (entry (signed c) j)
    unfolding direction signed
    direction_high c =
        let e : (n + c) - n ≡ c = omega arith in
        other_choice (nat_lt (n + c) n) _ _ (grind (arith, nat_tests)) ∙ ap (λ k. neg_ℤ (entry (sided (entry sides k) (get_or rows k [])) j)) e

    -- the product of a row with the direction
    along : (u v : ℕ → ℤ) → ((c : ℕ) → u (n + c) ≡ v c) → dot (n + length rows) u direction ≡ u j +ℤ dot (length rows) v (λ k. neg_ℤ (entry (signed k) j))
    along u v h =
        let s = dot-split n (length rows) (n + length rows) u direction v (λ k. neg_ℤ (entry (signed k) j)) refl h direction_high in
        let b = dot-same n u u direction (λ c. if c == j then pos 1 else pos 0) (λ c l. refl) direction_low in
        let o = dot-unit n j u (λ c. if c == j then pos 1 else pos 0) within (at_itself j j refl) (λ c q. at_another c j q) in
        omega (arith, ints, s, b, o)

    direction_solves : Solves (n + length rows) (first_tableau n sides rows) direction
    unfolding signed
    direction_solves = record { product = λ i l. go i (rw (← height-first_rows (length rows) 0 sides rows) l) }
      where
        go : (i : ℕ) → i < length rows → dot (n + length rows) (entry (tableau_row (first_tableau n sides rows) i)) direction ≡ pos 0
        go i l =
            let row = get_or rows i [] in
            let side = entry sides i in
            let m = length rows in
            let columns : length row ≡ n = a i [] l in
            let f = first_row m i side row in
            let s = along (entry f) (λ c. entry f (n + c)) (λ c. refl) in
            let x = first_row-lattice n m i side row columns j within in
            let u = dot-same m (λ c. entry f (n + c)) (λ c. if c == i then pos 1 else pos 0) (λ k. neg_ℤ (entry (signed k) j)) (λ k. neg_ℤ (entry (signed k) j)) (first_row-further n m i side row columns) (λ c q. refl) in
            let o = dot_comm m (λ c. if c == i then pos 1 else pos 0) (λ k. neg_ℤ (entry (signed k) j)) in
            let w = dot-unit m i (λ k. neg_ℤ (entry (signed k) j)) (λ c. if c == i then pos 1 else pos 0) l (at_itself i i refl) (λ c q. at_another c i q) in
            rw (row_first n sides rows a i l) (omega (arith, ints, s, x, u, o, w))

    -- the first cost
    first_cost : entry (first_tableau n sides rows).costs j ≡ neg_ℤ (dot (length rows) (λ k. pos 1) (λ k. entry (signed k) j))
    unfolding signed
    first_cost =
        let comb = combination n (λ i. pos 1) (sided_rows sides rows) in
        let l : length comb ≡ n = length-combination n (λ i. pos 1) (sided_rows sides rows) (columns-sided_rows n sides rows a) in
        let e = entry-combination n (λ i. pos 1) (sided_rows sides rows) j in
        let s = dot-same (length rows) (λ k. pos 1) (λ k. pos 1) (λ k. entry (get_or (sided_rows sides rows) k []) j) (λ k. entry (signed k) j) (λ c q. refl) (λ c q. ap (λ r. entry r j) (sided_rows-at sides rows c q)) in
        get_or_append_left (negate comb) (zeros (length rows)) (pos 0) j (rw (length-negate comb, l) within) ∙ entry-negate comb j
        ∙ ap neg_ℤ (e ∙ ap (λ m. dot m (λ k. pos 1) (λ k. entry (get_or (sided_rows sides rows) k []) j)) (length-sided_rows sides rows) ∙ s)

    cost_column : entry t.costs j ≡ dot (length rows) factor (λ k. entry (signed k) j)
    unfolding factor further
    cost_column =
        let m = length rows in
        let d = t.denominator in
        let z = entry (first_tableau n sides rows).costs j in
        let zero_costs = dot-none m (λ c. pos 0) (λ k. neg_ℤ (entry (signed k) j)) (λ c l. *ℤ_comm (pos 0) (neg_ℤ (entry (signed c) j)) ∙ *ℤ-zero (neg_ℤ (entry (signed c) j))) in
        let s = along (entry (first_tableau n sides rows).costs) (λ c. pos 0) (costs_further n sides rows a) in
        let e : dot (n + m) (entry (first_tableau n sides rows).costs) direction ≡ pos 1 *ℤ z = omega (arith, ints, s, zero_costs) in
        let r = costs_later n sides rows a (n + m) direction (omega arith) z e made t p direction_solves in
        let q = along (entry t.costs) further (λ c. refl) in
        let ones_of = dot m (λ k. pos 1) (λ k. entry (signed k) j) in
        let minus = dot-row m (pos 1) (pos 0) (pos 1) (λ k. neg_ℤ (entry (signed k) j)) (λ k. pos 0) (λ k. entry (signed k) j) further (λ c l. omega (arith, ints)) in
        let o = dot_comm m further (λ k. neg_ℤ (entry (signed k) j)) in
        let o2 = dot_comm m further (λ k. entry (signed k) j) in
        let parts = dot-row m (pos 1) (pos 1) d factor further (λ k. pos 1) (λ k. entry (signed k) j) (λ c l. omega (arith, ints)) in
        let f = ap (λ w. d *ℤ w) first_cost in
        omega (arith, ints, r, q, minus, o, o2, parts, f, *ℤ-neg_ℤ d ones_of)

  -- the factors of the rows as they were given
  signs : (side : ℤ) (row : List ℤ) (c d : ℤ) (j : ℕ) →
      ((c -ℤ d) *ℤ entry (sided side row) j) ≡ (if int_lt side (pos 0) then d -ℤ c else c -ℤ d) *ℤ entry row j
  signs (pos k) row c d j = rw (not_below k) refl
  signs (negsuc k) row c d j =
      let r = entry row j in
      rw (entry-negate row j) (omega (arith, ints, *ℤ-neg_ℤ (c -ℤ d) r, less-*ℤ c d r, less-*ℤ d c r))

  factor_of_entry : (k j : ℕ) → factor k *ℤ entry (signed k) j ≡ forbidding_factor n sides t k *ℤ entry (get_or rows k []) j
  unfolding factor signed
  factor_of_entry k j = signs (entry sides k) (get_or rows k []) (entry t.costs (n + k)) t.denominator j

  factor_of_side : (k : ℕ) → factor k *ℤ entry (sided (entry sides k) (entry sides k ∷ [])) 0 ≡ forbidding_factor n sides t k *ℤ entry sides k
  unfolding factor
  factor_of_side k = signs (entry sides k) (entry sides k ∷ []) (entry t.costs (n + k)) t.denominator 0

  pub cost_combined : (j : ℕ) → j < n → entry t.costs j ≡ dot (length rows) (forbidding_factor n sides t) (λ k. entry (get_or rows k []) j)
  cost_combined j l = cost_column j l ∙ dot-products (length rows) factor (forbidding_factor n sides t) (λ k. entry (signed k) j) (λ k. entry (get_or rows k []) j) (λ k q. factor_of_entry k j)

  -- ---- the right sides, combined
  rest : ℕ → ℤ
  rest k = value n sides rows a made t p (n + k)

  absolute : ℕ → ℤ
  absolute k = entry (sided (entry sides k) (entry sides k ∷ [])) 0

  -- the costs' product with the basic solution, column by column and row by row
  costs_product : dot n (entry t.costs) (value n sides rows a made t p) ≡ dot (length rows) factor (λ k. (t.denominator *ℤ absolute k) -ℤ rest k)
  unfolding absolute rest signed
  costs_product =
      let m = length rows in
      let v = value n sides rows a made t p in
      let comb = combination n factor (sided_rows sides rows) in
      let columns = λ (c : ℕ) (l : c < n). cost_column c l ∙ sym (entry-combination n factor (sided_rows sides rows) c
      ∙ ap (λ k. dot k factor (λ k. entry (get_or (sided_rows sides rows) k []) c)) (length-sided_rows sides rows)
      ∙ dot-same m factor factor (λ k. entry (get_or (sided_rows sides rows) k []) c) (λ k. entry (signed k) c) (λ k q. refl) (λ k q. ap (λ r. entry r c) (sided_rows-at sides rows k q))) in
      dot-same n (entry t.costs) (entry comb) v v columns (λ c l. refl)
      ∙ sym (solution_weight n sides rows a made t p comb)
      ∙ weight-of_combination (basic_solution n t) n factor (sided_rows sides rows)
      ∙ ap (λ k. dot k factor (λ k. weight (basic_solution n t) (get_or (sided_rows sides rows) k []))) (length-sided_rows sides rows)
      ∙ dot-same m factor factor (λ k. weight (basic_solution n t) (get_or (sided_rows sides rows) k [])) (λ k. (t.denominator *ℤ absolute k) -ℤ rest k) (λ k q. refl)
      (λ k q. ap (weight (basic_solution n t)) (sided_rows-at sides rows k q) ∙ solution_weight n sides rows a made t p (signed k)
      ∙ omega (arith, ints, first_row_value n sides rows a made t p k q))

  sides_combined : dot (length rows) (forbidding_factor n sides t) (entry sides) ≡ neg_ℤ (dot (length rows) (λ k. pos 1) rest)
  unfolding factor further rest value absolute
  sides_combined =
      let m = length rows in
      let d = t.denominator in
      let v = value n sides rows a made t p in
      let none = costs_value n m t keeps based (n + m) in
      let split = dot-split n m (n + m) (entry t.costs) v further rest refl (λ c. refl) (λ c. refl) in
      let one = costs_product in
      let two = dot_comm m factor (λ k. (d *ℤ absolute k) -ℤ rest k) in
      let three = dot-row m (pos 1) d (pos 1) (λ k. (d *ℤ absolute k) -ℤ rest k) absolute rest factor (λ c l. omega (arith, ints)) in
      let four = dot_comm m absolute factor in
      let five = dot_comm m rest factor in
      let six = dot-row m (pos 1) (pos 1) d factor further (λ k. pos 1) rest (λ c l. omega (arith, ints)) in
      let sum = dot m (λ k. pos 1) rest in
      let all = dot m factor absolute in
      dot-products m (forbidding_factor n sides t) factor (entry sides) absolute (λ k q. sym (factor_of_side k))
      ∙ cancel d all (neg_ℤ sum) keeps.positive (omega (arith, ints, none, split, one, two, three, four, five, six, *ℤ-neg_ℤ d sum, ap (λ w. d *ℤ w) four))

  rest_nonnegative : (c : ℕ) → c < length rows → pos 0 ≤ℤ rest c
  unfolding rest
  rest_nonnegative c l = value_nonnegative n sides rows a made t p (n + c)

  none_left_is_feasible : dot (length rows) (λ k. pos 1) rest ≡ pos 0 → IsFeasible n t
  unfolding rest value
  none_left_is_feasible e i l b =
      let low : i < length rows = rw (← keeps.height) l in
      let w = based.within i low in
      let k : ℕ = base_of t i - n in
      let s : n + (base_of t i - n) ≡ base_of t i = omega arith in
      let z = sum_zero (length rows) rest rest_nonnegative e (base_of t i - n) (omega arith) in
      let v = value_at_base (n + length rows) t.rows t.bases i (bases_apart n (length rows) t keeps based) l (rw based.bases low) in
      ap (λ j. entry (tableau_row t i) (n + j)) keeps.height ∙ sym v ∙ sym (ap (λ c. basic_value (n + length rows) t.rows t.bases c) s) ∙ z

  pub sides_below : ¬ (IsFeasible n t) → dot (length rows) (forbidding_factor n sides t) (entry sides) <ℤ pos 0
  sides_below f =
      let s = sum_nonnegative (length rows) rest rest_nonnegative in
      by_lt_z (pos 0) (dot (length rows) (λ k. pos 1) rest) (λ h. omega (arith, ints, h, sides_combined))
      (λ h. absurd (f (none_left_is_feasible (omega (arith, ints, h, s)))))

-- ---- in lowest terms
below_from_product : (k : ℕ) (a : ℤ) → (pos (suc k) *ℤ a) <ℤ pos 0 → a <ℤ pos 0
below_from_product k (pos a) h = absurd (omega (arith, ints))
below_from_product k (negsuc a) h = omega (arith, ints)

ones_least : (w x : List ℤ) → ((c : ℕ) → c < length w → pos 1 ≤ℤ entry w c) → ((c : ℕ) → pos 0 ≤ℤ entry x c) → weight (ones (length w)) x ≤ℤ weight w x
unfolding weight
ones_least [] x h k = omega (arith, ints)
ones_least (v ∷ w) [] h k = omega (arith, ints)
ones_least (v ∷ w) (b ∷ x) h k =
    omega (arith, ints, ones_least w x (λ c l. h (suc c) (omega arith)) (λ c. k (suc c)), product_at_least v b (h 0 (omega arith)) (k 0), one-*ℤ b)

module _ (n : ℕ) (sides : List ℤ) (rows : List (List ℤ)) (a : AllColumns n rows) (made : ℕ) (t : Tableau) (p : Pivots n sides rows made t)
    (factors vector : List ℤ) (end : IsForbiddingEnd n (length rows) sides t factors vector) where
  divisor : ℤ
  divisor = pos (suc end.lowest.divisor)

  columns_of_factors : length factors ≡ length rows
  columns_of_factors =
      sym (length-scale (pos (suc end.lowest.divisor)) factors) ∙ sym (ap length end.lowest.scaled) ∙ length-map-range_with_len (forbidding_factor n sides t) 0 (length rows)

  scaled_factor : (k : ℕ) → k < length rows → forbidding_factor n sides t k ≡ divisor *ℤ entry factors k
  unfolding divisor
  scaled_factor k l =
      sym (get_or-map-range_with_len (forbidding_factor n sides t) 0 (length rows) k k (pos 0) l (omega arith))
      ∙ ap (λ x. entry x k) end.lowest.scaled ∙ entry-scale (pos (suc end.lowest.divisor)) factors k

  scaled_sum : (y : ℕ → ℤ) → divisor *ℤ dot (length rows) (entry factors) y ≡ dot (length rows) (forbidding_factor n sides t) y
  scaled_sum y =
      let m = length rows in
      let r = dot-row m divisor (pos 1) (pos 0) (entry factors) (forbidding_factor n sides t) (λ k. pos 0) y (λ c l. omega (arith, ints, scaled_factor c l)) in
      omega (arith, ints, r)

  pub vector_combined : vector ≡ combination n (entry factors) rows
  unfolding divisor
  vector_combined = same_vectors vector comb (end.columns ∙ sym long) (λ c. go c (cases_lt c n))
    where
      comb : List ℤ
      comb = combination n (entry factors) rows

      long : length (combination n (entry factors) rows) ≡ n
      long = length-combination n (entry factors) rows a

      go : (c : ℕ) → (c < n) ⊎ (n ≤ c) → entry vector c ≡ entry (combination n (entry factors) rows) c
      go c (inl l) =
          cancel (pos (suc end.lowest.divisor)) (entry vector c) (entry (combination n (entry factors) rows) c) (omega (arith, ints))
          (sym (end.costs c l) ∙ cost_combined n sides rows a made t p c l ∙ sym (scaled_sum (λ k. entry (get_or rows k []) c))
          ∙ ap (λ z. pos (suc end.lowest.divisor) *ℤ z) (sym (entry-combination n (entry factors) rows c)))
      go c (inr l) = get_or_past vector c (pos 0) (rw end.columns l) ∙ sym (get_or_past (combination n (entry factors) rows) c (pos 0) (rw long l))

  pub vector_nonnegative : (c : ℕ) → pos 0 ≤ℤ entry vector c
  vector_nonnegative c = go (cases_lt c n)
    where
      go : (c < n) ⊎ (n ≤ c) → pos 0 ≤ℤ entry vector c
      go (inl l) = nonnegative_from_product (pos (suc end.lowest.divisor)) (entry vector c) (omega (arith, ints)) (subst (λ z. pos 0 ≤ℤ z) (end.costs c l) (end.none_entering c l))
      go (inr l) = rw (get_or_past vector c (pos 0) (rw end.columns l)) (omega (arith, ints))

  pub weighed_sides : weight factors sides <ℤ pos 0
  unfolding divisor
  weighed_sides =
      rw (weight-dot (length rows) factors sides columns_of_factors)
      (below_from_product end.lowest.divisor (dot (length rows) (entry factors) (entry sides))
      (subst (λ z. z <ℤ pos 0) (sym (scaled_sum (entry sides))) (sides_below n sides rows a made t p end.infeasible)))

module _ (n : ℕ) (rows : List (List ℤ)) (a : AllColumns n rows) (made : ℕ) (t : Tableau) (p : Pivots n (balancing_sides n rows) rows made t)
    (factors vector : List ℤ) (end : IsForbiddingEnd n (length rows) (balancing_sides n rows) t factors vector) where
  pub vector_positive : pos 0 <ℤ weight (ones n) vector
  vector_positive =
      let m = length rows in
      let sides = balancing_sides n rows in
      let below = weighed_sides n sides rows a made t p factors vector end in
      let w = weight-dot m factors sides (columns_of_factors n sides rows a made t p factors vector end) in
      let e = ap (weight (ones n)) (vector_combined n sides rows a made t p factors vector end) ∙ weight-of_combination (ones n) n (entry factors) rows in
      let one = dot_comm m (entry factors) (entry sides) in
      let two = dot_comm m (entry factors) (λ k. weight (ones n) (get_or rows k [])) in
      let minus = dot-row m (pos 1) (pos 0) (pos 1) (entry sides) (λ k. pos 0) (λ k. weight (ones n) (get_or rows k [])) (entry factors) (λ c l. omega (arith, ints, balancing_side n rows c l)) in
      omega (arith, ints, below, w, e, one, two, minus)

  pub no_grading_at : (w : List ℤ) → ¬ (HasGrading (lattice_of n rows w))
  no_grading_at w g =
      let sides = balancing_sides n rows in
      let e = InLattice-weight w n rows vector g.rows_weight (entry factors, vector_combined n sides rows a made t p factors vector end) in
      let l = ones_least w vector (λ c q. g.positive c (rw (← g.columns) q)) (vector_nonnegative n sides rows a made t p factors vector end) in
      let k : weight (ones n) vector ≤ℤ weight w vector = rw g.columns at l in
      absurd (omega (arith, ints, e, k, vector_positive))
