-- Where a column enters, some row has an entry above 0 there: else a nonnegative vector would solve the rows at a cost
-- below 0, and such a cost is a sum of its further columns.
use Rattle.std.proofs.Common.{◌≡◌, ◌==◌, ℕ, ◌+◌, ◌<◌, if◌then◌else◌, List, [], length, get_or, ℤ, pos, ◌-ℤ◌, ◌*ℤ◌, neg_ℤ, ◌≤ℤ◌, arith, ap, refl, sym, ◌∙◌}
use Rattle.std.proofs.lemmas.Int.{ints}
use lib.IntN.{*ℤ-zero, *ℤ_comm}
use Rattle.std.proofs.lemmas.List.{get_or_append_left}
use Rattle.mk_model.specs.Vectors.{entry, zeros, negate}
use Rattle.mk_model.specs.Lattices.{combination}
use Rattle.mk_model.specs.Tableaux.{Tableau, tableau_row, sided, sided_rows, first_row, first_tableau, IsEntering, Pivots, basic_value}
use Rattle.mk_model.proofs.VectorAlgebra.{entry-negate, length-negate}
use Rattle.mk_model.proofs.LatticeLaws.{AllColumns, length-combination}
use Rattle.mk_model.proofs.Integers.{one-*ℤ}
use Rattle.mk_model.proofs.ExactPivots.{cancel}
use Rattle.mk_model.proofs.Products.{dot, dot-same, dot-none, dot-row, dot-split, dot-unit, dot-put, dot_comm, dot-of_combination, sum_nonnegative}
use Rattle.mk_model.proofs.TableauShapes.{Keeps, kept, height-first_rows, columns-sided_rows}
use Rattle.mk_model.proofs.TableauBases.{Based, based_after, row_first, first_row-lattice, first_row-further, costs_further, at_itself, at_another}
use Rattle.mk_model.proofs.BasicSolutions.{Solves, solves_first, costs_later, row_value, costs_value, value_here, value_there}
use Rattle.mk_model.proofs.GradedEnds.{value_has}
use Rattle.mk_model.proofs.ForbiddingEnds.{sided_rows-at, length-sided_rows}

module _ (n : ℕ) (sides : List ℤ) (rows : List (List ℤ)) (a : AllColumns n rows) (made : ℕ) (t : Tableau) (p : Pivots n sides rows made t)
    (e : ℕ) (entering : IsEntering n t e) where
  keeps : Keeps n (length rows) t
  keeps = kept n sides rows a made t p

  based : Based n (length rows) t
  based = based_after n sides rows a made t p

  -- the entering column raised by the denominator, and the bases lowered to match
  raised : ℕ → ℤ
  raised c = (if e == c then t.denominator else pos 0) -ℤ basic_value e t.rows t.bases c

  only : ℕ → ℤ
  only c = if e == c then t.denominator else pos 0

  values : ℕ → ℤ
  values c = basic_value e t.rows t.bases c

  inside : e < n + length rows
  inside = let w = entering.within in omega arith

  raised_product : (u : ℕ → ℤ) → dot (n + length rows) u raised ≡ (u e *ℤ t.denominator) -ℤ dot (n + length rows) u values
  unfolding raised only values
  raised_product u =
      let all = n + length rows in
      let d = t.denominator in
      let one = dot-put all e d u (λ c. pos 0) only inside (value_here e e d (pos 0) refl) refl (λ c h. value_there e c d (pos 0) (λ s. h (sym s))) in
      let none = dot-none all u (λ c. pos 0) (λ c l. *ℤ-zero (u c)) in
      let r = dot-row all (pos 1) (pos 1) (pos 1) raised only values u (λ c l. omega (arith, ints)) in
      omega (arith, ints, one, none, r, dot_comm all raised u, dot_comm all only u, dot_comm all values u)

  raised_solves : Solves (n + length rows) t raised
  unfolding values
  raised_solves = record {
    product = λ i l.
        let v = row_value n (length rows) t keeps based e i (rw (← keeps.height) l) in
        omega (arith, ints, raised_product (entry (tableau_row t i)), v, *ℤ_comm (entry (tableau_row t i) e) t.denominator);
  }

  raised_cost : dot (n + length rows) (entry t.costs) raised ≡ t.denominator *ℤ entry t.costs e
  unfolding values
  raised_cost =
      omega (arith, ints, raised_product (entry t.costs), costs_value n (length rows) t keeps based e, *ℤ_comm (entry t.costs e) t.denominator)

  solves : Solves (n + length rows) (first_tableau n sides rows) raised
  solves = solves_first n sides rows a (n + length rows) raised (omega arith) made t p raised_solves

  -- a first row's product with it
  signed : ℕ → List ℤ
  signed k = sided (entry sides k) (get_or rows k [])

  by_further : (i : ℕ) → i < length rows → dot n (entry (signed i)) raised ≡ neg_ℤ (raised (n + i))
  unfolding signed
  by_further i l =
      let row = get_or rows i [] in
      let side = entry sides i in
      let m = length rows in
      let columns : length row ≡ n = a i [] l in
      let f = first_row m i side row in
      let zero_there = solves.product i (rw (height-first_rows (length rows) 0 sides rows) l) in
      let here : dot (n + m) (entry f) raised ≡ pos 0 = rw (row_first n sides rows a i l) at zero_there in
      let k = dot-split n m (n + m) (entry f) raised (λ c. entry f (n + c)) (λ c. raised (n + c)) refl (λ c. refl) (λ c. refl) in
      let g = dot-same n (entry f) (entry (sided side row)) raised raised (first_row-lattice n m i side row columns) (λ c q. refl) in
      let u = dot-same m (λ c. entry f (n + c)) (λ c. if c == i then pos 1 else pos 0) (λ c. raised (n + c)) (λ c. raised (n + c)) (first_row-further n m i side row columns) (λ c q. refl) in
      let o = dot_comm m (λ c. if c == i then pos 1 else pos 0) (λ c. raised (n + c)) in
      let w = dot-unit m i (λ c. raised (n + c)) (λ c. if c == i then pos 1 else pos 0) l (at_itself i i refl) (λ c q. at_another c i q) in
      omega (arith, ints, here, k, g, u, o, w)

  first_cost : dot (n + length rows) (entry (first_tableau n sides rows).costs) raised ≡ dot (length rows) (λ k. pos 1) (λ k. raised (n + k))
  unfolding signed
  first_cost =
      let m = length rows in
      let comb = combination n (λ i. pos 1) (sided_rows sides rows) in
      let costs = (first_tableau n sides rows).costs in
      let long : length comb ≡ n = length-combination n (λ i. pos 1) (sided_rows sides rows) (columns-sided_rows n sides rows a) in
      let k = dot-split n m (n + m) (entry costs) raised (λ c. pos 0) (λ c. raised (n + c)) refl (costs_further n sides rows a) (λ c. refl) in
      let none = dot-none m (λ c. pos 0) (λ c. raised (n + c)) (λ c l. *ℤ_comm (pos 0) (raised (n + c)) ∙ *ℤ-zero (raised (n + c))) in
      let minus = dot-row n (pos 1) (pos 0) (pos 1) (entry costs) (λ c. pos 0) (entry comb) raised (λ c l.
      omega (arith, ints, get_or_append_left (negate comb) (zeros m) (pos 0) c (rw (length-negate comb, long) l), entry-negate comb c)) in
      let b = dot-of_combination n (λ i. pos 1) (sided_rows sides rows) raised in
      let h : dot (length (sided_rows sides rows)) (λ i. pos 1) (λ k. dot n (entry (get_or (sided_rows sides rows) k [])) raised) ≡ dot m (λ i. pos 1) (λ k. dot n (entry (get_or (sided_rows sides rows) k [])) raised) = ap (λ q. dot q (λ i. pos 1) (λ k. dot n (entry (get_or (sided_rows sides rows) k [])) raised)) (length-sided_rows sides rows) in
      let s = dot-same m (λ i. pos 1) (λ i. pos 1) (λ k. dot n (entry (get_or (sided_rows sides rows) k [])) raised) (λ k. neg_ℤ (raised (n + k))) (λ c q. refl)
      (λ c q. ap (λ r. dot n (entry r) raised) (sided_rows-at sides rows c q) ∙ by_further c q) in
      let back = dot-row m (pos 1) (pos 0) (pos 1) (λ k. neg_ℤ (raised (n + k))) (λ k. pos 0) (λ k. raised (n + k)) (λ k. pos 1) (λ c l. omega (arith, ints)) in
      let x = dot_comm m (λ k. pos 1) (λ k. neg_ℤ (raised (n + k))) in
      let y = dot_comm m (λ k. pos 1) (λ k. raised (n + k)) in
      omega (arith, ints, k, none, minus, b, h, s, back, x, y)

  -- were no entry of the entering column above 0, the further columns would be at least 0
  further_raised : ((i : ℕ) → i < length t.rows → entry (tableau_row t i) e ≤ℤ pos 0) → (k : ℕ) → pos 0 ≤ℤ raised (n + k)
  unfolding raised
  further_raised h k =
      let w = entering.within in
      let v = value_has (λ z. z ≤ℤ pos 0) e t.rows t.bases (n + k) (omega (arith, ints)) (λ i l q s. h i l) in
      let o = value_there e (n + k) t.denominator (pos 0) (λ s. absurd (omega arith)) in
      omega (arith, ints, v, o)

  pub some_above : ¬ ((i : ℕ) → i < length t.rows → entry (tableau_row t i) e ≤ℤ pos 0)
  some_above h =
      let m = length rows in
      let z = dot m (λ k. pos 1) (λ k. raised (n + k)) in
      let later = costs_later n sides rows a (n + m) raised (omega arith) z (first_cost ∙ sym (one-*ℤ z)) made t p solves in
      let same = cancel t.denominator (entry t.costs e) z keeps.positive (sym raised_cost ∙ later) in
      let s = sum_nonnegative m (λ k. raised (n + k)) (λ k l. further_raised h k) in
      absurd (omega (arith, ints, same, s, entering.below))
