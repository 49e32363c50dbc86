-- The sum of a row, which is its product with the grading of all ones.
use Rattle.std.proofs.Common.{◌≡◌, ℕ, zero, suc, ◌+◌, ◌-◌, ◌≤◌, ◌<◌, List, [], ◌∷◌, ◌++◌, length, map, get_or, All, refl, ap, sym, ◌∙◌, subst, arith, ℤ, pos, neg_ℤ, ◌+ℤ◌, ◌*ℤ◌}
use Rattle.std.specs.List.{flat_map, range_with_len}
use Rattle.std.proofs.lemmas.Int.{ints}
use Rattle.std.proofs.lemmas.List.{length-replicate, get_or-replicate}
use Rattle.std.proofs.lemmas.List.Elements.{All-map}
use Rattle.std.proofs.lemmas.List.FromFn.{length-range_with_len, get_or-range_with_len}
use Rattle.mk_model.specs.Vectors.{scale, weight}
use Rattle.mk_model.specs.Lattices.{ones}
use Rattle.mk_model.specs.ChosenGradings.{IsGradingOf}
use Rattle.mk_model.proofs.Integers.{*ℤ-+ℤ, one-*ℤ}
use Rattle.mk_gen.specs.Models.{neighbour_entry, times_difference, model_rows, cells, model_grid}
use Rattle.mk_gen.proofs.Rows.{All-pieces, rows_of_model, model_columns}

total : List ℤ → ℤ
total [] = pos 0
total (a ∷ x) = a +ℤ total x

weight-ones : (x : List ℤ) → weight (ones (length x)) x ≡ total x
unfolding weight total
weight-ones [] = refl
weight-ones (a ∷ x) = ap (λ z. z +ℤ weight (ones (length x)) x) (one-*ℤ a) ∙ ap (λ z. a +ℤ z) (weight-ones x)

total-append : (x y : List ℤ) → total (x ++ y) ≡ total x +ℤ total y
unfolding total
total-append [] y = omega (arith, ints)
total-append (a ∷ x) y = omega (arith, ints, total-append x y)

total-scale : (k : ℤ) (x : List ℤ) → total (scale k x) ≡ k *ℤ total x
unfolding total scale
total-scale k [] = omega (arith, ints)
total-scale k (a ∷ x) = ap (λ z. (k *ℤ a) +ℤ z) (total-scale k x) ∙ sym (*ℤ-+ℤ k a (total x))

-- ---- the entries of a difference
at_first : (s p : ℕ) → p ≡ s → neighbour_entry s p ≡ pos 1
at_first s p e = grind (arith, e)

at_second : (s p : ℕ) → p ≡ s + 1 → neighbour_entry s p ≡ neg_ℤ (pos 1)
at_second s p e = grind (arith, e)

before_both : (s p : ℕ) → p < s → neighbour_entry s p ≡ pos 0
before_both s p h = grind (arith, h)

behind_both : (s p : ℕ) → s + 1 < p → neighbour_entry s p ≡ pos 0
behind_both s p h = grind (arith, h)

-- ---- the row times the entries from a on
times_from : ℕ → List ℤ → ℕ → ℕ → List ℤ
times_from s row a n = flat_map (λ p. scale (neighbour_entry s p) row) (range_with_len a n)

one_less : (s : ℕ) (row : List ℤ) (a n : ℕ) (k : ℤ) → neighbour_entry s a ≡ k → total (times_from s row a (suc n)) ≡ (k *ℤ total row) +ℤ total (times_from s row (a + 1) n)
unfolding times_from
one_less s row a n k e =
    total-append (scale (neighbour_entry s a) row) (times_from s row (a + 1) n)
    ∙ ap (λ z. z +ℤ total (times_from s row (a + 1) n)) (total-scale (neighbour_entry s a) row ∙ ap (λ z. z *ℤ total row) e)

sum_behind : (s : ℕ) (row : List ℤ) (a n : ℕ) → s + 1 < a → total (times_from s row a n) ≡ pos 0
unfolding times_from total
sum_behind s row a zero h = refl
sum_behind s row a (suc n) h = omega (arith, ints, one_less s row a n (pos 0) (behind_both s a h), sum_behind s row (a + 1) n (omega (arith, h)))

sum_from_second : (s : ℕ) (row : List ℤ) (a n : ℕ) → a ≡ s + 1 → 0 < n → total (times_from s row a n) ≡ neg_ℤ (total row)
sum_from_second s row a zero e h = absurd (omega arith)
sum_from_second s row a (suc n) e h = omega (arith, ints, one_less s row a n (neg_ℤ (pos 1)) (at_second s a e), sum_behind s row (a + 1) n (omega (arith, e)))

sum_from_first : (s : ℕ) (row : List ℤ) (a n : ℕ) → a ≡ s → 1 < n → total (times_from s row a n) ≡ pos 0
sum_from_first s row a zero e h = absurd (omega arith)
sum_from_first s row a (suc n) e h = omega (arith, ints, one_less s row a n (pos 1) (at_first s a e), sum_from_second s row (a + 1) n (omega (arith, e)) (omega arith))

-- with d more numbers before s
sum_before : (s : ℕ) (row : List ℤ) (d a n : ℕ) → a + d ≡ s → s + 1 < a + n → total (times_from s row a n) ≡ pos 0
sum_before s row zero a n e h = sum_from_first s row a n (omega (arith, e)) (omega (arith, e, h))
sum_before s row (suc d) a zero e h = absurd (omega (arith, e, h))
sum_before s row (suc d) a (suc n) e h =
    omega (arith, ints, one_less s row a n (pos 0) (before_both s a (omega (arith, e))), sum_before s row d (a + 1) n (omega (arith, e)) (omega (arith, h)))

sum_of_times : (n s : ℕ) (row : List ℤ) → s + 1 < n → total (times_difference n s row) ≡ pos 0
unfolding times_difference times_from
sum_of_times n s row h = sum_before s row s 0 n (omega arith) (omega (arith, h))

-- ---- each row of a model has sum 0
model_sums : (n : ℕ) (sizes : List ℕ) → All (λ row. total row ≡ pos 0) (model_rows (n ∷ sizes))
unfolding model_rows
model_sums n sizes =
    All-pieces (λ row. total row ≡ pos 0) (λ s. map (times_difference n s) (model_rows sizes)) (range_with_len 0 (n - 1))
    (λ k d l. All-map (λ row. total row ≡ pos 0) (times_difference n _) (model_rows sizes)
    (λ i e j. sum_of_times n _ _ (omega (arith, l, length-range_with_len 0 (n - 1), get_or-range_with_len 0 (n - 1) k d (omega (arith, l, length-range_with_len 0 (n - 1)))))))

model_weights : (sizes : List ℕ) → 2 ≤ length sizes → All (λ row. weight (ones (cells sizes)) row ≡ pos 0) (model_rows sizes)
model_weights [] h = absurd (omega arith)
model_weights (n ∷ sizes) h =
    λ k d l.
    ap (λ m. weight (ones m) (get_or (model_rows (n ∷ sizes)) k d)) (sym (model_columns (n ∷ sizes) k d l))
    ∙ weight-ones (get_or (model_rows (n ∷ sizes)) k d) ∙ model_sums n sizes k d l

-- all ones are a grading of a model's table
pub ones_grade : (sizes : List ℕ) → 2 ≤ length sizes → IsGradingOf (model_grid sizes) (ones (cells sizes))
ones_grade sizes h = record {
  columns = length-replicate (cells sizes) (pos 1);
  positive = λ c l. omega (arith, ints, get_or-replicate (cells sizes) c (pos 1) (pos 0) l);
  rows_columns = subst (All (λ row. length row ≡ cells sizes)) (sym (rows_of_model sizes)) (model_columns sizes);
  rows_weight = subst (All (λ row. weight (ones (cells sizes)) row ≡ pos 0)) (sym (rows_of_model sizes)) (model_weights sizes h);
}
