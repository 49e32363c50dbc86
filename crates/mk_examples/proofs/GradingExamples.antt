-- The grading that is chosen, and why none is.
use Rattle.std.proofs.Common.{◌≡◌, inr, inl, List, [], ◌∷◌, None, Some, All, ℤ, pos, ◌≤ℤ◌, arith, refl}
use Rattle.std.proofs.lemmas.List.Elements.{All-nil, All-cons}
use Rattle.std.proofs.lemmas.Int.{ints}
use Rattle.mk_model.specs.Vectors.{combine, add, weight}
use Rattle.mk_model.specs.Lattices.{ones}
use Rattle.mk_model.specs.ChosenGradings.{IsColumnWeight, IsOrthogonal, sum_of_rows, IsGradeOf, HasOtherColumns, IsMatrixMismatch, HasOtherShape, IsFirstBelowOne, IsGradeMismatch, HasNoSource}
use Rattle.mk_examples.specs.Worked.{unit_move, cubic_top, cubic_bottom, cubic_table, curve_first, curve_second, curve_weights, curve_table, steep_first, steep_second, steep_weights, steep_table, worked_table}
use Rattle.mk_examples.proofs.SmallVectors.{all_two}

pub by_ones : IsGradeOf cubic_table None None (ones 4)
unfolding weight
by_ones = record {
  matrix_fits = tt;
  grade_fits = tt;
  source = inl (all_two (λ row. weight (ones 4) row ≡ pos 0) cubic_top cubic_bottom refl refl, refl);
}

pub by_grade : IsGradeOf steep_table None (Some (worked_table 1 3 steep_weights)) steep_weights
unfolding weight
by_grade = record {
  matrix_fits = tt;
  grade_fits = record {
    shape = record { rows = refl; columns = refl };
    positive = All-cons (λ k. pos 1 ≤ℤ k) (pos 3) (pos 4 ∷ pos 5 ∷ []) (omega (arith, ints))
        (All-cons (λ k. pos 1 ≤ℤ k) (pos 4) (pos 5 ∷ []) (omega (arith, ints))
        (All-cons (λ k. pos 1 ≤ℤ k) (pos 5) [] (omega (arith, ints)) (All-nil (λ k. pos 1 ≤ℤ k))));
    products = all_two (λ row. weight steep_weights row ≡ pos 0) steep_first steep_second refl refl;
  };
  source = refl;
}

pub by_sum : IsGradeOf curve_table (Some (worked_table 1 3 curve_weights)) None curve_weights
unfolding weight combine add sum_of_rows
by_sum = record {
  matrix_fits = record {
    columns = refl;
    products = All-cons (IsOrthogonal curve_table) curve_weights []
        (all_two (λ row. weight curve_weights row ≡ pos 0) curve_first curve_second refl refl) (All-nil (IsOrthogonal curve_table));
  };
  grade_fits = tt;
  source = inr ((0, curve_first, omega arith, refl, λ e. omega (arith, ints, e)), (weights, refl));
}
  where
    weights : All IsColumnWeight curve_weights
    weights =
        All-cons IsColumnWeight (pos 1) (pos 2 ∷ pos 3 ∷ []) (omega (arith, ints), omega (arith, ints))
        (All-cons IsColumnWeight (pos 2) (pos 3 ∷ []) (omega (arith, ints), omega (arith, ints))
        (All-cons IsColumnWeight (pos 3) [] (omega (arith, ints), omega (arith, ints)) (All-nil IsColumnWeight)))

-- ---- why none is chosen
pub no_source : HasNoSource (worked_table 1 2 (pos 1 ∷ pos 1 ∷ [])) None None
unfolding weight
no_source = record { no_grade = refl; not_ones = (0, pos 1 ∷ pos 1 ∷ [], omega arith, refl, λ e. omega (arith, ints, e)); no_sum = tt }

pub other_columns : HasOtherColumns cubic_table (worked_table 1 3 curve_weights) 3 4
other_columns = record { of_matrix = refl; of_lattice = refl; other = λ e. omega (arith, e) }

pub matrix_mismatch : IsMatrixMismatch cubic_table (worked_table 1 4 (pos 1 ∷ pos 2 ∷ pos 3 ∷ pos 5 ∷ [])) 0 1 (pos 1)
unfolding weight
matrix_mismatch = record {
  columns = refl;
  row = row;
  at = refl;
  product = record {
    row = cubic_bottom;
    at = refl;
    product = refl;
    nonzero = λ e. omega (arith, ints, e);
    before = All-cons (λ u. weight row u ≡ pos 0) cubic_top [] refl (All-nil (λ u. weight row u ≡ pos 0));
  };
  before = All-nil (IsOrthogonal cubic_table);
}
  where
    row : List ℤ
    row = pos 1 ∷ pos 2 ∷ pos 3 ∷ pos 5 ∷ []

pub other_shape : HasOtherShape (worked_table 1 2 unit_move) (worked_table 1 3 (ones 3)) 1 3 2
other_shape = record { rows_of_grade = refl; columns_of_grade = refl; of_lattice = refl; other = inr (λ e. omega (arith, e)) }

pub below_one : IsFirstBelowOne (worked_table 1 2 unit_move) (worked_table 1 2 (pos 0 ∷ pos 1 ∷ [])) 0 (pos 0)
below_one = record {
  shape = record { rows = refl; columns = refl };
  at = refl;
  below = omega (arith, ints);
  before = All-nil (λ k. pos 1 ≤ℤ k);
}

pub grade_mismatch : IsGradeMismatch (worked_table 1 2 (pos 1 ∷ pos 1 ∷ [])) (worked_table 1 2 (ones 2)) 0 (pos 2)
unfolding weight
grade_mismatch = record {
  shape = record { rows = refl; columns = refl };
  positive = All-cons (λ k. pos 1 ≤ℤ k) (pos 1) (pos 1 ∷ []) (omega (arith, ints))
      (All-cons (λ k. pos 1 ≤ℤ k) (pos 1) [] (omega (arith, ints)) (All-nil (λ k. pos 1 ≤ℤ k)));
  product = record {
    row = pos 1 ∷ pos 1 ∷ [];
    at = refl;
    product = refl;
    nonzero = λ e. omega (arith, ints, e);
    before = All-nil (λ u. weight (ones 2) u ≡ pos 0);
  };
}
