-- Each source is a grading of the lattice's rows.
use Rattle.std.proofs.Common.{◌≡◌, ℕ, ◌*◌, List, [], ◌∷◌, length, get_or, All, ap, ◌∙◌, refl, arith, ℤ, pos, ◌≤ℤ◌}
use lib.IntN.{*ℤ_comm}
use Rattle.std.proofs.lemmas.Int.{ints}
use Rattle.std.proofs.lemmas.List.{length-replicate}
use Rattle.std.proofs.lemmas.List.Elements.{All-head, All-tail, All-replicate, All-filter, All-weaker, All-get_or}
use Rattle.mk_model.specs.Vectors.{zeros, add, weight}
use Rattle.mk_model.specs.Lattices.{ones}
use Rattle.mk_model.specs.Tables.{Grid, rows_of}
use Rattle.mk_model.specs.ChosenGradings.{IsGradingOf, IsColumnWeight, IsOrthogonal, FitsMatrix, FitsGrade, nonnegative_rows, sum_of_rows, matrix_sum}
use Rattle.mk_model.proofs.VectorAlgebra.{weight-add, weight-zeros}
use Rattle.mk_model.proofs.TableRows.{rows_columns}
use Rattle.mk_grading.proofs.RowsSummed.{is_nonnegative}

weight_comm : (x y : List ℤ) → weight x y ≡ weight y x
unfolding weight
weight_comm [] [] = refl
weight_comm [] (b ∷ y) = refl
weight_comm (a ∷ x) [] = refl
weight_comm (a ∷ x) (b ∷ y) = omega (arith, ints, weight_comm x y, *ℤ_comm a b)

-- where each row has product 0 with x, so has their sum
sum_of_rows-weight : (n : ℕ) (rows : List (List ℤ)) (x : List ℤ) → All (λ row. weight row x ≡ pos 0) rows → weight (sum_of_rows n rows) x ≡ pos 0
unfolding sum_of_rows
sum_of_rows-weight n [] x h = weight_comm (zeros n) x ∙ weight-zeros x n
sum_of_rows-weight n (row ∷ rows) x h =
    let first = All-head (λ row. weight row x ≡ pos 0) row rows h in
    let others = sum_of_rows-weight n rows x (All-tail (λ row. weight row x ≡ pos 0) row rows h) in
    omega (arith, ints, weight_comm (add row (sum_of_rows n rows)) x, weight-add x row (sum_of_rows n rows), weight_comm row x, weight_comm (sum_of_rows n rows) x, first, others)

module _ (lat : Grid) (filled : length lat.entries ≡ lat.rows * lat.columns) where
  graded : (w : List ℤ) → length w ≡ lat.columns → All (λ k. pos 1 ≤ℤ k) w → IsOrthogonal lat w → IsGradingOf lat w
  graded w columns positive products = record {
    columns = columns;
    positive = λ c l. All-get_or (λ k. pos 1 ≤ℤ k) w c (pos 0) (omega (arith, columns)) positive;
    rows_columns = rows_columns lat filled;
    rows_weight = products;
  }

  pub graded_by_ones : IsOrthogonal lat (ones lat.columns) → IsGradingOf lat (ones lat.columns)
  graded_by_ones products =
      graded (ones lat.columns) (length-replicate lat.columns (pos 1)) (All-replicate (λ k. pos 1 ≤ℤ k) lat.columns (pos 1) (omega (arith, ints))) products

  pub graded_by_grade : (grade : Grid) → length grade.entries ≡ grade.rows * grade.columns → FitsGrade lat grade → IsGradingOf lat grade.entries
  graded_by_grade grade all fits =
      graded grade.entries (omega (arith, all, ap (λ n. n * grade.columns) fits.shape.rows, fits.shape.columns)) fits.positive fits.products

  pub graded_by_sum : (matrix : Grid) → FitsMatrix lat matrix → length (matrix_sum matrix) ≡ matrix.columns → All IsColumnWeight (matrix_sum matrix) → IsGradingOf lat (matrix_sum matrix)
  graded_by_sum matrix fits columns weights =
      graded (matrix_sum matrix) (columns ∙ fits.columns) (All-weaker IsColumnWeight (λ k. pos 1 ≤ℤ k) (λ k h. h.0) (matrix_sum matrix) weights) products
    where
      products : IsOrthogonal lat (matrix_sum matrix)
      products k d l =
          sum_of_rows-weight matrix.columns (nonnegative_rows (rows_of matrix)) (get_or (rows_of lat) k d)
          (All-filter is_nonnegative (λ row. weight row (get_or (rows_of lat) k d) ≡ pos 0) (rows_of matrix) (λ i e m. fits.products i e m k d l))
