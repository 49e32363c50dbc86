-- The grading that is chosen for a lattice, beside which a matrix and a grade may stand, and why none is. The 4ti2 manual
-- has the matrix, whose rows have product 0 with each vector of the lattice.
use Rattle.std.specs.Prelude.{◌≡◌, ◌≢◌, ◌⊎◌, ℕ, not, List, [], ◌∷◌, take, filter, slice_get, All, Any, Option, Some, None, IfSome}
use Rattle.std.specs.Prelude.{IsSomeAnd, ℤ, pos, neg_ℤ, ◌≤ℤ◌, ◌<ℤ◌}
use Rattle.std.specs.List.{list_all}
use Rattle.std.specs.Int.{is_negative}
use Rattle.mk_model.specs.Vectors.{zeros, add, weight}
use Rattle.mk_model.specs.Lattices.{ones, HasGrading}
use Rattle.mk_model.specs.Tables.{Grid, rows_of, lattice_of_table}

-- what an entry of a matrix or of a grade may be
abbrev pub IsSmallEntry : ℤ → Type 0
IsSmallEntry z = (neg_ℤ (pos 2147483647) ≤ℤ z) × (z ≤ℤ pos 2147483647)

-- what the weight of a column may be
abbrev pub IsColumnWeight : ℤ → Type 0
IsColumnWeight k = (pos 1 ≤ℤ k) × (k ≤ℤ pos 2147483647)

-- w has product 0 with each lattice row
abbrev pub IsOrthogonal : Grid → List ℤ → Type 0
IsOrthogonal lat w = All (λ row. weight w row ≡ pos 0) (rows_of lat)

-- w has a product other than 0 with some lattice row
abbrev pub HasNonzeroProduct : Grid → List ℤ → Type 0
HasNonzeroProduct lat w = Any (λ row. weight w row ≢ pos 0) (rows_of lat)

-- w is a grading of the lattice that the rows span
abbrev pub IsGradingOf : Grid → List ℤ → Type 0
IsGradingOf lat w = HasGrading (lattice_of_table lat w)

-- the first lattice row whose product with w isn't 0, and that product
pub record IsFirstProduct (lat : Grid) (w : List ℤ) (lat_row : ℕ) (value : ℤ) : Type 0 where
  pub row : List ℤ
  pub at : slice_get (rows_of lat) lat_row ≡ Some row
  pub product : value ≡ weight w row
  pub nonzero : value ≢ pos 0
  pub before : All (λ row. weight w row ≡ pos 0) (take lat_row (rows_of lat))

-- ---- what is given beside the lattice
-- a matrix of the lattice's columns, each row of which has product 0 with each lattice row
pub record FitsMatrix (lat matrix : Grid) : Type 0 where
  pub columns : matrix.columns ≡ lat.columns
  pub products : All (IsOrthogonal lat) (rows_of matrix)

-- a grade has one row, of the lattice's columns
pub record HasGradeShape (lat grade : Grid) : Type 0 where
  pub rows : grade.rows ≡ 1
  pub columns : grade.columns ≡ lat.columns

-- a grade of that shape, of entries of at least 1, that has product 0 with each lattice row
pub record FitsGrade (lat grade : Grid) : Type 0 where
  pub shape : HasGradeShape lat grade
  pub positive : All (λ k. pos 1 ≤ℤ k) grade.entries
  pub products : IsOrthogonal lat grade.entries

-- ---- the sources
-- the rows without a negative entry, in their order
abbrev pub nonnegative_rows : List (List ℤ) → List (List ℤ)
nonnegative_rows rows = filter (λ row. list_all (λ a. not (is_negative a)) row) rows

-- the sum of rows of n columns
unfoldable pub sum_of_rows : ℕ → List (List ℤ) → List ℤ
sum_of_rows n [] = zeros n
sum_of_rows n (row ∷ rows) = add row (sum_of_rows n rows)

-- the sum of the matrix rows without a negative entry
abbrev pub matrix_sum : Grid → List ℤ
matrix_sum matrix = sum_of_rows matrix.columns (nonnegative_rows (rows_of matrix))

-- Without a grade: all ones where each lattice row has sum 0, and else the sum of the matrix rows without a negative entry,
-- where each entry of it may be a weight.
abbrev pub IsOnesOrSum : Grid → Option Grid → List ℤ → Type 0
IsOnesOrSum lat mat w =
    (IsOrthogonal lat (ones lat.columns) × (w ≡ ones lat.columns))
    ⊎ (HasNonzeroProduct lat (ones lat.columns)
    × IsSomeAnd mat (λ matrix. All IsColumnWeight (matrix_sum matrix) × (w ≡ matrix_sum matrix)))

-- the grade's entries, where one is given
abbrev pub IsSource : Grid → Option Grid → Option Grid → List ℤ → Type 0
IsSource lat mat (Some grade) w = w ≡ grade.entries
IsSource lat mat None w = IsOnesOrSum lat mat w

-- The chosen grading: what is given fits, and w is the first source in the order above.
pub record IsGradeOf (lat : Grid) (mat grade : Option Grid) (w : List ℤ) : Type 0 where
  pub matrix_fits : IfSome mat (FitsMatrix lat)
  pub grade_fits : IfSome grade (FitsGrade lat)
  pub source : IsSource lat mat grade w

-- ---- why none is chosen, in the order in which it is looked for
-- the matrix has other columns than the lattice
pub record HasOtherColumns (lat matrix : Grid) (found wanted : ℕ) : Type 0 where
  pub of_matrix : found ≡ matrix.columns
  pub of_lattice : wanted ≡ lat.columns
  pub other : found ≢ wanted

-- the first matrix row that has a product other than 0, and the first lattice row with which it has one
pub record IsMatrixMismatch (lat matrix : Grid) (mat_row lat_row : ℕ) (value : ℤ) : Type 0 where
  pub columns : matrix.columns ≡ lat.columns
  pub row : List ℤ
  pub at : slice_get (rows_of matrix) mat_row ≡ Some row
  pub product : IsFirstProduct lat row lat_row value
  pub before : All (IsOrthogonal lat) (take mat_row (rows_of matrix))

-- the grade hasn't one row, or has other columns than the lattice
pub record HasOtherShape (lat grade : Grid) (rows columns wanted : ℕ) : Type 0 where
  pub rows_of_grade : rows ≡ grade.rows
  pub columns_of_grade : columns ≡ grade.columns
  pub of_lattice : wanted ≡ lat.columns
  pub other : (rows ≢ 1) ⊎ (columns ≢ wanted)

-- the first column of the grade whose entry is below 1
pub record IsFirstBelowOne (lat grade : Grid) (column : ℕ) (value : ℤ) : Type 0 where
  pub shape : HasGradeShape lat grade
  pub at : slice_get grade.entries column ≡ Some value
  pub below : value <ℤ pos 1
  pub before : All (λ k. pos 1 ≤ℤ k) (take column grade.entries)

-- a grade of entries of at least 1, and the first lattice row whose product with it isn't 0
pub record IsGradeMismatch (lat grade : Grid) (lat_row : ℕ) (value : ℤ) : Type 0 where
  pub shape : HasGradeShape lat grade
  pub positive : All (λ k. pos 1 ≤ℤ k) grade.entries
  pub product : IsFirstProduct lat grade.entries lat_row value

-- No source: no grade is given, some lattice row has a sum other than 0, and no matrix is given, or an entry of the sum of
-- its rows without a negative entry may be no weight.
pub record HasNoSource (lat : Grid) (mat grade : Option Grid) : Type 0 where
  pub no_grade : grade ≡ None
  pub not_ones : HasNonzeroProduct lat (ones lat.columns)
  pub no_sum : IfSome mat (λ matrix. Any (λ k. ¬ (IsColumnWeight k)) (matrix_sum matrix))
