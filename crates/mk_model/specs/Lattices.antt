-- Lattices given by rows, and their gradings. (Sturmfels, chapters 4 and 12)
use Rattle.std.specs.Prelude.{◌≡◌, ℕ, zero, suc, ◌<◌, Bool, not, List, [], ◌∷◌, length, replicate, filter, All, ℤ, pos, ◌≤ℤ◌}
use Rattle.std.specs.List.{list_all}
use Rattle.std.specs.Ordering.{int_eq}
use Rattle.mk_model.specs.Vectors.{entry, zeros, add, scale, weight}

-- a lattice with a grading: how many columns its vectors have, rows that span it, and a weight for each column
pub record Lattice : Type 0 where
  pub columns : ℕ
  pub rows : List (List ℤ)
  pub grading : List ℤ

abbrev pub lattice_of : ℕ → List (List ℤ) → List ℤ → Lattice
lattice_of n rows w = record { columns = n; rows = rows; grading = w }

-- the sum of the rows, each taken as often as its factor says
unfoldable pub combination : ℕ → (ℕ → ℤ) → List (List ℤ) → List ℤ
combination n factors [] = zeros n
combination n factors (row ∷ rows) = add (scale (factors zero) row) (combination n (λ i. factors (suc i)) rows)

-- x is an integer combination of the rows, of n columns each
abbrev pub InLattice : ℕ → List (List ℤ) → List ℤ → Type 0
InLattice n rows x = (factors : ℕ → ℤ) × (x ≡ combination n factors rows)

-- The grading has a weight of at least 1 for each column, and product 0 with each row.
pub record HasGrading (lattice : Lattice) : Type 0 where
  pub columns : length lattice.grading ≡ lattice.columns
  pub positive : (c : ℕ) → c < lattice.columns → pos 1 ≤ℤ entry lattice.grading c
  pub rows_columns : All (λ row. length row ≡ lattice.columns) lattice.rows
  pub rows_weight : All (λ row. weight lattice.grading row ≡ pos 0) lattice.rows

abbrev pub ones : ℕ → List ℤ
ones n = replicate n (pos 1)

-- has a row no entry but 0
abbrev pub is_zero : List ℤ → Bool
is_zero row = list_all (λ a. int_eq a (pos 0)) row

-- the rows that are not zero, in their order
abbrev pub nonzero_rows : List (List ℤ) → List (List ℤ)
nonzero_rows rows = filter (λ row. not (is_zero row)) rows

-- the rows and the others have the same integer combinations
pub record SameLattice (n : ℕ) (rows others : List (List ℤ)) : Type 0 where
  pub there : (x : List ℤ) → InLattice n rows x → InLattice n others x
  pub back : (x : List ℤ) → InLattice n others x → InLattice n rows x
