-- Made tables: products of differences of neighbours, over the cells of a table of two or three sizes.
-- (Sturmfels, chapter 5)
use Rattle.std.specs.Prelude.{ℕ, ◌+◌, ◌-◌, ◌*◌, ◌≤◌, ◌==◌, if◌then◌else◌, List, [], ◌∷◌, length, map, All, ℤ, pos, neg_ℤ}
use Rattle.std.specs.List.{flat_map, range_with_len}
use Rattle.mk_model.specs.Vectors.{scale}
use Rattle.mk_model.specs.Tables.{Grid}

-- the entry of a difference of neighbours: 1 at s, -1 at s + 1, and 0 else
abbrev pub neighbour_entry : ℕ → ℕ → ℤ
neighbour_entry s p = if p == s then pos 1 else (if p == s + 1 then neg_ℤ (pos 1) else pos 0)

-- the row times each of the n entries of a difference, one after another
unfoldable pub times_difference : ℕ → ℕ → List ℤ → List ℤ
times_difference n s row = flat_map (λ p. scale (neighbour_entry s p) row) (range_with_len 0 n)

-- the rows of the first of n neighbours, of the second and so on, each over all rows of the other sizes
unfoldable pub model_rows : List ℕ → List (List ℤ)
model_rows [] = (pos 1 ∷ []) ∷ []
model_rows (n ∷ sizes) = flat_map (λ s. map (times_difference n s) (model_rows sizes)) (range_with_len 0 (n - 1))

-- how many cells there are
unfoldable pub cells : List ℕ → ℕ
cells [] = 1
cells (n ∷ sizes) = n * cells sizes

-- the table of the rows
abbrev pub model_grid : List ℕ → Grid
model_grid sizes = record {
  rows = length (model_rows sizes);
  columns = cells sizes;
  entries = flat_map (λ row. row) (model_rows sizes);
}

-- two or three sizes, each 2 to 16, and at most 512 cells
pub record AreModelSizes (sizes : List ℕ) : Type 0 where
  pub some : 2 ≤ length sizes
  pub few : length sizes ≤ 3
  pub each : All (λ n. (2 ≤ n) × (n ≤ 16)) sizes
  pub cells_few : cells sizes ≤ 512
