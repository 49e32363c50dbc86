-- Columns that are saturated without completion: the free ones. (Sturmfels, chapter 12; Hemmecke and Malkin 2009)
use Rattle.std.specs.Prelude.{ℕ, Bool, true, false, ◌&&◌, ◌||◌, if◌then◌else◌, List, [], ◌∷◌, length, map, filter, replicate, get_or, ℤ}
use Rattle.std.specs.Prelude.{pos}
use Rattle.std.specs.List.{list_all, range_with_len}
use Rattle.std.specs.Ordering.{int_eq}
use Rattle.mk_model.specs.Vectors.{entry, negate, positive_part, negative_part}
use Rattle.mk_model.specs.Lattices.{nonzero_rows}
use Rattle.mk_model.specs.Orders.{standard, oriented_by}

-- every column, from the first to the last
abbrev pub all_columns : ℕ → List ℕ
all_columns n = range_with_len 0 n

-- is a column unsaturated, by a flag for each column
abbrev pub is_left : List Bool → ℕ → Bool
is_left left column = get_or left column false

-- the unsaturated columns, in their order
abbrev pub columns_left : List Bool → List ℕ
columns_left left = filter (is_left left) (all_columns (length left))

-- are all columns of the support of a vector unsaturated
unfoldable pub is_within : List ℤ → List Bool → Bool
is_within x left = list_all (λ c. is_left left c || int_eq (entry x c) (pos 0)) (all_columns (length x))

-- the columns of the support of a vector are saturated too
unfoldable pub without_support : List ℤ → List Bool → List Bool
without_support x left = map (λ c. is_left left c && int_eq (entry x c) (pos 0)) (all_columns (length left))

-- Where the negative support of a vector is unsaturated, its positive support leaves the unsaturated columns.
abbrev pub freed_by : List ℤ → List Bool → List Bool
freed_by u left = if is_within (negative_part u) left then without_support (positive_part u) left else left

-- a row frees columns as it is oriented by the list, and then as the negative of that
abbrev pub freed_by_row : List ℕ → List ℤ → List Bool → List Bool
freed_by_row p row left = freed_by (negate (oriented_by p row)) (freed_by (oriented_by p row) left)

-- what the rows leave unsaturated, one after another
abbrev pub freed_by_rows : List ℕ → List (List ℤ) → List Bool → List Bool
freed_by_rows p [] left = left
freed_by_rows p (row ∷ rows) left = freed_by_rows p rows (freed_by_row p row left)

-- the columns that are not free: of all columns those that the nonzero rows leave, each oriented by the standard list
unfoldable pub bound_columns : ℕ → List (List ℤ) → List ℕ
bound_columns n rows = columns_left (freed_by_rows (standard n) (nonzero_rows rows) (replicate n true))
