-- The tableau of the simplex method in integers. It looks for a nonnegative combination of the columns of some rows
-- that has given right sides. The entering column and the leaving row are chosen by the least-index rule, and one common
-- denominator takes the place of fractions. (Schrijver, "Theory of Linear and Integer Programming", chapters 7 and 11;
-- pivots without fractions are those of Bareiss's elimination)
use Rattle.std.specs.Prelude.{◌≡◌, ℕ, zero, suc, ◌+◌, ◌<◌, ◌≤◌, ◌==◌, if◌then◌else◌, List, [], ◌∷◌, ◌++◌, length, get_or, set, map, ℤ, pos, ◌-ℤ◌, ◌*ℤ◌, neg_ℤ, ◌≤ℤ◌, ◌<ℤ◌, int_lt}
use Rattle.mk_model.specs.Vectors.{entry, zeros, add, negate, scale, weight}
use Rattle.mk_model.specs.Lattices.{combination, ones}
use Rattle.mk_model.specs.FreeColumns.{all_columns}

-- Each row has the n columns of a lattice, a further column for each row, and the right side at its end. The costs are
-- those of all these columns. A row's base is the column that has an entry in no other row. All entries stand over the
-- denominator.
pub record Tableau : Type 0 where
  pub rows : List (List ℤ)
  pub costs : List ℤ
  pub bases : List ℕ
  pub denominator : ℤ

abbrev pub tableau_row : Tableau → ℕ → List ℤ
tableau_row t i = get_or t.rows i []

abbrev pub base_of : Tableau → ℕ → ℕ
base_of t i = get_or t.bases i 0

abbrev pub right_side : ℕ → Tableau → ℕ → ℤ
right_side n t i = entry (tableau_row t i) (n + length t.rows)

-- ---- the first tableau
-- the right sides with which a solution makes all ones a grading: for each row the negative of its sum
abbrev pub balancing_sides : ℕ → List (List ℤ) → List ℤ
balancing_sides n rows = map (λ row. neg_ℤ (weight (ones n) row)) rows

-- a row is negated where its right side is below 0
abbrev pub sided : ℤ → List ℤ → List ℤ
sided side row = if int_lt side (pos 0) then negate row else row

-- the rows, each as its right side says
abbrev pub sided_rows : List ℤ → List (List ℤ) → List (List ℤ)
sided_rows sides [] = []
sided_rows [] (row ∷ rows) = row ∷ sided_rows [] rows
sided_rows (side ∷ sides) (row ∷ rows) = sided side row ∷ sided_rows sides rows

-- 1 at one of m columns
abbrev pub unit_row : ℕ → ℕ → List ℤ
unit_row m i = map (λ c. if c == i then pos 1 else pos 0) (all_columns m)

-- a row of the lattice, its further columns, which have 1 at its own, and its right side
abbrev pub first_row : ℕ → ℕ → ℤ → List ℤ → List ℤ
first_row m i side row = sided side row ++ (unit_row m i ++ sided side (side ∷ []))

-- the rows from place i on
abbrev pub first_rows : ℕ → ℕ → List ℤ → List (List ℤ) → List (List ℤ)
first_rows m i sides [] = []
first_rows m i [] (row ∷ rows) = first_row m i (pos 0) row ∷ first_rows m (suc i) [] rows
first_rows m i (side ∷ sides) (row ∷ rows) = first_row m i side row ∷ first_rows m (suc i) sides rows

-- The base of each row is its further column, and the cost of a column of the lattice is the negative of its sum.
abbrev pub first_tableau : ℕ → List ℤ → List (List ℤ) → Tableau
first_tableau n sides rows = record {
  rows = first_rows (length rows) 0 sides rows;
  costs = negate (combination n (λ i. pos 1) (sided_rows sides rows)) ++ zeros (length rows);
  bases = map (λ i. n + i) (all_columns (length rows));
  denominator = pos 1;
}

-- ---- one pivot
-- the least column of the lattice of which the cost is below 0
pub record IsEntering (n : ℕ) (t : Tableau) (column : ℕ) : Type 0 where
  pub within : column < n
  pub below : entry t.costs column <ℤ pos 0
  pub least : (c : ℕ) → c < column → pos 0 ≤ℤ entry t.costs c

-- Of the rows with an entry above 0 in the entering column, this one has the least right side over that entry, and of
-- several such rows the least base.
pub record IsLeaving (n : ℕ) (t : Tableau) (column place : ℕ) : Type 0 where
  pub within : place < length t.rows
  pub above : pos 0 <ℤ entry (tableau_row t place) column
  pub ratio : (i : ℕ) → i < length t.rows → pos 0 <ℤ entry (tableau_row t i) column →
      (right_side n t place *ℤ entry (tableau_row t i) column) ≤ℤ (right_side n t i *ℤ entry (tableau_row t place) column)
  pub base : (i : ℕ) → i < length t.rows → pos 0 <ℤ entry (tableau_row t i) column →
      right_side n t place *ℤ entry (tableau_row t i) column ≡ right_side n t i *ℤ entry (tableau_row t place) column →
      base_of t place ≤ base_of t i

-- what a pivot divides: an entry times the pivot, less the row's entry in the entering column times the pivot row's
abbrev pub cross_product : ℕ → List ℤ → List ℤ → ℕ → ℤ
cross_product column pivot row c = (entry row c *ℤ entry pivot column) -ℤ (entry row column *ℤ entry pivot c)

-- a row after a pivot: its entries, times the old denominator, are what the pivot divides
pub record IsCleared (denominator : ℤ) (column : ℕ) (pivot row cleared : List ℤ) : Type 0 where
  pub columns : length cleared ≡ length row
  pub entries : (c : ℕ) → c < length row → denominator *ℤ entry cleared c ≡ cross_product column pivot row c

-- The second tableau is the first one after a pivot: the leaving row stays, its base becomes the entering column, and
-- its entry there the denominator.
pub record IsPivot (n : ℕ) (t u : Tableau) : Type 0 where
  pub column : ℕ
  pub place : ℕ
  pub entering : IsEntering n t column
  pub leaving : IsLeaving n t column place
  pub height : length u.rows ≡ length t.rows
  pub stays : tableau_row u place ≡ tableau_row t place
  pub others : (i : ℕ) → i < length t.rows → ¬ (i ≡ place) →
      IsCleared t.denominator column (tableau_row t place) (tableau_row t i) (tableau_row u i)
  pub costs : IsCleared t.denominator column (tableau_row t place) t.costs u.costs
  pub bases : u.bases ≡ set t.bases place column
  pub denominator : u.denominator ≡ entry (tableau_row t place) column

-- ---- the ends
-- the right sides of the rows whose base is a further column are all 0
abbrev pub IsFeasible : ℕ → Tableau → Type 0
IsFeasible n t = (i : ℕ) → i < length t.rows → n ≤ base_of t i → right_side n t i ≡ pos 0

-- no cost of a column of the lattice is below 0
abbrev pub HasNoneEntering : ℕ → Tableau → Type 0
HasNoneEntering n t = (c : ℕ) → c < n → pos 0 ≤ℤ entry t.costs c

-- so many pivots lead from the first tableau to this one, none of them from one that is feasible
pub data Pivots (n : ℕ) (sides : List ℤ) (rows : List (List ℤ)) : ℕ → Tableau → Type 0 where
  first : Pivots n sides rows zero (first_tableau n sides rows)
  next : {made : ℕ} {t u : Tableau} → Pivots n sides rows made t → ¬ (IsFeasible n t) → IsPivot n t u →
      Pivots n sides rows (suc made) u

-- the right side of the row of which a column is the base, and 0 where there is none
abbrev pub basic_value : ℕ → List (List ℤ) → List ℕ → ℕ → ℤ
basic_value last [] bases c = pos 0
basic_value last (row ∷ rows) [] c = pos 0
basic_value last (row ∷ rows) (base ∷ bases) c =
    if base == c then entry row last else basic_value last rows bases c

-- the solution of a feasible tableau, times the denominator
abbrev pub basic_solution : ℕ → Tableau → List ℤ
basic_solution n t = map (basic_value (n + length t.rows) t.rows t.bases) (all_columns n)

-- the coefficient of each row in the combination that the costs are: the cost of its further column less the
-- denominator, negated where the row was
abbrev pub forbidding_factor : ℕ → List ℤ → Tableau → ℕ → ℤ
forbidding_factor n sides t i =
    if int_lt (entry sides i) (pos 0) then t.denominator -ℤ entry t.costs (n + i)
    else entry t.costs (n + i) -ℤ t.denominator

-- ---- the answers
-- the vector without its greatest common divisor
pub record IsLowest (x lowest : List ℤ) : Type 0 where
  pub divisor : ℕ
  pub scaled : x ≡ scale (pos (suc divisor)) lowest
  pub undivided : (q : ℕ) (y : List ℤ) → lowest ≡ scale (pos (suc q)) y → y ≡ lowest

-- the grading that a feasible end gives: the solution and the denominator in each column, in lowest terms
pub record IsGradedEnd (n : ℕ) (t : Tableau) (w : List ℤ) : Type 0 where
  pub feasible : IsFeasible n t
  pub lowest : IsLowest (add (scale t.denominator (ones n)) (basic_solution n t)) w

-- The vector that forbids a grading: the costs, and the rows' factors, both divided by the factors' greatest common
-- divisor.
pub record IsForbiddingEnd (n m : ℕ) (sides : List ℤ) (t : Tableau) (factors entries : List ℤ) : Type 0 where
  pub infeasible : ¬ (IsFeasible n t)
  pub none_entering : HasNoneEntering n t
  pub lowest : IsLowest (map (forbidding_factor n sides t) (all_columns m)) factors
  pub columns : length entries ≡ n
  pub costs : (c : ℕ) → c < n → entry t.costs c ≡ pos (suc lowest.divisor) *ℤ entry entries c
