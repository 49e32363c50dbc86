-- Cheapest vectors as normal forms of a lattice of one column more, in which the costs stand.
-- (Sturmfels, chapter 5: integer programming in a fibre; the further column is this project's own)
use Rattle.std.specs.Prelude.{◌≡◌, ℕ, suc, ◌<◌, List, [], ◌∷◌, ◌++◌, length, map, take, ℤ, pos, ◌≤ℤ◌}
use Rattle.mk_model.specs.Vectors.{entry, add, subtract, negate, scale, weight}
use Rattle.mk_model.specs.Lattices.{Lattice}
use Rattle.mk_model.specs.Cheapest.{TimesRow}

-- the vector with its product with the gains as a further entry
abbrev pub lifted : List ℤ → List ℤ → List ℤ
lifted gains x = x ++ weight gains x ∷ []

-- each row with its cost, turned, as a further entry
abbrev pub lifted_rows : List ℤ → List (List ℤ) → List (List ℤ)
lifted_rows prices rows = map (lifted (negate prices)) rows

-- so many times the grading, less the prices
abbrev pub gains_of : ℤ → List ℤ → List ℤ → List ℤ
gains_of gain w prices = subtract (scale gain w) prices

-- so many times the grading and the prices, and 1 for the further column
abbrev pub lifted_grading : ℤ → List ℤ → List ℤ → List ℤ
lifted_grading raise w prices = add (scale raise w) prices ++ pos 1 ∷ []

abbrev pub lifted_lattice : ℤ → List ℤ → Lattice → Lattice
lifted_lattice raise prices lattice = record {
  columns = suc lattice.columns;
  rows = lifted_rows prices lattice.rows;
  grading = lifted_grading raise lattice.grading prices;
}

-- The prices have a column for each of the lattice. With the one factor no gain is negative, and with the other each weight of the
-- lifted grading is at least 1.
pub record CanLift (lattice : Lattice) (prices : List ℤ) (gain raise : ℤ) : Type 0 where
  pub columns : length prices ≡ lattice.columns
  pub gains : (c : ℕ) → pos 0 ≤ℤ entry (gains_of gain lattice.grading prices) c
  pub raised : (c : ℕ) → c < lattice.columns → pos 1 ≤ℤ entry (add (scale raise lattice.grading) prices) c

-- the steps with so many columns of their rows, which leaves out the further one
abbrev pub lowered : ℕ → List TimesRow → List TimesRow
lowered n steps = map (λ step. record { times = step.times; row = take n step.row }) steps
