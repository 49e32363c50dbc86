-- The reduced basis along the standard list, and the least vectors of fibres and of their components.
-- (Sturmfels, chapters 1 and 5: reduced Gröbner bases, standard monomials, and the graphs of fibres)
use Rattle.std.specs.Prelude.{◌≡◌, ℕ, List, All, AllPairs, Contains, ℤ, ◌<ℤ◌}
use Rattle.mk_model.specs.Vectors.{subtract, weight, IsPoint}
use Rattle.mk_model.specs.Lattices.{Lattice, InLattice}
use Rattle.mk_model.specs.Walks.{Joined}
use Rattle.mk_model.specs.Orders.{standard, IsBelow, lead, ComesBefore}
use Rattle.mk_model.specs.Bases.{IsMove}
use Rattle.mk_model.specs.Reductions.{Divides}

-- x is the least vector of its fibre by the standard list
pub record IsLeast (n : ℕ) (rows : List (List ℤ)) (x : List ℤ) : Type 0 where
  pub point : IsPoint n x
  pub none_below : (y : List ℤ) → IsPoint n y → InLattice n rows (subtract y x) → ¬ (IsBelow (standard n) y x)

-- A vector that isn't the least of its fibre, while each other vector that divides it is the least of its own; from it
-- is taken the least vector of its fibre.
pub record IsReducedMove (n : ℕ) (rows : List (List ℤ)) (m : List ℤ) : Type 0 where
  pub from : List ℤ
  pub to : List ℤ
  pub point : IsPoint n from
  pub not_least : ¬ (IsLeast n rows from)
  pub divisors : (y : List ℤ) → IsPoint n y → Divides y from → ¬ (y ≡ from) → IsLeast n rows y
  pub same_fibre : InLattice n rows (subtract from to)
  pub least : IsLeast n rows to
  pub difference : m ≡ subtract from to

-- the list has exactly these, strictly ascending
pub record IsReducedBasis (lattice : Lattice) (moves : List (List ℤ)) : Type 0 where
  pub ascending : AllPairs (ComesBefore lattice.columns lattice.grading) moves
  pub each : All (IsReducedMove lattice.columns lattice.rows) moves
  pub complete : (m : List ℤ) → IsReducedMove lattice.columns lattice.rows m → Contains moves m

-- ---- components of a fibre: what moves of lower weight join
abbrev pub LighterMoves : Lattice → ℤ → List ℤ → Type 0
LighterMoves lattice bound v = IsMove lattice.columns lattice.rows v × (weight lattice.grading (lead v) <ℤ bound)

-- x is the least vector of its component
pub record IsLeastOfComponent (lattice : Lattice) (x : List ℤ) : Type 0 where
  pub point : IsPoint lattice.columns x
  pub none_below : (y : List ℤ) → Joined lattice.columns (LighterMoves lattice (weight lattice.grading x)) x y →
      ¬ (IsBelow (standard lattice.columns) y x)

-- the least vector of a component, less the least vector of the fibre, which is another
pub record IsStarMove (lattice : Lattice) (m : List ℤ) : Type 0 where
  pub from : List ℤ
  pub to : List ℤ
  pub least_of_component : IsLeastOfComponent lattice from
  pub same_fibre : InLattice lattice.columns lattice.rows (subtract from to)
  pub least : IsLeast lattice.columns lattice.rows to
  pub apart : ¬ (from ≡ to)
  pub difference : m ≡ subtract from to
