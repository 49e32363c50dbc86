-- The least vector of a fibre, its cheapest vectors, and walks to them, over vectors and the lattice alone.
-- (Sturmfels, chapters 4 and 5: normal forms, and integer programming in a fibre)
use Rattle.std.specs.Prelude.{◌≡◌, ℕ, List, [], ◌∷◌, ℤ, pos, ◌≤ℤ◌}
use Rattle.mk_model.specs.Vectors.{subtract, scale, weight, IsPoint}
use Rattle.mk_model.specs.Lattices.{InLattice}
use Rattle.mk_model.specs.Orders.{standard, IsBelow}
use Rattle.mk_model.specs.ReducedBases.{IsLeast}

-- y is a nonnegative vector that differs from x by the lattice of the rows
pub record IsOfFibre (n : ℕ) (rows : List (List ℤ)) (x y : List ℤ) : Type 0 where
  pub point : IsPoint n y
  pub same_fibre : InLattice n rows (subtract y x)

-- the normal form of x: y is the least vector of its fibre by the standard list
pub record IsNormalForm (n : ℕ) (rows : List (List ℤ)) (x y : List ℤ) : Type 0 where
  pub least : IsLeast n rows y
  pub same_fibre : InLattice n rows (subtract y x)

-- y is a vector of the fibre of x, and none of them costs less; a vector costs its product with the prices
pub record IsCheapest (n : ℕ) (rows : List (List ℤ)) (prices x y : List ℤ) : Type 0 where
  pub of_fibre : IsOfFibre n rows x y
  pub none_cheaper : (z : List ℤ) → IsOfFibre n rows x z → weight prices y ≤ℤ weight prices z

-- y is one of the cheapest vectors of the fibre of x, and none of them is below it by the standard list
pub record IsLeastCheapest (n : ℕ) (rows : List (List ℤ)) (prices x y : List ℤ) : Type 0 where
  pub cheapest : IsCheapest n rows prices x y
  pub none_below : (z : List ℤ) → IsCheapest n rows prices x z → ¬ (IsBelow (standard n) z y)

-- a vector that is taken off so many times
pub record TimesRow : Type 0 where
  pub times : ℤ
  pub row : List ℤ

-- One vector of the lattice after another is taken off x, each at least once and as often as is said. This leads to y, and all vectors
-- on the way are nonnegative, x and y too.
abbrev pub WalksDown : ℕ → List (List ℤ) → List ℤ → List TimesRow → List ℤ → Type 0
WalksDown n rows x [] y = IsPoint n x × (y ≡ x)
WalksDown n rows x (step ∷ steps) y =
    IsPoint n x × InLattice n rows step.row × (pos 1 ≤ℤ step.times) × WalksDown n rows (subtract x (scale step.times step.row)) steps y
