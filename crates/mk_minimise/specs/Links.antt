-- Vectors that join points of one weight from which no lighter move leads down, and the moves that are made of them.
-- (Sturmfels, chapter 5: minimal generators of one degree, modulo those of lower degree)
use Rattle.std.specs.Prelude.{◌≡◌, ℕ, List, All, Contains, ℤ, ◌<ℤ◌}
use Rattle.mk_model.specs.Vectors.{positive_part, negative_part, weight}
use Rattle.mk_model.specs.Lattices.{InLattice}
use Rattle.mk_model.specs.Orders.{IsOriented, standard, lead}
use Rattle.mk_model.specs.Reductions.{IsIrreducible}
use Rattle.mk_model.specs.Walks.{Joined, Members}

-- the list has exactly the moves whose lead is lighter than the bound
pub record AreLower (w : List ℤ) (moves : List (List ℤ)) (bound : ℤ) (lower : List (List ℤ)) : Type 0 where
  pub member : (m : List ℤ) → Contains lower m → Contains moves m
  pub lighter : (m : List ℤ) → Contains lower m → weight w (lead m) <ℤ bound
  pub every : (m : List ℤ) → Contains moves m → weight w (lead m) <ℤ bound → Contains lower m

-- The parts of a vector of the lattice have this weight, no lead of the lower moves divides them, and these join them.
pub record IsLink (n : ℕ) (rows lower : List (List ℤ)) (w : List ℤ) (bound : ℤ) (r : List ℤ) : Type 0 where
  pub in_lattice : InLattice n rows r
  pub positive : IsIrreducible lower (positive_part r)
  pub negative : IsIrreducible lower (negative_part r)
  pub weighs : weight w (positive_part r) ≡ bound
  pub joined : Joined n (Members lower) (positive_part r) (negative_part r)

-- such vectors, oriented by the standard list, one for each lead
pub record AreLinks (n : ℕ) (rows lower : List (List ℤ)) (w : List ℤ) (bound : ℤ) (links : List (List ℤ)) : Type 0 where
  pub each : All (IsLink n rows lower w bound) links
  pub oriented : All (IsOriented (standard n)) links
  pub apart : (u v : List ℤ) → Contains links u → Contains links v → lead u ≡ lead v → u ≡ v
