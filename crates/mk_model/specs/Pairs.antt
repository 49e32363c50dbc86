-- Pairs of moves that are joined below the least common multiple of their leads. (Buchberger's criterion, for
-- vectors; Sturmfels, chapters 1 and 5)
use Rattle.std.specs.Prelude.{◌≡◌, ◌⊎◌, ℕ, List, All, AllPairs, ℤ, pos}
use Rattle.mk_model.specs.Vectors.{entry, subtract, IsPoint}
use Rattle.mk_model.specs.Lattices.{Lattice, InLattice, HasGrading}
use Rattle.mk_model.specs.Walks.{Walk, Members}
use Rattle.mk_model.specs.Orders.{IsBelow, IsOriented, lead}
use Rattle.mk_model.specs.Reductions.{lcm}

-- moves of a lattice with a grading, each oriented by the priority list
pub record AreOrientedMoves (lattice : Lattice) (priority : List ℕ) (moves : List (List ℤ)) : Type 0 where
  pub grading : HasGrading lattice
  pub in_lattice : All (InLattice lattice.columns lattice.rows) moves
  pub oriented : All (IsOriented priority) moves

-- a nonnegative vector that is below another
pub record IsPointBelow (n : ℕ) (priority : List ℕ) (top x : List ℤ) : Type 0 where
  pub point : IsPoint n x
  pub below : IsBelow priority x top

-- With the least common multiple of the two leads, a walk by the moves leads from it minus the one to it minus the
-- other, and each vertex is below it.
abbrev pub JoinedBelow : ℕ → List ℕ → List (List ℤ) → List ℤ → List ℤ → Type 0
JoinedBelow n priority moves a b =
    Walk (Members moves) (IsPointBelow n priority (lcm (lead a) (lead b))) (subtract (lcm (lead a) (lead b)) a)
    (subtract (lcm (lead a) (lead b)) b)

-- every two of the moves are joined below
abbrev pub EveryPairJoined : ℕ → List ℕ → List (List ℤ) → Type 0
EveryPairJoined n priority moves = AllPairs (JoinedBelow n priority moves) moves

-- in each column one of the two entries is 0
abbrev pub AreDisjoint : List ℤ → List ℤ → Type 0
AreDisjoint x y = (c : ℕ) → (entry x c ≡ pos 0) ⊎ (entry y c ≡ pos 0)
