-- Markov bases, and the one that is written. (Sturmfels, chapter 5: Theorem 5.3 and minimal generators)
use Rattle.std.specs.Prelude.{◌≡◌, ◌⊎◌, ◌↔◌, ℕ, suc, ◌<◌, List, ◌++◌, length, take, drop, All, AllPairs, Contains, Option, None, Some, ℤ}
use Rattle.std.specs.Prelude.{pos, ◌≤ℤ◌}
use Rattle.mk_model.specs.Vectors.{subtract, weight, IsPoint}
use Rattle.mk_model.specs.Lattices.{Lattice, InLattice}
use Rattle.mk_model.specs.Walks.{Joined, Members}
use Rattle.mk_model.specs.Orders.{standard, IsOriented, lead, tail, ComesBefore}

-- The moves are in the lattice of the rows, and join all nonnegative vectors that differ by it.
pub record IsMarkov (n : ℕ) (rows moves : List (List ℤ)) : Type 0 where
  pub in_lattice : All (InLattice n rows) moves
  pub joins : (x y : List ℤ) → IsPoint n x → IsPoint n y → InLattice n rows (subtract x y) → Joined n (Members moves) x y

-- The weight is at most the bound. No bound is above every weight.
abbrev pub IsUpTo : Option ℕ → ℤ → Type 0
IsUpTo None z = Unit {0}
IsUpTo (Some bound) z = z ≤ℤ pos bound

-- a nonnegative vector with the columns of the lattice, of a weight up to the bound
pub record IsPointUpTo (lattice : Lattice) (upto : Option ℕ) (x : List ℤ) : Type 0 where
  pub point : IsPoint lattice.columns x
  pub light : IsUpTo upto (weight lattice.grading x)

-- The moves are in the lattice, and join all nonnegative vectors of weights up to the bound that differ by it.
pub record IsMarkovUpTo (lattice : Lattice) (upto : Option ℕ) (moves : List (List ℤ)) : Type 0 where
  pub in_lattice : All (InLattice lattice.columns lattice.rows) moves
  pub joins : (x y : List ℤ) → IsPointUpTo lattice upto x → IsPointUpTo lattice upto y →
      InLattice lattice.columns lattice.rows (subtract x y) → Joined lattice.columns (Members moves) x y

-- the list without the move at one place
abbrev pub without : ℕ → List (List ℤ) → List (List ℤ)
without k moves = take k moves ++ drop (suc k) moves

-- Two nonnegative vectors of weights up to the bound that differ by the lattice, and that the moves don't join.
pub record AreApart (lattice : Lattice) (upto : Option ℕ) (moves : List (List ℤ)) (x y : List ℤ) : Type 0 where
  pub from : IsPointUpTo lattice upto x
  pub to : IsPointUpTo lattice upto y
  pub same_fibre : InLattice lattice.columns lattice.rows (subtract x y)
  pub not_joined : ¬ (Joined lattice.columns (Members moves) x y)

-- Each move is needed: without it two vectors of weights up to the bound stay apart.
abbrev pub IsMinimal : Lattice → Option ℕ → List (List ℤ) → Type 0
IsMinimal lattice upto moves = (k : ℕ) → k < length moves → (x : List ℤ) × (y : List ℤ) × AreApart lattice upto (without k moves) x y

-- a vector of the lattice, oriented by the standard list: lead minus tail
pub record IsMove (n : ℕ) (rows : List (List ℤ)) (m : List ℤ) : Type 0 where
  pub in_lattice : InLattice n rows m
  pub oriented : IsOriented (standard n) m

-- the moves of the lattice that come before m
abbrev pub MovesBefore : Lattice → List ℤ → List ℤ → Type 0
MovesBefore lattice m v = IsMove lattice.columns lattice.rows v × ComesBefore lattice.columns lattice.grading v m

-- all moves before m together don't join its lead to its tail
pub record IsEssential (lattice : Lattice) (m : List ℤ) : Type 0 where
  pub move : IsMove lattice.columns lattice.rows m
  pub not_joined : ¬ (Joined lattice.columns (MovesBefore lattice m) (lead m) (tail m))

-- an essential move of a weight up to the bound; a move has the weight of its lead
pub record IsEssentialUpTo (lattice : Lattice) (upto : Option ℕ) (m : List ℤ) : Type 0 where
  pub essential : IsEssential lattice m
  pub light : IsUpTo upto (weight lattice.grading (lead m))

-- The list has exactly the essential moves of weights up to the bound, strictly ascending. `complete` says of each move up to the
-- bound that it is a member or not essential, with a walk that shows it.
pub record IsAnswer (lattice : Lattice) (upto : Option ℕ) (moves : List (List ℤ)) : Type 0 where
  pub ascending : AllPairs (ComesBefore lattice.columns lattice.grading) moves
  pub essential : All (IsEssentialUpTo lattice upto) moves
  pub complete : (m : List ℤ) → IsMove lattice.columns lattice.rows m → IsUpTo upto (weight lattice.grading (lead m)) →
      Contains moves m ⊎ Joined lattice.columns (MovesBefore lattice m) (lead m) (tail m)

-- The list has exactly the essential moves of weights up to the bound, strictly ascending: its members are those, and no others.
pub record ListsEssentialMoves (lattice : Lattice) (upto : Option ℕ) (moves : List (List ℤ)) : Type 0 where
  pub ascending : AllPairs (ComesBefore lattice.columns lattice.grading) moves
  pub members : (m : List ℤ) → Contains moves m ↔ IsEssentialUpTo lattice upto m

-- The moves are the essential ones of weights up to the bound, and no other list has exactly these in their order. They join every
-- fibre of such a weight, and each of them is needed for that.
pub record IsMinimalMarkovBasis (lattice : Lattice) (upto : Option ℕ) (moves : List (List ℤ)) : Type 0 where
  pub answer : IsAnswer lattice upto moves
  pub only : (others : List (List ℤ)) → ListsEssentialMoves lattice upto others → others ≡ moves
  pub markov : IsMarkovUpTo lattice upto moves
  pub minimal : IsMinimal lattice upto moves
