-- The pairs of a list whose leads overlap with a least common multiple of one weight. (Sturmfels, chapter 1: S-pairs)
use Rattle.std.specs.Prelude.{◌≡◌, ◌≢◌, ◌⊎◌, ℕ, ◌<◌, List, length, All, Contains, Option, ℤ}
use Rattle.mk_model.specs.CoreStates.{Pair, pair_of, move_at, IsLesser, IsPairOf}
use Rattle.mk_model.specs.Orders.{lead}
use Rattle.mk_model.specs.Pairs.{AreDisjoint}
use Rattle.mk_model.specs.Reductions.{lcm}
use Rattle.mk_model.specs.Vectors.{weight}
use Rattle.mk_move.specs.Moves.{Weighed}
use Rattle.mk_move.specs.MoveLists.{BasisView}
use Rattle.mk_reduce.specs.Remainders.{IsRemainder}
use Rattle.mk_minimise.specs.declared.overlaps.Overlap.{Overlap}

-- the least common multiple of the leads of two places
abbrev pub lcm_at : List (List ℤ) → ℕ → ℕ → List ℤ
lcm_at moves i j = lcm (lead (move_at moves i)) (lead (move_at moves j))

-- the leads of two places have no column in common
abbrev pub AreCoprime : List (List ℤ) → ℕ → ℕ → Type 0
AreCoprime moves i j = AreDisjoint (lead (move_at moves i)) (lead (move_at moves j))

-- the least common multiple of the leads of two places doesn't weigh so much
abbrev pub HasOtherWeight : List ℤ → List (List ℤ) → ℤ → ℕ → ℕ → Type 0
HasOtherWeight w moves bound i j = weight w (lcm_at moves i j) ≢ bound

-- the pair of two places
abbrev pub overlap_at : ℕ → ℕ → Overlap
overlap_at i j = record { first = i; second = j }

-- two places of the list, the lesser first, whose leads overlap with a least common multiple of this weight
pub record IsOverlap (w : List ℤ) (moves : List (List ℤ)) (bound : ℤ) (pair : Overlap) : Type 0 where
  pub ordered : pair.first < pair.second
  pub within : pair.second < length moves
  pub overlap : ¬ (AreCoprime moves pair.first pair.second)
  pub weighs : weight w (lcm_at moves pair.first pair.second) ≡ bound

-- The pair of two places stands in the list of pairs, unless the leads are coprime, or their least common multiple has
-- another weight.
abbrev pub IsListed : List ℤ → List (List ℤ) → ℤ → List Overlap → ℕ → ℕ → Type 0
IsListed w moves bound pairs i j = AreCoprime moves i j ⊎ HasOtherWeight w moves bound i j ⊎ Contains pairs (overlap_at i j)

-- such pairs, with each that is lesser than the front
pub record ListsBefore (w : List ℤ) (moves : List (List ℤ)) (bound : ℤ) (front : Pair) (pairs : List Overlap) : Type 0 where
  pub each : All (IsOverlap w moves bound) pairs
  pub every : (i j : ℕ) → i < j → IsLesser (pair_of i j) front → IsListed w moves bound pairs i j

-- all such pairs
pub record AreOverlaps (w : List ℤ) (moves : List (List ℤ)) (bound : ℤ) (pairs : List Overlap) : Type 0 where
  pub each : All (IsOverlap w moves bound) pairs
  pub every : (i j : ℕ) → i < j → j < length moves → IsListed w moves bound pairs i j

-- the places of the pair are two of the list, the lesser first
abbrev pub IsPlacePair : List (List ℤ) → Overlap → Type 0
IsPlacePair moves pair = IsPairOf moves (pair_of pair.first pair.second)

-- what is left of the pair's difference, reduced by the basis
abbrev pub IsRemainderOf : BasisView → Overlap → Option Weighed → Type 0
IsRemainderOf basis pair rest = IsRemainder basis (pair_of pair.first pair.second) rest
