-- One weight after another: the lower moves, the links of the weight, and the moves that are chosen.
-- (Sturmfels, chapter 5: minimal generators, degree by degree)
use Rattle.std.specs.Prelude.{◌≡◌, ◌⊎◌, ℕ, ◌≤◌, ◌<◌, List, length, take, All, AllPairs, Contains, Option, ℤ, ◌<ℤ◌}
use Rattle.mk_model.specs.Bases.{IsUpTo}
use Rattle.mk_model.specs.CoreStates.{move_at}
use Rattle.mk_model.specs.Orders.{IsBelow, standard, lead, ComesBefore}
use Rattle.mk_model.specs.ReducedBases.{LighterMoves, IsLeastOfComponent}
use Rattle.mk_model.specs.Vectors.{weight}
use Rattle.mk_model.specs.Walks.{Joined}
use Rattle.mk_move.specs.MoveLists.{BasisView, vectors_of}
use Rattle.mk_model.specs.Lattices.{lattice_of}

-- the weight of the lead of a place
abbrev pub weight_at : BasisView → ℕ → ℤ
weight_at basis k = weight basis.grading (lead (move_at (vectors_of basis.moves) k))

-- each move before the place is lighter than each other move
abbrev pub IsWeightCut : BasisView → ℕ → Type 0
IsWeightCut basis count = (i j : ℕ) → i < count → count ≤ j → j < length basis.moves → weight_at basis i <ℤ weight_at basis j

-- the moves before a place at which the weight rises, with the list and the grading of the basis
pub record IsFront (basis lower : BasisView) : Type 0 where
  pub moves : lower.moves ≡ take (length lower.moves) basis.moves
  pub priority : lower.priority ≡ basis.priority
  pub grading : lower.grading ≡ basis.grading
  pub cut : IsWeightCut basis (length lower.moves)

-- the place is one of the basis, with a lead as heavy as that of the start
pub record IsAsHeavy (basis : BasisView) (start place : ℕ) : Type 0 where
  pub within : place < length basis.moves
  pub same : weight_at basis place ≡ weight_at basis start

-- the places from start to end, and no other behind the start, have this weight
pub record IsWeightRun (basis : BasisView) (start end : ℕ) : Type 0 where
  pub some : start < end
  pub within : end ≤ length basis.moves
  pub same : (k : ℕ) → start ≤ k → k < end → weight_at basis k ≡ weight_at basis start
  pub cut : IsWeightCut basis end

-- the place is one of the basis, with a lead of a weight up to the bound
pub record IsPlaceUpTo (basis : BasisView) (upto : Option ℕ) (place : ℕ) : Type 0 where
  pub within : place < length basis.moves
  pub light : IsUpTo upto (weight_at basis place)

-- the leads before the place, and no others, have weights up to the bound
pub record IsBoundCut (w : List ℤ) (moves : List (List ℤ)) (upto : Option ℕ) (count : ℕ) : Type 0 where
  pub light : (k : ℕ) → k < count → IsUpTo upto (weight w (lead (move_at moves k)))
  pub heavy : (k : ℕ) → count ≤ k → k < length moves → ¬ (IsUpTo upto (weight w (lead (move_at moves k))))

-- one of the moves has this lead
pub record HasLead (moves : List (List ℤ)) (x : List ℤ) : Type 0 where
  pub move : List ℤ
  pub member : Contains moves move
  pub same : lead move ≡ x

-- from the lead lighter moves lead to a vector below it
pub record StepsLighter (n : ℕ) (rows : List (List ℤ)) (w m : List ℤ) : Type 0 where
  pub lower : List ℤ
  pub below : IsBelow (standard n) lower (lead m)
  pub joined : Joined n (LighterMoves (lattice_of n rows w) (weight w (lead m))) (lead m) lower

-- The leads of the links tell, of the moves of a weight, whose lead isn't the least of its component.
pub record TellsLeast (n : ℕ) (w : List ℤ) (moves : List (List ℤ)) (bound : ℤ) (links : List (List ℤ)) : Type 0 where
  pub least : (m : List ℤ) → Contains moves m → weight w (lead m) ≡ bound → ¬ (HasLead links (lead m))
      → IsLeastOfComponent (lattice_of n moves w) (lead m)
  pub others : (m : List ℤ) → Contains moves m → weight w (lead m) ≡ bound → HasLead links (lead m) → StepsLighter n moves w m

-- The moves that are chosen from the first of a list: those whose lead is the least of its component, in their order.
pub record AreChosen (n : ℕ) (w : List ℤ) (moves : List (List ℤ)) (count : ℕ) (chosen : List (List ℤ)) : Type 0 where
  pub ascending : AllPairs (ComesBefore n w) chosen
  pub each : All (λ m. Contains (take count moves) m × IsLeastOfComponent (lattice_of n moves w) (lead m)) chosen
  pub others : (m : List ℤ) → Contains (take count moves) m → Contains chosen m ⊎ StepsLighter n moves w m

-- the same, from the moves up to the bound
pub record AreChosenUpTo (n : ℕ) (w : List ℤ) (moves : List (List ℤ)) (upto : Option ℕ) (chosen : List (List ℤ)) : Type 0 where
  pub count : ℕ
  pub cut : IsBoundCut w moves upto count
  pub of_front : AreChosen n w moves count chosen
