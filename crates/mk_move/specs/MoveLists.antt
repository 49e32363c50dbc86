-- Lists of moves: by themselves, and with the grading and the priority list that they belong to.
use Rattle.std.specs.Prelude.{◌≡◌, ℕ, ◌<◌, ◌^◌, Bool, true, false, List, length, map, get_or, All, ℤ, Option, None, Some}
use Rattle.mk_model.specs.Lattices.{Lattice, lattice_of}
use Rattle.mk_model.specs.CoreStates.{move_at}
use Rattle.mk_model.specs.Orders.{IsOriented, lead}
use Rattle.mk_move.specs.Gradings.{AreWeights}
use Rattle.mk_move.specs.Masks.{IsMask, HasExactMask}
use Rattle.mk_move.specs.Moves.{Weighed, IsGraded}
use Rattle.mk_move.specs.Priorities.{IsPriority}

-- a list of moves of so many columns
pub record MoveListView : Type 0 where
  pub columns : ℕ
  pub moves : List Weighed

-- the moves in their order, the priority list and the grading
pub record BasisView : Type 0 where
  pub moves : List Weighed
  pub priority : List ℕ
  pub grading : List ℤ

-- as many columns as the list, product 0 with the grading, the weight of its lead, and oriented by the list
pub record BelongsTo (p : List ℕ) (w : List ℤ) (m : Weighed) : Type 0 where
  pub columns : length m.entries ≡ length p
  pub graded : IsGraded w m
  pub oriented : IsOriented p m.entries

-- fewer than 2^32 moves, each of which belongs to the list and the grading
pub record IsBasis (basis : BasisView) : Type 0 where
  pub priority : IsPriority basis.priority
  pub grading : AreWeights basis.grading
  pub columns : length basis.priority ≡ length basis.grading
  pub few : length basis.moves < 2 ^ 32
  pub moves : All (BelongsTo basis.priority basis.grading) basis.moves

-- the vectors of moves, in their order
abbrev pub vectors_of : List Weighed → List (List ℤ)
vectors_of moves = map (λ m. m.entries) moves

-- a mask for the lead of each move, in their order
pub record AreLeadMasks (moves : List Weighed) (masks : List ℕ) : Type 0 where
  pub count : length masks ≡ length moves
  pub each : (k : ℕ) → k < length moves → IsMask (lead (move_at (vectors_of moves) k)) (get_or masks k 0)

-- a flag for each move, in their order: where it is set, the mask of its lead is exact
pub record AreExact (moves : List Weighed) (flags : List Bool) : Type 0 where
  pub count : length flags ≡ length moves
  pub each : (k : ℕ) → get_or flags k false ≡ true → HasExactMask (lead (move_at (vectors_of moves) k))

-- the vector of a move, where there is one
abbrev pub vector_of : Option Weighed → Option (List ℤ)
vector_of None = None
vector_of (Some m) = Some m.entries

-- the lattice that the moves of a basis span, with its grading
abbrev pub lattice_spanned : BasisView → Lattice
lattice_spanned basis = lattice_of (length basis.grading) (vectors_of basis.moves) basis.grading
