-- How a lattice is saturated: column by column, each by one completion along a list that names it first, and at last along
-- the standard list. (Sturmfels, chapter 12; Hemmecke and Malkin 2009)
use Rattle.std.specs.Prelude.{◌≡◌, ℕ, ◌<◌, ◌≤◌, Bool, true, false, List, [], ◌∷◌, ◌++◌, take, length, get_or, Option, None, Some}
use Rattle.std.specs.List.{AllZip}
use Rattle.mk_model.specs.FreeColumns.{is_left}
use Rattle.mk_model.specs.Lattices.{SameLattice}
use Rattle.mk_model.specs.Saturation.{ConnectedUpTo, drop_redundant}
use Rattle.mk_move.specs.Moves.{Weighed}
use Rattle.mk_move.specs.MoveLists.{BasisView, IsBasis, vectors_of}
use Rattle.mk_move.specs.Priorities.{others}
use Rattle.mk_core.specs.Phases.{IsCompleted}
use Rattle.mk_core.specs.Jobs.{JobView}
use Rattle.mk_core.specs.declared.phase.Phase.{Phase}
use Rattle.mk_model.specs.Orders.{IsRowTurned}

-- the moves so far, and whether each column is unsaturated
pub record SaturationView : Type 0 where
  pub basis : BasisView
  pub left : List Bool

-- The moves connect, up to the unsaturated columns, all nonnegative vectors that differ by the lattice which they span.
pub record IsSaturation (saturation : SaturationView) : Type 0 where
  pub kept : IsBasis saturation.basis
  pub columns : length saturation.left ≡ length saturation.basis.grading
  pub few : length saturation.basis.moves ≤ 65536
  pub connected :
      ConnectedUpTo (length saturation.basis.grading) (vectors_of saturation.basis.moves) (is_left saturation.left)
      (vectors_of saturation.basis.moves)

-- the least column that is unsaturated
pub record IsLeastLeft (left : List Bool) (column : ℕ) : Type 0 where
  pub left_over : is_left left column ≡ true
  pub least : (c : ℕ) → c < column → is_left left c ≡ false

-- no column is unsaturated
abbrev pub NoneLeft : List Bool → Type 0
NoneLeft left = (c : ℕ) → is_left left c ≡ false

-- a move at the end, the vector of another turned by the list
pub record IsTurnedOnto (basis : BasisView) (row : Weighed) (after : BasisView) : Type 0 where
  pub move : Weighed
  pub turned : IsRowTurned basis.priority row.entries move.entries
  pub pushed : after ≡ record basis { moves = basis.moves ++ move ∷ [] }

-- a job over the moves so far, along a list
pub record IsJob (basis : BasisView) (p : List ℕ) (budget : ℕ) (job : JobView) : Type 0 where
  pub priority : job.start.priority ≡ p
  pub grading : job.start.grading ≡ basis.grading
  pub begun : AllZip (IsRowTurned p) (vectors_of basis.moves) (vectors_of job.start.moves)
  pub room : length job.start.moves ≤ job.basis_limit
  pub budget_given : job.budget ≡ budget
  pub limit : job.basis_limit ≡ 65536

-- the job of the least unsaturated column, or none where no column is left
abbrev pub IsNextJob : SaturationView → ℕ → Option JobView → Type 0
IsNextJob saturation budget None = NoneLeft saturation.left
IsNextJob saturation budget (Some job) =
    (column : ℕ) × IsLeastLeft saturation.left column
    × IsJob saturation.basis (column ∷ others column (length saturation.basis.grading)) budget job

-- a phase that begins with the moves so far, along a list
pub record IsPhaseFromBasis (basis : BasisView) (p : List ℕ) (phase : Phase) : Type 0 where
  pub priority : phase.basis.priority ≡ p
  pub grading : phase.basis.grading ≡ basis.grading
  pub begun : AllZip (IsRowTurned p) (vectors_of basis.moves) (take phase.start_len (vectors_of phase.basis.moves))

-- a basis of the moves of a completed phase that are not redundant
pub record IsNeeded (phase : Phase) (after : BasisView) : Type 0 where
  pub completed : IsCompleted phase
  pub kept : IsBasis after
  pub priority : after.priority ≡ phase.basis.priority
  pub grading : after.grading ≡ phase.basis.grading
  pub moves : vectors_of after.moves ≡ drop_redundant (vectors_of phase.basis.moves)

-- the moves that a completed phase leaves: those that are not redundant, of the same lattice
pub record IsDropped (before : BasisView) (phase : Phase) (after : BasisView) : Type 0 where
  pub priority : after.priority ≡ phase.basis.priority
  pub grading : after.grading ≡ before.grading
  pub moves : vectors_of after.moves ≡ drop_redundant (vectors_of phase.basis.moves)
  pub lattice : SameLattice (length before.grading) (vectors_of before.moves) (vectors_of after.moves)
