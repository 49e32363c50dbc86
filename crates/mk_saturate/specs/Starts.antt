-- The moves of a lattice's rows, with which its saturation begins. (Sturmfels, chapter 12)
use Rattle.std.specs.Prelude.{◌≡◌, ◌≢◌, ℕ, ◌+◌, ◌<◌, ◌^◌, List, [], ◌∷◌, ◌++◌, length, take, All, Option, None, Result, Ok, Err, Some, slice_get, ℤ, pos}
use Rattle.std.specs.List.{AllZip}
use Rattle.mk_model.specs.Vectors.{weight}
use Rattle.mk_model.specs.Lattices.{nonzero_rows}
use Rattle.mk_model.specs.Orders.{IsRowTurned}
use Rattle.mk_move.specs.MoveLists.{BasisView, BelongsTo, vectors_of}
use Rattle.mk_move.specs.Moves.{Weighed}
use Rattle.mk_move.specs.declared.moves.MoveFault.{MoveFault}
use Rattle.mk_move.specs.declared.moves.MoveFault.TheVariants.{Memory, NotGraded}

-- the rows that are not zero, in their order, each oriented by the list
pub record IsStart (rows : List (List ℤ)) (w : List ℤ) (p : List ℕ) (basis : BasisView) : Type 0 where
  pub priority : basis.priority ≡ p
  pub grading : basis.grading ≡ w
  pub moves : AllZip (IsRowTurned p) (nonzero_rows rows) (vectors_of basis.moves)

-- the first row whose product with the grading isn't 0, and that product
pub record IsFirstUngraded (rows : List (List ℤ)) (w : List ℤ) (value : ℤ) : Type 0 where
  pub place : ℕ
  pub row : List ℤ
  pub at : slice_get rows place ≡ Some row
  pub product : value ≡ weight w row
  pub not_zero : value ≢ pos 0
  pub before : All (λ other. weight w other ≡ pos 0) (take place rows)

-- the basis that the rows begin, or why there is none: no cause is given for want of memory
abbrev pub Starts : List (List ℤ) → List ℤ → List ℕ → Result BasisView MoveFault → Type 0
Starts rows w p (Ok basis) = IsStart rows w p basis × All (λ row. weight w row ≡ pos 0) rows
Starts rows w p (Err Memory) = Unit {0}
Starts rows w p (Err (NotGraded value)) = IsFirstUngraded rows w value

-- ---- putting a move at the end of a basis
-- the move belongs to the basis, which has room for it
abbrev pub PutsOn : BasisView → Option Weighed → Type 0
PutsOn basis None = Unit {0}
PutsOn basis (Some m) = BelongsTo basis.priority basis.grading m × (length basis.moves + 1 < 2 ^ 32)

-- the move at the end of the moves, if there is one
abbrev pub with_start : List Weighed → Option Weighed → List Weighed
with_start moves None = moves
with_start moves (Some m) = moves ++ m ∷ []

-- the basis has the move at its end, or there was no memory
abbrev pub IsPut : BasisView → Option Weighed → Result Unit MoveFault → BasisView → Type 0
IsPut basis found (Ok done) after = after ≡ record basis { moves = with_start basis.moves found }
IsPut basis found (Err fault) after = fault ≡ Memory
