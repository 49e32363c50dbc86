-- Reduction of a row in place: what is left of the row, and what the keeper of the steps has then.
use Rattle.std.specs.Prelude.{◌≡◌, ℕ, ◌<◌, Bool, true, false, List, ◌++◌, length, Some, Result, Ok, Err, ℤ, pos}
use Rattle.mk_model.specs.CoreStates.{move_at}
use Rattle.mk_model.specs.Overflows.{IsTimesDividing}
use Rattle.mk_model.specs.Vectors.{zeros, weight}
use Rattle.mk_model.specs.Reductions.{IsNormal}
use Rattle.mk_move.specs.Moves.{Weighed}
use Rattle.mk_move.specs.MoveLists.{BasisView, vectors_of}
use Rattle.mk_move.specs.Steps.{IsOverflow}
use Rattle.mk_move.specs.declared.steps.OverflowAt.{OverflowAt}
use Rattle.mk_reduce.specs.Works.{LeadsTo}
use Rattle.mk_reduce.specs.declared.step.Step.{Step}
use Rattle.mk_reduce.specs.declared.stop.Stop.{Stop}
use Rattle.mk_reduce.specs.declared.stop.Stop.TheVariants.{Memory, Overflow}

-- as many columns as the grading, and product 0: the weight isn't said
pub record IsUnweighed (w : List ℤ) (m : Weighed) : Type 0 where
  pub columns : length m.entries ≡ length w
  pub product : weight w m.entries ≡ pos 0

-- Steps lead from the one vector to the other. The keeper of the steps has them behind those that it had before.
pub record IsTraced (moves : List (List ℤ)) (first : List ℤ) (before : List Step → Type 0) (last : List ℤ) (after : List Step → Type 0) : Type 0 where
  pub more : List Step
  pub leads : LeadsTo moves first more last
  pub kept : (earlier : List Step) → before earlier → after (earlier ++ more)

-- what the steps leave, but for its weight
pub record IsLeftTraced (basis : BasisView) (first : List ℤ) (before : List Step → Type 0) (m : Weighed) (after : List Step → Type 0) : Type 0 where
  pub unweighed : IsUnweighed basis.grading m
  pub traced : IsTraced (vectors_of basis.moves) first before m.entries after

-- a step from r by the move of the place leaves the range
pub record IsBlocked (moves : List (List ℤ)) (r : List ℤ) (place : ℕ) (at : OverflowAt) : Type 0 where
  pub within : place < length moves
  pub step : IsTimesDividing (move_at moves place) r at.times
  pub overflow : IsOverflow r (move_at moves place) at.times at

-- A step from r is refused: by a move, and where it leaves the range. No cause is given for want of memory.
abbrev pub IsRefusedFrom : List (List ℤ) → List ℤ → Stop → Type 0
IsRefusedFrom moves r Memory = Unit {0}
IsRefusedFrom moves r (Overflow by at) = (place : ℕ) × (by ≡ Some place) × IsBlocked moves r place at

-- Reducing by steps that are kept: what is left is normal; or it is zero, and then the row isn't said; or a step from it is
-- refused.
abbrev pub ReducesKeeping : BasisView → List ℤ → (List Step → Type 0) → Result Bool Stop → Weighed → (List Step → Type 0) → Type 0
ReducesKeeping basis first before (Ok true) m after = IsLeftTraced basis first before m after × IsNormal (vectors_of basis.moves) m.entries
ReducesKeeping basis first before (Ok false) m after = IsTraced (vectors_of basis.moves) first before (zeros (length basis.grading)) after
ReducesKeeping basis first before (Err stop) m after = IsLeftTraced basis first before m after × IsRefusedFrom (vectors_of basis.moves) m.entries stop
