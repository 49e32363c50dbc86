-- The work on a pair: what is left of the difference of its moves, and the steps that led there. (Sturmfels, chapters 1
-- and 5: S-pairs and reduction)
use Rattle.std.specs.Prelude.{◌≡◌, ◌≢◌, ◌⊎◌, ℕ, ◌≤◌, ◌<◌, List, [], ◌∷◌, ◌++◌, length, All, Option, Some, None, IfSome, ℤ, unsigned_abs}
use Rattle.mk_model.specs.Vectors.{zeros}
use Rattle.mk_model.specs.CoreStates.{Pair, move_at, difference, IsPairOf}
use Rattle.mk_model.specs.Overflows.{IsTimesDividing}
use Rattle.mk_model.specs.Reductions.{Reduct, IsNormal}
use Rattle.mk_move.specs.Moves.{Weighed, IsGraded, IsMoveKept}
use Rattle.mk_move.specs.MoveLists.{BasisView, vectors_of}
use Rattle.mk_move.specs.Steps.{minus_times}
use Rattle.mk_reduce.specs.declared.step.Step.{Step}

-- the pair, how many of the first moves it has been reduced by, what is left, and the steps in their order
pub record TheWork : Type 0 where
  pub pair : Pair
  pub front : ℕ
  pub remainder : Option Weighed
  pub trace : List Step

-- what is left, as a vector of so many columns
abbrev pub rest_of : ℕ → Option Weighed → List ℤ
rest_of n None = zeros n
rest_of n (Some m) = m.entries

-- so many times the lead of the move of the place divide the part of r that the sign of the number says, and no more do
pub record IsReductionStep (moves : List (List ℤ)) (r : List ℤ) (step : Step) : Type 0 where
  pub within : step.place < length moves
  pub divides : IsTimesDividing (move_at moves step.place) r step.times
  pub greatest : (times : ℤ) → IsTimesDividing (move_at moves step.place) r times → unsigned_abs times ≤ unsigned_abs step.times

-- r minus so many times the move of the place
abbrev pub after_step : List (List ℤ) → List ℤ → Step → List ℤ
after_step moves r step = minus_times r step.times (move_at moves step.place)

-- the steps, one after another, lead from r to the last vector
abbrev pub LeadsTo : List (List ℤ) → List ℤ → List Step → List ℤ → Type 0
LeadsTo moves r [] last = last ≡ r
LeadsTo moves r (step ∷ trace) last = IsReductionStep moves r step × LeadsTo moves (after_step moves r step) trace last

-- as many columns as the grading, and the weight that it gives
pub record IsRest (w : List ℤ) (m : Weighed) : Type 0 where
  pub columns : length m.entries ≡ length w
  pub graded : IsGraded w m

-- Work on a pair of the basis. What is left isn't zero, and its entries are in range. Each place of the trace is below the
-- front, unless the front is 0 and something is left.
pub record WorkOf (work : TheWork) (basis : BasisView) : Type 0 where
  pub pair : IsPairOf (vectors_of basis.moves) work.pair
  pub front : work.front ≤ length basis.moves
  pub steps : LeadsTo (vectors_of basis.moves) (difference (vectors_of basis.moves) work.pair) work.trace (rest_of (length basis.grading) work.remainder)
  pub reduct : Reduct (vectors_of basis.moves) (difference (vectors_of basis.moves) work.pair) (rest_of (length basis.grading) work.remainder)
  pub rest : IfSome work.remainder (IsRest basis.grading)
  pub kept : IfSome work.remainder IsMoveKept
  pub places : All (λ step. step.place < work.front) work.trace ⊎ ((work.front ≡ 0) × (work.remainder ≢ None))

-- nothing is left, or what is left is normal
abbrev pub IsReduced : List (List ℤ) → Option Weighed → Type 0
IsReduced moves None = Unit {0}
IsReduced moves (Some m) = IsNormal moves m.entries

-- the trace has the earlier steps, and maybe more behind them
abbrev pub ContinuesWork : List Step → List Step → Type 0
ContinuesWork earlier trace = (more : List Step) × (trace ≡ earlier ++ more)
