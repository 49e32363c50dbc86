-- What a grading keeps, and why one is refused.
use Rattle.std.specs.Prelude.{◌≡◌, ℕ, ◌≤◌, List, length, take, All, slice_get, Some, ℤ}
use Rattle.mk_model.specs.ChosenGradings.{IsColumnWeight}
use Rattle.mk_move.specs.declared.grading.GradingFault.{GradingFault}
use Rattle.mk_move.specs.declared.grading.GradingFault.TheVariants.{Memory, NotInRange}

-- what a weight of a column may be
abbrev pub IsWeight : ℤ → Type 0
IsWeight k = IsColumnWeight k

-- a weight for each of at most 512 columns
pub record AreWeights (weights : List ℤ) : Type 0 where
  pub columns : length weights ≤ 512
  pub each : All IsWeight weights

-- the value at this column is out of range, and none before it
pub record IsFirstOutside (weights : List ℤ) (column : ℕ) (value : ℤ) : Type 0 where
  pub at : slice_get weights column ≡ Some value
  pub outside : ¬ (IsWeight value)
  pub before : All IsWeight (take column weights)

-- why these weights are refused: no cause is given for want of memory
abbrev pub IsGradingFault : List ℤ → GradingFault → Type 0
IsGradingFault weights Memory = Unit {0}
IsGradingFault weights (NotInRange column value) = IsFirstOutside weights column value
