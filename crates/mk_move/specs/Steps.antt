-- A move minus some times another: the difference, and where it leaves the range of entries.
use Rattle.std.specs.Prelude.{◌≡◌, ℕ, ◌<◌, ◌≤◌, ◌*◌, ◌^◌, unsigned_abs, List, length, All, Option, Some, None, Result, Ok, Err, ℤ, ◌-ℤ◌, ◌*ℤ◌}
use Rattle.mk_model.specs.Vectors.{entry, zeros, scale, subtract, IsEntry}
use Rattle.mk_model.specs.Overflows.{IsBeyond}
use Rattle.mk_move.specs.Moves.{Weighed, IsGraded, IsMoveKept}
use Rattle.mk_move.specs.declared.steps.OverflowAt.{OverflowAt}
use Rattle.mk_move.specs.declared.steps.StepFault.{StepFault}
use Rattle.mk_move.specs.declared.steps.StepFault.TheVariants.{Memory, Overflow}

-- the first column where x minus so many times y leaves the range, with its numbers
pub record IsOverflow (x y : List ℤ) (factor : ℤ) (at : OverflowAt) : Type 0 where
  pub within : at.column < length x
  pub left : at.left ≡ entry x at.column
  pub times : at.times ≡ factor
  pub right : at.right ≡ entry y at.column
  pub beyond : IsBeyond (entry x at.column -ℤ (factor *ℤ entry y at.column))
  pub lesser : (c : ℕ) → c < at.column → IsEntry (entry x c -ℤ (factor *ℤ entry y c))

-- x minus so many times y
abbrev pub minus_times : List ℤ → ℤ → List ℤ → List ℤ
minus_times x times y = subtract x (scale times y)

-- the difference as a move of the grading: not zero, and with its entries in range
pub record IsDifference (x y w : List ℤ) (times : ℤ) (m : Weighed) : Type 0 where
  pub entries : m.entries ≡ minus_times x times y
  pub graded : IsGraded w m
  pub kept : IsMoveKept m

-- why there is no difference: no cause is given for want of memory
abbrev pub IsStepFault : List ℤ → List ℤ → ℤ → StepFault → Type 0
IsStepFault x y times Memory = Unit {0}
IsStepFault x y times (Overflow at) = IsOverflow x y times at

-- Taking a multiple of y off x: none exactly for the zero difference, refused where an entry leaves the range.
abbrev pub TakesOff : List ℤ → ℤ → List ℤ → List ℤ → Result (Option Weighed) StepFault → Type 0
TakesOff x times y w (Ok None) = minus_times x times y ≡ zeros (length x)
TakesOff x times y w (Ok (Some m)) = IsDifference x y w times m
TakesOff x times y w (Err fault) = IsStepFault x y times fault

-- the entries of the difference, all of them in range
pub record GivesEntries (x y : List ℤ) (times : ℤ) (given : List ℤ) : Type 0 where
  pub value : given ≡ minus_times x times y
  pub range : All IsEntry given

-- the entry is this number, in range
pub record GivesEntry (z value : ℤ) : Type 0 where
  pub same : value ≡ z
  pub range : IsEntry value

-- So many columns at the front have a product with the number that is formed, and fits 128 bits. The entry behind them, if
-- there is one, takes each entry out of range.
pub record AreFormed (y : List ℤ) (times : ℤ) (columns : ℕ) : Type 0 where
  pub within : columns ≤ length y
  pub fits : (c : ℕ) → c < columns → unsigned_abs times * unsigned_abs (entry y c) ≤ 2 ^ 126
  pub beyond : columns < length y → (left : ℤ) → IsEntry left → IsBeyond (left -ℤ (times *ℤ entry y columns))
