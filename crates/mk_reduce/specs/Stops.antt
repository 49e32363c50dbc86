-- Why the work on a pair stops.
use Rattle.std.specs.Prelude.{◌≡◌, ℕ, List, Option, Some, None, ℤ}
use Rattle.mk_model.specs.CoreStates.{Pair, OverflowStop, stop_at}
use Rattle.mk_model.specs.Overflows.{IsGenuineOverflow}
use Rattle.mk_move.specs.Moves.{Weighed}
use Rattle.mk_move.specs.declared.steps.OverflowAt.{OverflowAt}
use Rattle.mk_reduce.specs.declared.stop.Stop.{Stop}
use Rattle.mk_reduce.specs.declared.stop.Stop.TheVariants.{Memory, Overflow}
use Rattle.mk_move.specs.MoveLists.{vectors_of}

-- the numbers of an overflow, at a pair and in a step from the operand
abbrev pub overflow_of : Pair → Option (List ℤ) → Option ℕ → OverflowAt → OverflowStop
overflow_of pair operand by at = stop_at pair by operand at.column at.left at.times at.right

-- The difference of the pair is refused: by no move, and where it leaves the range. No cause is given for want of memory.
abbrev pub IsDifferenceRefused : List Weighed → Pair → Stop → Type 0
IsDifferenceRefused moves pair Memory = Unit {0}
IsDifferenceRefused moves pair (Overflow by at) = (by ≡ None) × IsGenuineOverflow (vectors_of moves) (overflow_of pair None by at)

-- A step from what is kept is refused: by a move, and where it leaves the range. No cause is given for want of memory.
abbrev pub IsStepRefused : List Weighed → Pair → Option Weighed → Stop → Type 0
IsStepRefused moves pair kept Memory = Unit {0}
IsStepRefused moves pair kept (Overflow by at) =
    (m : Weighed) × (kept ≡ Some m) × (place : ℕ) × (by ≡ Some place) × IsGenuineOverflow (vectors_of moves) (overflow_of pair (Some m.entries) by at)
