-- The list of essential moves, and why it can't be found. (Sturmfels, chapter 5: minimal Markov bases)
use Rattle.std.specs.Prelude.{◌≡◌, ℕ, List, Contains, Option, ℤ}
use Rattle.mk_model.specs.Bases.{IsUpTo}
use Rattle.mk_model.specs.CoreStates.{Pair, pair_of, stop_at}
use Rattle.mk_model.specs.Overflows.{IsGenuineOverflow, IsPairOfWeight}
use Rattle.mk_model.specs.Vectors.{weight}
use Rattle.mk_move.specs.MoveLists.{BasisView, vector_of, vectors_of}
use Rattle.mk_minimise.specs.declared.minimal.MinimiseFault.{MinimiseFault}
use Rattle.mk_minimise.specs.declared.minimal.MinimiseFault.TheVariants.{Memory, Overflow}
use Rattle.mk_minimise.specs.declared.overlaps.Overlap.{Overlap}
use Rattle.mk_minimise.specs.Overlaps.{lcm_at}

-- why the work on the pair stops. No cause is given for want of memory.
abbrev pub IsPairFault : List (List ℤ) → Pair → MinimiseFault → Type 0
IsPairFault moves pair Memory = Unit {0}
IsPairFault moves pair (Overflow i j by operand at) =
    (pair_of i j ≡ pair) × IsGenuineOverflow moves (stop_at (pair_of i j) by (vector_of operand) at.column at.left at.times at.right)

-- why the work on one of the pairs stops. No cause is given for want of memory.
abbrev pub IsFaultOfPairs : List (List ℤ) → List Overlap → MinimiseFault → Type 0
IsFaultOfPairs moves pairs Memory = Unit {0}
IsFaultOfPairs moves pairs (Overflow i j by operand at) =
    (pair : Overlap) × Contains pairs pair × IsPairFault moves (pair_of pair.first pair.second) (Overflow i j by operand at)

-- An entry left the range at a pair of the list whose weight is that of a move, and up to the bound. No cause is given for want of
-- memory.
abbrev pub IsMinimiseFault : BasisView → Option ℕ → MinimiseFault → Type 0
IsMinimiseFault basis upto Memory = Unit {0}
IsMinimiseFault basis upto (Overflow i j by operand at) =
    IsPairOfWeight basis.grading (vectors_of basis.moves) (pair_of i j)
    × IsUpTo upto (weight basis.grading (lcm_at (vectors_of basis.moves) i j))
    × IsGenuineOverflow (vectors_of basis.moves) (stop_at (pair_of i j) by (vector_of operand) at.column at.left at.times at.right)
