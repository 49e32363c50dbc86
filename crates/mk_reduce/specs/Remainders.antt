-- What is left of the difference of a pair of a basis: nothing, where it has the reduct 0; or a remainder, which no lead
-- divides; or why there is none. (Sturmfels, chapters 1 and 5: the remainder of an S-pair)
use Rattle.std.specs.Prelude.{List, length, Option, None, Some, ℤ}
use Rattle.mk_model.specs.Vectors.{zeros}
use Rattle.mk_model.specs.CoreStates.{Pair, difference}
use Rattle.mk_model.specs.Overflows.{IsGenuineOverflow}
use Rattle.mk_model.specs.Reductions.{Reduct, IsNormal}
use Rattle.mk_move.specs.Moves.{Weighed}
use Rattle.mk_move.specs.MoveLists.{BasisView, vectors_of, vector_of}
use Rattle.mk_reduce.specs.Stops.{overflow_of}
use Rattle.mk_reduce.specs.Works.{IsRest}
use Rattle.mk_reduce.specs.declared.remainder.RemainderFault.{RemainderFault}
use Rattle.mk_reduce.specs.declared.remainder.RemainderFault.TheVariants.{Memory, Overflow}

-- a graded move that is a reduct of the pair's difference, and normal
pub record IsNormalRest (basis : BasisView) (pair : Pair) (m : Weighed) : Type 0 where
  pub reduct : Reduct (vectors_of basis.moves) (difference (vectors_of basis.moves) pair) m.entries
  pub rest : IsRest basis.grading m
  pub normal : IsNormal (vectors_of basis.moves) m.entries

-- what is left of the pair's difference
abbrev pub IsRemainder : BasisView → Pair → Option Weighed → Type 0
IsRemainder basis pair None = Reduct (vectors_of basis.moves) (difference (vectors_of basis.moves) pair) (zeros (length basis.grading))
IsRemainder basis pair (Some m) = IsNormalRest basis pair m

-- why there is no remainder of the pair. No cause is given for want of memory.
abbrev pub IsRemainderFault : List (List ℤ) → Pair → RemainderFault → Type 0
IsRemainderFault moves pair Memory = Unit {0}
IsRemainderFault moves pair (Overflow by operand at) = IsGenuineOverflow moves (overflow_of pair (vector_of operand) by at)
