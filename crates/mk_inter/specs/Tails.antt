-- The reduced basis, and why the tails of a basis can't be reduced. (Sturmfels, chapter 1: reduced bases)
use Rattle.std.specs.Prelude.{◌≡◌, Some, length}
use Rattle.mk_model.specs.CoreStates.{pair_of, stop_at}
use Rattle.mk_model.specs.Orders.{standard}
use Rattle.mk_model.specs.Overflows.{IsTailOverflow}
use Rattle.mk_model.specs.ReducedBases.{IsReducedBasis}
use Rattle.mk_move.specs.MoveLists.{lattice_spanned, BasisView, IsBasis, vectors_of}
use Rattle.mk_inter.specs.declared.tails.TailFault.{TailFault}
use Rattle.mk_inter.specs.declared.tails.TailFault.TheVariants.{Memory, Overflow}

-- The moves are the reduced basis of the lattice that they span, oriented by the standard list.
pub record IsReducedList (basis : BasisView) : Type 0 where
  pub kept : IsBasis basis
  pub standard_list : basis.priority ≡ standard (length basis.grading)
  pub reduced : IsReducedBasis (lattice_spanned basis) (vectors_of basis.moves)

-- An entry left the range in a step on the tail of the move of an index, by the move of a place. No cause is given for want
-- of memory.
abbrev pub IsTailFault : BasisView → TailFault → Type 0
IsTailFault basis Memory = Unit {0}
IsTailFault basis (Overflow index by operand at) =
    IsTailOverflow (vectors_of basis.moves) index
    (stop_at (pair_of index index) (Some by) (Some operand.entries) at.column at.left at.times at.right)
