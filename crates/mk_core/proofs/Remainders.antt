-- Why there is no remainder of a pair, as a fault of the work on it.
use Rattle.std.proofs.Common.{List, ℤ, refl}
use Rattle.mk_model.specs.CoreStates.{Pair}
use Rattle.mk_reduce.specs.Remainders.{IsRemainderFault}
use Rattle.mk_reduce.specs.declared.remainder.RemainderFault.{RemainderFault}
use Rattle.mk_reduce.specs.declared.remainder.RemainderFault.TheVariants.{Memory, Overflow}
use Rattle.mk_core.specs.Remainders.{IsWorkFault, fault_for}

pub fault_is : (moves : List (List ℤ)) (pair : Pair) (fault : RemainderFault) → IsRemainderFault moves pair fault → IsWorkFault moves pair (fault_for pair fault)
fault_is moves pair Memory h = tt
fault_is moves pair (Overflow by operand at) h = (refl, h)
