-- Why the work of a worker on its pair stops, as a fault of the work.
use Rattle.std.proofs.Common.{List, None, refl}
use Rattle.mk_model.specs.CoreStates.{Pair}
use Rattle.mk_move.specs.Moves.{Weighed}
use Rattle.mk_move.specs.MoveLists.{vectors_of}
use Rattle.mk_reduce.specs.Stops.{IsDifferenceRefused}
use Rattle.mk_reduce.specs.declared.stop.Stop.{Stop}
use Rattle.mk_reduce.specs.declared.stop.Stop.TheVariants.{Memory, Overflow}
use Rattle.mk_core.specs.Remainders.{IsWorkFault}
use Rattle.mk_drive.specs.Seats.{fault_of_stop}

pub difference_fault : (moves : List Weighed) (pair : Pair) (stop : Stop) → IsDifferenceRefused moves pair stop → IsWorkFault (vectors_of moves) pair (fault_of_stop pair None stop)
difference_fault moves pair Memory h = tt
difference_fault moves pair (Overflow by at) (e, genuine) = (refl, genuine)
