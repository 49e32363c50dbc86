use Rattle.mk_model.specs.CoreStates.{pair_of}
use Rattle.mk_move.specs.MoveLists.{vectors_of}
use Rattle.mk_minimise.specs.Overlaps.{ListsBefore}
use Rattle.mk_minimise.proofs.overlaps.overlaps_of.Given as goal

abbrev pub invariant-loop-second : goal.invariant-loop-second
invariant-loop-second l = ListsBefore l.basis.grading (vectors_of l.basis.moves) l.weight (pair_of 0 l.second) l.found.items
