use Rattle.mk_model.specs.CoreStates.{pair_of}
use Rattle.mk_move.specs.MoveLists.{vectors_of}
use Rattle.mk_minimise.specs.Overlaps.{ListsBefore}
use Rattle.mk_minimise.proofs.overlaps.push_overlaps.Given as goal

abbrev pub invariant-loop-first : goal.invariant-loop-first
invariant-loop-first l = ListsBefore l.basis.grading (vectors_of l.basis.moves) l.weight (pair_of l.first l.second) l.found.items
