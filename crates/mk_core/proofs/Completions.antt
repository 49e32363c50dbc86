-- In a completed phase every pair of the basis is joined below.
use Rattle.std.proofs.Common.{List, ℤ, length}
use Rattle.mk_model.specs.CoreStates.{start_of}
use Rattle.mk_model.specs.Pairs.{AreOrientedMoves, EveryPairJoined}
use Rattle.mk_model.proofs.EndedStates.{ended_joined}
use Rattle.mk_move.specs.MoveLists.{vectors_of}
use Rattle.mk_core.specs.declared.phase.Phase.{Phase}
use Rattle.mk_core.specs.Phases.{IsCompleted, state_of}
use Rattle.mk_model.specs.Lattices.{lattice_of}

pub completed_joined : (phase : Phase) → IsCompleted phase → (rows : List (List ℤ)) → AreOrientedMoves (lattice_of (length phase.basis.grading) rows phase.basis.grading) phase.basis.priority (start_of (state_of phase 0 0)) →
    EveryPairJoined (length phase.basis.grading) phase.basis.priority (vectors_of phase.basis.moves)
completed_joined phase h rows oriented =
    ended_joined (length phase.basis.grading) rows phase.basis.grading phase.basis.priority (state_of phase (length phase.journal) 65536) h.legal oriented h.ended
