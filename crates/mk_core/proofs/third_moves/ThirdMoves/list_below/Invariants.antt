use Rattle.mk_core.specs.Neighbours.{AreNeighboursBelow}
use Rattle.mk_core.proofs.third_moves.ThirdMoves.list_below.Given as goal

abbrev pub invariant-loop-place : goal.invariant-loop-place
invariant-loop-place l = AreNeighboursBelow l.masks l.j l.place l.self.candidates.items
