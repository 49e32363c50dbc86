use Rattle.mk_core.proofs.NeededMoves.{IsKeptUpTo}
use Rattle.mk_core.proofs.dropping.drop_redundant.Given as goal

abbrev pub invariant-loop-place : goal.invariant-loop-place
invariant-loop-place l = IsKeptUpTo l.basis l.place l.kept
