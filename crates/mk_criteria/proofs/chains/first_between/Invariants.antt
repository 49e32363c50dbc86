use Rattle.std.proofs.Common.{ℕ, ◌<◌, ◌≤◌}
use Rattle.mk_model.specs.CoreStates.{pair_of}
use Rattle.mk_move.specs.MoveLists.{vectors_of}
use Rattle.mk_criteria.specs.ThirdMoves.{IsThirdMove}
use Rattle.mk_criteria.proofs.chains.first_between.Given as goal

abbrev pub invariant-loop-k : goal.invariant-loop-k
invariant-loop-k l = (other : ℕ) → l.from ≤ other → other < l.k → ¬ (IsThirdMove (vectors_of l.basis.moves) (pair_of l.i l.j) other)
