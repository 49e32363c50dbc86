use Rattle.std.proofs.Common.{ℕ, ◌<◌}
use Rattle.mk_model.specs.CoreStates.{pair_of}
use Rattle.mk_model.specs.Events.{IsChain}
use Rattle.mk_move.specs.MoveLists.{vectors_of}
use Rattle.mk_criteria.proofs.chains.find_chain.Given as goal

abbrev pub invariant-loop-k : goal.invariant-loop-k
invariant-loop-k g l = (other : ℕ) → other < l.k → ¬ (IsChain (vectors_of l.basis.moves) (g.S.SettledPairs.journal l.settled) (pair_of l.i l.j) other)
