use Rattle.std.proofs.Common.{◌≡◌, map, take}
use Rattle.mk_move.specs.Moves.{Weighed}
use Rattle.mk_run.proofs.giving.weights_of.Given as goal

abbrev pub invariant-loop-k : goal.invariant-loop-k
invariant-loop-k l = l.weights.items ≡ map (λ (m : Weighed). m.weight) (take l.k l.list.moves)
