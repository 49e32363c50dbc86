use Rattle.std.proofs.Common.{◌≡◌, ◌∷◌, ◌++◌}
use Rattle.mk_move.specs.Priorities.{others}
use Rattle.mk_move.proofs.priority.Priority.first.Given as goal

abbrev pub invariant-loop-end : goal.invariant-loop-end
invariant-loop-end l = l.list.items ++ others l.column l.end ≡ l.column ∷ others l.column l.columns

abbrev pub decreases-loop-end : goal.decreases-loop-end
decreases-loop-end l = l.end
