use Rattle.std.proofs.Common.{◌≡◌, ◌++◌}
use Rattle.mk_model.specs.Orders.{standard}
use Rattle.mk_move.proofs.priority.Priority.standard.Given as goal

abbrev pub invariant-loop-left : goal.invariant-loop-left
invariant-loop-left l = l.list.items ++ standard l.left ≡ standard l.columns

abbrev pub decreases-loop-left : goal.decreases-loop-left
decreases-loop-left l = l.left
