use Rattle.std.proofs.Common.{◌+◌, ◌≤◌}
use Rattle.mk_solve.proofs.workers.is_long.Given as goal

-- of those that were looked at, no more were reduced than there are
abbrev pub invariant-loop-n : goal.invariant-loop-n
invariant-loop-n l = l.from + l.reduced ≤ l.n
