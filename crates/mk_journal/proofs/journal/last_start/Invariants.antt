use Rattle.std.proofs.Common.{◌-◌, ◌<◌, ◌≤◌, get_or}
use Rattle.mk_journal.proofs.journal.last_start.Given as goal

abbrev pub invariant-loop-high : goal.invariant-loop-high
invariant-loop-high l = (l.low < l.high) × (l.high ≤ l.count) × (get_or l.starts l.low 0 ≤ l.n)

abbrev pub decreases-loop-high : goal.decreases-loop-high
decreases-loop-high l = l.high - l.low
