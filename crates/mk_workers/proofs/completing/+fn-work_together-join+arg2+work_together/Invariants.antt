use Rattle.std.proofs.Common.{◌+◌, ◌-◌, ◌*◌}
use Rattle.mk_workers.proofs.completing.+fn-work_together-join+arg2+work_together.Given as goal

-- so many more seats can be made
abbrev pub decreases-join+arg2 : goal.decreases-join+arg2
decreases-join+arg2 g l = 2 * (l.first.sight.seats - l.first.sight.made) + 1

abbrev pub decreases-work_together : goal.decreases-work_together
decreases-work_together g l = 2 * (l.first.sight.seats - l.first.sight.made)
