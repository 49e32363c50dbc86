use Rattle.std.proofs.Common.{◌+◌}
use Rattle.mk_grader.proofs.fractions.+is_smaller.Given as goal

-- the denominators fall together: the rests are smaller than they
abbrev pub decreases-is_smaller : goal.decreases-is_smaller
decreases-is_smaller l = l.b + l.d
