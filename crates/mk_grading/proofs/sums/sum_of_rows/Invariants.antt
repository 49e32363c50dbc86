use Rattle.mk_grading.proofs.RowsSummed.{IsSumUpTo}
use Rattle.mk_grading.proofs.sums.sum_of_rows.Given as goal

abbrev pub invariant-loop-r : goal.invariant-loop-r
invariant-loop-r l = IsSumUpTo l.matrix l.sums.items l.r
