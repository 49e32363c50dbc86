use Rattle.mk_grading.proofs.RowsAdded.{IsAdded}
use Rattle.mk_grading.proofs.sums.add_row.Given as goal

abbrev pub invariant-loop-column : goal.invariant-loop-column
invariant-loop-column l = IsAdded l.initial.sums l.row l.sums l.column
