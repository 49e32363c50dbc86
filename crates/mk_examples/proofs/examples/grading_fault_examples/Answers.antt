use Rattle.mk_examples.proofs.GradingExamples.{no_source, other_columns, matrix_mismatch, other_shape, below_one, grade_mismatch}
use Rattle.mk_examples.proofs.examples.grading_fault_examples.Goals as goal

pub returns : goal.returns
returns c = record {
  no_source = no_source;
  other_columns = other_columns;
  matrix_mismatch = matrix_mismatch;
  other_shape = other_shape;
  below_one = below_one;
  grade_mismatch = grade_mismatch;
}
