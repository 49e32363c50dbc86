use Rattle.std.proofs.Common.{refl}
use Rattle.mk_model.specs.Vectors.{combine, add}
use Rattle.mk_model.specs.ChosenGradings.{sum_of_rows}
use Rattle.mk_examples.proofs.GradingExamples.{by_ones, by_grade, by_sum}
use Rattle.mk_examples.proofs.examples.grading_examples.Goals as goal

pub returns : goal.returns
unfolding combine add sum_of_rows
returns c = record { by_ones = by_ones; by_grade = by_grade; by_sum = by_sum; rows_sum = refl }
