use Rattle.mk_examples.proofs.TwistedCubic.{of_twisted_cubic}
use Rattle.mk_examples.proofs.LikeColumns.{of_like_columns}
use Rattle.mk_examples.proofs.SmallCurve.{of_small_curve, up_to_two, up_to_one, third_is_reduced, third_not_essential}
use Rattle.mk_examples.proofs.AnswerExamples.{of_two_columns, earlier, multiple, negated, of_zeros}
use Rattle.mk_examples.proofs.examples.answer_examples.Goals as goal

pub returns : goal.returns
returns c = record {
  of_twisted_cubic = of_twisted_cubic;
  of_like_columns = of_like_columns;
  of_small_curve = of_small_curve;
  up_to_two = up_to_two;
  up_to_one = up_to_one;
  reduced = third_is_reduced;
  not_essential = third_not_essential;
  of_two_columns = of_two_columns;
  earlier = earlier;
  multiple = multiple;
  negated = negated;
  of_zeros = of_zeros;
}
