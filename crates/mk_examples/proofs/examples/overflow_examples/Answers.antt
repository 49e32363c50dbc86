use Rattle.mk_examples.proofs.OverflowExamples.{in_difference, in_step, in_tail_step}
use Rattle.mk_examples.proofs.examples.overflow_examples.Goals as goal

pub returns : goal.returns
returns c = record { difference = in_difference; step = in_step; tail_step = in_tail_step }
