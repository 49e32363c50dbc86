use Rattle.mk_examples.proofs.ReductionExamples.{descent, descents, meet, reduction, reduces_to_zero, tail_reduct, irreducible, normal, divides_top, no_divisor}
use Rattle.mk_examples.proofs.examples.reduction_examples.Goals as goal

pub returns : goal.returns
returns c = record {
  descent = descent;
  descents = descents;
  meet = meet;
  reduction = reduction;
  reduct = reduces_to_zero;
  tail_reduct = tail_reduct;
  irreducible = irreducible;
  normal = normal;
  divides = divides_top;
  no_divisor = no_divisor;
}
