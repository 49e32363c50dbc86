use Rattle.std.proofs.Common.{refl}
use Rattle.mk_model.specs.Vectors.{combine, subtract, positive_part}
use Rattle.mk_model.specs.Saturation.{divides}
use Rattle.mk_examples.proofs.ReductionExamples.{drops_two, apart}
use Rattle.mk_examples.proofs.examples.redundancy_examples.Goals as goal

pub returns : goal.returns
unfolding divides subtract combine positive_part
returns c = record {
  divides_test = refl;
  divisor = refl;
  larger_lead = refl;
  first_of_two = refl;
  second_of_two = refl;
  needed = refl;
  left = drops_two;
  apart = apart;
}
