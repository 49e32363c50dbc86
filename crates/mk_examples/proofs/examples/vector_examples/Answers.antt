use Rattle.std.proofs.Common.{refl}
use Rattle.mk_model.specs.Vectors.{combine, add, subtract, negate, scale, positive_part, negative_part, weight}
use Rattle.mk_examples.proofs.WalkExamples.{point_of_four}
use Rattle.mk_examples.proofs.VectorExamples.{not_point, largest, too_large}
use Rattle.mk_examples.proofs.examples.vector_examples.Goals as goal

pub returns : goal.returns
unfolding combine add subtract negate scale positive_part negative_part weight
returns c = record {
  second_entry = refl;
  past_end = refl;
  larger = refl;
  total = refl;
  difference = refl;
  negated = refl;
  doubled = refl;
  positive = refl;
  negative = refl;
  weight_zero = refl;
  weight_five = refl;
  point = point_of_four 1 0 0 1;
  not_point = not_point;
  largest = largest;
  too_large = too_large;
}
