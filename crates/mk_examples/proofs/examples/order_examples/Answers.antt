use Rattle.std.proofs.Common.{inl, inr, refl}
use Rattle.mk_model.specs.Vectors.{negate, positive_part, negative_part, weight}
use Rattle.mk_examples.proofs.Ascending.{nine_ascend}
use Rattle.mk_examples.proofs.ReductionExamples.{standard_oriented}
use Rattle.mk_examples.proofs.examples.order_examples.Goals as goal

pub returns : goal.returns
unfolding negate positive_part negative_part weight
returns c = record {
  columns = refl;
  points = inl (record { lt = tt });
  oriented = standard_oriented;
  lead_end = refl;
  tail_end = refl;
  of_three_columns = inr (refl, inl (inr (refl, inl (record { lt = tt }))));
  independence = nine_ascend;
}
