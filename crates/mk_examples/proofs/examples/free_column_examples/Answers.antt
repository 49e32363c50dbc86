use Rattle.std.proofs.Common.{refl}
use Rattle.mk_model.specs.Vectors.{negate, positive_part, negative_part}
use Rattle.mk_model.specs.FreeColumns.{is_within, without_support, bound_columns}
use Rattle.mk_examples.proofs.examples.free_column_examples.Goals as goal

pub returns : goal.returns
unfolding negate positive_part negative_part is_within without_support bound_columns
returns c = record {
  first_row = refl;
  not_within = refl;
  by_the_negative = refl;
  cubic = refl;
  like = refl;
  overlapping = refl;
  no_rows = refl;
  left = refl;
}
