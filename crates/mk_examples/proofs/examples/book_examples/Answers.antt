use Rattle.std.proofs.Common.{refl}
use Rattle.mk_model.specs.Vectors.{negate, positive_part, negative_part}
use Rattle.mk_model.specs.FreeColumns.{is_within, without_support, bound_columns}
use Rattle.mk_examples.proofs.BookExamples.{complete, begun, stopped}
use Rattle.mk_examples.proofs.examples.book_examples.Goals as goal

pub returns : goal.returns
unfolding negate positive_part negative_part is_within without_support bound_columns
returns c = record { lists = refl; complete = complete; begun = begun; stopped = stopped }
