use Rattle.std.proofs.Common.{refl}
use Rattle.mk_examples.proofs.TableFaultExamples.{nothing, minus, two_rows, three_columns, too_small, one_missing, one_more}
use Rattle.mk_examples.proofs.examples.table_fault_examples.Goals as goal

pub returns : goal.returns
returns c = record {
  no_header = nothing;
  bad_number = minus;
  rows = two_rows;
  columns = three_columns;
  entry_range = too_small;
  line = refl;
  missing = one_missing;
  trailing = one_more;
}
