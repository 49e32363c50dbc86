use Rattle.std.proofs.Common.{arith}
use Rattle.mk_files.proofs.RowsCut.{slice_get-cut}
use Rattle.mk_files.proofs.table.Table.row.Goals as goal

pub returns-clause-value : goal.returns-clause-value
returns-clause-value c = grind (arith, slice_get-cut)
