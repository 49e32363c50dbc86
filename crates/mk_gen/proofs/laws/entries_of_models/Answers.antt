use Rattle.mk_gen.proofs.Cells.{rows_of_two, rows_of_three, two, three}
use Rattle.mk_gen.proofs.laws.entries_of_models.Goals as goal

pub returns-clause-two_rows : goal.returns-clause-two_rows
returns-clause-two_rows c = rows_of_two

pub returns-clause-three_rows : goal.returns-clause-three_rows
returns-clause-three_rows c = rows_of_three

pub returns-clause-two : goal.returns-clause-two
returns-clause-two c = two

pub returns-clause-three : goal.returns-clause-three
returns-clause-three c = three
