use Rattle.mk_model.proofs.OneRow.{the_answer_of_row}
use Rattle.mk_model.proofs.laws.answer_of_one_row.Goals as goal

pub returns : goal.returns
returns c = λ lattice row m. the_answer_of_row lattice.columns lattice.rows lattice.grading row m
