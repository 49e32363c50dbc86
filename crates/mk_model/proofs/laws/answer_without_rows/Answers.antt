use Rattle.mk_model.proofs.OneRow.{the_answer_of_no_row}
use Rattle.mk_model.proofs.laws.answer_without_rows.Goals as goal

pub returns : goal.returns
returns c = λ lattice. the_answer_of_no_row lattice.columns lattice.rows lattice.grading
