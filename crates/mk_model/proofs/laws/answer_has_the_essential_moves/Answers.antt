use Rattle.mk_model.proofs.AnswerLaws.{lists_essential}
use Rattle.mk_model.proofs.laws.answer_has_the_essential_moves.Goals as goal

pub returns : goal.returns
returns c = λ lattice upto moves a. lists_essential a
