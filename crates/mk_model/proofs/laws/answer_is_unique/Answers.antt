use Rattle.mk_model.proofs.AnswerLaws.{one_list}
use Rattle.mk_model.proofs.laws.answer_is_unique.Goals as goal

pub returns : goal.returns
returns c = λ lattice upto moves others a b. one_list b a
