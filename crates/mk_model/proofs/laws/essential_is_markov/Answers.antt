use Rattle.mk_model.proofs.MarkovLaws.{markov_from_answer}
use Rattle.mk_model.proofs.laws.essential_is_markov.Goals as goal

pub returns : goal.returns
returns c = λ lattice upto moves g a. markov_from_answer g a
