use Rattle.mk_model.proofs.MarkovLaws.{markov_from_none, markov_to_none}
use Rattle.mk_model.proofs.laws.markov_up_to_none_is_markov.Goals as goal

pub returns : goal.returns
returns c = λ lattice moves. (markov_from_none lattice moves, markov_to_none lattice moves)
