use Rattle.mk_model.proofs.ReducedLaws.{reduced_is_markov}
use Rattle.mk_model.proofs.laws.reduced_basis_is_markov.Goals as goal

pub returns : goal.returns
returns c = λ lattice moves g a. reduced_is_markov g a
