use Rattle.mk_model.proofs.ReducedLaws.{reduced_has_essential}
use Rattle.mk_model.proofs.laws.reduced_basis_has_the_essential_moves.Goals as goal

pub returns : goal.returns
returns c = λ lattice moves m g a. reduced_has_essential g a m
