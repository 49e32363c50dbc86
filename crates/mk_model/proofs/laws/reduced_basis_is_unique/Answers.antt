use Rattle.mk_model.proofs.ReducedLaws.{one_reduced_basis}
use Rattle.mk_model.proofs.laws.reduced_basis_is_unique.Goals as goal

pub returns : goal.returns
returns c = λ lattice moves others a b. one_reduced_basis a b
