use Rattle.mk_model.proofs.ReducedLaws.{least_or_divided}
use Rattle.mk_model.proofs.laws.reduced_basis_divides.Goals as goal

pub returns : goal.returns
returns c = λ lattice moves g a. least_or_divided g a
