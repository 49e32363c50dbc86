use Rattle.mk_model.proofs.ReducedLaws.{one_least}
use Rattle.mk_model.proofs.laws.least_vector_is_unique.Goals as goal

pub returns : goal.returns
returns c = λ lattice x y g p q h. one_least g x y p q h
