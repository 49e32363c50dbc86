use Rattle.mk_model.proofs.MinimalLaws.{minimal_from_answer}
use Rattle.mk_model.proofs.laws.essential_is_minimal.Goals as goal

pub returns : goal.returns
returns c = λ lattice upto moves g a. minimal_from_answer g a
