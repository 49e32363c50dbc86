use Rattle.mk_model.proofs.Components.{answer_from_components}
use Rattle.mk_model.proofs.laws.answer_from_components.Goals as goal

pub returns : goal.returns
returns c = λ lattice upto basis chosen g reduced ascending first others. answer_from_components g reduced ascending first others
