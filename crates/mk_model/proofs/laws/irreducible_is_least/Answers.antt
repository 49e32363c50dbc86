use Rattle.mk_model.proofs.NormalForms.{irreducible_is_least}
use Rattle.mk_model.proofs.laws.irreducible_is_least.Goals as goal

pub returns : goal.returns
returns c = λ lattice priority moves x y o markov pairs none q r h. irreducible_is_least o markov pairs x y none q r h
