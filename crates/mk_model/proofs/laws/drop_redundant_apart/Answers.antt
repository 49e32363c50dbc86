use Rattle.mk_model.proofs.Dropping.{drop_redundant_apart}
use Rattle.mk_model.proofs.laws.drop_redundant_apart.Goals as goal

pub returns : goal.returns
returns c = λ moves. drop_redundant_apart moves
