use Rattle.mk_model.proofs.LegalEvents.{phase_is_legal}
use Rattle.mk_model.proofs.laws.phase_is_legal.Goals as goal

pub returns : goal.returns
returns c = λ n priority state budget l legal. phase_is_legal n priority state budget l legal
