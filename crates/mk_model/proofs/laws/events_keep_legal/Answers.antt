use Rattle.mk_model.proofs.LegalEvents.{events_keep}
use Rattle.mk_model.proofs.laws.events_keep_legal.Goals as goal

pub returns : goal.returns
returns c = λ n priority state event after legal h. events_keep n priority state event after legal h
