use Rattle.std.proofs.Common.{[]}
use Rattle.mk_model.proofs.Journals.{replay_push}
use Rattle.mk_model.proofs.laws.replay_goes_on.Goals as goal

pub returns : goal.returns
returns c = λ n priority limit start basis after journal entry r h. replay_push n priority limit [] start journal basis entry after r h
