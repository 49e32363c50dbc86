use Rattle.mk_model.proofs.Turns.{driven_events, driven_legal}
use Rattle.mk_model.proofs.laws.turns_happen_by_events.Goals as goal

pub returns : goal.returns
returns c = record { events = driven_events; legal = driven_legal }
