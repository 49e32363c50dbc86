use Rattle.mk_model.specs.CoreStates.{new_state}
use Rattle.mk_model.proofs.LegalEvents.{all_events_keep, new_is_legal}
use Rattle.mk_model.proofs.laws.reached_is_legal.Goals as goal

pub returns : goal.returns
returns c = λ n priority start budget limit workers events after l h.
    all_events_keep n priority (new_state start budget limit workers) events after (new_is_legal n priority start budget limit workers l) h
