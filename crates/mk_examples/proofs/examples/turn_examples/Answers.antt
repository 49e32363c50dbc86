use Rattle.std.proofs.Common.{List, [], ◌∷◌, ◌≡◌, inl, refl, ◌∙◌}
use Rattle.mk_model.specs.CoreStates.{CoreState, pair_of}
use Rattle.mk_model.specs.Events.{with_claim}
use Rattle.mk_model.specs.Programs.{Stage, Drives}
use Rattle.mk_model.specs.Programs.Stage.{Idle, Fresh, Tests, Gone}
use Rattle.mk_examples.specs.Worked.{cubic_top, cubic_second, column_one, begun_state}
use Rattle.mk_examples.proofs.EventExamples.{first_claim}
use Rattle.mk_examples.proofs.examples.turn_examples.Goals as goal

abbrev claimed : CoreState
claimed = with_claim begun_state 0 (pair_of 0 1)

stays_gone : (after : CoreState) (last : List Stage) → Drives 4 column_one begun_state (Gone ∷ Idle ∷ []) (0 ∷ []) after last →
    after ≡ begun_state
stays_gone after last (middle, next, (e, f), (g, h)) = g ∙ e

pub returns : goal.returns
returns c = record {
  no_turn = (refl, refl);
  claims = (claimed, Fresh, inl (first_claim cubic_top cubic_second 3, refl), (refl, refl));
  copies = (claimed, Fresh, inl (first_claim cubic_top cubic_second 3, refl), (claimed, Tests 2 0 0, (refl, refl), (refl, refl)));
  gone = stays_gone;
}
