-- Pairs, and the completion when it begins and when it is ended.
use Rattle.std.proofs.Common.{inl, inr, arith, refl}
use Rattle.mk_model.specs.CoreStates.{pair_of, IsPairOf, IsLesser}
use Rattle.mk_model.specs.Legal.{IsLegal, IsEnded}
use Rattle.mk_examples.specs.Worked.{start_moves, column_one, begun_state, ended_phase}
use Rattle.mk_model.proofs.LegalEvents.{all_events_keep, new_is_legal, phase_is_legal}
use Rattle.mk_examples.proofs.EventExamples.{completion_events, all_settled, completion_happens, ended}

pub pair : IsPairOf start_moves (pair_of 0 1)
pair = record { ordered = omega arith; within = omega arith }

pub no_pair : ¬ (IsPairOf start_moves (pair_of 0 2))
no_pair h = omega (arith, h.within)

pub order : IsLesser (pair_of 0 1) (pair_of 0 2) × IsLesser (pair_of 0 2) (pair_of 1 2) × IsLesser (pair_of 1 2) (pair_of 0 3)
order = (inl (omega arith), inr (refl, omega arith), inl (omega arith))

pub begun : IsLegal 4 column_one begun_state
begun = new_is_legal 4 column_one start_moves 3 3 2 (omega arith)

pub legal : IsLegal 4 column_one ended_phase
legal = phase_is_legal 4 column_one all_settled 3 (omega arith)
    (all_events_keep 4 column_one begun_state completion_events all_settled begun completion_happens)

pub phase_ended : IsEnded ended_phase
phase_ended = record { all_settled = ended.all_settled; none_claimed = λ worker. refl }
