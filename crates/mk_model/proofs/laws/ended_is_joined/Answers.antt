use Rattle.mk_model.proofs.EndedStates.{legal_sound, ended_joined}
use Rattle.mk_model.proofs.laws.ended_is_joined.Goals as goal

pub returns : goal.returns
returns c = record {
  oriented = λ lattice priority state legal o. (legal_sound lattice.columns lattice.rows lattice.grading priority state legal o).oriented;
  joined = λ lattice priority state legal o ended. ended_joined lattice.columns lattice.rows lattice.grading priority state legal o ended;
}
