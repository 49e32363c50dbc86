-- A phase that a job's completion gives, as one that begins with the moves that the job is over.
use Rattle.std.proofs.Common.{ℕ, List, sym, ◌∙◌, subst}
use Rattle.std.specs.List.{AllZip}
use Rattle.mk_move.specs.MoveLists.{BasisView, vectors_of}
use Rattle.mk_core.specs.JobPhases.{IsPhaseOf}
use Rattle.mk_core.specs.Jobs.{JobView}
use Rattle.mk_core.specs.declared.phase.Phase.{Phase}
use Rattle.mk_model.specs.Orders.{IsRowTurned}
use Rattle.mk_saturate.specs.Saturations.{IsJob, IsPhaseFromBasis}

pub phase_of_job : (basis : BasisView) (p : List ℕ) (budget : ℕ) (job : JobView) (phase : Phase) → IsJob basis p budget job → IsPhaseOf job phase → IsPhaseFromBasis basis p phase
phase_of_job basis p budget job phase h from = record {
  priority = from.priority ∙ h.priority;
  grading = from.grading ∙ h.grading;
  begun = subst (λ start. AllZip (IsRowTurned p) (vectors_of basis.moves) start) (sym from.start) h.begun;
}
