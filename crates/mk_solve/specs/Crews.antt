-- What a crew is asked for.
use Rattle.std.specs.Prelude.{◌≡◌, ◌↔◌, ℕ, ◌≤◌, length, Result, IfSome}
use Rattle.mk_core.specs.Jobs.{JobView}
use Rattle.mk_core.specs.declared.phase.Phase.{Phase}
use Rattle.mk_core.specs.declared.phase.Stopped.{Stopped}
use Rattle.mk_core.specs.JobPhases.{CompletesJob, IsUsedUp}
use Rattle.mk_core.specs.Phases.{phase_in, AnswersOverBudget}

-- the answer is one of the job, and says that the budget is used exactly where it is
pub record AnswersJob (job : JobView) (result : Result Phase Stopped) : Type 0 where
  pub answer : CompletesJob job result
  pub over_budget : IfSome (phase_in result) (λ phase. AnswersOverBudget result ↔ IsUsedUp job phase)

-- A call on a job and a number of workers from 1 to 64 may be made where the job begins within its limit, and its answer is one of the job.
abbrev pub CompletesBy : (JobView → ℕ → Type 0) → (JobView → ℕ → Result Phase Stopped → Type 0) → Type 0
CompletesBy pre post =
    (job : JobView) (workers : ℕ) → length job.start.moves ≤ job.basis_limit → job.basis_limit ≤ 65536 → 1 ≤ workers → workers ≤ 64
    → pre job workers × ((result : Result Phase Stopped) → post job workers result → AnswersJob job result)
