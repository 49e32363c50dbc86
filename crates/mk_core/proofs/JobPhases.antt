-- What going on from a ledger of a job gives is what completing the job gives.
use Rattle.std.proofs.Common.{◌≡◌, ◌≢◌, ◌↔◌, inl, inr, ℕ, ◌<◌, length, None, IfSome, Result, Ok, Err, arith, ap, refl, ◌∙◌, subst}
use Rattle.std.proofs.lemmas.List.{length-map, take_all}
use Rattle.mk_model.specs.Legal.{IsLegal, IsEnded}
use Rattle.mk_move.specs.MoveLists.{vectors_of}
use Rattle.mk_journal.specs.Entries.{settle_of}
use Rattle.mk_ledger.specs.Ledgers.{LedgerView}
use Rattle.mk_core.specs.Jobs.{JobView}
use Rattle.mk_core.specs.declared.phase.Phase.{Phase}
use Rattle.mk_core.specs.declared.phase.Stopped.{Stopped}
use Rattle.mk_core.specs.declared.phase.Stopped.TheVariants.{Memory, Overflow, OverBudget, BasisFull}
use Rattle.mk_core.specs.Phases.{ledger_for, state_of, phase_in, AnswersOverBudget, IsPhaseFrom, IsHaltedOrWithin, Finishes}
use Rattle.mk_core.specs.JobPhases.{IsLedgerOf, IsPhaseOf, IsUsedUp, CompletesJob}

-- A ledger of a job, in which fewer pairs are settled than the budget has where a halt stands.
module _ (job : JobView) (ledger : LedgerView) (h : IsLedgerOf job ledger) (halts_within : ledger.state.first_halted ≢ None → length ledger.state.journal < ledger.state.budget) where
  phase_of_job : (phase : Phase) → IsPhaseFrom ledger phase → IsPhaseOf job phase
  phase_of_job phase from = record {
    basis = from.basis;
    priority = from.priority ∙ h.priority;
    grading = from.grading ∙ h.grading;
    start_length = from.start_length ∙ h.start_length;
    start = from.start ∙ h.start;
    thirds = from.thirds;
    legal =
        subst (λ w. IsLegal (length w) job.start.priority (state_of phase job.budget job.basis_limit)) h.grading
        (subst (λ p. IsLegal (length ledger.basis.grading) p (state_of phase job.budget job.basis_limit)) h.priority
        (subst (λ budget. IsLegal (length ledger.basis.grading) ledger.basis.priority (state_of phase budget job.basis_limit)) h.budget
        (subst (λ limit. IsLegal (length ledger.basis.grading) ledger.basis.priority (state_of phase ledger.state.budget limit)) h.limit from.legal)));
  }

  ended_in_job : (phase : Phase) → IsEnded (state_of phase ledger.state.budget ledger.state.limit) → IsEnded (state_of phase job.budget job.basis_limit)
  ended_in_job phase ended = record { all_settled = ended.all_settled; none_claimed = ended.none_claimed }

  within_job : (phase : Phase) → IsPhaseFrom ledger phase → IsHaltedOrWithin ledger (length phase.journal) → length phase.journal < job.budget
  within_job phase from (inr l) = omega (arith, l, h.budget)
  within_job phase from (inl halted) = omega (arith, halts_within halted, h.budget, ap length (from.journal_stays halted), length-map phase.journal settle_of)

  pub completes_from : (result : Result Phase Stopped) → Finishes ledger result → CompletesJob job result
  completes_from (Ok phase) (from, ended) = (phase_of_job phase from, ended_in_job phase ended)
  completes_from (Err Memory) e = tt
  completes_from (Err (Overflow phase stop)) (from, left, genuine, within) = (phase_of_job phase from, left, genuine, within_job phase from within)
  completes_from (Err (OverBudget phase)) (from, over) =
      (phase_of_job phase from, record { used_up = over.used_up ∙ h.budget; pair = over.pair; left = over.left })
  completes_from (Err (BasisFull phase i j)) (from, full, within) =
      (phase_of_job phase from, record { full = full.full ∙ h.limit; normal_reduct = full.normal_reduct; left = full.left }, within_job phase from within)

-- ---- by one worker
begins_as : (job : JobView) → IsLedgerOf job (ledger_for job)
begins_as job = record {
  priority = refl;
  grading = refl;
  start_length = length-map job.start.moves (λ m. m.entries);
  start = take_all (length (vectors_of job.start.moves)) (vectors_of job.start.moves) (omega arith);
  budget = refl;
  limit = refl;
}

pub completes_alone : (job : JobView) (result : Result Phase Stopped) → Finishes (ledger_for job) result → CompletesJob job result
completes_alone job = completes_from job (ledger_for job) (begins_as job) (λ halted. absurd (halted refl))

-- ---- the budget is used up exactly where the answer says so
pub exactly_used_up : (job : JobView) (result : Result Phase Stopped) → CompletesJob job result → IfSome (phase_in result) (λ phase. AnswersOverBudget result ↔ IsUsedUp job phase)
exactly_used_up job (Ok phase) (of_job, ended) = (λ h. absurd h, λ over. absurd (over.left.unsettled (ended.all_settled over.pair over.left.of_basis)))
exactly_used_up job (Err Memory) e = tt
exactly_used_up job (Err (Overflow phase stop)) (of_job, left, genuine, within) = (λ h. absurd h, λ over. absurd (omega (arith, within, over.used_up)))
exactly_used_up job (Err (OverBudget phase)) (of_job, over) = (λ h. over, λ h. tt)
exactly_used_up job (Err (BasisFull phase i j)) (of_job, full, within) = (λ h. absurd h, λ over. absurd (omega (arith, within, over.used_up)))
