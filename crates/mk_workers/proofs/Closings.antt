-- The ledger of a shared completion at the end is one of its job, and goes on as the job's completion does.
use Rattle.std.proofs.Common.{◌≡◌, ◌≢◌, ◌⊎◌, inl, inr, ℕ, ◌<◌, ◌≤◌, Bool, true, false, true≢false, length, take, None, Some, Result, Ok, Err, arith, ap, sym, ◌∙◌}
use Rattle.std.proofs.lemmas.Option.{same_Some}
use Rattle.std.proofs.lemmas.List.{length-map, length-take-le, take-map}
use Rattle.mk_model.specs.CoreStates.{Halt, halt_of}
use Rattle.mk_model.specs.CoreStates.Halt.{Overflow, Full, Memory}
use Rattle.mk_move.specs.Moves.{Weighed}
use Rattle.mk_move.specs.MoveLists.{vectors_of}
use Rattle.mk_ledger.specs.Ledgers.{LedgerView, IsLedger}
use Rattle.mk_core.specs.Jobs.{JobView}
use Rattle.mk_core.specs.declared.phase.Phase.{Phase}
use Rattle.mk_core.specs.declared.phase.Stopped.{Stopped}
use Rattle.mk_core.specs.declared.phase.Stopped.TheVariants as stopped
use Rattle.mk_core.specs.Phases.{Finishes, HandsOn}
use Rattle.mk_core.specs.JobPhases.{IsLedgerOf, CompletesJob}
use Rattle.mk_core.proofs.JobPhases.{completes_from}
use Rattle.mk_shared.specs.declared.state.Outset.{Outset}
use Rattle.mk_shared.specs.GivenUp.{HaveGivenUp}
use Rattle.mk_shared.specs.LedgerTurns.{outset_of}

-- a halt for want of memory is handed on as such
memory_handed : (job : JobView) (result : Result Phase Stopped) → HandsOn Memory result → CompletesJob job result
memory_handed job (Err stopped.Memory) h = tt
memory_handed job (Err (stopped.Overflow phase stop)) h = absurd h
memory_handed job (Err (stopped.OverBudget phase)) h = absurd h
memory_handed job (Err (stopped.BasisFull phase i j)) h = absurd h
memory_handed job (Ok phase) h = absurd h

is_memory : Halt → Bool
is_memory Memory = true
is_memory (Overflow stop) = false
is_memory (Full pair) = false

module _ (job : JobView) (workers : ℕ) (ledger : LedgerView) (kept : IsLedger ledger) (e : Some (outset_of ledger) ≡ Some (record { job = job; workers = workers })) where
  outset : outset_of ledger ≡ record { job = job; workers = workers }
  outset = same_Some (outset_of ledger) (record { job = job; workers = workers }) e

  start_within : ledger.state.start_length ≤ length ledger.basis.moves
  start_within = omega (arith, kept.legal.start_within, ap length kept.moves, length-map ledger.basis.moves (λ (m : Weighed). m.entries))

  pub of_job : IsLedgerOf job ledger
  of_job = record {
    priority = ap (λ (o : Outset). o.job.start.priority) outset;
    grading = ap (λ (o : Outset). o.job.start.grading) outset;
    start_length = sym (length-take-le ledger.state.start_length ledger.basis.moves start_within) ∙ ap (λ (o : Outset). length o.job.start.moves) outset;
    start =
        ap (take ledger.state.start_length) kept.moves
        ∙ take-map (λ (m : Weighed). m.entries) ledger.state.start_length ledger.basis.moves
        ∙ ap (λ (o : Outset). vectors_of o.job.start.moves) outset;
    budget = ap (λ (o : Outset). o.job.budget) outset;
    limit = ap (λ (o : Outset). o.job.basis_limit) outset;
  }

  module _ (gave : HaveGivenUp ledger.state) where
    within : (worker : ℕ) (halt : Halt) → halt_of ledger.state worker ≡ Some halt → halt ≢ Memory → length ledger.state.journal < ledger.state.budget
    within worker halt f apart = omega (arith, gave worker halt f apart, kept.legal.claims_counted, kept.legal.claims_within)

    pub completes_shared : (result : Result Phase Stopped) → Finishes ledger result →
        ((worker : ℕ) (halt : Halt) → ledger.state.first_halted ≡ Some worker → halt_of ledger.state worker ≡ Some halt → HandsOn halt result) → CompletesJob job result
    unfolding is_memory
    completes_shared result finishes handed = go kept.legal.first_halted
      where
        at : (worker : ℕ) (halt : Halt) → ledger.state.first_halted ≡ Some worker → halt_of ledger.state worker ≡ Some halt → CompletesJob job result
        at worker Memory f h = memory_handed job result (handed worker Memory f h)
        at worker (Overflow stop) f h =
            completes_from job ledger of_job (λ halted. within worker (Overflow stop) h (λ same. true≢false (sym (ap is_memory same)))) result finishes
        at worker (Full pair) f h =
            completes_from job ledger of_job (λ halted. within worker (Full pair) h (λ same. true≢false (sym (ap is_memory same)))) result finishes

        go : ((ledger.state.first_halted ≡ None) × ((worker : ℕ) → halt_of ledger.state worker ≡ None)) ⊎ ((worker : ℕ) × (halt : Halt) × (ledger.state.first_halted ≡ Some worker) × (halt_of ledger.state worker ≡ Some halt)) → CompletesJob job result
        go (inl (none, rest)) = completes_from job ledger of_job (λ halted. absurd (halted none)) result finishes
        go (inr (worker, halt, f, h)) = at worker halt f h
