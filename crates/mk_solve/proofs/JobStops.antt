-- The phase of a job that completes, or that stops.
use Rattle.std.proofs.Common.{◌≡◌, ℕ, ◌+◌, ◌≤◌, ◌<◌, ◌^◌, length, Err, arith, ap, sym, ◌∙◌}
use Rattle.std.proofs.lemmas.List.{length-map}
use Rattle.mk_journal.specs.Entries.{settle_of}
use Rattle.mk_ledger.specs.declared.halt.OverflowStop.{OverflowStop}
use Rattle.mk_core.specs.JobPhases.{IsPhaseOf, CompletesJob}
use Rattle.mk_core.specs.Jobs.{JobView}
use Rattle.mk_core.specs.declared.phase.Phase.{Phase}
use Rattle.mk_core.specs.declared.phase.Stopped.TheVariants as core
use Rattle.mk_solve.specs.Books.{Book, settled_of}
use Rattle.mk_solve.specs.Steps.{stopped_at, KeepsStop, IsPhaseStop, Completes}
use Rattle.mk_solve.specs.declared.book.BookStop.{BookStop}
use Rattle.mk_solve.specs.declared.book.BookStop.TheVariants.{Overflow, Budget, BasisFull}
use Rattle.mk_solve.specs.declared.book.OverflowPlace.TheVariants.{Pair}
use Rattle.mk_solve.specs.declared.solving.RunStop.{RunStop}
use Rattle.mk_solve.specs.declared.solving.RunStop.TheVariants.{Memory, Stopped}
use Rattle.mk_solve.proofs.Sums.{settled_push}

-- a phase settles no more pairs than its job allows
pub settled_within : (job : JobView) (phase : Phase) → IsPhaseOf job phase → length phase.journal ≤ job.budget
settled_within job phase from =
    omega (arith, from.legal.claims_within, length-map phase.journal settle_of)

-- with the sum up to the job's budget below a bound, so is the sum up to its phase
pub sum_within : (job : JobView) (book : Book) (phase : Phase) → settled_of book.phases + job.budget < 2 ^ 64 → IsPhaseOf job phase → settled_of book.phases + length phase.journal < 2 ^ 64
sum_within job book phase l from = omega (arith, l, settled_within job phase from)

-- the sum with the last phase
pub sum_with : (book after : Book) (phase : Phase) (stop : BookStop) → after ≡ stopped_at book phase stop → settled_of after.phases ≡ settled_of book.phases + length phase.journal
sum_with book after phase stop e = ap (λ (b : Book). settled_of b.phases) e ∙ settled_push book.phases phase

-- a stop that is kept, with its cause
stops : (job : JobView) (before : Book) (phase : Phase) (stop : BookStop) (result : RunStop) (after : Book) → IsPhaseOf job phase →
    (after ≡ stopped_at before phase stop → IsPhaseStop job (length before.phases) (settled_of after.phases) phase stop) →
    KeepsStop before phase stop result after → Completes job before (Err result) after
stops job before phase stop Memory after from cause e = e
stops job before phase stop Stopped after from cause e = record { phase = phase; stop = stop; from = from; cause = cause e; kept = e }

pub stops_by_overflow : (job : JobView) (before : Book) (phase : Phase) (number : ℕ) (stop : OverflowStop) (result : RunStop) (after : Book) → number ≡ length before.phases →
    CompletesJob job (Err (core.Overflow phase stop)) → KeepsStop before phase (Overflow (Pair number) stop) result after → Completes job before (Err result) after
stops_by_overflow job before phase number stop result after e (from, left, genuine, within) kept =
    stops job before phase (Overflow (Pair number) stop) result after from (λ k. (e, left, genuine, within)) kept

pub stops_by_budget : (job : JobView) (before : Book) (phase : Phase) (settled more : ℕ) (result : RunStop) (after : Book) → settled ≡ settled_of before.phases → more ≡ length phase.journal →
    CompletesJob job (Err (core.OverBudget phase)) → KeepsStop before phase (Budget (settled + more)) result after → Completes job before (Err result) after
stops_by_budget job before phase settled more result after e f (from, over) kept =
    stops job before phase (Budget (settled + more)) result after from (λ k. (ap (λ n. n + more) e ∙ ap (λ n. settled_of before.phases + n) f ∙ sym (sum_with before after phase (Budget (settled + more)) k), over)) kept

pub stops_by_full : (job : JobView) (before : Book) (phase : Phase) (number i j : ℕ) (result : RunStop) (after : Book) → number ≡ length before.phases →
    CompletesJob job (Err (core.BasisFull phase i j)) → KeepsStop before phase (BasisFull number i j) result after → Completes job before (Err result) after
stops_by_full job before phase number i j result after e (from, full, within) kept =
    stops job before phase (BasisFull number i j) result after from (λ k. (e, full, within)) kept
