use Rattle.std.proofs.Common.{◌≡◌, ◌↔◌, IfSome, sym, subst}
use Rattle.mk_ledger.specs.Ledgers.{LedgerView}
use Rattle.mk_move.specs.MoveLists.{vectors_of}
use Rattle.mk_core.specs.Jobs.{JobView, job_with}
use Rattle.mk_core.specs.GoingOn.{NoneClaims}
use Rattle.mk_core.specs.Phases.{ledger_for, phase_in, Finishes, AnswersOverBudget, PhaseIsOverBudget}
use Rattle.mk_core.proofs.GoingOn.{none_claims_new}
use Rattle.mk_core.proofs.Endings.{same_ledger}
use Rattle.mk_core.proofs.completion.complete_alone.Goals as goal
use Rattle.mk_core.proofs.completion.complete_alone.Goals.{In_ok-ledger}

-- the ledger is the one that the job begins with
begun : (c : In_ok-ledger) → c.in_ok-ledger.ledger ≡ ledger_for c.args.job
begun c =
    subst (λ (job : JobView). c.in_ok-ledger.ledger ≡ ledger_for job) c.job.view_is
    (same_ledger (ledger_for (job_with c.job.inside.start c.job.inside.budget c.job.inside.basis_limit)) c.in_ok-ledger.ledger
    c.in_ok-ledger.ensures.state c.in_ok-ledger.ensures.basis)

pub finish_alone-requires : goal.finish_alone-requires
finish_alone-requires c =
    let job = c.job.inside in
    record { unclaimed = subst NoneClaims (sym c.in_ok-ledger.ensures.state) (none_claims_new (vectors_of job.start.moves) job.budget job.basis_limit) }

pub returns-clause-answer : goal.returns-clause-answer
returns-clause-answer c =
    subst (λ (ledger : LedgerView). Finishes ledger c.finish_alone.result) (begun (goal.at.returns-clause-answer c).In_ok-ledger) c.finish_alone.ensures.answer

pub returns-clause-over_budget : goal.returns-clause-over_budget
returns-clause-over_budget c =
    subst (λ (ledger : LedgerView). IfSome (phase_in c.finish_alone.result) (λ phase. AnswersOverBudget c.finish_alone.result ↔ PhaseIsOverBudget ledger phase))
    (begun (goal.at.returns-clause-over_budget c).In_ok-ledger) c.finish_alone.ensures.over_budget
