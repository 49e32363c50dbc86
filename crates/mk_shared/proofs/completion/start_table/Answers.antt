use Rattle.std.proofs.Common.{◌≡◌, None, replicate, sym, subst, ◌∙◌, ap, refl}
use Rattle.mk_model.specs.CoreStates.{CoreState}
use Rattle.mk_move.specs.MoveLists.{BasisView}
use Rattle.mk_ledger.specs.Ledgers.{LedgerView}
use Rattle.mk_core.specs.Jobs.{job_with}
use Rattle.mk_turn.specs.Turns.{beginning}
use Rattle.mk_shared.specs.LedgerTurns.{ledger_meaning}
use Rattle.mk_shared.specs.SharedSeats.{AgreesWithCopy}
use Rattle.mk_shared.specs.GivenUp.{HaveGivenUp}
use Rattle.mk_shared.proofs.GivingUp.{none_given_up}
use Rattle.mk_shared.proofs.FirstAndLast.{first_agrees}
use Rattle.mk_shared.proofs.SeatTurns.{fields_by}
use Rattle.mk_shared.proofs.completion.start_table.Goals as goal

pub invariant_of-seat : goal.invariant_of-seat
invariant_of-seat c =
    let x = c.in_ok-new.field-0.value in
    let ledger = c.in_ok-ledger.ledger in
    let same : x ≡ ledger = c.in_ok-new.ensures.ok in
    let agrees : AgreesWithCopy (beginning ledger_meaning x c.args.workers) c.in_ok-copy.copy =
    subst (λ (l : LedgerView). AgreesWithCopy (beginning ledger_meaning l c.args.workers) c.in_ok-copy.copy) (sym same)
    (subst (λ (b : BasisView). AgreesWithCopy (beginning ledger_meaning ledger c.args.workers) b) (sym c.in_ok-copy.ensures)
    (first_agrees (job_with c.job.inside.start c.job.inside.budget c.job.inside.basis_limit)
    c.args.workers ledger c.requires.some c.in_ok-ledger.ensures.basis (ap (λ (s : CoreState). s.workers) c.in_ok-ledger.ensures.state))) in
    fields_by _ (beginning ledger_meaning x c.args.workers) c.in_ok-table.ensures.view
    (record { agrees = agrees; number = refl; claim = refl; made = refl; workers = refl })

pub invariant_of-shared : goal.invariant_of-shared
invariant_of-shared c =
    let ledger = c.in_ok-ledger.ledger in
    let halts = ap (λ (s : CoreState). s.halts) c.in_ok-ledger.ensures.state in
    let workers = ap (λ (s : CoreState). s.workers) c.in_ok-ledger.ensures.state in
    subst (λ (l : LedgerView). HaveGivenUp l.state) (sym c.in_ok-new.ensures.ok)
    (none_given_up ledger.state (halts ∙ ap (λ k. replicate k None) (sym workers)))
