use Rattle.std.proofs.Common.{length, None, ap, sym, ◌∙◌, subst}
use Rattle.std.proofs.lemmas.Result.{on_ok_weaker}
use Rattle.mk_model.specs.CoreStates.{pair_of, IsPairOf}
use Rattle.mk_model.specs.CoreStates.Way.{Zero}
use Rattle.mk_model.specs.CoreStates.Halt.{Overflow}
use Rattle.mk_move.specs.MoveLists.{BasisView, vectors_of}
use Rattle.mk_reduce.specs.Leads.{leads_of}
use Rattle.mk_ledger.specs.Halts.{stop_of}
use Rattle.mk_core.specs.declared.work.WorkFault.TheVariants.{Overflow as OverflowFault}
use Rattle.mk_reduce.specs.Remainders.{IsRemainder, IsNormalRest}
use Rattle.mk_core.specs.Remainders.{IsWorkFault}
use Rattle.mk_core.proofs.Endings.{workers_within}
use Rattle.mk_core.proofs.Settling.{claimed_pair, zero_claim, not_halted, overflow_cause, settling_unclaimed, halting_unclaimed}
use Rattle.mk_core.proofs.completion.reduce_pair.Goals as goal

pub work_on-requires-clause-pair : goal.work_on-requires-clause-pair
work_on-requires-clause-pair c =
    subst (λ (b : BasisView). IsPairOf (vectors_of b.moves) (pair_of c.args.i c.args.j)) (sym c.basis.ensures.value)
    (claimed_pair c.args.ledger.now c.basis.ensures.kept (pair_of c.args.i c.args.j) c.requires.claimed)

pub work_on-requires-clause-leads : goal.work_on-requires-clause-leads
work_on-requires-clause-leads c = c.requires.leads ∙ sym (ap (λ b. leads_of b.moves) c.basis.ensures.value)

pub settle_zero-requires : goal.settle_zero-requires
settle_zero-requires c =
    let pair = pair_of c.args.i c.args.j in
    let nothing = subst (IsRemainder c.basis.result.now pair) c.in-Ok-None.field-0-is c.in-Ok-None.ensures in
    zero_claim c.args.ledger.now c.basis.ensures.kept pair c.requires.claimed (subst (λ (b : BasisView). IsRemainder b pair None) c.basis.ensures.value nothing)

pub place_remainder-requires-clause-remainder : goal.place_remainder-requires-clause-remainder
place_remainder-requires-clause-remainder c =
    let pair = pair_of c.args.i c.args.j in
    let some = subst (IsRemainder c.basis.result.now pair) c.in-Ok-Some.field-0-is c.in-Ok-Some.ensures in
    record { pair = pair; claims = c.requires.claimed; rest = subst (λ (b : BasisView). IsNormalRest b pair c.in-Ok-Some.remainder) c.basis.ensures.value some }

pub halt-requires : goal.halt-requires
halt-requires c =
    let pair = pair_of c.args.i c.args.j in
    let fault = subst (IsWorkFault (vectors_of c.basis.result.now.moves) pair) c.in-Err-Overflow.field-0-is c.in-Err-Overflow.ensures in
    let (same, genuine) = subst (λ (b : BasisView). IsWorkFault (vectors_of b.moves) pair (OverflowFault c.in-Err-Overflow.stop)) c.basis.ensures.value fault in
    record {
      worker = workers_within c.args.ledger.now c.basis.ensures.kept;
      no_halt = not_halted c.args.ledger.now c.basis.ensures.kept pair c.requires.claimed;
      cause = overflow_cause c.args.ledger.now c.basis.ensures.kept (stop_of c.in-Err-Overflow.stop) pair c.requires.claimed same genuine c.requires.common;
      not_full = tt;
    }

pub returns-in-Err-Overflow-clause-goes_on : goal.returns-in-Err-Overflow-clause-goes_on
returns-in-Err-Overflow-clause-goes_on c =
    halting_unclaimed c.args.ledger.now c.basis.ensures.kept c.halt.new.self (pair_of c.args.i c.args.j) c.requires.claimed (Overflow (stop_of c.in-Err-Overflow.stop)) c.halt.ensures.halting c.halt.ensures.basis

pub returns-in-Err-Overflow-clause-leads : goal.returns-in-Err-Overflow-clause-leads
returns-in-Err-Overflow-clause-leads c = c.requires.leads ∙ sym (ap (λ b. leads_of b.moves) c.halt.ensures.basis)

pub returns-in-Ok-None-clause-goes_on : goal.returns-in-Ok-None-clause-goes_on
returns-in-Ok-None-clause-goes_on c =
    let ledger = c.args.ledger.now in
    on_ok_weaker c.settle_zero.result (
    λ h.
    settling_unclaimed ledger c.basis.ensures.kept c.settle_zero.new.self (pair_of c.args.i c.args.j) c.requires.claimed (length ledger.basis.grading) ledger.basis.priority Zero h
    (ap (λ b. b.priority) c.settle_zero.ensures.basis) (ap (λ b. b.grading) c.settle_zero.ensures.basis)
    ) c.settle_zero.ensures.ok

pub returns-in-Ok-None-clause-leads : goal.returns-in-Ok-None-clause-leads
returns-in-Ok-None-clause-leads c =
    on_ok_weaker c.settle_zero.result (λ h. c.requires.leads ∙ sym (ap (λ b. leads_of b.moves) c.settle_zero.ensures.basis)) c.settle_zero.ensures.ok
