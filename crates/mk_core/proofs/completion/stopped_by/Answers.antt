use Rattle.std.proofs.Common.{Some, ap, ◌∙◌, subst}
use Rattle.mk_ledger.specs.FirstHalts.{IsFirstHalt}
use Rattle.mk_ledger.specs.declared.halt.Halt.TheVariants.{Overflow, Full}
use Rattle.mk_core.proofs.Finishing.{finishes_overflow, finishes_full, overflow_handed_on, full_handed_on}
use Rattle.mk_core.proofs.completion.stopped_by.Goals as goal
use Rattle.mk_core.proofs.completion.stopped_by.Goals.{In-Some-Overflow, In-Some-Full}

overflow : (c : In-Some-Overflow) → IsFirstHalt c.args.ledger.state (Some (Overflow c.in-Some-Overflow.stop))
overflow c =
    subst (IsFirstHalt c.args.ledger.state) (c.in-Some-Overflow.is ∙ ap Some c.in-Some-Overflow.field-0-is) c.phase_of-phase.ensures.halt

full : (c : In-Some-Full) → IsFirstHalt c.args.ledger.state (Some (Full c.in-Some-Full.i c.in-Some-Full.j))
full c =
    subst (IsFirstHalt c.args.ledger.state) (c.in-Some-Full.is ∙ ap Some c.in-Some-Full.field-0-is) c.phase_of-phase.ensures.halt

pub unreachable-requires : goal.unreachable-requires
unreachable-requires c =
    c.requires (subst (IsFirstHalt c.args.ledger.state) c.in-None.is c.phase_of-phase.ensures.halt)

pub returns-in-Some-Overflow-clause-answer : goal.returns-in-Some-Overflow-clause-answer
returns-in-Some-Overflow-clause-answer c =
    finishes_overflow c.args.ledger c.phase_of-phase.result.0 c.phase_of-phase.ensures.phase c.in-Some-Overflow.stop
    (overflow (goal.at.returns-in-Some-Overflow-clause-answer c).In-Some-Overflow)

pub returns-in-Some-Full-clause-answer : goal.returns-in-Some-Full-clause-answer
returns-in-Some-Full-clause-answer c =
    finishes_full c.args.ledger c.phase_of-phase.result.0 c.phase_of-phase.ensures.phase c.in-Some-Full.i c.in-Some-Full.j
    (full (goal.at.returns-in-Some-Full-clause-answer c).In-Some-Full)

pub returns-in-Some-Overflow-clause-halted : goal.returns-in-Some-Overflow-clause-halted
returns-in-Some-Overflow-clause-halted c =
    overflow_handed_on c.args.ledger.state c.phase_of-phase.result.0 c.in-Some-Overflow.stop
    (overflow (goal.at.returns-in-Some-Overflow-clause-halted c).In-Some-Overflow)

pub returns-in-Some-Full-clause-halted : goal.returns-in-Some-Full-clause-halted
returns-in-Some-Full-clause-halted c =
    full_handed_on c.args.ledger.state c.phase_of-phase.result.0 c.in-Some-Full.i c.in-Some-Full.j
    (full (goal.at.returns-in-Some-Full-clause-halted c).In-Some-Full)
