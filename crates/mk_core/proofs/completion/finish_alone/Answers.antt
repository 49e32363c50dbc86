use Rattle.std.proofs.Common.{Ok, Err, subst}
use Rattle.mk_core.specs.declared.completion.Ending.TheVariants.{Ended, OverBudget, Halted}
use Rattle.mk_core.specs.GoingOn.{EndsBy}
use Rattle.mk_core.proofs.Finishing.{Finishes-earlier, over_budget_earlier, first_stays, none_stood}
use Rattle.mk_core.proofs.completion.finish_alone.Goals as goal
use Rattle.mk_core.proofs.completion.finish_alone.Goals.{In-Ended, In-OverBudget, In-Halted}

-- how the pairs ended
at_ended : (c : In-Ended) → EndsBy c.settle_pairs.new.ledger.state Ended
at_ended c = subst (EndsBy c.settle_pairs.new.ledger.state) c.in-Ended.is c.in_ok-settle_pairs.ensures.ending

at_over_budget : (c : In-OverBudget) → EndsBy c.settle_pairs.new.ledger.state OverBudget
at_over_budget c = subst (EndsBy c.settle_pairs.new.ledger.state) c.in-OverBudget.is c.in_ok-settle_pairs.ensures.ending

at_halted : (c : In-Halted) → EndsBy c.settle_pairs.new.ledger.state Halted
at_halted c = subst (EndsBy c.settle_pairs.new.ledger.state) c.in-Halted.is c.in_ok-settle_pairs.ensures.ending

pub settle_pairs-requires : goal.settle_pairs-requires
settle_pairs-requires c = record { unclaimed = c.requires.unclaimed }

pub ended-requires : goal.ended-requires
ended-requires c = (at_ended (goal.at.ended-requires c).In-Ended).1

pub over_budget-requires : goal.over_budget-requires
over_budget-requires c = at_over_budget (goal.at.over_budget-requires c).In-OverBudget

pub stopped_by-requires : goal.stopped_by-requires
stopped_by-requires c = at_halted (goal.at.stopped_by-requires c).In-Halted

pub returns-in-Ended-clause-answer : goal.returns-in-Ended-clause-answer
returns-in-Ended-clause-answer c =
    Finishes-earlier c.args.ledger c.settle_pairs.new.ledger c.in_ok-settle_pairs.ensures.goes_on (Ok c.ended.result) c.ended.ensures

pub returns-in-OverBudget-clause-answer : goal.returns-in-OverBudget-clause-answer
returns-in-OverBudget-clause-answer c =
    Finishes-earlier c.args.ledger c.settle_pairs.new.ledger c.in_ok-settle_pairs.ensures.goes_on (Err c.over_budget.result) c.over_budget.ensures

pub returns-in-Halted-clause-answer : goal.returns-in-Halted-clause-answer
returns-in-Halted-clause-answer c =
    Finishes-earlier c.args.ledger c.settle_pairs.new.ledger c.in_ok-settle_pairs.ensures.goes_on (Err c.stopped_by.result) c.stopped_by.ensures.answer

pub returns-in-Ended-clause-over_budget : goal.returns-in-Ended-clause-over_budget
returns-in-Ended-clause-over_budget c =
    over_budget_earlier c.args.ledger c.settle_pairs.new.ledger c.in_ok-settle_pairs.ensures.goes_on (Ok c.ended.result) c.ended.ensures

pub returns-in-OverBudget-clause-over_budget : goal.returns-in-OverBudget-clause-over_budget
returns-in-OverBudget-clause-over_budget c =
    over_budget_earlier c.args.ledger c.settle_pairs.new.ledger c.in_ok-settle_pairs.ensures.goes_on (Err c.over_budget.result) c.over_budget.ensures

pub returns-in-Halted-clause-over_budget : goal.returns-in-Halted-clause-over_budget
returns-in-Halted-clause-over_budget c =
    over_budget_earlier c.args.ledger c.settle_pairs.new.ledger c.in_ok-settle_pairs.ensures.goes_on (Err c.stopped_by.result) c.stopped_by.ensures.answer

pub returns-in-Ended-clause-halted : goal.returns-in-Ended-clause-halted
returns-in-Ended-clause-halted c worker halt e f =
    none_stood c.args.ledger c.settle_pairs.new.ledger c.in_ok-settle_pairs.ensures.goes_on worker ((at_ended (goal.at.returns-in-Ended-clause-halted c).In-Ended).0) e

pub returns-in-OverBudget-clause-halted : goal.returns-in-OverBudget-clause-halted
returns-in-OverBudget-clause-halted c worker halt e f =
    absurd (none_stood c.args.ledger c.settle_pairs.new.ledger c.in_ok-settle_pairs.ensures.goes_on worker ((at_over_budget (goal.at.returns-in-OverBudget-clause-halted c).In-OverBudget).0) e)

pub returns-in-Halted-clause-halted : goal.returns-in-Halted-clause-halted
returns-in-Halted-clause-halted c worker halt e f =
    let (first, kept) = first_stays c.args.ledger c.settle_pairs.new.ledger c.in_ok-settle_pairs.ensures.goes_on worker halt e f in
    c.stopped_by.ensures.halted worker halt first kept
