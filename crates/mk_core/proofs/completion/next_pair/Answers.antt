use Rattle.mk_model.specs.CoreStates.{pair_of}
use Rattle.mk_core.proofs.Endings.{workers_within, pair_given, ends_over_budget, ends_ended, ends_halted, never_waits, same_ledger}
use Rattle.mk_core.proofs.completion.next_pair.Goals as goal

pub claim-requires-clause-within : goal.claim-requires-clause-within
claim-requires-clause-within c = workers_within c.args.ledger.now c.basis.ensures.kept

pub claim-requires-clause-idle : goal.claim-requires-clause-idle
claim-requires-clause-idle c = c.requires 0

pub returns-in-Claimed-clause-pair : goal.returns-in-Claimed-clause-pair
returns-in-Claimed-clause-pair c =
    pair_given c.args.ledger.now c.claim.new.self (pair_of c.in-Claimed.i c.in-Claimed.j) c.basis.ensures.kept c.requires c.in-Claimed.ensures.answered c.claim.ensures.basis

pub returns-in-OverBudget-clause-ending : goal.returns-in-OverBudget-clause-ending
returns-in-OverBudget-clause-ending c =
    let (no_halt, over, same) = c.in-OverBudget.ensures.answered in
    ends_over_budget c.args.ledger.now c.claim.new.self c.in-OverBudget.made c.basis.ensures.kept c.requires no_halt over same

pub returns-in-OverBudget-clause-same : goal.returns-in-OverBudget-clause-same
returns-in-OverBudget-clause-same c = same_ledger c.args.ledger.now c.claim.new.self c.in-OverBudget.ensures.answered.2 c.claim.ensures.basis

pub returns-in-Ended-clause-ending : goal.returns-in-Ended-clause-ending
returns-in-Ended-clause-ending c =
    let (no_halt, ended, same) = c.in-Ended.ensures.answered in
    ends_ended c.args.ledger.now.state c.claim.new.self.state no_halt ended same

pub returns-in-Ended-clause-same : goal.returns-in-Ended-clause-same
returns-in-Ended-clause-same c = same_ledger c.args.ledger.now c.claim.new.self c.in-Ended.ensures.answered.2 c.claim.ensures.basis

pub returns-in-Stopped-clause-ending : goal.returns-in-Stopped-clause-ending
returns-in-Stopped-clause-ending c =
    ends_halted c.args.ledger.now.state c.claim.new.self.state c.in-Stopped.worker c.in-Stopped.ensures.answered.0 c.in-Stopped.ensures.answered.1

pub returns-in-Stopped-clause-same : goal.returns-in-Stopped-clause-same
returns-in-Stopped-clause-same c = same_ledger c.args.ledger.now c.claim.new.self c.in-Stopped.ensures.answered.1 c.claim.ensures.basis

pub unreachable-requires : goal.unreachable-requires
unreachable-requires c =
    never_waits c.args.ledger.now.state c.in-NotYet.worker (pair_of c.in-NotYet.i c.in-NotYet.j) c.requires c.in-NotYet.ensures.answered.1
