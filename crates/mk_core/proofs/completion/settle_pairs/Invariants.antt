use Rattle.std.proofs.Common.{◌-◌}
use Rattle.mk_core.specs.GoingOn.{AreLeadsOnceMade, ContinuesLedger, NoneClaims}
use Rattle.mk_core.proofs.completion.settle_pairs.Given as goal

abbrev pub invariant-loop-third_moves : goal.invariant-loop-third_moves
invariant-loop-third_moves l = record { goes_on : ContinuesLedger l.fn.ledger l.ledger; unclaimed : NoneClaims l.ledger.state; leads : AreLeadsOnceMade l.reducer.finder l.ledger.basis }

abbrev pub decreases-loop-third_moves : goal.decreases-loop-third_moves
decreases-loop-third_moves l = l.ledger.state.budget - l.ledger.state.claims_made
