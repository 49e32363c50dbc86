use Rattle.mk_ledger.specs.HeldClaims.{IsLeastOf}
use Rattle.mk_ledger.proofs.claims.least_claim.Given as goal

abbrev pub invariant-loop-worker : goal.invariant-loop-worker
invariant-loop-worker l = IsLeastOf l.claims l.worker l.least
