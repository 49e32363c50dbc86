use Rattle.std.proofs.Common.{◌≡◌, None, replicate}
use Rattle.mk_ledger.proofs.ledger.none_for_each.Given as goal

abbrev pub invariant-loop : goal.invariant-loop
invariant-loop g l = l.nones.items ≡ replicate l.counter None
