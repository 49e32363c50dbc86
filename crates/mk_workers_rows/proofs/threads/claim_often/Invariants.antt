use Rattle.std.proofs.Common.{◌≡◌, None}
use Rattle.mk_workers_rows.proofs.threads.claim_often.Given as goal

abbrev pub invariant-loop : goal.invariant-loop
invariant-loop l = (l.seat.table ≡ l.shared) × (l.seat.sight.claim ≡ None)
