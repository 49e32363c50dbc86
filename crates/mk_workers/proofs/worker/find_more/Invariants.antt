use Rattle.std.proofs.Common.{◌≡◌, ◌≤◌, length, take}
use Rattle.mk_reduce.specs.Leads.{leads_of}
use Rattle.mk_workers.proofs.worker.find_more.Given as goal

abbrev pub invariant-loop-place : goal.invariant-loop-place
invariant-loop-place l = (l.place ≤ length l.basis.moves) × (l.finder ≡ leads_of (take l.place l.basis.moves))
