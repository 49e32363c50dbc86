use Rattle.std.proofs.Common.{◌≡◌, take}
use Rattle.mk_reduce.specs.Leads.{leads_of}
use Rattle.mk_saturate_rows.proofs.finders.filled.Given as goal

abbrev pub invariant-loop-place : goal.invariant-loop-place
invariant-loop-place g l = g.F.Finder.leads l.finder ≡ leads_of (take l.place l.basis.moves)
