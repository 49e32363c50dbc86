use Rattle.mk_minimise.proofs.LowerFronts.{IsRaising}
use Rattle.mk_minimise.proofs.lower.Lower.raised.Given as goal

abbrev pub invariant-loop-place : goal.invariant-loop-place
invariant-loop-place l = IsRaising l.basis l.place l.moves l.finder
