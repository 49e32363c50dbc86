use Rattle.std.proofs.Common.{All, take}
use Rattle.mk_minimise.specs.LinkSteps.{NoneIsEnd}
use Rattle.mk_minimise.proofs.links.link_at_end.Given as goal

abbrev pub invariant-loop-place : goal.invariant-loop-place
invariant-loop-place l = All (NoneIsEnd l.m) (take l.place l.links)
