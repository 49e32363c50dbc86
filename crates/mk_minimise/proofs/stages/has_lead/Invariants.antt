use Rattle.std.proofs.Common.{All, take}
use Rattle.mk_move.specs.declared.side.Side.TheVariants.{Plus}
use Rattle.mk_minimise.specs.LinkSteps.{IsEnd}
use Rattle.mk_minimise.proofs.stages.has_lead.Given as goal

abbrev pub invariant-loop-link : goal.invariant-loop-link
invariant-loop-link l = All (λ link. ¬ (IsEnd Plus l.m link)) (take l.link-index l.links)
