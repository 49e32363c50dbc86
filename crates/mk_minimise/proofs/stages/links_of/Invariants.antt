use Rattle.std.proofs.Common.{take}
use Rattle.mk_minimise.proofs.GatheredLinks.{AreGathered}
use Rattle.mk_minimise.proofs.stages.links_of.Given as goal

abbrev pub invariant-loop-pair : goal.invariant-loop-pair
invariant-loop-pair l = AreGathered l.basis l.lower (take l.pair-index l.pair-items) l.links.items
