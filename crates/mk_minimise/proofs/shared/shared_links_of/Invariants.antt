use Rattle.std.proofs.Common.{length, take}
use Rattle.mk_minimise.proofs.GatheredLinks.{AreGathered}
use Rattle.mk_minimise.proofs.shared.shared_links_of.Given as goal

abbrev pub invariant-loop-rest : goal.invariant-loop-rest
invariant-loop-rest g l = AreGathered l.basis l.lower (take (length l.yielded) l.pairs.items) l.links.items
