use Rattle.mk_support.proofs.Blocks.{IsShareUpTo}
use Rattle.mk_support.proofs.block.Block.share.Given as goal

abbrev pub invariant-loop-index : goal.invariant-loop-index
invariant-loop-index l = IsShareUpTo l.self.masks.items l.self.places.items l.bit l.wanted l.index l.share.masks.items l.share.places.items
