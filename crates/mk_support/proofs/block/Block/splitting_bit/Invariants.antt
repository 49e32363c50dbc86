use Rattle.mk_support.proofs.Differences.{DiffersUpTo}
use Rattle.mk_support.proofs.block.Block.splitting_bit.Given as goal

abbrev pub invariant-loop-other : goal.invariant-loop-other
invariant-loop-other l = DiffersUpTo l.self.masks.items l.mask l.other-index l.differing
