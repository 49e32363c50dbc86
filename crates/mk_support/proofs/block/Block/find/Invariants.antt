use Rattle.std.proofs.Common.{ℕ, ◌<◌, get_or}
use Rattle.mk_move.specs.Sides.{part_of}
use Rattle.mk_support.specs.Blocks.{IsRefused}
use Rattle.mk_support.proofs.block.Block.find.Given as goal

abbrev pub invariant-loop-index : goal.invariant-loop-index
invariant-loop-index l = (k : ℕ) → k < l.index → IsRefused l.leads (part_of l.side l.r.entries) (get_or l.places k 0)
