use Rattle.std.proofs.Common.{◌≡◌, ◌<◌, ℕ}
use Rattle.std.specs.Int.{bit_at}
use Rattle.mk_support.proofs.block.Block.most_common.Given as goal

-- the best bit is one of the bits, and so is each that is left
abbrev pub invariant-loop-left : goal.invariant-loop-left
invariant-loop-left l = (l.best < 64) × (bit_at l.bits l.best ≡ 1) × ((place : ℕ) → place < 64 → bit_at l.left place ≡ 1 → bit_at l.bits place ≡ 1)

-- the bits that are left become fewer
abbrev pub decreases-loop-left : goal.decreases-loop-left
decreases-loop-left l = l.left
