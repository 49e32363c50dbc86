use Rattle.std.proofs.Common.{◌≡◌, ◌<◌, ℕ}
use Rattle.std.specs.Int.{bit_at}
use Rattle.mk_move.specs.Sides.{part_of}
use Rattle.mk_support.specs.Blocks.{IsRefused}
use Rattle.mk_support.specs.FirstBits.{HoldsAt}
use Rattle.mk_support.proofs.children.Children.find.Given as goal

-- no lead divides in the child of a bit of the part that isn't left
abbrev pub invariant-loop-left : goal.invariant-loop-left
invariant-loop-left l = (k : ℕ) → k < 64 → bit_at l.part k ≡ 1 → bit_at l.left k ≡ 0 → (m p : ℕ) → HoldsAt l.self.by_first.items k m p → IsRefused l.leads (part_of l.side l.r.entries) p

abbrev pub decreases-loop-left : goal.decreases-loop-left
decreases-loop-left l = l.left
