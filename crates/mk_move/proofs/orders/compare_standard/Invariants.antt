use Rattle.std.proofs.Common.{◌≡◌, ◌≤◌, ℕ, length}
use Rattle.mk_model.specs.Vectors.{entry}
use Rattle.mk_move.specs.Sides.{part_of}
use Rattle.mk_move.proofs.orders.compare_standard.Given as goal

abbrev pub invariant-loop-end : goal.invariant-loop-end
invariant-loop-end l = record {
  within : l.end ≤ length l.a;
  same : (c : ℕ) → l.end ≤ c → entry (part_of l.side l.a) c ≡ entry (part_of l.side l.b) c;
}

abbrev pub decreases-loop-end : goal.decreases-loop-end
decreases-loop-end l = l.end
