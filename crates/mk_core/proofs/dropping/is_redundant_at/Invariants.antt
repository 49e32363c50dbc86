use Rattle.std.proofs.Common.{◌≡◌, ◌<◌, ℕ, false}
use Rattle.mk_move.specs.MoveLists.{vectors_of}
use Rattle.mk_core.specs.Redundancy.{makes_redundant}
use Rattle.mk_core.proofs.dropping.is_redundant_at.Given as goal

abbrev pub invariant-loop-other : goal.invariant-loop-other
invariant-loop-other l = (k : ℕ) → k < l.other → makes_redundant (vectors_of l.basis.moves) k l.place ≡ false
