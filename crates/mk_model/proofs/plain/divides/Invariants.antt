use Rattle.std.proofs.Common.{ℕ, ◌<◌, ◌≤ℤ◌}
use Rattle.mk_model.specs.Vectors.{entry}
use Rattle.mk_model.proofs.plain.divides.Given as goal

abbrev pub invariant-loop-i : goal.invariant-loop-i
invariant-loop-i l = (c : ℕ) → c < l.i → entry l.x c ≤ℤ entry l.y c
