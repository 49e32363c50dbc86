use Rattle.std.proofs.Common.{ℕ, ◌<◌, ◌≤◌, unsigned_abs}
use Rattle.mk_model.specs.Vectors.{entry}
use Rattle.mk_move.proofs.steps.columns_formed.Given as goal

abbrev pub invariant-loop-column : goal.invariant-loop-column
invariant-loop-column l = (c : ℕ) → c < l.column → unsigned_abs (entry l.row c) ≤ l.most
