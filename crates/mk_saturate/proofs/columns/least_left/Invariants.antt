use Rattle.std.proofs.Common.{◌≡◌, ℕ, ◌<◌, false}
use Rattle.mk_model.specs.FreeColumns.{is_left}
use Rattle.mk_saturate.proofs.columns.least_left.Given as goal

abbrev pub invariant-loop-column : goal.invariant-loop-column
invariant-loop-column l = (c : ℕ) → c < l.column → is_left l.left c ≡ false
