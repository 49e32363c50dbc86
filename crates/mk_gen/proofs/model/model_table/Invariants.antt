use Rattle.std.proofs.Common.{◌≡◌, ◌-◌, length, drop}
use Rattle.mk_gen.specs.Models.{model_grid}
use Rattle.mk_gen.proofs.model.model_table.Given as goal

abbrev pub invariant-loop-done : goal.invariant-loop-done
invariant-loop-done l = l.table ≡ model_grid (drop (length l.sizes - l.done) l.sizes)
