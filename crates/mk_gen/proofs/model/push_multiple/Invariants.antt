use Rattle.std.proofs.Common.{◌≡◌, ◌++◌, take}
use Rattle.mk_model.specs.Vectors.{scale}
use Rattle.mk_gen.proofs.model.push_multiple.Given as goal

abbrev pub invariant-loop-entry : goal.invariant-loop-entry
invariant-loop-entry l = l.entries.items ≡ l.fn.entries.items ++ scale l.fn.factor (take l.entry-index l.row)
