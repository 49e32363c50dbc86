use Rattle.std.proofs.Common.{◌≡◌, take}
use Rattle.mk_grading.proofs.products.narrowed.Given as goal

abbrev pub invariant-loop-entry : goal.invariant-loop-entry
invariant-loop-entry l = l.numbers.items ≡ take l.entry-index l.row
