use Rattle.std.proofs.Common.{◌≡◌, length}
use Rattle.mk_core.specs.GrownBases.{IsLonger}
use Rattle.mk_shared.proofs.copying.copy_new.Given as goal

-- the copy goes on from what it was, has the moves before the place, and the basis goes on from it
abbrev pub invariant-loop-k : goal.invariant-loop-k
invariant-loop-k l = record {
  more : IsLonger l.fn.copy l.copy;
  part : IsLonger l.copy l.basis;
  count : length l.copy.moves ≡ l.k;
}
