use Rattle.std.proofs.Common.{◌-◌, length}
use Rattle.mk_saturate.proofs.FreedMoves.{NoneBehind}
use Rattle.mk_saturate.proofs.freeing.lead_side.Given as goal

abbrev pub invariant-loop-behind : goal.invariant-loop-behind
invariant-loop-behind l = NoneBehind l.found.entries (length l.found.entries - l.behind)
