use Rattle.std.proofs.Common.{◌<◌, ◌^◌}
use Rattle.mk_move.specs.InPlace.{AreSameBut}
use Rattle.mk_move.proofs.in_place.copy_at.Given as goal

abbrev pub invariant-loop-left : goal.invariant-loop-left
invariant-loop-left l = (l.left < 2 ^ 64) × AreSameBut l.row l.right l.left

abbrev pub decreases-loop-left : goal.decreases-loop-left
decreases-loop-left l = l.left
