use Rattle.std.proofs.Common.{All, take}
use Rattle.mk_move.specs.Sides.{part_of}
use Rattle.mk_support.specs.HeldLeads.{Fits}
use Rattle.mk_support.proofs.held.all_fit.Given as goal

abbrev pub invariant-loop-at : goal.invariant-loop-at
invariant-loop-at l = All (Fits (part_of l.side l.row)) (take l.at-index l.listed)
