use Rattle.std.proofs.Common.{All, take}
use Rattle.mk_model.specs.Orders.{lead}
use Rattle.mk_model.specs.Reductions.{Divides}
use Rattle.mk_move.specs.Sides.{part_of}
use Rattle.mk_reduce.proofs.plain.place_dividing.Given as goal

abbrev pub invariant-loop-place : goal.invariant-loop-place
invariant-loop-place l = All (λ m. ¬ (Divides (lead m.entries) (part_of l.side l.r.entries))) (take l.place l.moves)
