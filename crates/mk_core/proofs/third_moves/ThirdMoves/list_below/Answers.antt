use Rattle.mk_core.proofs.Neighbours.{neighbours_more, neighbours_as_before}
use Rattle.mk_core.proofs.third_moves.ThirdMoves.list_below.Goals as goal
use Rattle.mk_core.proofs.third_moves.ThirdMoves.list_below.Goals.{then-mask-masks-ne0+in_ok-push, else-mask-masks-ne0}

pub loop-place-preserved : goal.loop-place-preserved
loop-place-preserved c =
    elim c.if-mask-masks-ne0.branch [
      | then-mask-masks-ne0+in_ok-push w ↦
          let h = neighbours_more c.args.masks.now c.args.j c.loop-place.place c.loop-place.self.candidates.items c.loop-place.invariant in
          rw (w.self-is, w.in_ok-push.ensures.items) h
      | else-mask-masks-ne0 w ↦
          let h = neighbours_as_before c.args.masks.now c.args.j c.loop-place.place c.loop-place.self.candidates.items w.if-mask-masks-ne0.false c.loop-place.invariant in
          rw w.self-is h
    ]
