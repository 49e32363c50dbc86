use Rattle.std.proofs.Common.{◌+◌, arith, sym, ◌∙◌, subst}
use Rattle.mk_core.proofs.NeededMoves.{IsKeptUpTo, kept_past, kept_more, kept_all}
use Rattle.mk_core.proofs.dropping.drop_redundant.Goals as goal
use Rattle.mk_core.proofs.dropping.drop_redundant.Goals.{then-not-is_redundant_at+in_ok-put_copy, else-not-is_redundant_at}

pub loop-place-preserved : goal.loop-place-preserved
loop-place-preserved c =
    let basis = c.args.basis.now in
    let place = c.loop-place.place in
    let so_far = c.loop-place.invariant in
    let kept = c.if-not-is_redundant_at.kept in
    elim c.if-not-is_redundant_at.branch [
      | then-not-is_redundant_at+in_ok-put_copy w ↦ kept_more basis place c.loop-place.kept so_far w.move_at.result.now kept w.move_at.ensures.value
          (sym c.is_redundant_at.ensures ∙ w.if-not-is_redundant_at.true) (w.kept-is ∙ w.in_ok-put_copy.ensures.ok)
      | else-not-is_redundant_at w ↦ subst (IsKeptUpTo basis (place + 1)) (sym w.kept-is)
          (kept_past basis place c.loop-place.kept so_far (omega (arith, c.len-count.ensures.value, c.loop-place-test.true)) (sym c.is_redundant_at.ensures ∙ w.if-not-is_redundant_at.false))
    ]

pub returns-clause-moves : goal.returns-clause-moves
returns-clause-moves c =
    kept_all c.args.basis.now c.loop-place.place c.loop-place.kept c.loop-place.invariant (omega (arith, c.len-count.ensures.value, c.loop-place-test.false))
