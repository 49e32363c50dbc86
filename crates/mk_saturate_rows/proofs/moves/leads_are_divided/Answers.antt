use Rattle.mk_move.proofs.Belongings.{BelongsTo-lead}
use Rattle.mk_saturate_rows.proofs.moves.leads_are_divided.Goals as goal

pub times_dividing-requires-clause-not_zero : goal.times_dividing-requires-clause-not_zero
times_dividing-requires-clause-not_zero g c =
    let basis = c.in_ok-basis.basis in
    let kept = c.len.ensures.kept in
    BelongsTo-lead basis.priority basis.grading c.move_at-two.result.now kept.priority kept.grading kept.columns c.move_at-two.ensures.belongs
