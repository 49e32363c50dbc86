use Rattle.std.proofs.Common.{length, ap, ◌∙◌, arith}
use Rattle.mk_move.proofs.FirstLists.{length-others}
use Rattle.mk_saturate.proofs.Completions.{left_within}
use Rattle.mk_saturate.proofs.saturation.Saturation.next_job.Goals as goal

pub job_along-requires-clause-list : goal.job_along-requires-clause-list
job_along-requires-clause-list c =
    let column = c.in-Some.column in
    let within = left_within c.deref.result.now column c.in-Some.ensures.left_over in
    let columns = c.columns.ensures.value ∙ ap length c.grading.ensures in
    ap length c.in_ok-priority.ensures ∙ length-others column c.columns.result (omega (arith, within, ap length c.deref.ensures.value, c.self.invariant.columns, columns)) ∙ columns
