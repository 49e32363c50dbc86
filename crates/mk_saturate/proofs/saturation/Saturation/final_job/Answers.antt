use Rattle.std.proofs.Common.{length, ap, ◌∙◌}
use Rattle.mk_move.proofs.StandardLists.{length-standard}
use Rattle.mk_saturate.proofs.saturation.Saturation.final_job.Goals as goal

pub job_along-requires-clause-list : goal.job_along-requires-clause-list
job_along-requires-clause-list c =
    ap length c.in_ok-priority.ensures ∙ length-standard c.columns.result ∙ c.columns.ensures.value ∙ ap length c.grading.ensures
