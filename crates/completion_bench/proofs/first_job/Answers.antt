use Rattle.std.proofs.Common.{length, ap, ◌∙◌, arith}
use Rattle.mk_move.proofs.FirstLists.{length-others}
use Rattle.completion_bench.proofs.first_job.Goals as goal

pub start_basis-requires-clause-list : goal.start_basis-requires-clause-list
start_basis-requires-clause-list c = ap length c.in-Ok.ensures ∙ length-others 0 c.columns-3.result (omega arith) ∙ c.columns-3.ensures.value
