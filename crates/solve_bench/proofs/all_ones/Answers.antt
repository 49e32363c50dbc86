use Rattle.std.proofs.Common.{length, ap, ◌∙◌}
use Rattle.mk_move.proofs.StandardLists.{length-standard}
use Rattle.solve_bench.proofs.all_ones.Goals as goal

pub start_basis-requires-clause-list : goal.start_basis-requires-clause-list
start_basis-requires-clause-list c = ap length c.in-Ok-standard.ensures ∙ length-standard c.columns-2.result ∙ c.columns-2.ensures.value
