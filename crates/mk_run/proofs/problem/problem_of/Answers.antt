use Rattle.std.proofs.Common.{sym, subst}
use Rattle.mk_gen.specs.Models.{AreModelSizes}
use Rattle.mk_run.proofs.Models.{sizes_fit}
use Rattle.mk_run.proofs.problem.problem_of.Goals as goal

pub model_problem-requires : goal.model_problem-requires
model_problem-requires g c = subst AreModelSizes (sym c.numbers.ensures.value) (sizes_fit _ c.numbers.ensures.kept)
