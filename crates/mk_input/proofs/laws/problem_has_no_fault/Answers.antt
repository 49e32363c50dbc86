use Rattle.mk_input.proofs.OneReading.{not_both, one_problem}
use Rattle.mk_input.proofs.laws.problem_has_no_fault.Goals as goal

pub returns-clause-not_both : goal.returns-clause-not_both
returns-clause-not_both c = λ files lat grading fault problem has. not_both files lat grading fault problem has

pub returns-clause-one_problem : goal.returns-clause-one_problem
returns-clause-one_problem c = λ files lat other grading chosen problem also. one_problem files lat other grading chosen problem also
