use Rattle.std.proofs.Common.{◌≤◌, arith}
use Rattle.mk_solve.specs.Crews.{AnswersJob}
use Rattle.mk_solve.proofs.workers.WorkersCrew.complete.Goals as goal
use Rattle.mk_solve.proofs.workers.WorkersCrew.complete.Goals.{After-complete-else-workers-eq1}
use Rattle.mk_solve.proofs.workers.WorkersCrew.complete.Given.{Over}

-- what several workers answer
answered : (g : Over) (c : After-complete-else-workers-eq1 g) → AnswersJob c.args.job c.complete-else-workers-eq1.result
answered g c =
    let ready = c.requires.ready in
    let workers = c.workers_for-workers in
    let few : workers.result ≤ 64 = omega (arith, workers.ensures.few_workers, ready.2) in
    (ready.3 c.args.job workers.result c.requires.start c.requires.limit workers.ensures.some_workers few).1
    c.complete-else-workers-eq1.result c.complete-else-workers-eq1.ensures

pub returns-else-workers-eq1-clause-answer : goal.returns-else-workers-eq1-clause-answer
returns-else-workers-eq1-clause-answer g c =
    (answered g (goal.at.returns-else-workers-eq1-clause-answer g c).After-complete-else-workers-eq1).answer

pub returns-else-workers-eq1-clause-over_budget : goal.returns-else-workers-eq1-clause-over_budget
returns-else-workers-eq1-clause-over_budget g c =
    (answered g (goal.at.returns-else-workers-eq1-clause-over_budget g c).After-complete-else-workers-eq1).over_budget
