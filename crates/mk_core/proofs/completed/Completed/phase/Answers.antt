use Rattle.std.proofs.Common.{subst}
use Rattle.mk_core.specs.Phases.{IsCompleted}
use Rattle.mk_core.proofs.Completions.{completed_joined}
use Rattle.mk_core.proofs.completed.Completed.phase.Goals as goal

pub returns-clause-joined : goal.returns-clause-joined
returns-clause-joined c = completed_joined c.args.self.now (subst IsCompleted c.self.view_is c.self.invariant)
