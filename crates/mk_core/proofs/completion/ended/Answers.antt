use Rattle.std.proofs.Common.{Ok, sym, subst}
use Rattle.mk_core.specs.declared.phase.Phase.{Phase}
use Rattle.mk_core.specs.Phases.{Finishes}
use Rattle.mk_core.proofs.Finishing.{completed, finishes_ended}
use Rattle.mk_core.proofs.completion.ended.Goals as goal

pub of_phase-requires : goal.of_phase-requires
of_phase-requires c = completed c.args.ledger c.phase_of-phase.result.0 c.phase_of-phase.ensures.phase c.requires

pub returns : goal.returns
returns c =
    subst (λ (phase : Phase). Finishes c.args.ledger (Ok phase)) (sym c.of_phase.ensures) (finishes_ended c.args.ledger c.phase_of-phase.result.0 c.phase_of-phase.ensures.phase c.requires)
