use Rattle.std.proofs.Common.{length}
use Rattle.mk_core.proofs.Endings.{workers_within}
use Rattle.mk_core.proofs.DisjointPairs.{disjoint_unclaimed}
use Rattle.mk_core.proofs.skipping.skip_disjoint.Goals as goal

pub settle_disjoint-requires-clause-within : goal.settle_disjoint-requires-clause-within
settle_disjoint-requires-clause-within c = workers_within c.args.ledger.now c.basis.ensures.kept

pub settle_disjoint-requires-clause-idle : goal.settle_disjoint-requires-clause-idle
settle_disjoint-requires-clause-idle c = c.requires.unclaimed 0

pub returns-clause-goes_on : goal.returns-clause-goes_on
returns-clause-goes_on c =
    disjoint_unclaimed (length c.args.ledger.now.basis.grading) c.args.ledger.now.basis.priority c.args.ledger.now c.settle_disjoint.new.self c.requires.unclaimed c.settle_disjoint.ensures.settles c.settle_disjoint.ensures.basis
