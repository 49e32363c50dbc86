use Rattle.mk_model.specs.Orders.{lead}
use Rattle.mk_model.specs.Reductions.{lcm}
use Rattle.mk_move.proofs.Weights.{IsTotal}
use Rattle.mk_minimise.proofs.overlaps.lcm_weight.Given as goal

abbrev pub invariant-loop-column : goal.invariant-loop-column
invariant-loop-column l = IsTotal l.grading (lcm (lead l.a.entries) (lead l.b.entries)) l.column l.total
