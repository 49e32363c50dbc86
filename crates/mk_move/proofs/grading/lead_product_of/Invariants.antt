use Rattle.mk_model.specs.Vectors.{positive_part}
use Rattle.mk_move.proofs.Weights.{IsTotal}
use Rattle.mk_move.proofs.grading.lead_product_of.Given as goal

abbrev pub invariant-loop-column : goal.invariant-loop-column
invariant-loop-column l = IsTotal l.weights (positive_part l.row) l.column l.total
