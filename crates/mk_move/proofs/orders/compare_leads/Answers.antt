use Rattle.std.proofs.Common.{◌≡◌, ◌∙◌}
use Rattle.mk_model.specs.Vectors.{positive_part}
use Rattle.mk_model.specs.Orders.{IsBelow}
use Rattle.mk_model.proofs.VectorAlgebra.{length-positive_part}
use Rattle.mk_move.proofs.Comparisons.{IsComparison, compared}
use Rattle.mk_move.proofs.orders.compare_leads.Goals as goal
use Rattle.mk_move.proofs.orders.compare_leads.Goals.{After-compare_along}

answer : (c : After-compare_along) → IsComparison c.compare_along.result (IsBelow c.args.priority.now (positive_part c.args.a.now.entries) (positive_part c.args.b.now.entries)) (positive_part c.args.a.now.entries ≡ positive_part c.args.b.now.entries) (IsBelow c.args.priority.now (positive_part c.args.b.now.entries) (positive_part c.args.a.now.entries))
answer c =
    compared c.args.priority.now (positive_part c.args.a.now.entries) (positive_part c.args.b.now.entries) c.compare_along.result c.as_slice.ensures.kept
    (length-positive_part c.args.a.now.entries ∙ c.requires.columns) (length-positive_part c.args.b.now.entries ∙ c.requires.as_many)
    (rw (c.as_slice.ensures.value, c.entries.ensures.value, c.entries-2.ensures.value) at c.compare_along.ensures)

pub returns-clause-less : goal.returns-clause-less
returns-clause-less c = (answer (goal.at.returns-clause-less c).After-compare_along).less

pub returns-clause-equal : goal.returns-clause-equal
returns-clause-equal c = (answer (goal.at.returns-clause-equal c).After-compare_along).equal

pub returns-clause-greater : goal.returns-clause-greater
returns-clause-greater c = (answer (goal.at.returns-clause-greater c).After-compare_along).greater
