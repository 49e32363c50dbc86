use Rattle.std.proofs.Common.{sym, ◌∙◌}
use Rattle.mk_move.specs.Sides.{part_of}
use Rattle.mk_reduce.proofs.BasisMoves.{columns_of, lead_not_zero}
use Rattle.mk_reduce.proofs.NextSteps.{divides_at, plus_step, minus_step}
use Rattle.mk_reduce.proofs.reduction.step_at.Goals as goal

pub times_dividing-count-requires-clause-columns : goal.times_dividing-count-requires-clause-columns
times_dividing-count-requires-clause-columns c =
    columns_of c.args.basis.now c.requires.basis c.move_at.result.now c.move_at.ensures.belongs ∙ sym c.requires.columns

pub times_dividing-count-requires-clause-not_zero : goal.times_dividing-count-requires-clause-not_zero
times_dividing-count-requires-clause-not_zero c =
    lead_not_zero c.args.basis.now c.requires.basis c.move_at.result.now c.move_at.ensures.belongs

pub times_dividing-count-requires-clause-divides : goal.times_dividing-count-requires-clause-divides
times_dividing-count-requires-clause-divides c =
    divides_at c.args.basis.now.moves (part_of c.args.side c.args.rest.now.entries) c.args.place c.move_at.result.now c.move_at.ensures.value c.requires.divides

pub returns-in-Plus-clause-step : goal.returns-in-Plus-clause-step
returns-in-Plus-clause-step c =
    plus_step c.args.basis.now.moves c.args.rest.now.entries c.args.place c.move_at.result.now c.args.side c.times_dividing-count.result c.in-Plus.is c.times_dividing-count.ensures.range c.move_at.ensures.value c.times_dividing-count.ensures.most

pub returns-in-Minus-clause-step : goal.returns-in-Minus-clause-step
returns-in-Minus-clause-step c =
    minus_step c.args.basis.now.moves c.args.rest.now.entries c.args.place c.move_at.result.now c.args.side c.times_dividing-count.result c.in-Minus.is c.times_dividing-count.ensures.range c.move_at.ensures.value c.times_dividing-count.ensures.most
