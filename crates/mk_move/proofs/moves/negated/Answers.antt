use Rattle.std.proofs.Common.{ap, arith, map, neg_ℤ, ◌∙◌}
use Rattle.std.proofs.lemmas.List.{take_all}
use Rattle.mk_model.specs.Vectors.{negate}
use Rattle.mk_move.proofs.moves.negated.Goals as goal

pub returns : goal.returns
unfolding negate
returns c = c.loop-entry.invariant ∙ ap (map neg_ℤ) (take_all c.loop-entry.entry-index c.args.row.now (omega arith))
