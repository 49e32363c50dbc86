use Rattle.std.proofs.Common.{refl}
use Rattle.mk_model.specs.Vectors.{combine, positive_part}
use Rattle.mk_model.specs.Reductions.{lcm}
use Rattle.mk_examples.proofs.PairExamples.{oriented_moves, point_below, disjoint, joined_below, of_weight, every_pair}
use Rattle.mk_examples.proofs.examples.pair_examples.Goals as goal

pub returns : goal.returns
unfolding lcm combine positive_part
returns c = record {
  multiple_of_leads = refl;
  oriented_moves = oriented_moves;
  point_below = point_below;
  disjoint = disjoint;
  joined_below = joined_below;
  of_weight = of_weight;
  every_pair = every_pair;
}
