use Rattle.mk_model.specs.Saturation.{drop_redundant}
use Rattle.mk_model.proofs.WalkLaws.{walk_from, walk_to}
use Rattle.mk_model.proofs.NormalForms.{part_joined, part_pairs}
use Rattle.mk_model.proofs.Dropping.{drop_redundant_part, drop_redundant_covers}
use Rattle.mk_model.proofs.Connections.{connected_by_others, column_leaves}
use Rattle.mk_model.proofs.laws.conn_drop.Goals as goal

pub returns : goal.returns
returns c = record {
  by_others = λ n rows columns moves others f connected. connected_by_others n rows columns moves others f connected;
  completed_column = λ lattice i priority columns moves o pairs connected. column_leaves o pairs columns connected;
  joins_the_same = λ lattice priority moves o pairs x y walk. part_joined o (drop_redundant moves) (drop_redundant_part moves)
      (drop_redundant_covers moves) pairs x y (walk_from walk) (walk_to walk) walk;
  pairs_stay_joined = λ lattice priority moves o pairs. part_pairs o (drop_redundant moves) (drop_redundant_part moves)
      (drop_redundant_covers moves) pairs;
}
