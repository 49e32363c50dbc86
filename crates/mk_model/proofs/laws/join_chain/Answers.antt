use Rattle.mk_model.proofs.Reducts.{joined_by_disjoint, joined_by_third, joined_by_zero, joined_by_member}
use Rattle.mk_model.proofs.Confluence.{JoinedBelow-swap}
use Rattle.mk_model.proofs.laws.join_chain.Goals as goal

pub returns : goal.returns
returns c = record {
  disjoint = λ lattice priority moves a b o h k d. joined_by_disjoint o a b h k d;
  chain = λ lattice priority moves a b third o h k g d i j. joined_by_third o a b third h k g d i j;
  zero_reduct = λ lattice priority moves a b o h k d. joined_by_zero o a b h k d;
  member_reduct = λ lattice priority moves a b r o h k d m. joined_by_member o a b r h k d m;
  either_order = λ lattice priority moves a b o j. JoinedBelow-swap o a b j;
}
