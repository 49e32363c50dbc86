use Rattle.mk_model.proofs.OrderLaws.{ComesBefore-irreflexive, ComesBefore-asymmetric}
use Rattle.mk_model.proofs.MoveOrder.{ComesBefore-transitive, ComesBefore-total}
use Rattle.mk_model.proofs.laws.move_order_is_strict_and_total.Goals as goal

pub returns : goal.returns
returns c = record {
  irreflexive = λ n w m b. ComesBefore-irreflexive n w m b;
  asymmetric = λ n w m other b d. ComesBefore-asymmetric n w m other b d;
  transitive = λ n w m middle last b d. ComesBefore-transitive n w m middle last b d;
  total = λ n w m other l k. ComesBefore-total n w m other l k;
}
