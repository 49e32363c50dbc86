use Rattle.std.proofs.Common.{refl}
use Rattle.mk_model.proofs.OrderLaws.{IsBelow-irreflexive, IsBelow-asymmetric, IsBelow-transitive, IsBelow-total_along}
use Rattle.mk_model.proofs.OrderLaws.{IsBelow-total_standard, standard_has}
use Rattle.mk_model.proofs.laws.below_is_strict_and_total.Goals as goal

pub returns : goal.returns
returns c = record {
  irreflexive = λ priority x b. IsBelow-irreflexive priority x x (λ c. refl) b;
  asymmetric = λ priority x y b d. IsBelow-asymmetric priority x y b d;
  transitive = λ priority x y z b d. IsBelow-transitive priority x y z b d;
  total = λ n priority x y l k f. IsBelow-total_along n priority x y l k f;
  total_standard = λ n x y l k. IsBelow-total_standard n x y l k;
  all_standard = λ n c l. standard_has n c l;
}
