use Rattle.mk_model.proofs.Translation.{joined_translate}
use Rattle.mk_model.proofs.laws.join_translate.Goals as goal

pub returns : goal.returns
returns c = record {
  by_list = λ n moves x y t walk q. joined_translate t q walk;
  by_test = λ n test x y t walk q. joined_translate t q walk;
  by_earlier = λ lattice m x y t walk q. joined_translate t q walk;
  by_lighter = λ lattice bound x y t walk q. joined_translate t q walk;
}
