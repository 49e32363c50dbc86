use Rattle.mk_model.proofs.FiniteFibres.{entry_in_fibre, fibre_listed}
use Rattle.mk_model.proofs.laws.every_fibre_is_finite.Goals as goal

pub returns : goal.returns
returns c = record {
  bounded = λ lattice x y c g p q h. entry_in_fibre g x y c p q h;
  listed = λ lattice x g p. fibre_listed g x p;
}
