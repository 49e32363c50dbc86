use Rattle.mk_model.proofs.LiftedFibres.{lifted_graded, lifted_there, lifted_back, normal_form_is_least_cheapest, walk_lowered}
use Rattle.mk_model.proofs.lifting_laws.lifted_fibres.Goals as goal

pub returns : goal.returns
returns c = record {
  graded = λ lattice prices gain raise graded can. lifted_graded lattice prices gain raise graded can;
  there = λ lattice prices gain raise x y graded can p h. lifted_there lattice prices gain raise graded can x y p h;
  back = λ lattice prices gain raise x z graded can p h.
      let back = lifted_back lattice prices gain raise graded can x z p h in
      (back.vector, back.same, back.of_fibre);
  cheapest = λ lattice prices gain raise x z graded can p h. normal_form_is_least_cheapest lattice prices gain raise graded can x z p h;
  walk = λ lattice prices gain raise steps x y graded can l k h. walk_lowered lattice prices gain raise graded can steps x y l k h;
}
