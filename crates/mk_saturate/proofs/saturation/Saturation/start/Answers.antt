use Rattle.std.proofs.Common.{length, ap, ◌∙◌, subst, replicate, true}
use Rattle.mk_move.specs.MoveLists.{BasisView, IsBasis, vectors_of}
use Rattle.mk_saturate.proofs.Beginnings.{all_left, start_lattice}
use Rattle.mk_saturate.proofs.saturation.Saturation.start.Goals as goal

pub invariant_of-result : goal.invariant_of-result
invariant_of-result c =
    let basis = c.in_ok-basis.basis in
    let kept = subst (λ (b : BasisView). IsBasis b) c.basis.view_is c.basis.invariant.0 in
    let columns = ap length c.in_ok-basis.ensures.start.grading ∙ c.requires.columns in
    let left = c.in_ok-left.ensures.items_if_clones_equal (λ y e. e) ∙ ap (λ n. replicate n true) c.columns.ensures.value in
    all_left c.args.lat.now.columns basis c.in_ok-left.left.items kept columns left c.in_ok-basis.ensures.few_moves

pub returns-clause-lattice : goal.returns-clause-lattice
returns-clause-lattice c = start_lattice c.args.lat.now _ (vectors_of c.in_ok-basis.basis.moves) c.columns.ensures.kept c.in_ok-basis.ensures.start.moves
