use Rattle.std.proofs.Common.{◌≡◌, inr, List, length, refl, subst, ap, sym, ◌∙◌, ℤ}
use Rattle.std.specs.Option.{option_copied}
use Rattle.mk_model.specs.Lattices.{ones}
use Rattle.mk_model.specs.ChosenGradings.{IsOrthogonal, HasNonzeroProduct, FitsMatrix}
use Rattle.mk_grading.proofs.SourcesTried.{IsGradingMade, IsSourced, IfNone_then, HasNonzeroProduct-from_first, ones_tried, sum_tried}
use Rattle.mk_grading.proofs.choice.ones_or_sum.Goals as goal
use Rattle.mk_grading.proofs.choice.ones_or_sum.Goals.{After-drop-ones, After-drop-ones-2}

by_ones : (c : After-drop-ones) → IsSourced c.args.lat.now (option_copied c.args.mat) c.grading_of.result
by_ones c =
    let lat = c.args.lat.now in
    let are_ones : c.in_ok-ones.ones.items ≡ ones lat.columns = c.in_ok-ones.ensures.items_if_clones_equal (λ y e. e) ∙ ap ones c.columns.ensures.value in
    let sums : IsOrthogonal lat c.deref.result.now = IfNone_then c.first_product.result c.if-is_none.ensures c.first_product.ensures.none in
    let grading : IsGradingMade c.deref-then-is_none.result.now c.grading_of.result = record {
      value = c.grading_of.ensures.value;
      in_range = c.grading_of.ensures.weights;
      refused = c.grading_of.ensures.refused;
    } in
    ones_tried lat c.columns.ensures.kept.filled (option_copied c.args.mat) c.grading_of.result
    (subst (IsOrthogonal lat) (c.deref.ensures.value ∙ are_ones) sums)
    (subst (λ (w : List ℤ). IsGradingMade w c.grading_of.result) (c.deref-then-is_none.ensures.value ∙ are_ones) grading)

pub returns-then-is_none-clause-graded : goal.returns-then-is_none-clause-graded
returns-then-is_none-clause-graded c = (by_ones c).graded

pub returns-in_default-clause-caused : goal.returns-in_default-clause-caused
returns-in_default-clause-caused c =
    let lat = c.args.lat.now in
    let are_ones : c.in_ok-ones.ones.items ≡ ones lat.columns = c.in_ok-ones.ensures.items_if_clones_equal (λ y e. e) ∙ ap ones c.columns.ensures.value in
    let some_product = HasNonzeroProduct-from_first lat c.deref.result.now c.first_product.result c.if-is_none.ensures c.first_product.ensures.found in
    inr (
      refl,
      record {
        no_grade = refl;
        not_ones = subst (HasNonzeroProduct lat) (c.deref.ensures.value ∙ are_ones) some_product;
        no_sum = rw c.in_default.is tt;
      },
    )

by_sum : (c : After-drop-ones-2) → IsSourced c.args.lat.now (option_copied c.args.mat) c.grading_of-2.result
by_sum c =
    let lat = c.args.lat.now in
    let matrix = c.in-Some.matrix.now in
    let are_ones : c.in_ok-ones.ones.items ≡ ones lat.columns = c.in_ok-ones.ensures.items_if_clones_equal (λ y e. e) ∙ ap ones c.columns.ensures.value in
    let some_product = HasNonzeroProduct-from_first lat c.deref.result.now c.first_product.result c.if-is_none.ensures c.first_product.ensures.found in
    let fits : FitsMatrix lat matrix = rw c.in-Some.is at c.requires.fits in
    let grading : IsGradingMade c.deref-2.result.now c.grading_of-2.result = record {
      value = c.grading_of-2.ensures.value;
      in_range = c.grading_of-2.ensures.weights;
      refused = c.grading_of-2.ensures.refused;
    } in
    sum_tried lat c.columns.ensures.kept.filled (option_copied c.args.mat) matrix (ap option_copied c.in-Some.is) fits (ap length (sym c.in_ok-sums.ensures.value) ∙ c.in_ok-sums.ensures.columns)
    (subst (HasNonzeroProduct lat) (c.deref.ensures.value ∙ are_ones) some_product) c.grading_of-2.result
    (subst (λ (w : List ℤ). IsGradingMade w c.grading_of-2.result) (c.deref-2.ensures.value ∙ c.in_ok-sums.ensures.value) grading)

pub returns-clause-chosen : goal.returns-clause-chosen
returns-clause-chosen c = (by_sum c).chosen

pub returns-clause-graded : goal.returns-clause-graded
returns-clause-graded c = (by_sum c).graded

pub returns-clause-caused : goal.returns-clause-caused
returns-clause-caused c = (by_sum c).caused
