use Rattle.std.proofs.Common.{ap, length, arith, inl, inr, ⊎_elim, ◌∙◌, List, Some, All, subst, ℤ}
use Rattle.std.specs.Option.{option_copied}
use Rattle.std.proofs.lemmas.Result.{err_from_is_err_and}
use Rattle.mk_model.specs.ChosenGradings.{IsSmallEntry}
use Rattle.mk_grading.proofs.SourcesTried.{IsGradingMade, IsSourced}
use Rattle.mk_grading.proofs.Answered.{answers_refusal, without_grade, with_grade}
use Rattle.mk_grading.proofs.choice.choose.Goals as goal

pub returns-in_err-check_matrix : goal.returns-in_err-check_matrix
returns-in_err-check_matrix c =
    let grade = option_copied c.args.grade in
    let p = err_from_is_err_and c.from_residual.result c.from_residual.ensures.1 in
    rw (p.1, p.2)
    (answers_refusal c.args.lat.now (option_copied c.args.mat) grade c.in_err-check_matrix.field-0.0 (⊎_elim (λ e. inl e) (λ h. inr (h grade)) c.in_err-check_matrix.ensures.caused))

pub returns-in_default : goal.returns-in_default
returns-in_default c =
    let sourced : IsSourced c.args.lat.now (option_copied c.args.mat) c.ones_or_sum.result = record {
      chosen = c.ones_or_sum.ensures.chosen;
      graded = c.ones_or_sum.ensures.graded;
      caused = c.ones_or_sum.ensures.caused;
    } in
    rw c.in_default.is (without_grade c.args.lat.now (option_copied c.args.mat) c.in_ok-check_matrix.ensures.fits c.ones_or_sum.result sourced)

pub returns-in_err-weights : goal.returns-in_err-weights
returns-in_err-weights c =
    let mat = option_copied c.args.mat in
    let p = err_from_is_err_and c.from_residual-in_err-weights.result c.from_residual-in_err-weights.ensures.1 in
    rw (p.1, p.2, c.in-Some.is)
    (answers_refusal c.args.lat.now mat (Some c.in-Some.given.now) c.in_err-weights.field-0.0 (⊎_elim (λ e. inl e) (λ h. inr (h mat c.in_ok-check_matrix.ensures.fits)) c.in_err-weights.ensures.caused))

pub grading_of-requires : goal.grading_of-requires
grading_of-requires c = omega (arith, ap length c.deref.ensures.value, c.in_ok-weights.ensures.few)

pub returns : goal.returns
returns c =
    let lat = c.args.lat.now in
    let given = c.in-Some.given.now in
    let fits = c.in_ok-weights.ensures.fits in
    let small : All IsSmallEntry given.entries = rw c.in-Some.is at c.requires.grade in
    let row = c.deref.ensures.value ∙ c.in_ok-weights.ensures.value in
    let grading : IsGradingMade c.deref.result.now c.grading_of.result = record {
      value = c.grading_of.ensures.value;
      in_range = c.grading_of.ensures.weights;
      refused = c.grading_of.ensures.refused;
    } in
    rw c.in-Some.is
    (with_grade lat (option_copied c.args.mat) c.in_ok-check_matrix.ensures.fits given small fits c.in_ok-weights.ensures.graded c.grading_of.result
    (subst (λ (w : List ℤ). IsGradingMade w c.grading_of.result) row grading))
