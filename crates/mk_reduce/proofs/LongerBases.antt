-- Work on a pair of a basis is work on that pair of each longer basis.
use Rattle.std.proofs.Common.{◌≡◌, List, [], ◌∷◌, ◌++◌, length, IfSome, ℤ, arith, ap, sym, ◌∙◌, subst, length-append}
use Rattle.std.proofs.lemmas.List.{map-append}
use Rattle.mk_model.specs.CoreStates.{difference, IsPairOf}
use Rattle.mk_model.specs.Overflows.{IsTimesDividing}
use Rattle.mk_model.specs.Reductions.{Reduct}
use Rattle.mk_model.proofs.Reducts.{Reduct-append}
use Rattle.mk_model.proofs.Journals.{move_at-append, IsPairOf-append, difference-append}
use Rattle.mk_move.specs.Moves.{Weighed}
use Rattle.mk_move.specs.MoveLists.{BasisView, vectors_of}
use Rattle.mk_move.specs.Steps.{minus_times}
use Rattle.mk_reduce.specs.declared.step.Step.{Step}
use Rattle.mk_reduce.specs.Works.{TheWork, WorkOf, rest_of, IsRest, IsReductionStep, after_step, LeadsTo}

module _ (moves more : List (List ℤ)) where
  IsStep-append : (r : List ℤ) (step : Step) → IsReductionStep moves r step → IsReductionStep (moves ++ more) r step
  IsStep-append r step h = record {
    within = omega (arith, h.within, length-append moves more);
    divides = subst (λ v. IsTimesDividing v r step.times) (sym (move_at-append moves more step.place h.within)) h.divides;
    greatest = λ times d. h.greatest times (subst (λ v. IsTimesDividing v r times) (move_at-append moves more step.place h.within) d);
  }

  LeadsTo-append : (r : List ℤ) (trace : List Step) (last : List ℤ) → LeadsTo moves r trace last → LeadsTo (moves ++ more) r trace last
  LeadsTo-append r [] last e = e
  LeadsTo-append r (step ∷ trace) last (h, l) =
      let same : after_step moves r step ≡ after_step (moves ++ more) r step = ap (minus_times r step.times) (sym (move_at-append moves more step.place h.within)) in
      (IsStep-append r step h, subst (λ x. LeadsTo (moves ++ more) x trace last) same (LeadsTo-append (after_step moves r step) trace last l))

-- the longer basis has the moves of the other, and more behind them
pub WorkOf-append : (work : TheWork) (basis longer : BasisView) (more : List Weighed) → longer.moves ≡ basis.moves ++ more → longer.grading ≡ basis.grading → WorkOf work basis → WorkOf work longer
WorkOf-append work basis longer more e f h = record {
  pair = subst (λ ms. IsPairOf ms work.pair) (sym vectors) (IsPairOf-append old behind work.pair h.pair);
  front = omega (arith, h.front, ap length e, length-append basis.moves more);
  steps = subst (λ ms. LeadsTo ms (difference ms work.pair) work.trace (rest_of (length longer.grading) work.remainder)) (sym vectors) (
      subst (λ r. LeadsTo (old ++ behind) r work.trace (rest_of (length longer.grading) work.remainder)) (sym begin)
      (subst (λ w. LeadsTo (old ++ behind) (difference old work.pair) work.trace (rest_of (length w) work.remainder)) (sym f) (LeadsTo-append old behind (difference old work.pair) work.trace (rest_of (length basis.grading) work.remainder) h.steps))
      );
  reduct = subst (λ ms. Reduct ms (difference ms work.pair) (rest_of (length longer.grading) work.remainder)) (sym vectors) (
      subst (λ r. Reduct (old ++ behind) r (rest_of (length longer.grading) work.remainder)) (sym begin)
      (subst (λ w. Reduct (old ++ behind) (difference old work.pair) (rest_of (length w) work.remainder)) (sym f) (Reduct-append old behind (difference old work.pair) (rest_of (length basis.grading) work.remainder) h.reduct))
      );
  rest = subst (λ w. IfSome work.remainder (IsRest w)) (sym f) h.rest;
  kept = h.kept;
  places = h.places;
}
  where
    old : List (List ℤ)
    old = vectors_of basis.moves

    behind : List (List ℤ)
    behind = vectors_of more

    vectors : vectors_of longer.moves ≡ old ++ behind
    vectors = ap vectors_of e ∙ map-append (λ (m : Weighed). m.entries) basis.moves more

    begin : difference (old ++ behind) work.pair ≡ difference old work.pair
    begin = difference-append old behind work.pair h.pair
