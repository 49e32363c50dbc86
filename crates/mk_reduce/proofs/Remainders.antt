-- What a row that is reduced in place keeps, and what is left at its end.
use Rattle.std.proofs.Common.{◌≡◌, ℕ, ◌<◌, true, List, length, slice_get, Some, Ok, Err, ℤ, pos, arith, ap, refl, sym, ◌∙◌, subst, inr}
use Rattle.std.proofs.lemmas.Option.{slice_get_within, get_or_from_slice_get}
use Rattle.mk_model.specs.Vectors.{zeros, weight, positive_part}
use Rattle.mk_model.specs.CoreStates.{Pair, pair_of, move_at, difference}
use Rattle.mk_model.specs.Overflows.{IsGenuineOverflow}
use Rattle.mk_model.specs.Reductions.{Reduct, IsNormal}
use Rattle.mk_model.specs.Reductions.Reaches.{here}
use Rattle.mk_model.proofs.VectorAlgebra.{lengths}
use Rattle.mk_move.specs.Moves.{Weighed}
use Rattle.mk_move.specs.MoveLists.{BasisView, IsBasis, BelongsTo, vectors_of}
use Rattle.mk_move.specs.Steps.{minus_times, IsOverflow}
use Rattle.mk_move.specs.InPlace.{TakesOffInPlace}
use Rattle.mk_move.specs.declared.steps.OverflowAt.{OverflowAt}
use Rattle.mk_move.proofs.Differences.{weight-minus_times}
use Rattle.mk_move.proofs.MoveVectors.{vector_at}
use Rattle.mk_reduce.specs.declared.step.Step.{Step}
use Rattle.mk_reduce.specs.Stops.{overflow_of}
use Rattle.mk_reduce.specs.Works.{IsRest, IsReductionStep, after_step}
use Rattle.mk_reduce.specs.Remainders.{IsNormalRest}
use Rattle.mk_reduce.specs.Traces.{IsUnweighed, IsBlocked}
use Rattle.mk_reduce.proofs.Beginnings.{difference_at, first_beyond}
use Rattle.mk_reduce.proofs.BasisMoves.{columns_of}
use Rattle.mk_reduce.proofs.Falls.{step_down}
use Rattle.mk_reduce.proofs.Heights.{height}

-- a step by a move of the basis, as it is taken off in place
module _ (basis : BasisView) (h : IsBasis basis) (m v : Weighed) (step : Step) (left : IsUnweighed basis.grading m) (is_step : IsReductionStep (vectors_of basis.moves) m.entries step)
    (at : slice_get basis.moves step.place ≡ Some v) (belongs : BelongsTo basis.priority basis.grading v) where
  pub after_is : minus_times m.entries step.times v.entries ≡ after_step (vectors_of basis.moves) m.entries step
  after_is = ap (minus_times m.entries step.times) (sym (vector_at basis.moves step.place v at))

  pub step_unweighed : (after : Weighed) → TakesOffInPlace m step.times v.entries (Ok true) after → IsUnweighed basis.grading after
  step_unweighed after e = subst (λ (x : Weighed). IsUnweighed basis.grading x) (sym e) (record {
    columns = omega (arith, lengths, left.columns, columns_of basis h v belongs);
    product = weight-minus_times basis.grading m.entries v.entries step.times (left.columns ∙ sym (columns_of basis h v belongs)) left.product belongs.graded.product;
  })

  pub step_lower : (after : Weighed) → TakesOffInPlace m step.times v.entries (Ok true) after → height basis.grading basis.priority after.entries < height basis.grading basis.priority m.entries
  step_lower after e =
      let less = step_down basis h m.entries step (record { columns = left.columns; product = left.product }) is_step in
      subst (λ (x : List ℤ). height basis.grading basis.priority x < height basis.grading basis.priority m.entries) (sym (ap (λ (x : Weighed). x.entries) e ∙ after_is)) less

  pub step_blocked : (after : Weighed) (over : OverflowAt) → TakesOffInPlace m step.times v.entries (Err over) after → IsBlocked (vectors_of basis.moves) after.entries step.place over
  step_blocked after over e = subst (λ (x : Weighed). IsBlocked (vectors_of basis.moves) x.entries step.place over) (sym e.0) (record {
    within = is_step.within;
    step = rw e.1.times is_step.divides;
    overflow = subst (λ (y : List ℤ). IsOverflow m.entries y over.times over) (sym (vector_at basis.moves step.place v at)) (subst (λ (z : ℤ). IsOverflow m.entries v.entries z over) (sym e.1.times) e.1);
  })

-- ---- what is left, and why there is nothing known of it
abbrev pub with_weight : List ℤ → Weighed → Weighed
with_weight w m = record m { weight = weight w (positive_part m.entries) }

pub rest_weighed : (w : List ℤ) (m given : Weighed) → IsUnweighed w m → given ≡ with_weight w m → IsRest w given
rest_weighed w m given h e = subst (λ (x : Weighed). IsRest w x) (sym e) (record { columns = h.columns; graded = record { product = h.product; weight = refl } })

module _ (basis : BasisView) (pair : Pair) where
  pub rest_left : (m given : Weighed) → Reduct (vectors_of basis.moves) (difference (vectors_of basis.moves) pair) m.entries → IsUnweighed basis.grading m → IsNormal (vectors_of basis.moves) m.entries →
      given ≡ with_weight basis.grading m → IsNormalRest basis pair given
  rest_left m given reduct unweighed normal e = record {
    reduct = subst (λ (x : Weighed). Reduct (vectors_of basis.moves) (difference (vectors_of basis.moves) pair) x.entries) (sym e) reduct;
    rest = rest_weighed basis.grading m given unweighed e;
    normal = subst (λ (x : Weighed). IsNormal (vectors_of basis.moves) x.entries) (sym e) normal;
  }

  pub step_fault : (m given : Weighed) (place : ℕ) (over : OverflowAt) → Reduct (vectors_of basis.moves) (difference (vectors_of basis.moves) pair) m.entries → IsBlocked (vectors_of basis.moves) m.entries place over →
      given ≡ with_weight basis.grading m → IsGenuineOverflow (vectors_of basis.moves) (overflow_of pair (Some given.entries) (Some place) over)
  step_fault m given place over reduct h e =
      subst (λ (x : Weighed). IsGenuineOverflow (vectors_of basis.moves) (overflow_of pair (Some x.entries) (Some place) over)) (sym e)
      (inr (
        place,
        refl,
        record {
          within = h.within;
          from = m.entries;
          operand = refl;
          reduct = reduct;
          step = h.step;
          beyond = first_beyond m.entries (move_at (vectors_of basis.moves) place) over.times over pair (Some m.entries) (Some place) h.overflow;
        },
      ))

-- ---- the difference of a pair
module _ (basis : BasisView) (h : IsBasis basis) (i j : ℕ) (a b : Weighed) (at_first : slice_get basis.moves i ≡ Some a) (at_second : slice_get basis.moves j ≡ Some b) (belongs : BelongsTo basis.priority basis.grading a) where
  second_belongs : BelongsTo basis.priority basis.grading b
  second_belongs = subst (BelongsTo basis.priority basis.grading) (get_or_from_slice_get basis.moves j b b at_second) (h.moves j b (slice_get_within basis.moves j b at_second))

  pub difference_unweighed : (after : Weighed) → TakesOffInPlace b (pos 1) a.entries (Ok true) after → IsUnweighed basis.grading after
  difference_unweighed after e = subst (λ (x : Weighed). IsUnweighed basis.grading x) (sym e) (record {
    columns = omega (arith, lengths, columns_of basis h a belongs, columns_of basis h b second_belongs);
    product = weight-minus_times basis.grading b.entries a.entries (pos 1) (columns_of basis h b second_belongs ∙ sym (columns_of basis h a belongs)) second_belongs.graded.product belongs.graded.product;
  })

  pub difference_begins : (after : Weighed) → TakesOffInPlace b (pos 1) a.entries (Ok true) after → Reduct (vectors_of basis.moves) (difference (vectors_of basis.moves) (pair_of i j)) after.entries
  difference_begins after e =
      subst (Reduct (vectors_of basis.moves) (difference (vectors_of basis.moves) (pair_of i j))) (sym (ap (λ (x : Weighed). x.entries) e ∙ difference_at basis.moves i j a b at_first at_second)) here

  pub difference_zero : minus_times b.entries (pos 1) a.entries ≡ zeros (length b.entries) → Reduct (vectors_of basis.moves) (difference (vectors_of basis.moves) (pair_of i j)) (zeros (length basis.grading))
  difference_zero e =
      subst (Reduct (vectors_of basis.moves) (difference (vectors_of basis.moves) (pair_of i j)))
      (sym (difference_at basis.moves i j a b at_first at_second) ∙ e ∙ ap zeros (columns_of basis h b second_belongs)) here
