-- A trace goes on with each step in place, and at its end there is work on the pair.
use Rattle.std.proofs.Common.{◌≡◌, ◌≢◌, ◌⊎◌, inl, inr, ℕ, ◌≤◌, ◌<◌, true, false, List, [], ◌∷◌, ◌++◌, length, All, slice_get, Option, Some, None, IfSome, Ok, Err, ℤ, arith, ap, refl, sym, ◌∙◌, subst, append-nil, append_assoc}
use Rattle.mk_model.specs.Vectors.{zeros}
use Rattle.mk_model.specs.CoreStates.{Pair, difference}
use Rattle.mk_model.specs.Overflows.{IsGenuineOverflow}
use Rattle.mk_model.specs.Reductions.{Reduct, IsNormal}
use Rattle.mk_model.proofs.Confluence.{reaches_append}
use Rattle.mk_move.specs.Moves.{Weighed, IsMoveKept}
use Rattle.mk_move.specs.MoveLists.{BasisView, IsBasis, BelongsTo, vectors_of}
use Rattle.mk_move.specs.InPlace.{TakesOffInPlace}
use Rattle.mk_move.specs.declared.steps.OverflowAt.{OverflowAt}
use Rattle.mk_move.proofs.MoveVectors.{length-vectors_of}
use Rattle.mk_reduce.specs.declared.step.Step.{Step}
use Rattle.mk_reduce.specs.declared.stop.Stop.{Stop}
use Rattle.mk_reduce.specs.declared.stop.Stop.TheVariants.{Memory, Overflow}
use Rattle.mk_reduce.specs.Remainders.{IsNormalRest}
use Rattle.mk_reduce.specs.Stops.{IsStepRefused, overflow_of}
use Rattle.mk_reduce.specs.Traces.{IsUnweighed, IsTraced, IsLeftTraced, IsRefusedFrom}
use Rattle.mk_reduce.specs.Works.{TheWork, WorkOf, rest_of, IsRest, IsReductionStep, after_step, LeadsTo, ContinuesWork}
use Rattle.mk_reduce.proofs.Continuations.{trace_reduct}
use Rattle.mk_reduce.proofs.Heights.{height}
use Rattle.mk_reduce.proofs.MoreSteps.{leads_more, places_within}
use Rattle.mk_reduce.proofs.Remainders.{after_is, step_unweighed, step_lower, step_blocked, step_fault, rest_left, rest_weighed, with_weight}

-- no step yet
pub untraced : (basis : BasisView) (m : Weighed) (before : List Step → Type 0) → IsUnweighed basis.grading m → IsLeftTraced basis m.entries before m before
untraced basis m before h = record {
  unweighed = h;
  traced = record { more = []; leads = refl; kept = λ earlier b. subst before (sym (append-nil earlier)) b };
}

-- a keeper that has the same steps still
pub kept_still : (basis : BasisView) (first : List ℤ) (before now later : List Step → Type 0) (m : Weighed) → IsLeftTraced basis first before m now →
    ((steps : List Step) → now steps → later steps) → IsLeftTraced basis first before m later
kept_still basis first before now later m left same = record {
  unweighed = left.unweighed;
  traced = record { more = left.traced.more; leads = left.traced.leads; kept = λ earlier b. same (earlier ++ left.traced.more) (left.traced.kept earlier b) };
}

-- ---- a step by a move of the basis, as it is taken off in place
module _ (basis : BasisView) (h : IsBasis basis) (first : List ℤ) (before now : List Step → Type 0) (m v : Weighed) (step : Step) (left : IsLeftTraced basis first before m now)
    (is_step : IsReductionStep (vectors_of basis.moves) m.entries step) (at : slice_get basis.moves step.place ≡ Some v) (belongs : BelongsTo basis.priority basis.grading v) where
  one_traced : (next : List ℤ) (later : List Step → Type 0) → next ≡ after_step (vectors_of basis.moves) m.entries step → ((steps : List Step) → now steps → later (steps ++ step ∷ [])) →
      IsTraced (vectors_of basis.moves) first before next later
  one_traced next later e keeps = record {
    more = left.traced.more ++ step ∷ [];
    leads = leads_more (vectors_of basis.moves) first left.traced.more m.entries next step left.traced.leads is_step e;
    kept = λ earlier b. subst later (append_assoc earlier left.traced.more (step ∷ [])) (keeps (earlier ++ left.traced.more) (left.traced.kept earlier b));
  }

  pub lower_traced : (after : Weighed) → TakesOffInPlace m step.times v.entries (Ok true) after → height basis.grading basis.priority after.entries < height basis.grading basis.priority m.entries
  lower_traced = step_lower basis h m v step left.unweighed is_step at belongs

  -- and kept
  module _ (later : List Step → Type 0) (keeps : (steps : List Step) → now steps → later (steps ++ step ∷ [])) where
    pub step_traced : (after : Weighed) → TakesOffInPlace m step.times v.entries (Ok true) after → IsLeftTraced basis first before after later
    step_traced after e = record {
      unweighed = step_unweighed basis h m v step left.unweighed is_step at belongs after e;
      traced = one_traced after.entries later (ap (λ (x : Weighed). x.entries) e ∙ after_is basis h m v step left.unweighed is_step at belongs) keeps;
    }

    pub zero_traced : (after : Weighed) → TakesOffInPlace m step.times v.entries (Ok false) after → IsTraced (vectors_of basis.moves) first before (zeros (length basis.grading)) later
    zero_traced after e =
        one_traced (zeros (length basis.grading)) later (sym (e.1 ∙ ap zeros left.unweighed.columns) ∙ after_is basis h m v step left.unweighed is_step at belongs) keeps

    pub refused_traced : (last : List Step → Type 0) → ((steps : List Step) (other : Step) → later (steps ++ other ∷ []) → last steps) → (after : Weighed) (over : OverflowAt) →
        TakesOffInPlace m step.times v.entries (Err over) after → IsLeftTraced basis first before after last × IsRefusedFrom (vectors_of basis.moves) after.entries (Overflow (Some step.place) over)
    refused_traced last back after over e = (
      subst (λ (x : Weighed). IsLeftTraced basis first before x last) (sym e.0) (kept_still basis first before now last m left (λ steps had. back steps step (keeps steps had))),
      (step.place, refl, step_blocked basis h m v step left.unweighed is_step at belongs after over e),
    )

-- ---- what a keeper has
-- any steps
abbrev pub nothing_kept : List Step → Type 0
nothing_kept steps = Unit {0}

-- these alone
abbrev pub all_of : List Step → List Step → Type 0
all_of trace steps = trace ≡ steps

pub goes_on : (moves : List (List ℤ)) (first last : List ℤ) (earlier trace : List Step) → IsTraced moves first (all_of earlier) last (all_of trace) → ContinuesWork earlier trace
goes_on moves first last earlier trace t = (t.more, t.kept earlier refl)

-- ---- what is left, and why there is nothing known of it
module _ (basis : BasisView) (pair : Pair) (first : List ℤ) (began : Reduct (vectors_of basis.moves) (difference (vectors_of basis.moves) pair) first) (before after : List Step → Type 0) where
  pub left_reduct : (last : List ℤ) → IsTraced (vectors_of basis.moves) first before last after → Reduct (vectors_of basis.moves) (difference (vectors_of basis.moves) pair) last
  left_reduct last t = reaches_append began (trace_reduct (vectors_of basis.moves) first t.more last t.leads)

  -- what is left has its weight again
  module _ (left given : Weighed) (t : IsLeftTraced basis first before left after) (e : given ≡ with_weight basis.grading left) where
    pub left_normal : IsNormal (vectors_of basis.moves) left.entries → IsNormalRest basis pair given
    left_normal normal = rest_left basis pair left given (left_reduct left.entries t.traced) t.unweighed normal e

    pub left_refused : (by : Option ℕ) (over : OverflowAt) → IsRefusedFrom (vectors_of basis.moves) left.entries (Overflow by over) →
        IsGenuineOverflow (vectors_of basis.moves) (overflow_of pair (Some given.entries) by over)
    left_refused by over (place, named, blocked) =
        subst (λ (n : Option ℕ). IsGenuineOverflow (vectors_of basis.moves) (overflow_of pair (Some given.entries) n over)) (sym named)
        (step_fault basis pair left given place over (left_reduct left.entries t.traced) blocked e)

-- ---- the work at the end
joined : (moves : List (List ℤ)) (r : List ℤ) (trace more : List Step) (middle last : List ℤ) → LeadsTo moves r trace middle → LeadsTo moves middle more last → LeadsTo moves r (trace ++ more) last
joined moves r [] more middle last e l = subst (λ x. LeadsTo moves x more last) e l
joined moves r (step ∷ trace) more middle last (h, k) l = (h, joined moves (after_step moves r step) trace more middle last k l)

-- the steps from what was left lie behind those that led there
module _ (basis : BasisView) (began : TheWork) (h : WorkOf began basis) (m : Weighed) (was : began.remainder ≡ Some m) where
  whole : (last : List ℤ) (trace : List Step) → IsTraced (vectors_of basis.moves) m.entries (all_of began.trace) last (all_of trace) → LeadsTo (vectors_of basis.moves) (difference (vectors_of basis.moves) began.pair) trace last
  whole last trace t =
      subst (λ (steps : List Step). LeadsTo (vectors_of basis.moves) (difference (vectors_of basis.moves) began.pair) steps last) (sym (t.kept began.trace refl))
      (joined (vectors_of basis.moves) (difference (vectors_of basis.moves) began.pair) began.trace t.more m.entries last
      (subst (λ (rest : Option Weighed). LeadsTo (vectors_of basis.moves) (difference (vectors_of basis.moves) began.pair) began.trace (rest_of (length basis.grading) rest)) was h.steps) t.leads)

  begins : Reduct (vectors_of basis.moves) (difference (vectors_of basis.moves) began.pair) m.entries
  begins = subst (λ (rest : Option Weighed). Reduct (vectors_of basis.moves) (difference (vectors_of basis.moves) began.pair) (rest_of (length basis.grading) rest)) was h.reduct

  traced_given : (left given : Weighed) (trace : List Step) → IsLeftTraced basis m.entries (all_of began.trace) left (all_of trace) → given ≡ with_weight basis.grading left → IsTraced (vectors_of basis.moves) m.entries (all_of began.trace) given.entries (all_of trace)
  traced_given left given trace t e = subst (λ (x : Weighed). IsTraced (vectors_of basis.moves) m.entries (all_of began.trace) x.entries (all_of trace)) (sym e) t.traced

  worked : (front : ℕ) (rest : Option Weighed) (trace : List Step) → front ≤ length basis.moves → IsTraced (vectors_of basis.moves) m.entries (all_of began.trace) (rest_of (length basis.grading) rest) (all_of trace) →
      IfSome rest (IsRest basis.grading) → IfSome rest IsMoveKept → All (λ (step : Step). step.place < front) trace ⊎ ((front ≡ 0) × (rest ≢ None)) →
      WorkOf (record { pair = began.pair; front = front; remainder = rest; trace = trace }) basis
  worked front rest trace l t graded kept places =
      let steps = whole (rest_of (length basis.grading) rest) trace t in
      record {
        pair = h.pair;
        front = l;
        steps = steps;
        reduct = trace_reduct (vectors_of basis.moves) (difference (vectors_of basis.moves) began.pair) trace (rest_of (length basis.grading) rest) steps;
        rest = graded;
        kept = kept;
        places = places;
      }

  -- by the whole basis
  ended : (front : ℕ) (rest : Option Weighed) (trace : List Step) → front ≡ length basis.moves → IsTraced (vectors_of basis.moves) m.entries (all_of began.trace) (rest_of (length basis.grading) rest) (all_of trace) →
      IfSome rest (IsRest basis.grading) → IfSome rest IsMoveKept → WorkOf (record { pair = began.pair; front = front; remainder = rest; trace = trace }) basis
  ended front rest trace f t graded kept =
      let steps = whole (rest_of (length basis.grading) rest) trace t in
      let places = places_within (vectors_of basis.moves) (difference (vectors_of basis.moves) began.pair) trace (rest_of (length basis.grading) rest) steps in
      worked front rest trace (omega (arith, f)) t graded kept (inl (subst (λ (n : ℕ). All (λ (step : Step). step.place < n) trace) (length-vectors_of basis.moves ∙ sym f) places))

  pub ended_at_none : (front : ℕ) (trace : List Step) → front ≡ length basis.moves → IsTraced (vectors_of basis.moves) m.entries (all_of began.trace) (zeros (length basis.grading)) (all_of trace) →
      WorkOf (record { pair = began.pair; front = front; remainder = None; trace = trace }) basis
  ended_at_none front trace f t = ended front None trace f t tt tt

  -- what is left has its weight again
  module _ (left given : Weighed) (trace : List Step) (t : IsLeftTraced basis m.entries (all_of began.trace) left (all_of trace)) (e : given ≡ with_weight basis.grading left) where
    pub ended_at_some : (front : ℕ) → front ≡ length basis.moves → IsMoveKept given → WorkOf (record { pair = began.pair; front = front; remainder = Some given; trace = trace }) basis
    ended_at_some front f kept = ended front (Some given) trace f (traced_given left given trace t e) (rest_weighed basis.grading left given t.unweighed e) kept

    not_none : Some given ≢ None
    not_none n = cc

    pub stopped : IsMoveKept given → WorkOf (record { pair = began.pair; front = 0; remainder = Some given; trace = trace }) basis
    stopped kept = worked 0 (Some given) trace (omega arith) (traced_given left given trace t e) (rest_weighed basis.grading left given t.unweighed e) kept (inr (refl, not_none))

    pub stop_is : (stop : Stop) → IsRefusedFrom (vectors_of basis.moves) left.entries stop → IsStepRefused basis.moves began.pair (Some given) stop
    stop_is Memory r = tt
    stop_is (Overflow by over) (place, named, blocked) =
        (given, refl, place, named, left_refused basis began.pair m.entries begins (all_of began.trace) (all_of trace) left given t e by over (place, named, blocked))
