-- Steps on the tail of a move of a saturated basis.
use Rattle.std.proofs.Common.{[], ◌≡◌, ℕ, ◌<◌, List, length, slice_get, Option, Some, None, Result, Ok, ℤ, pos, neg_ℤ, Contains, arith, ap, refl, sym, ◌∙◌, subst}
use Rattle.std.proofs.lemmas.List.Elements.{Contains-get_or}
use Rattle.mk_model.specs.Vectors.{entry, add, subtract, negate, scale}
use Rattle.mk_model.specs.CoreStates.{move_at, pair_of, stop_at}
use Rattle.mk_model.specs.Lattices.{InLattice}
use Rattle.mk_model.specs.Orders.{IsBelow, IsOriented, standard, lead, tail}
use Rattle.mk_model.specs.Overflows.{IsFirstBeyond}
use Rattle.mk_model.specs.Reductions.{Divides, TailReduct, IsTailReduction}
use Rattle.mk_model.specs.Reductions.Reaches.{here, go}
use Rattle.mk_model.proofs.VectorAlgebra.{entry-zeros, negate-scale, add-negate, negate-negate}
use Rattle.mk_model.proofs.OrderLaws.{IsOriented-not_zero}
use Rattle.mk_model.proofs.Confluence.{reaches_append}
use Rattle.mk_model.proofs.MoveLaws.{IsMove-columns}
use Rattle.mk_move.specs.Moves.{Weighed}
use Rattle.mk_move.specs.MoveLists.{BasisView, vectors_of}
use Rattle.mk_move.specs.Steps.{minus_times, TakesOff, IsOverflow}
use Rattle.mk_move.specs.declared.steps.OverflowAt.{OverflowAt}
use Rattle.mk_move.specs.declared.steps.StepFault.{StepFault}
use Rattle.mk_move.proofs.MoveVectors.{vector_at, length-vectors_of}
use Rattle.mk_core.specs.SaturatedBases.{IsSaturated}
use Rattle.mk_inter.specs.Tails.{IsTailFault}
use Rattle.mk_inter.specs.TailSteps.{HasTailReduced, IsTailStep, IsTimesAdded}
use Rattle.mk_inter.specs.declared.tails.TailFault.TheVariants.{Overflow}
use Rattle.mk_inter.proofs.LeastTails.{HasLeadOf, tail_rank, tail_falls, step_keeps_lead, step_below}
use Rattle.mk_inter.proofs.Bases.{saturated_list}

pub vector_member : (moves : List Weighed) (k : ℕ) → k < length moves → Contains (vectors_of moves) (move_at (vectors_of moves) k)
vector_member moves k l = Contains-get_or (vectors_of moves) k [] (omega (arith, l, length-vectors_of moves))

-- taking off minus so many times is adding them
added : (r v : List ℤ) (times : ℤ) (k : ℕ) → times ≡ neg_ℤ (pos k) → minus_times r times v ≡ add r (scale (pos k) v)
added r v times k e =
    ap (λ t. subtract r (scale t v)) e ∙ ap (subtract r) (sym (negate-scale (pos k) v)) ∙ sym (add-negate r (negate (scale (pos k) v))) ∙ ap (add r) (negate-negate (scale (pos k) v))

pub has_lead : (basis : BasisView) (index : ℕ) (m : Weighed) → IsSaturated basis → HasTailReduced basis index m → HasLeadOf (length basis.grading) (vectors_of basis.moves) (move_at (vectors_of basis.moves) index) m.entries
has_lead basis index m s h = record {
  move = record { in_lattice = h.in_lattice; oriented = subst (λ p. IsOriented p m.entries) s.standard_list h.belongs.oriented };
  same_lead = h.same_lead;
}

module _ (basis : BasisView) (s : IsSaturated basis) (index place : ℕ) (rest by : Weighed) (step : IsTailStep basis index place rest) (at : slice_get basis.moves place ≡ Some by) (times : ℤ) (taken : IsTimesAdded by.entries rest.entries times) where
  abbrev rows : List (List ℤ)
  rows = vectors_of basis.moves

  abbrev n : ℕ
  n = length basis.grading

  abbrev from : List ℤ
  from = move_at rows index

  abbrev after : List ℤ
  after = add rest.entries (scale (pos taken.count) by.entries)

  member : Contains rows by.entries
  member = subst (Contains rows) (vector_at basis.moves place by at) (vector_member basis.moves place step.within)

  kept : HasLeadOf n rows from after
  kept =
      step_keeps_lead (saturated_list basis s) from (vector_member basis.moves index step.of_list) rest.entries (has_lead basis index rest s step.reduced) by.entries member taken.count taken.some taken.divides

  lower : IsBelow (standard n) (tail after) (tail rest.entries)
  lower =
      step_below (saturated_list basis s) from (vector_member basis.moves index step.of_list) rest.entries (has_lead basis index rest s step.reduced) by.entries member taken.count taken.some taken.divides

  value : minus_times rest.entries times by.entries ≡ after
  value = added rest.entries by.entries times taken.count taken.value

  reduction : IsTailReduction rows rest.entries after
  reduction = record { move = by.entries; member = member; times = taken.count; some = taken.some; divides = taken.divides; added = refl }

  pub stepped : (next : Weighed) → TakesOff rest.entries times by.entries basis.grading (Ok (Some next)) → HasTailReduced basis index next
  stepped next t =
      let e : next.entries ≡ after = t.entries ∙ value in
      let l : length after ≡ n = IsMove-columns (saturated_list basis s).oriented.grading kept.move in
      record {
        belongs = record {
          columns = ap length e ∙ l ∙ sym s.kept.columns;
          graded = t.graded;
          oriented = subst (λ p. IsOriented p next.entries) (sym s.standard_list) (subst (IsOriented (standard n)) (sym e) kept.move.oriented);
        };
        in_lattice = subst (InLattice n rows) (sym e) kept.move.in_lattice;
        same_lead = ap lead e ∙ kept.same_lead;
        reached = subst (TailReduct rows from) (sym e) (reaches_append step.reduced.reached (go reduction here));
      }

  pub stepped_below : (next : Weighed) → TakesOff rest.entries times by.entries basis.grading (Ok (Some next)) → IsBelow (standard n) (tail next.entries) (tail rest.entries)
  stepped_below next t = subst (λ x. IsBelow (standard n) (tail x) (tail rest.entries)) (sym (t.entries ∙ value)) lower

  pub never_zero : TakesOff rest.entries times by.entries basis.grading (Ok None) → ⊥
  never_zero z = IsOriented-not_zero (standard n) after (λ c. ap (λ x. entry x c) (sym value ∙ z) ∙ entry-zeros (length rest.entries) c) kept.move.oriented

  pub step_fault : (fault : OverflowAt) → IsOverflow rest.entries by.entries times fault → IsTailFault basis (Overflow index place rest fault)
  step_fault fault f = record {
    of_list = omega (arith, step.of_list, length-vectors_of basis.moves);
    pair = refl;
    place = place;
    by = refl;
    within = omega (arith, step.within, length-vectors_of basis.moves);
    from = rest.entries;
    operand = refl;
    reached = step.reduced.reached;
    count = taken.count;
    some = taken.some;
    times = f.times ∙ taken.value;
    divides = subst (λ x. Divides (scale (pos taken.count) (lead x)) (tail rest.entries)) (sym (vector_at basis.moves place by at)) taken.divides;
    beyond = subst (λ x. IsFirstBeyond rest.entries x (stop_at (pair_of index index) (Some place) (Some rest.entries) fault.column fault.left fault.times fault.right)) (sym (vector_at basis.moves place by at))
        (record { left = f.left; right = f.right; beyond = rw (f.left, f.times, f.right) f.beyond; lesser = rw f.times f.lesser });
  }

-- what is taken off, read otherwise
pub taken_off : (x y : List ℤ) {w others : List ℤ} {times read : ℤ} {result known : Result (Option Weighed) StepFault} → read ≡ times → others ≡ w → result ≡ known → TakesOff x read y others result → TakesOff x times y w known
taken_off x y {w} {others} {times} {read} {result} {known} e f g h =
    subst (λ t. TakesOff x t y w known) e (subst (λ v. TakesOff x read y v known) f (subst (TakesOff x read y others) g h))

pub step_smaller : (basis : BasisView) (index : ℕ) (rest next : Weighed) → IsSaturated basis → HasTailReduced basis index rest → HasTailReduced basis index next → IsBelow (standard (length basis.grading)) (tail next.entries) (tail rest.entries) →
    tail_rank (length basis.grading) basis.grading next.entries < tail_rank (length basis.grading) basis.grading rest.entries
step_smaller basis index rest next s h k b =
    tail_falls (saturated_list basis s) (move_at (vectors_of basis.moves) index) rest.entries next.entries (has_lead basis index rest s h) (has_lead basis index next s k) b
