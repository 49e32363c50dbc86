-- Links whose lead is a part of a move, and what a move is without such a link.
use Rattle.std.proofs.Common.{◌≡◌, ◌↔◌, inl, inr, ℕ, ◌<◌, Bool, false, IsTrue, List, [], ◌∷◌, ◌++◌, length, get_or, slice_get, Option, None, Some, Ok, ℤ, pos, ◌-ℤ◌, ◌*ℤ◌, All, Contains, arith, ap, refl, sym, ◌∙◌, subst, ⊎_elim}
use Rattle.std.proofs.lemmas.Bool.{both_ways}
use Rattle.std.proofs.lemmas.Int.{ints}
use Rattle.std.proofs.lemmas.List.{get_or-map}
use Rattle.std.proofs.lemmas.Option.{slice_get_within, get_or_from_slice_get}
use borrow.Author.Differences.{up, down}
use Rattle.mk_model.specs.Vectors.{entry, zeros, positive_part, negative_part, weight, IsEntry, IsPoint}
use Rattle.mk_model.specs.Orders.{lead}
use Rattle.mk_model.specs.Overflows.{IsBeyond, IsTimesDividing}
use Rattle.mk_model.specs.Reductions.{Divides, Reaches}
use Rattle.mk_model.specs.Reductions.Reaches.{here, go}
use Rattle.mk_model.proofs.VectorAlgebra.{lengths, scale-one, weight-parts, IsPoint-positive_part, IsPoint-negative_part, positive_part_at, negative_part_at}
use Rattle.mk_model.proofs.Fibres.{parts_apart}
use Rattle.mk_model.proofs.Divisors.{Divides-itself}
use Rattle.mk_model.proofs.DivisorWeights.{divisor_cases}
use Rattle.mk_model.proofs.Confluence.{reaches_append}
use Rattle.mk_move.specs.Gradings.{AreWeights}
use Rattle.mk_move.specs.Moves.{Weighed, IsGraded, IsRowOriented}
use Rattle.mk_move.specs.MoveLists.{BasisView, BelongsTo, IsBasis, vectors_of}
use Rattle.mk_move.specs.Sides.{part_of}
use Rattle.mk_move.specs.Steps.{minus_times, TakesOff, IsOverflow}
use Rattle.mk_move.specs.declared.side.Side.{Side}
use Rattle.mk_move.specs.declared.side.Side.TheVariants.{Plus, Minus}
use Rattle.mk_move.specs.declared.steps.OverflowAt.{OverflowAt}
use Rattle.mk_reduce.specs.Works.{IsRest}
use Rattle.mk_reduce.proofs.BasisMoves.{grading_of, level_of}
use Rattle.mk_reduce.proofs.Beginnings.{rest_is, rest_graded}
use Rattle.mk_reduce.proofs.Heights.{height, step_lowers}
use Rattle.mk_move.proofs.Parts.{length-oriented}
use Rattle.mk_move.proofs.MoveVectors.{length-vectors_of}
use Rattle.mk_minimise.specs.LinkSteps.{IsEnd, times_at, IsLinkAt, NoneIsEnd, IsLessLink, IsLinkStep, NoneEnds, IsLeftOf, IsAdded}
use Rattle.mk_minimise.specs.Stages.{HasLead}

-- ---- the tests
pub on_both_sides : (P : Side → Type 0) → P Plus → P Minus → (side : Side) → P side
on_both_sides P p q Plus = p
on_both_sides P p q Minus = q

pub failed : (A : Type 0) (b : Bool) → IsTrue b ↔ A → b ≡ false → A → ⊥
failed A b h e a = both_ways b e (h.1 a)

-- ---- an end is the part
part_weight : (w : List ℤ) (m : Weighed) (side : Side) → IsGraded w m → weight w (part_of side m.entries) ≡ m.weight
part_weight w m Plus h = sym h.weight
part_weight w m Minus h = omega (arith, ints, weight-parts w m.entries, h.product, h.weight)

part_point : (n : ℕ) (r : List ℤ) (side : Side) → length r ≡ n → IsPoint n (part_of side r)
part_point n r Plus l = IsPoint-positive_part r l
part_point n r Minus l = IsPoint-negative_part r l

pub end_is_part : (w : List ℤ) → AreWeights w → (m link : Weighed) (side : Side) → IsRest w m → IsRest w link → IsEnd side m link → lead link.entries ≡ part_of side m.entries
end_is_part w weights m link side r s h =
    ⊎_elim (λ l. absurd (omega (arith, ints, l, part_weight w m side r.graded, part_weight w link Plus s.graded, h.as_heavy))) (λ e. e)
    (divisor_cases (grading_of w weights) (part_of side m.entries) (lead link.entries) (part_point (length w) m.entries side r.columns) (part_point (length w) link.entries Plus s.columns) h.divides)

pub part_is_end : (w : List ℤ) (m link : Weighed) (side : Side) → IsRest w m → IsRest w link → lead link.entries ≡ part_of side m.entries → IsEnd side m link
part_is_end w m link side r s e = record {
  as_heavy = sym (part_weight w link Plus s.graded) ∙ ap (weight w) e ∙ part_weight w m side r.graded;
  divides = subst (λ x. Divides (lead link.entries) x) e (Divides-itself (lead link.entries));
}

-- ---- a link taken off: no entry leaves the range
stays_within : (side : Side) (a b : ℤ) → IsEntry a → IsEntry b → (side ≡ Plus → (up b ≡ up a)) → (side ≡ Minus → (up b ≡ down a)) → IsBeyond (a -ℤ (times_at side *ℤ b)) → ⊥
stays_within Plus a b h k e f (inl l) = let s = e refl in omega (arith, ints, h.0, h.1, k.0, k.1, parts_apart a, parts_apart b)
stays_within Plus a b h k e f (inr l) = let s = e refl in omega (arith, ints, h.0, h.1, k.0, k.1, parts_apart a, parts_apart b)
stays_within Minus a b h k e f (inl l) = let s = f refl in omega (arith, ints, h.0, h.1, k.0, k.1, parts_apart a, parts_apart b)
stays_within Minus a b h k e f (inr l) = let s = f refl in omega (arith, ints, h.0, h.1, k.0, k.1, parts_apart a, parts_apart b)

pub never_beyond : (side : Side) (r v : List ℤ) (at : OverflowAt) → All IsEntry r → All IsEntry v → length v ≡ length r → lead v ≡ part_of side r → IsOverflow r v (times_at side) at → ⊥
never_beyond side r v at h k l e o =
    stays_within side (entry r at.column) (entry v at.column) (h at.column (pos 0) o.within) (k at.column (pos 0) (omega (arith, o.within, l)))
    (λ f. let g : entry (lead v) at.column ≡ entry (positive_part r) at.column = ap (λ x. entry x at.column) (e ∙ ap (λ s. part_of s r) f) in omega (arith, positive_part_at v at.column, positive_part_at r at.column, ap up g))
    (λ f. let g : entry (lead v) at.column ≡ entry (negative_part r) at.column = ap (λ x. entry x at.column) (e ∙ ap (λ s. part_of s r) f) in omega (arith, positive_part_at v at.column, negative_part_at r at.column, ap up g))
    o.beyond

pub times_is_entry : (side : Side) → IsEntry (times_at side)
times_is_entry Plus = (omega (arith, ints), omega (arith, ints))
times_is_entry Minus = (omega (arith, ints), omega (arith, ints))

pub less_link_is : (w : List ℤ) (m link : Weighed) (side : Side) (left : Option Weighed) → IsRest w m → IsRest w link → TakesOff m.entries (times_at side) link.entries w (Ok left) → IsLessLink w m.entries side link.entries left
less_link_is w m link side left r s taken = record {
  entries = rest_is m.entries link.entries w (times_at side) left r.columns taken;
  rest = rest_graded m.entries link.entries w (times_at side) left (omega (arith, lengths, r.columns, s.columns)) taken;
}

-- ---- one step after another
pub belongs_rest : (basis : BasisView) → IsBasis basis → (m : Weighed) → BelongsTo basis.priority basis.grading m → IsRest basis.grading m
belongs_rest basis h m b = record { columns = b.columns ∙ h.columns; graded = b.graded }

pub link_rest : (basis : BasisView) (links : List Weighed) → IsBasis basis → All (BelongsTo basis.priority basis.grading) links → All (IsRest basis.grading) links
link_rest basis links h each k d l = belongs_rest basis h (get_or links k d) (each k d l)

pub link_columns : (basis : BasisView) (links : List Weighed) (m : Weighed) → IsBasis basis → IsRest basis.grading m → All (BelongsTo basis.priority basis.grading) links → All (λ link. length link.entries ≡ length m.entries) links
link_columns basis links m h r each k d l = (link_rest basis links h each k d l).columns ∙ sym r.columns

abbrev none : Weighed
none = record { entries = []; weight = pos 0 }

member_at : (links : List Weighed) (place : ℕ) (link : Weighed) → slice_get links place ≡ Some link → Contains (vectors_of links) link.entries
member_at links place link e = (place, omega (arith, slice_get_within links place link e, length-vectors_of links), at)
  where
    at : get_or (vectors_of links) place link.entries ≡ link.entries
    at = get_or-map (λ (m : Weighed). m.entries) links place link link.entries (slice_get_within links place link e) ∙ ap (λ (m : Weighed). m.entries) (get_or_from_slice_get links place link link e)

-- so far, and what is left now
pub record IsSoFar (basis : BasisView) (links : List Weighed) (began now : Weighed) : Type 0 where
  pub steps : Reaches (IsLinkStep (vectors_of links)) began.entries now.entries
  pub rest : IsRest basis.grading now

module _ (basis : BasisView) (h : IsBasis basis) (links : List Weighed) (each : All (BelongsTo basis.priority basis.grading) links) where
  link_at : (place : ℕ) (link : Weighed) → slice_get links place ≡ Some link → BelongsTo basis.priority basis.grading link
  link_at place link e = subst (BelongsTo basis.priority basis.grading) (get_or_from_slice_get links place link link e) (each place link (slice_get_within links place link e))

  pub found_rest : (place : ℕ) (link : Weighed) → slice_get links place ≡ Some link → IsRest basis.grading link
  found_rest place link e = belongs_rest basis h link (link_at place link e)

  pub found_part : (m : Weighed) (place : ℕ) (side : Side) (link : Weighed) → IsRest basis.grading m → slice_get links place ≡ Some link → IsEnd side m link → lead link.entries ≡ part_of side m.entries
  found_part m place side link r e end = end_is_part basis.grading h.grading m link side r (found_rest place link e) end

  step_of : (m : Weighed) (place : ℕ) (side : Side) (link : Weighed) (left : List ℤ) → IsRest basis.grading m → slice_get links place ≡ Some link → IsEnd side m link → left ≡ minus_times m.entries (times_at side) link.entries → IsLinkStep (vectors_of links) m.entries left
  step_of m place side link left r e end less = record {
    link = link.entries;
    member = member_at links place link e;
    side = side;
    at_end = found_part m place side link r e end;
    less = less;
  }

  pub end_at : (m : Weighed) (place : ℕ) (side : Side) (link : Weighed) → slice_get links place ≡ Some link → IsLinkAt links m place side → IsEnd side m link
  end_at m place side link e found =
      subst (IsEnd side m) (sym (get_or_from_slice_get links place found.link link found.at) ∙ get_or_from_slice_get links place link link e) found.at_end

  once_divides : (side : Side) (r v : List ℤ) → lead v ≡ part_of side r → IsTimesDividing v r (times_at side)
  once_divides Plus r v e = record { count = 1; some = omega arith; divides = inl (refl, subst (λ x. Divides x (positive_part r)) (sym e ∙ sym (scale-one (lead v))) (Divides-itself (positive_part r))) }
  once_divides Minus r v e = record { count = 1; some = omega arith; divides = inr (refl, subst (λ x. Divides x (negative_part r)) (sym e ∙ sym (scale-one (lead v))) (Divides-itself (negative_part r))) }

  module _ (began m : Weighed) (so_far : IsSoFar basis links began m) (place : ℕ) (side : Side) (link : Weighed) (e : slice_get links place ≡ Some link) (end : IsEnd side m link) where
    pub goes_on : (next : Weighed) → IsLessLink basis.grading m.entries side link.entries (Some next) → IsSoFar basis links began next
    goes_on next less = record {
      steps = reaches_append so_far.steps (go (step_of m place side link next.entries so_far.rest e end less.entries) here);
      rest = less.rest;
    }

    pub falls : (next : Weighed) → IsLessLink basis.grading m.entries side link.entries (Some next) → height basis.grading basis.priority next.entries < height basis.grading basis.priority m.entries
    falls next less =
        let level = level_of basis h link (link_at place link e) in
        let part = found_part m place side link so_far.rest e end in
        let lower = step_lowers (grading_of basis.grading h.grading) basis.priority m.entries link.entries (times_at side) (record { columns = so_far.rest.columns; product = so_far.rest.graded.product }) level (link_at place link e).oriented (once_divides side m.entries link.entries part) in
        omega (arith, lower, ap (height basis.grading basis.priority) less.entries)

    pub ends_zero : IsLessLink basis.grading m.entries side link.entries None → IsLeftOf (vectors_of links) basis.grading began.entries None
    ends_zero less = record {
      steps = reaches_append so_far.steps (go (step_of m place side link (zeros (length basis.grading)) so_far.rest e end less.entries) here);
      rest = tt;
      none_ends = tt;
    }

  pub ends_left : (began m : Weighed) → IsSoFar basis links began m → All (NoneIsEnd m) links → IsLeftOf (vectors_of links) basis.grading began.entries (Some m)
  ends_left began m so_far none = record { steps = so_far.steps; rest = so_far.rest; none_ends = apart }
    where
      apart : NoneEnds (vectors_of links) m.entries
      apart v (k, l, e) side f =
          let within : k < length links = omega (arith, l, length-vectors_of links) in
          let link : Weighed = get_or links k (record { entries = v; weight = pos 0 }) in
          let same : link.entries ≡ v = sym (get_or-map (λ (m : Weighed). m.entries) links k (record { entries = v; weight = pos 0 }) v within) ∙ e in
          none k (record { entries = v; weight = pos 0 }) within side
          (part_is_end basis.grading m link side so_far.rest (link_rest basis links h each k (record { entries = v; weight = pos 0 }) within) (ap lead same ∙ f))

-- ---- a link's lead among those of the links
pub has_lead : (w : List ℤ) → AreWeights w → (links : List Weighed) → All (IsRest w) links → (m : Weighed) → IsRest w m → (place : ℕ) (link : Weighed) → slice_get links place ≡ Some link → IsEnd Plus m link → HasLead (vectors_of links) (lead m.entries)
has_lead w weights links each m r place link e end = record {
  move = link.entries;
  member = member_at links place link e;
  same = end_is_part w weights m link Plus r (subst (IsRest w) (get_or_from_slice_get links place link link e) (each place link (slice_get_within links place link e))) end;
}

pub lacks_lead : (w : List ℤ) (links : List Weighed) → All (IsRest w) links → (m : Weighed) → IsRest w m → All (λ link. ¬ (IsEnd Plus m link)) links → HasLead (vectors_of links) (lead m.entries) → ⊥
lacks_lead w links each m r none h = go h.member
  where
    default : Weighed
    default = record { entries = h.move; weight = pos 0 }

    go : Contains (vectors_of links) h.move → ⊥
    go (k, l, e) =
        let within : k < length links = omega (arith, l, length-vectors_of links) in
        let same : (get_or links k default).entries ≡ h.move = sym (get_or-map (λ (m : Weighed). m.entries) links k default h.move within) ∙ e in
        none k default within (part_is_end w m (get_or links k default) Plus r (each k default within) (ap lead same ∙ h.same))

-- ---- a link that is oriented
pub oriented_belongs : (basis : BasisView) → IsBasis basis → (left link : Weighed) → IsRest basis.grading left → IsRowOriented left.entries basis.priority link.entries → ((w : List ℤ) → IsGraded w left → IsGraded w link) → BelongsTo basis.priority basis.grading link
oriented_belongs basis h left link r o graded = record {
  columns = length-oriented left.entries basis.priority link.entries o ∙ r.columns ∙ sym h.columns;
  graded = graded basis.grading r.graded;
  oriented = o.turned.oriented;
}

pub added_link : (basis : BasisView) → IsBasis basis → (m left link : Weighed) (links given after : List Weighed) (left_is : Option Weighed) → given ≡ links → left_is ≡ Some left → IsLeftOf (vectors_of given) basis.grading m.entries left_is →
    IsRowOriented left.entries basis.priority link.entries → ((w : List ℤ) → IsGraded w left → IsGraded w link) → after ≡ links ++ link ∷ [] → IsAdded basis m links after
added_link basis h m left link links given after left_is same some leaves o graded more =
    let there : IsLeftOf (vectors_of links) basis.grading m.entries (Some left) =
    subst (λ (x : Option Weighed). IsLeftOf (vectors_of links) basis.grading m.entries x) some (subst (λ (xs : List Weighed). IsLeftOf (vectors_of xs) basis.grading m.entries left_is) same leaves) in
    record { left = Some left; leaves = there; added = (link, more, oriented_belongs basis h left link there.rest o graded, o.turned.either) }
