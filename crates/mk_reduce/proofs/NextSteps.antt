-- The step by a move whose lead divides a part of a vector, and why there is none.
use Rattle.std.proofs.Common.{◌≡◌, ◌⊎◌, inl, inr, ℕ, zero, suc, ◌≤◌, negsuc, unsigned_abs, List, length, Some, slice_get, get_or, All, ℤ, pos, neg_ℤ, ◌-ℤ◌, arith, ap, sym, ◌∙◌, subst}
use Rattle.std.proofs.lemmas.Int.{ints, clamps}
use Rattle.std.proofs.lemmas.Option.{slice_get_within}
use Rattle.std.proofs.lemmas.List.Elements.{All-map, All-weaker}
use Rattle.std.proofs.Math.ListN.{get_or-map}
use Rattle.std.proofs.lemmas.Simd.{map-map}
use Rattle.mk_model.proofs.VectorAlgebra.{length-positive_part}
use Rattle.mk_model.proofs.LatticeLaws.{is_zero-false}
use Rattle.mk_model.specs.Vectors.{positive_part, negative_part, IsEntry}
use Rattle.mk_model.specs.Orders.{lead}
use Rattle.mk_model.specs.Reductions.{Divides, IsNormal, IsIrreducible}
use Rattle.mk_model.specs.Overflows.{IsTimesDividing}
use Rattle.mk_move.specs.Moves.{Weighed, IsMoveKept}
use Rattle.mk_move.specs.MoveLists.{BasisView, IsBasis, BelongsTo, vectors_of}
use Rattle.mk_move.specs.Sides.{part_of, entry_on, IsMostTimes, DividesAt, AreBothSides}
use Rattle.mk_move.proofs.Entries.{as_entry, entry_read}
use Rattle.mk_move.proofs.Divisions.{not_on_both}
use Rattle.mk_move.specs.declared.side.Side.{Side}
use Rattle.mk_move.specs.declared.side.Side.TheVariants.{Plus, Minus}
use Rattle.mk_move.proofs.MoveVectors.{vector_at, length-vectors_of}
use Rattle.mk_reduce.specs.Leads.{leads_of}
use Rattle.mk_reduce.specs.Works.{IsReductionStep}
use Rattle.mk_reduce.proofs.LeadLists.{lead_at, length-leads_of}

-- the lead at the place is that of the move
pub divides_at : (moves : List Weighed) (x : List ℤ) (place : ℕ) (m : Weighed) → slice_get moves place ≡ Some m → DividesAt (leads_of moves) x place → Divides (lead m.entries) x
divides_at moves x place m h d =
    let e : Some d.lead ≡ Some (lead m.entries) = sym d.at ∙ lead_at moves place m h in
    let same : d.lead ≡ lead m.entries = cc in
    subst (λ v. Divides v x) same d.divides

-- so many times, negative on the side of the negative part
abbrev pub signed : Side → ℤ → ℤ
signed Plus times = times
signed Minus times = neg_ℤ times

pub times_on : (m r : List ℤ) (side : Side) (times : ℤ) → IsMostTimes (lead m) (part_of side r) times → IsTimesDividing m r (signed side times)
times_on m r Plus times h = record { count = h.count; some = h.some; divides = inl (h.value, h.divides) }
times_on m r Minus times h = record { count = h.count; some = h.some; divides = inr (ap neg_ℤ h.value, h.divides) }

-- a number is positive or negative, not both
apart : (a : ℤ) → (entry_on Plus a ≡ pos 0) ⊎ (entry_on Minus a ≡ pos 0)
apart (pos n) = inr (omega (arith, ints, clamps))
apart (negsuc n) = inl (omega (arith, ints, clamps))

-- no number of times is greater than the greatest
pub no_greater : (m r : List ℤ) (side : Side) (times other : ℤ) → IsMostTimes (lead m) (part_of side r) times → IsTimesDividing m r other → unsigned_abs other ≤ unsigned_abs (signed side times)
no_greater m r Plus times other h d =
    elim d.divides [
      | inl p ↦ rw (p.0, h.value) (h.greatest d.count p.1)
      | inr p ↦ absurd (not_on_both m r Plus Minus times d.count apart h d.some p.1)
    ]
no_greater m r Minus times other h d =
    elim d.divides [
      | inl p ↦ absurd (not_on_both m r Minus Plus times d.count (λ a. swapped (apart a)) h d.some p.1)
      | inr p ↦ rw (p.0, h.value) (negated d.count h.count (h.greatest d.count p.1))
    ]
  where
    swapped : {A B : Type 0} → A ⊎ B → B ⊎ A
    swapped (inl a) = inr a
    swapped (inr b) = inl b

    negated : (i j : ℕ) → i ≤ j → unsigned_abs (neg_ℤ (pos i)) ≤ unsigned_abs (neg_ℤ (pos j))
    negated zero j l = omega arith
    negated (suc i) (suc j) l = l
    negated (suc i) zero l = absurd (omega arith)

pub step_on : (moves : List Weighed) (r : List ℤ) (place : ℕ) (m : Weighed) (side : Side) (times : ℤ) → slice_get moves place ≡ Some m → IsMostTimes (lead m.entries) (part_of side r) times →
    IsReductionStep (vectors_of moves) r (record { times = signed side times; place = place })
step_on moves r place m side times h d = record {
  within = omega (arith, slice_get_within moves place m h, length-vectors_of moves);
  divides = subst (λ v. IsTimesDividing v r (signed side times)) (sym (vector_at moves place m h)) (times_on m.entries r side times d);
  greatest = λ other g. no_greater m.entries r side times other d (subst (λ v. IsTimesDividing v r other) (vector_at moves place m h) g);
}

pub minus_read : (times : ℤ) → IsEntry times → as_entry (pos 0 -ℤ as_entry times) ≡ neg_ℤ times
minus_read times h =
    let range : IsEntry (neg_ℤ times) = (omega (arith, ints, h.0, h.1), omega (arith, ints, h.0, h.1)) in
    let same : pos 0 -ℤ times ≡ neg_ℤ times = omega (arith, ints) in
    ap (λ z. as_entry (pos 0 -ℤ z)) (entry_read times h) ∙ ap (λ z. as_entry z) same ∙ entry_read (neg_ℤ times) range

-- the steps that the code makes
pub plus_step : (moves : List Weighed) (r : List ℤ) (place : ℕ) (m : Weighed) (side : Side) (times : ℤ) → side ≡ Plus → IsEntry times → slice_get moves place ≡ Some m → IsMostTimes (lead m.entries) (part_of side r) times →
    IsReductionStep (vectors_of moves) r (record { times = as_entry times; place = place })
plus_step moves r place m side times e range h d =
    subst (λ (z : ℤ). IsReductionStep (vectors_of moves) r (record { times = z; place = place })) (ap (λ s. signed s times) e ∙ sym (entry_read times range)) (step_on moves r place m side times h d)

pub minus_step : (moves : List Weighed) (r : List ℤ) (place : ℕ) (m : Weighed) (side : Side) (times : ℤ) → side ≡ Minus → IsEntry times → slice_get moves place ≡ Some m → IsMostTimes (lead m.entries) (part_of side r) times →
    IsReductionStep (vectors_of moves) r (record { times = as_entry (pos 0 -ℤ as_entry times); place = place })
minus_step moves r place m side times e range h d =
    subst (λ (z : ℤ). IsReductionStep (vectors_of moves) r (record { times = z; place = place })) (ap (λ s. signed s times) e ∙ sym (minus_read times range)) (step_on moves r place m side times h d)

-- ---- where there is none
pub lead_columns : (basis : BasisView) (r : List ℤ) → IsBasis basis → length r ≡ length basis.grading → All (λ (x : List ℤ). length x ≡ length r) (leads_of basis.moves)
lead_columns basis r h l =
    All-map (λ (x : List ℤ). length x ≡ length r) (λ (m : Weighed). lead m.entries) basis.moves
    (All-weaker (BelongsTo basis.priority basis.grading) (λ (m : Weighed). length (lead m.entries) ≡ length r) (λ m b. length-positive_part m.entries ∙ b.columns ∙ h.columns ∙ sym l) basis.moves h.moves)

irreducible : (moves : List Weighed) (x : List ℤ) → All (λ (l : List ℤ). ¬ (Divides l x)) (leads_of moves) → IsIrreducible (vectors_of moves) x
irreducible moves x h v (k, l, e) d =
    let at : get_or (leads_of moves) k (lead v) ≡ lead v =
    ap (λ (z : List (List ℤ)). get_or z k (lead v)) (sym (map-map (λ (u : List ℤ). lead u) (λ (m : Weighed). m.entries) moves)) ∙ get_or-map (λ (u : List ℤ). lead u) (vectors_of moves) k v ∙ ap (λ (u : List ℤ). lead u) e in
    h k (lead v) (omega (arith, length-vectors_of moves, length-leads_of moves)) (subst (λ (u : List ℤ). Divides u x) (sym at) d)

pub normal : (moves : List Weighed) (m : Weighed) → IsMoveKept m → All (λ (l : List ℤ). ¬ (Divides l (part_of Plus m.entries))) (leads_of moves) → All (λ (l : List ℤ). ¬ (Divides l (part_of Minus m.entries))) (leads_of moves) → IsNormal (vectors_of moves) m.entries
normal moves m k h j = record {
  not_zero = is_zero-false m.entries k.not_zero;
  positive = irreducible moves (positive_part m.entries) h;
  negative = irreducible moves (negative_part m.entries) j;
}

-- neither part, whichever is looked at first
pub normal_on : (moves : List Weighed) (m : Weighed) (first second : Side) → IsMoveKept m → AreBothSides first second → All (λ (l : List ℤ). ¬ (Divides l (part_of first m.entries))) (leads_of moves) → All (λ (l : List ℤ). ¬ (Divides l (part_of second m.entries))) (leads_of moves) → IsNormal (vectors_of moves) m.entries
normal_on moves m first second k sides h j =
    let none_of : Side → Type 0 = λ side. All (λ (l : List ℤ). ¬ (Divides l (part_of side m.entries))) (leads_of moves) in
    elim sides [
      | inl p ↦ normal moves m k (subst none_of p.0 h) (subst none_of p.1 j)
      | inr p ↦ normal moves m k (subst none_of p.1 j) (subst none_of p.0 h)
    ]
