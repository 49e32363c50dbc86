-- One step more: of a trace, and as a reduction by a member.
use Rattle.std.proofs.Common.{◌≡◌, ◌⊎◌, inl, inr, ℕ, ◌<◌, List, [], ◌∷◌, ◌++◌, length, All, ℤ, pos, neg_ℤ, ◌+ℤ◌, ◌-ℤ◌, ◌*ℤ◌, arith, ap, ◌∙◌, subst}
use Rattle.std.proofs.lemmas.Int.{ints}
use Rattle.std.proofs.lemmas.List.Elements.{All-nil, All-cons, Contains-get_or}
use Rattle.mk_model.specs.Vectors.{entry, subtract, add, scale, positive_part, negative_part}
use Rattle.mk_model.specs.Orders.{lead}
use Rattle.mk_model.specs.CoreStates.{move_at}
use Rattle.mk_model.specs.Reductions.{Divides, IsReduction}
use Rattle.mk_model.proofs.Integers.{neg_ℤ-*ℤ}
use Rattle.mk_model.proofs.VectorAlgebra.{lengths, entries, same_vectors}
use Rattle.mk_reduce.specs.declared.step.Step.{Step}
use Rattle.mk_reduce.specs.Works.{IsReductionStep, after_step, LeadsTo}

pub leads_more : (moves : List (List ℤ)) (r : List ℤ) (trace : List Step) (last next : List ℤ) (step : Step) → LeadsTo moves r trace last → IsReductionStep moves last step → next ≡ after_step moves last step → LeadsTo moves r (trace ++ step ∷ []) next
leads_more moves r [] last next step e h f = (subst (λ x. IsReductionStep moves x step) e h, f ∙ ap (λ x. after_step moves x step) e)
leads_more moves r (first ∷ trace) last next step (g, l) h f = (g, leads_more moves (after_step moves r first) trace last next step l h f)

add_times : (a k b : ℤ) → a -ℤ (neg_ℤ k *ℤ b) ≡ a +ℤ (k *ℤ b)
add_times a k b = ap (λ (z : ℤ). a -ℤ z) (neg_ℤ-*ℤ k b) ∙ omega (arith, ints)

-- a step, as a reduction by a member
pub reduction_of : (moves : List (List ℤ)) (r next : List ℤ) (step : Step) → IsReductionStep moves r step → next ≡ after_step moves r step → IsReduction moves r next
reduction_of moves r next step h e = record {
  move = move_at moves step.place;
  member = Contains-get_or moves step.place [] h.within;
  times = h.divides.count;
  some = h.divides.some;
  taken_off = sides h.divides.divides;
}
  where
    k : ℕ
    k = h.divides.count

    v : List ℤ
    v = move_at moves step.place

    added : subtract r (scale (neg_ℤ (pos k)) v) ≡ add r (scale (pos k) v)
    added = same_vectors _ _ (omega (arith, lengths)) (λ c. simp entries (add_times (entry r c) (pos k) (entry v c)))

    sides : ((step.times ≡ pos k) × Divides (scale (pos k) (lead v)) (positive_part r)) ⊎ ((step.times ≡ neg_ℤ (pos k)) × Divides (scale (pos k) (lead v)) (negative_part r)) →
        (Divides (scale (pos k) (lead v)) (positive_part r) × (next ≡ subtract r (scale (pos k) v))) ⊎ (Divides (scale (pos k) (lead v)) (negative_part r) × (next ≡ add r (scale (pos k) v)))
    sides (inl (f, d)) = inl (d, e ∙ ap (λ z. subtract r (scale z v)) f)
    sides (inr (f, d)) = inr (d, e ∙ ap (λ z. subtract r (scale z v)) f ∙ added)

pub places_within : (moves : List (List ℤ)) (r : List ℤ) (trace : List Step) (last : List ℤ) → LeadsTo moves r trace last → All (λ (step : Step). step.place < length moves) trace
places_within moves r [] last h = All-nil (λ (step : Step). step.place < length moves)
places_within moves r (first ∷ trace) last (g, l) = All-cons (λ (step : Step). step.place < length moves) first trace g.within (places_within moves (after_step moves r first) trace last l)
