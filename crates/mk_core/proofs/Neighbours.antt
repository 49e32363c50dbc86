-- How the list of candidates grows by one.
use Rattle.std.proofs.Common.{◌≡◌, ◌≢◌, ◌⊎◌, inl, inr, ℕ, ◌+◌, ◌<◌, ◌≤◌, List, [], ◌∷◌, ◌++◌, get_or, arith, sym, refl, subst}
use Rattle.std.specs.Int.RustNames.{bit_and}
use Rattle.std.proofs.lemmas.Bool.{cases_lt}
use Rattle.std.proofs.lemmas.List.Elements.{All-push, Contains-append_left, Contains-push}
use Rattle.std.specs.List.{Contains}
use Rattle.mk_core.specs.Neighbours.{AreNeighboursBelow, candidate_at}
use Rattle.mk_core.specs.declared.third_moves.Candidate.{Candidate}

-- one place more, which is listed
pub neighbours_more : (all : List ℕ) (second end : ℕ) (candidates : List Candidate) → AreNeighboursBelow all second end candidates →
    AreNeighboursBelow all second (end + 1) (candidates ++ candidate_at all end ∷ [])
neighbours_more all second end candidates h = record {
  all_listed = λ place l some. at place some (cases_lt place end) l;
  masks = All-push (λ (one : Candidate). one.mask ≡ get_or all one.place 0) candidates (candidate_at all end) h.masks refl;
}
  where
    at : (place : ℕ) → bit_and (get_or all place 0) (get_or all second 0) ≢ 0 → (place < end) ⊎ (end ≤ place) → place < end + 1 → Contains (candidates ++ candidate_at all end ∷ []) (candidate_at all place)
    at place some (inl l) _ = Contains-append_left candidates (candidate_at all end ∷ []) (candidate_at all place) (h.all_listed place l some)
    at place some (inr l) few =
        let here : place ≡ end = omega (arith, l, few) in
        subst (λ n. Contains (candidates ++ candidate_at all end ∷ []) (candidate_at all n)) (sym here) (Contains-push candidates (candidate_at all end))

-- one place more, which has no bit in common
pub neighbours_as_before : (all : List ℕ) (second end : ℕ) (candidates : List Candidate) → bit_and (get_or all end 0) (get_or all second 0) ≡ 0 → AreNeighboursBelow all second end candidates →
    AreNeighboursBelow all second (end + 1) candidates
neighbours_as_before all second end candidates none h = record {
  all_listed = λ place l some. at place some (cases_lt place end) l;
  masks = h.masks;
}
  where
    at : (place : ℕ) → bit_and (get_or all place 0) (get_or all second 0) ≢ 0 → (place < end) ⊎ (end ≤ place) → place < end + 1 → Contains candidates (candidate_at all place)
    at place some (inl l) _ = h.all_listed place l some
    at place some (inr l) few =
        let here : place ≡ end = omega (arith, l, few) in
        absurd (some (subst (λ n. bit_and (get_or all n 0) (get_or all second 0) ≡ 0) (sym here) none))
