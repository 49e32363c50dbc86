-- A tree that gains a lead, or stays the same.
use Rattle.std.proofs.Common.{◌≡◌, ◌⊎◌, inl, inr, ◌∙◌, ℕ, ◌+◌, ◌^◌, ◌<◌, ◌≤◌, List, [], ◌∷◌, ◌++◌, length, get_or, arith, refl, sym, ap, subst, ℤ, Some, slice_get, All}
use Rattle.std.proofs.lemmas.Bool.{cases_lt}
use Rattle.std.proofs.lemmas.List.{length_push, get_or_push, get_or_append_left}
use Rattle.std.proofs.lemmas.Option.{slice_get_within, slice_get-get_or, get_or_from_slice_get}
use Rattle.mk_model.specs.Reductions.{Divides}
use Rattle.mk_move.specs.Masks.{IsMask}
use Rattle.mk_support.specs.declared.node.Node.{Node}
use Rattle.mk_support.specs.Blocks.{IsPlacedLead, IsRefused, IsThis}
use Rattle.mk_support.specs.Nodes.{Gains, IsSame}
use Rattle.mk_support.specs.FirstBits.{Has, AreByFirst}
use Rattle.mk_support.specs.Trees.{IsTree}

-- the places of a list that gains an element at its end
at_push : (leads : List (List ℤ)) (lead one : List ℤ) (place : ℕ) → slice_get leads place ≡ Some one → slice_get (leads ++ lead ∷ []) place ≡ Some one
at_push leads lead one place at =
    let within = slice_get_within leads place one at in
    slice_get-get_or (leads ++ lead ∷ []) place one (omega (arith, within, length_push leads lead))
    ∙ ap Some (get_or_append_left leads (lead ∷ []) one place within ∙ get_or_from_slice_get leads place one one at)

at_last : (leads : List (List ℤ)) (lead : List ℤ) → slice_get (leads ++ lead ∷ []) (length leads) ≡ Some lead
at_last leads lead =
    slice_get-get_or (leads ++ lead ∷ []) (length leads) lead (omega (arith, length_push leads lead)) ∙ ap Some (get_or_push leads lead lead (length leads) refl)

-- a tree without leads
pub tree_first : (children : List Node) → AreByFirst children → ((m p : ℕ) → ¬ (Has children m p)) → IsTree [] children
tree_first children by_first none = record {
  few = search arith;
  by_first = by_first;
  placed = λ m p s. absurd (none m p s);
  each = λ p l. absurd (omega (arith, l));
}

pub tree_same : (leads : List (List ℤ)) (children new : List Node) → IsTree leads children → AreByFirst new → IsSame (Has children) (Has new) → IsTree leads new
tree_same leads children new h by_first same = record {
  few = h.few;
  by_first = by_first;
  placed = λ m p s. h.placed m p (same.others m p s);
  each = λ p l. let (m, s) = h.each p l in (m, same.kept m p s);
}

pub tree_more : (leads : List (List ℤ)) (lead : List ℤ) (mask : ℕ) (children new : List Node) → IsTree leads children → length leads + 1 < 2 ^ 32 → IsMask lead mask → AreByFirst new → Gains (Has children) mask (length leads) (Has new) → IsTree (leads ++ lead ∷ []) new
tree_more leads lead mask children new h room is_mask by_first gains = record {
  few = omega (arith, room, length_push leads lead);
  by_first = by_first;
  placed = λ m p s. placed m p (gains.others m p s);
  each = λ p l. each p l (cases_lt p (length leads));
}
  where
    placed : (m p : ℕ) → Has children m p ⊎ IsThis mask (length leads) m p → IsPlacedLead (leads ++ lead ∷ []) m p
    placed m p (inl s) =
        let old = h.placed m p s in
        record { lead = old.lead; at = at_push leads lead old.lead p old.at; is_mask = old.is_mask }
    placed m p (inr t) = record {
      lead = lead;
      at = ap (slice_get (leads ++ lead ∷ [])) t.1 ∙ at_last leads lead;
      is_mask = subst (IsMask lead) (sym t.0) is_mask;
    }

    each : (p : ℕ) → p < length (leads ++ lead ∷ []) → (p < length leads) ⊎ (length leads ≤ p) → (m : ℕ) × Has new m p
    each p l (inl k) = let (m, s) = h.each p k in (m, gains.kept m p s)
    each p l (inr k) =
        let last : length leads ≡ p = omega (arith, l, k, length_push leads lead) in
        (mask, subst (Has new mask) last gains.there)

-- no lead divides where none of the tree does
pub none_divides : (leads : List (List ℤ)) (children : List Node) (y : List ℤ) → IsTree leads children → ((m p : ℕ) → Has children m p → IsRefused leads y p) → All (λ lead. ¬ (Divides lead y)) leads
none_divides leads children y h refused place other l = let (m, s) = h.each place l in refused m place s (get_or leads place other) (slice_get-get_or leads place other l)
