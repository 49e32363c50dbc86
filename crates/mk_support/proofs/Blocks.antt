-- What a block holds when a lead is put at its end, and when it is shared out.
use Rattle.std.proofs.Common.{◌≡◌, ◌≢◌, ◌⊎◌, inl, inr, ℕ, ◌+◌, ◌<◌, ◌≤◌, List, [], ◌∷◌, ◌++◌, length, get_or, arith, refl, sym, ap, ◌∙◌, subst}
use Rattle.std.specs.Int.{bit_at}
use Rattle.std.proofs.lemmas.Bool.{cases_lt, cases_eq}
use Rattle.std.proofs.lemmas.List.{length_push, get_or_push, get_or_append_left}
use Rattle.mk_support.specs.declared.block.Block.{Block}
use Rattle.mk_support.specs.Blocks.{StandsInBlock, HoldsIn, IsThis, IsShare, IsShareWith}

-- ---- a lead put at the end
pub stands_kept : (masks places : List ℕ) (mask place m p : ℕ) → length masks ≡ length places → StandsInBlock masks places m p → StandsInBlock (masks ++ mask ∷ []) (places ++ place ∷ []) m p
stands_kept masks places mask place m p same h = record {
  index = h.index;
  within = omega (arith, h.within, length_push masks mask);
  mask_at = get_or_append_left masks (mask ∷ []) 0 h.index h.within ∙ h.mask_at;
  place_at = get_or_append_left places (place ∷ []) 0 h.index (omega (arith, h.within, same)) ∙ h.place_at;
}

pub stands_last : (masks places : List ℕ) (mask place : ℕ) → length masks ≡ length places → StandsInBlock (masks ++ mask ∷ []) (places ++ place ∷ []) mask place
stands_last masks places mask place same = record {
  index = length masks;
  within = omega (arith, length_push masks mask);
  mask_at = get_or_push masks mask 0 (length masks) refl;
  place_at = get_or_push places place 0 (length masks) (sym same);
}

pub stands_pushed : (masks places : List ℕ) (mask place m p : ℕ) → length masks ≡ length places → StandsInBlock (masks ++ mask ∷ []) (places ++ place ∷ []) m p → StandsInBlock masks places m p ⊎ IsThis mask place m p
stands_pushed masks places mask place m p same h = go (cases_lt h.index (length masks))
  where
    go : (h.index < length masks) ⊎ (length masks ≤ h.index) → StandsInBlock masks places m p ⊎ IsThis mask place m p
    go (inl l) = inl (record {
      index = h.index;
      within = l;
      mask_at = sym (get_or_append_left masks (mask ∷ []) 0 h.index l) ∙ h.mask_at;
      place_at = sym (get_or_append_left places (place ∷ []) 0 h.index (omega (arith, l, same))) ∙ h.place_at;
    })
    go (inr l) =
        let last : length masks ≡ h.index = omega (arith, l, h.within, length_push masks mask) in
        inr (sym h.mask_at ∙ get_or_push masks mask 0 h.index last, sym h.place_at ∙ get_or_push places place 0 h.index (sym same ∙ last))

pub none_stands : (places : List ℕ) (m p : ℕ) → StandsInBlock [] places m p → ⊥
none_stands places m p h = omega (arith, h.within)

-- ---- the leads with a bit, of the first so many
pub record IsShareUpTo (masks places : List ℕ) (bit wanted n : ℕ) (share_masks share_places : List ℕ) : Type 0 where
  pub own : (m p : ℕ) → StandsInBlock share_masks share_places m p → StandsInBlock masks places m p × (bit_at m bit ≡ wanted)
  pub whole : (k : ℕ) → k < n → bit_at (get_or masks k 0) bit ≡ wanted → StandsInBlock share_masks share_places (get_or masks k 0) (get_or places k 0)

pub share_none : (masks places : List ℕ) (bit wanted : ℕ) → IsShareUpTo masks places bit wanted 0 [] []
share_none masks places bit wanted = record {
  own = λ m p h. absurd (none_stands [] m p h);
  whole = λ k l e. absurd (omega (arith, l));
}

pub share_same : (masks places : List ℕ) (bit wanted n : ℕ) (sm sp : List ℕ) → bit_at (get_or masks n 0) bit ≢ wanted → IsShareUpTo masks places bit wanted n sm sp → IsShareUpTo masks places bit wanted (n + 1) sm sp
share_same masks places bit wanted n sm sp other h = record {
  own = h.own;
  whole = λ k l e. elim (cases_eq k n) [
    | inl same ↦ absurd (other (ap (λ i. bit_at (get_or masks i 0) bit) (sym same) ∙ e))
    | inr apart ↦ h.whole k (omega arith) e
  ];
}

pub share_more : (masks places : List ℕ) (bit wanted n : ℕ) (sm sp : List ℕ) → n < length masks → length sm ≡ length sp → bit_at (get_or masks n 0) bit ≡ wanted → IsShareUpTo masks places bit wanted n sm sp → IsShareUpTo masks places bit wanted (n + 1) (sm ++ get_or masks n 0 ∷ []) (sp ++ get_or places n 0 ∷ [])
share_more masks places bit wanted n sm sp within same has h = record {
  own = λ m p s. own m p (stands_pushed sm sp (get_or masks n 0) (get_or places n 0) m p same s);
  whole = λ k l e. elim (cases_eq k n) [
    | inl this ↦ subst (λ (i : ℕ). StandsInBlock (sm ++ get_or masks n 0 ∷ []) (sp ++ get_or places n 0 ∷ []) (get_or masks i 0) (get_or places i 0)) (sym this) (stands_last sm sp (get_or masks n 0) (get_or places n 0) same)
    | inr apart ↦ stands_kept sm sp (get_or masks n 0) (get_or places n 0) (get_or masks k 0) (get_or places k 0) same (h.whole k (omega arith) e)
  ];
}
  where
    own : (m p : ℕ) → StandsInBlock sm sp m p ⊎ IsThis (get_or masks n 0) (get_or places n 0) m p → StandsInBlock masks places m p × (bit_at m bit ≡ wanted)
    own m p (inl s) = h.own m p s
    own m p (inr t) = (record { index = n; within = within; mask_at = sym t.0; place_at = sym t.1 }, ap (λ i. bit_at i bit) t.0 ∙ has)

-- all of them
pub share_whole : (masks places : List ℕ) (bit wanted n : ℕ) (sm sp : List ℕ) → length masks ≤ n → IsShareUpTo masks places bit wanted n sm sp → (m p : ℕ) → StandsInBlock masks places m p → bit_at m bit ≡ wanted → StandsInBlock sm sp m p
share_whole masks places bit wanted n sm sp whole h m p s e =
    subst (λ (i : ℕ). StandsInBlock sm sp i p) s.mask_at
    (subst (λ (i : ℕ). StandsInBlock sm sp (get_or masks s.index 0) i) s.place_at (h.whole s.index (omega (arith, s.within)) (ap (λ i. bit_at i bit) s.mask_at ∙ e)))

-- ---- a share, with another lead or without it
pub with_this : (block : Block) (bit wanted mask place : ℕ) (share new : Block) → bit_at mask bit ≡ wanted → new.masks.items ≡ share.masks.items ++ mask ∷ [] → new.places.items ≡ share.places.items ++ place ∷ [] → IsShare block bit wanted share → IsShareWith block bit wanted mask place new
with_this block bit wanted mask place share new has masks_are places_are h = record {
  own = λ m p s. own m p (stands_pushed share.masks.items share.places.items mask place m p share.paired (pushed m p s));
  whole = λ m p s e. back m p (stands_kept share.masks.items share.places.items mask place m p share.paired (h.whole m p s e));
  there = λ e. back mask place (stands_last share.masks.items share.places.items mask place share.paired);
}
  where
    pushed : (m p : ℕ) → HoldsIn new m p → StandsInBlock (share.masks.items ++ mask ∷ []) (share.places.items ++ place ∷ []) m p
    pushed m p s =
        subst (λ (x : List ℕ). StandsInBlock x (share.places.items ++ place ∷ []) m p) masks_are (subst (λ (x : List ℕ). StandsInBlock new.masks.items x m p) places_are s)

    back : (m p : ℕ) → StandsInBlock (share.masks.items ++ mask ∷ []) (share.places.items ++ place ∷ []) m p → HoldsIn new m p
    back m p s =
        subst (λ (x : List ℕ). StandsInBlock new.masks.items x m p) (sym places_are)
        (subst (λ (x : List ℕ). StandsInBlock x (share.places.items ++ place ∷ []) m p) (sym masks_are) s)

    own : (m p : ℕ) → HoldsIn share m p ⊎ IsThis mask place m p → (HoldsIn block m p ⊎ IsThis mask place m p) × (bit_at m bit ≡ wanted)
    own m p (inl s) = (inl (h.own m p s).0, (h.own m p s).1)
    own m p (inr t) = (inr t, ap (λ i. bit_at i bit) t.0 ∙ has)

pub without_this : (block : Block) (bit wanted mask place : ℕ) (share : Block) → bit_at mask bit ≢ wanted → IsShare block bit wanted share → IsShareWith block bit wanted mask place share
without_this block bit wanted mask place share other h = record {
  own = λ m p s. (inl (h.own m p s).0, (h.own m p s).1);
  whole = h.whole;
  there = λ e. absurd (other e);
}
