-- Leads of a list that do not divide a part.
use Rattle.std.proofs.Common.{◌≡◌, ◌≢◌, ◌⊎◌, inl, inr, ◌∙◌, ap, ℕ, ◌^◌, ◌<◌, ◌≤◌, List, length, get_or, All, arith, refl, sym, subst, ℤ, Option, None, Some, IfNone, false, slice_get, w64, pos, ◌<ℤ◌}
use Rattle.std.specs.Int.{bit_at, bit_not}
use Rattle.std.specs.Int.RustNames.{bit_and}
use Rattle.std.proofs.lemmas.List.Elements.{All-weaker}
use Rattle.std.proofs.lemmas.Option.{slice_get_within, slice_get_read, get_or_from_slice_get}
use Rattle.mk_model.specs.Reductions.{Divides}
use Rattle.std.specs.Option.{is_some}
use Rattle.std.proofs.lemmas.Bool.{false≢true, cases_lt}
use Rattle.std.proofs.lemmas.Nat.Bits.{bit_at-lt, bit_at-zero, bit_at_and, bit_at_not, bit_at_above}
use Rattle.std.proofs.lemmas.Int.{ints}
use Rattle.mk_model.specs.Vectors.{entry}
use Rattle.mk_move.specs.Masks.{IsMask, HasPositive}
use Rattle.mk_move.specs.declared.side.Side.{Side}
use Rattle.mk_move.specs.Sides.{part_of}
use Rattle.mk_move.proofs.Divisions.{length-part_of}
use Rattle.mk_move.proofs.MaskTests.{not_dividing, same_block, covered_there}
use Rattle.mk_support.specs.Blocks.{IsPlacedLead, IsRefused}

-- what holds of the lead at a place
pub holds_at : (P : List ℤ → Type 0) (leads : List (List ℤ)) (place : ℕ) (lead : List ℤ) → All P leads → slice_get leads place ≡ Some lead → P lead
holds_at P leads place lead h at = subst P (get_or_from_slice_get leads place lead lead at) (h place lead (slice_get_within leads place lead at))

-- one lead is at a place
pub same_lead : (leads : List (List ℤ)) (place : ℕ) (one other : List ℤ) → slice_get leads place ≡ Some one → slice_get leads place ≡ Some other → one ≡ other
same_lead leads place one other e f = sym (get_or_from_slice_get leads place one one e) ∙ get_or_from_slice_get leads place other one f

-- a mask that doesn't fit
pub refused_by_mask : (leads : List (List ℤ)) (y : List ℤ) (mask place outer : ℕ) → mask < 2 ^ 64 → outer < 2 ^ 64 → All (λ lead. length lead ≡ length y) leads → IsPlacedLead leads mask place → IsMask y outer → bit_and mask (bit_not w64 outer) ≢ 0 → IsRefused leads y place
refused_by_mask leads y mask place outer fits room columns placed g some lead at =
    not_dividing lead y mask outer fits room (holds_at (λ (x : List ℤ). length x ≡ length y) leads place lead columns at) (subst (λ (x : List ℤ). IsMask x mask) (same_lead leads place placed.lead lead placed.at at) placed.is_mask) g some

-- a block with an entry of the one, and none of the other
not_dividing_at : (x y : List ℤ) (outer block : ℕ) → length x ≡ length y → HasPositive x block → IsMask y outer → bit_at outer block ≡ 0 → Divides x y → ⊥
not_dividing_at x y outer block same there g clear d =
    let positive : pos 0 <ℤ entry y there.column = omega (arith, ints, there.positive, d.entries there.column) in
    omega (arith, clear, covered_there y outer block there.column g (same_block x y there.column same ∙ there.there) positive)

-- a lead with a bit that the part hasn't
pub refused_by_bit : (leads : List (List ℤ)) (y : List ℤ) (mask place outer bit : ℕ) → All (λ lead. length lead ≡ length y) leads → IsPlacedLead leads mask place → IsMask y outer → bit_at mask bit ≡ 1 → bit_at outer bit ≡ 0 → IsRefused leads y place
refused_by_bit leads y mask place outer bit columns placed g set clear lead at =
    let is_mask = subst (λ (x : List ℤ). IsMask x mask) (same_lead leads place placed.lead lead placed.at at) placed.is_mask in
    not_dividing_at lead y outer bit (holds_at (λ (x : List ℤ). length x ≡ length y) leads place lead columns at) (is_mask.covered bit set) g clear

-- a mask that fits: where the lead has an entry, the part has one
pub within_by_mask : (leads : List (List ℤ)) (y lead : List ℤ) (mask place outer : ℕ) → mask < 2 ^ 64 → outer < 2 ^ 64 → IsPlacedLead leads mask place → slice_get leads place ≡ Some lead → IsMask y outer → bit_and mask (bit_not w64 outer) ≡ 0 → (block : ℕ) → HasPositive lead block → HasPositive y block
within_by_mask leads y lead mask place outer fits room placed at g none block there = g.covered block (bit_within (cases_lt block 64))
  where
    set : bit_at mask block ≡ 1
    set =
        let is_mask = subst (λ (x : List ℤ). IsMask x mask) (same_lead leads place placed.lead lead placed.at at) placed.is_mask in
        subst (λ (k : ℕ). bit_at mask k ≡ 1) there.there (is_mask.covers there.column there.positive)

    bit_within : (block < 64) ⊎ (64 ≤ block) → bit_at outer block ≡ 1
    bit_within (inl low) =
        let neither : bit_at (bit_and mask (bit_not w64 outer)) block ≡ 0 = ap (λ n. bit_at n block) none ∙ bit_at-zero block in
        omega (arith, neither, set, bit_at_and mask (bit_not w64 outer) block, bit_at_not w64 outer block room low, bit_at-lt outer block)
    bit_within (inr high) = absurd (omega (arith, set, bit_at_above mask 64 block fits high))

-- a lead that was looked at
pub refused_itself : (leads : List (List ℤ)) (y : List ℤ) (place : ℕ) (one : List ℤ) → slice_get leads place ≡ Some one → ¬ (Divides one y) → IsRefused leads y place
refused_itself leads y place one e none lead at = subst (λ (x : List ℤ). ¬ (Divides x y)) (same_lead leads place one lead e at) none

-- the element that is read at a place that has one
pub read_at : (leads : List (List ℤ)) {mask : ℕ} (place : ℕ) (one : List ℤ) → IsPlacedLead leads mask place → one ≡ get_or leads place one → slice_get leads place ≡ Some one
read_at leads place one placed is = slice_get_read leads (length leads) place one refl (slice_get_within leads place placed.lead placed.at) is

-- the leads have as many columns as the part
pub as_wide : (side : Side) (row : List ℤ) (leads : List (List ℤ)) → All (λ lead. length lead ≡ length row) leads → All (λ lead. length lead ≡ length (part_of side row)) leads
as_wide side row leads h =
    All-weaker (λ (x : List ℤ). length x ≡ length row) (λ (x : List ℤ). length x ≡ length (part_of side row)) (λ x e. e ∙ sym (length-part_of side row)) leads h

-- ---- a search that finds none
pub none_then : {A B : Type 0} (found : Option ℕ) → (A → B) → IfNone found A → IfNone found B
none_then None f h = f h
none_then (Some place) f h = tt

pub from_none : {A : Type 0} (found : Option ℕ) → false ≡ is_some found → IfNone found A → A
from_none None e h = h
from_none (Some place) e h = absurd (false≢true e)
