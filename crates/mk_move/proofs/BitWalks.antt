-- Walks over the bits of the mask of a lead of at most 64 columns: the bits that are left are those of its entries, and in
-- each column whose bit isn't left something holds.
use Rattle.std.proofs.Common.{◌≡◌, ◌≢◌, ◌⊎◌, inl, inr, ℕ, ◌*◌, ◌<◌, ◌≤◌, List, length, All, arith, sym, ap, ◌∙◌, subst, ℤ, pos, ◌<ℤ◌, ◌≤ℤ◌}
use Rattle.std.specs.Int.{bit_at, int_max}
use Rattle.std.proofs.lemmas.Int.{ints, clamps, by_lt_z}
use Rattle.std.proofs.lemmas.Bool.{cases_lt, cases_eq}
use Rattle.std.proofs.lemmas.List.{get_or_past}
use Rattle.std.proofs.lemmas.Nat.Bits.{bit_at-zero}
use borrow.Author.Differences.{up}
use Rattle.mk_model.specs.declared.TheConstants.{ENTRY_MAX}
use Rattle.mk_model.specs.Vectors.{IsEntry, entry, positive_part, zeros}
use Rattle.mk_model.specs.Reductions.{Divides}
use Rattle.mk_model.proofs.VectorAlgebra.{columns, entry-positive_part, length-positive_part}
use Rattle.mk_move.specs.declared.side.Side.{Side}
use Rattle.mk_move.specs.declared.side.Side.TheVariants.{Plus}
use Rattle.mk_move.specs.Masks.{block_of, HasPositive, IsMask}
use Rattle.mk_move.specs.Sides.{part_of, entry_on, IsMostTimes}
use Rattle.mk_move.proofs.Divisions.{part_of_past, no_part, up_most, lead_at, IsTimesOver, IsTimesSoFar, times_at_first, times_whole}
use Rattle.mk_move.proofs.MaskTests.{one_column}

-- the bits that are left are those of columns with a positive entry
abbrev pub AreAhead : List ℤ → ℕ → Type 0
AreAhead lead left = (c : ℕ) → c < 64 → bit_at left c ≡ 1 → pos 0 <ℤ entry lead c

-- the bit of a column isn't left
abbrev pub IsDone : ℕ → ℕ → Type 0
IsDone left c = (c < 64) × (bit_at left c ≡ 0)

-- in each column that is done the entry is within that of the other
abbrev pub IsWithin : List ℤ → List ℤ → ℕ → Type 0
IsWithin lead y left = (c : ℕ) → IsDone left c → entry (positive_part lead) c ≤ℤ entry y c

-- ---- at first
above : (a : ℤ) → pos 0 <ℤ int_max a (pos 0) → pos 0 <ℤ a
above a h = omega (arith, ints, clamps)

module _ (lead : List ℤ) (mask : ℕ) (few : length lead ≤ 64) (h : IsMask (positive_part lead) mask) where
  column_is : (c : ℕ) → block_of (positive_part lead) c ≡ c
  column_is c = one_column (positive_part lead) c (omega (arith, few, length-positive_part lead))

  pub ahead_first : AreAhead lead mask
  ahead_first c l set = go (h.covered c set)
    where
      go : HasPositive (positive_part lead) c → pos 0 <ℤ entry lead c
      go there =
          let here : there.column ≡ c = sym (column_is there.column) ∙ there.there in
          let positive : pos 0 <ℤ entry (positive_part lead) c = subst (λ (n : ℕ). pos 0 <ℤ entry (positive_part lead) n) here there.positive in
          above (entry lead c) (subst (λ (z : ℤ). pos 0 <ℤ z) (entry-positive_part lead c) positive)

  pub none_first : (c : ℕ) → IsDone mask c → entry lead c ≤ℤ pos 0
  none_first c (l, clear) = by_lt_z (pos 0) (entry lead c) (λ p. absurd (positive_at p)) (λ q. q)
    where
      positive_at : pos 0 <ℤ entry lead c → ⊥
      positive_at p =
          let set : bit_at mask (block_of (positive_part lead) c) ≡ 1 = h.covers c (omega (arith, ints, columns, p)) in
          omega (arith, clear, sym (ap (bit_at mask) (column_is c)) ∙ set)

  pub within_first : (y : List ℤ) → ((c : ℕ) → pos 0 ≤ℤ entry y c) → IsWithin lead y mask
  within_first y nonnegative c done = subst (λ (z : ℤ). z ≤ℤ entry y c) (sym (no_part lead c (none_first c done))) (nonnegative c)

-- ---- one bit more
module _ (left others place : ℕ) (cleared : bit_at others place ≡ 0) (same : (other : ℕ) → other < 64 → other ≢ place → bit_at others other ≡ bit_at left other) where
  pub ahead_more : (lead : List ℤ) → AreAhead lead left → AreAhead lead others
  ahead_more lead h c l set = h c l (sym (same c l (λ e. omega (arith, set, cleared, ap (bit_at others) e))) ∙ set)

  pub done_more : (c : ℕ) → IsDone others c → IsDone left c ⊎ (c ≡ place)
  done_more c (l, clear) = elim (cases_eq c place) [
    | inl e ↦ inr e
    | inr d ↦ inl (l, sym (same c l d) ∙ clear)
  ]

  pub within_more : (lead y : List ℤ) → IsWithin lead y left → entry (positive_part lead) place ≤ℤ entry y place → IsWithin lead y others
  within_more lead y h here c done = elim (done_more c done) [
    | inl before ↦ h c before
    | inr e ↦ subst (λ (n : ℕ). entry (positive_part lead) n ≤ℤ entry y n) (sym e) here
  ]

-- ---- in the end
pub all_done : (left c : ℕ) → left ≡ 0 → c < 64 → IsDone left c
all_done left c e l = (l, ap (λ n. bit_at n c) e ∙ bit_at-zero c)

pub within_whole : (lead y : List ℤ) (left : ℕ) → length lead ≤ 64 → ((c : ℕ) → pos 0 ≤ℤ entry y c) → left ≡ 0 → IsWithin lead y left → Divides (positive_part lead) y
within_whole lead y left few nonnegative e h = record { entries = λ c. at c (cases_lt c 64) }
  where
    at : (c : ℕ) → (c < 64) ⊎ (64 ≤ c) → entry (positive_part lead) c ≤ℤ entry y c
    at c (inl l) = h c (all_done left c e l)
    at c (inr l) = subst (λ (z : ℤ). z ≤ℤ entry y c) (sym (part_of_past Plus lead c (omega (arith, l, few)))) (nonnegative c)

-- ---- how often it divides
pub times_over_first : (lead row : List ℤ) (side : Side) (mask : ℕ) → length lead ≤ 64 → IsMask (positive_part lead) mask → All IsEntry row → positive_part lead ≢ zeros (length lead) → IsTimesOver lead row side (IsDone mask) ENTRY_MAX
times_over_first lead row side mask few g range some = record {
  count = first.count;
  value = first.value;
  some = first.some;
  most = first.most;
  below = λ c done. let z : up (entry lead c) ≡ 0 = omega (arith, up_most (entry lead c) 0 (none_first lead mask few g c done)) in rw z (omega arith);
  greatest = first.greatest;
}
  where
    first : IsTimesSoFar lead row side 0 ENTRY_MAX
    first = times_at_first lead row side range some

-- no bit is left, or the number is 1, which is as few as may be
pub times_over_whole : (lead row : List ℤ) (side : Side) (left : ℕ) (times : ℤ) → length lead ≤ 64 → Divides (positive_part lead) (part_of side row) → (left ≡ 0) ⊎ (times ≤ℤ pos 1) → IsTimesOver lead row side (IsDone left) times → IsMostTimes (positive_part lead) (part_of side row) times
times_over_whole lead row side left times few divides either h = times_whole lead row side 64 times few (record {
  count = h.count;
  value = h.value;
  some = h.some;
  most = h.most;
  below = λ c l. at c l either;
  greatest = h.greatest;
})
  where
    at : (c : ℕ) → c < 64 → (left ≡ 0) ⊎ (times ≤ℤ pos 1) → h.count * up (entry lead c) ≤ up (entry_on side (entry row c))
    at c l (inl e) = h.below c (all_done left c e l)
    at c l (inr few_times) =
        let one : h.count ≡ 1 = omega (arith, ints, h.value, h.some, few_times) in
        rw one (omega (arith, lead_at lead row side c divides))

-- a column of a positive entry is within the lead
pub ahead_inside : (lead : List ℤ) (c : ℕ) → pos 0 <ℤ entry lead c → c < length lead
ahead_inside lead c p = elim (cases_lt c (length lead)) [
  | inl l ↦ l
  | inr l ↦ absurd (omega (arith, ints, get_or_past lead c (pos 0) l))
]
