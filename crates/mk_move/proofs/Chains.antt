-- Whether a lead divides the least common multiple of two others, one column after another, and by the masks.
use Rattle.std.proofs.Common.{◌≡◌, ◌≢◌, ◌⊎◌, inl, inr, ℕ, ◌+◌, ◌/◌, ◌<◌, ◌≤◌, max, List, length, arith, sym, ap, ◌∙◌, subst, ℤ, pos, ◌≤ℤ◌, ◌<ℤ◌}
use Rattle.std.specs.Int.{int_max, bit_at}
use Rattle.std.specs.Int.RustNames.{bit_or}
use Rattle.std.proofs.lemmas.Int.{ints, clamps, by_lt_z}
use Rattle.std.proofs.lemmas.Bool.{cases_lt, cases_eq}
use Rattle.std.proofs.lemmas.Nat.Bits.{bit_at_or, bit_at-lt}
use borrow.Author.Count.{below_more}
use Rattle.mk_model.specs.Vectors.{entry, positive_part, IsEntry}
use Rattle.mk_model.specs.Reductions.{lcm, Divides}
use Rattle.mk_model.proofs.VectorAlgebra.{entry-positive_part}
use Rattle.mk_model.proofs.Divisors.{length-lcm, entry-lcm}
use Rattle.mk_move.specs.declared.side.Side.TheVariants.{Plus}
use Rattle.mk_move.specs.Chains.{lcm_on}
use Rattle.mk_move.specs.Masks.{block_width, block_of, HasPositive, IsMask}
use Rattle.mk_move.proofs.Divisions.{part_of_past}
use Rattle.mk_move.proofs.Entries.{as_entry, entry_read}

-- ---- column by column
both_clamped : (a b : ℤ) → int_max (int_max a (pos 0)) (int_max b (pos 0)) ≡ lcm_on a b
both_clamped a b = omega (arith, ints, clamps)

pub entry-lcm_on : (a b : List ℤ) (c : ℕ) → entry (lcm (positive_part a) (positive_part b)) c ≡ lcm_on (entry a c) (entry b c)
entry-lcm_on a b c =
    entry-lcm (positive_part a) (positive_part b) c
    ∙ ap (λ z. int_max z (entry (positive_part b) c)) (entry-positive_part a c)
    ∙ ap (λ z. int_max (int_max (entry a c) (pos 0)) z) (entry-positive_part b c)
    ∙ both_clamped (entry a c) (entry b c)

lcm_on_nonnegative : (a b : ℤ) → pos 0 ≤ℤ lcm_on a b
lcm_on_nonnegative a b = omega (arith, ints, clamps)

-- in each column so far the entry of the lead is within the least common multiple
abbrev pub DividesLcmUpTo : List ℤ → List ℤ → List ℤ → ℕ → Type 0
DividesLcmUpTo lead a b n = (c : ℕ) → c < n → entry (positive_part lead) c ≤ℤ entry (lcm (positive_part a) (positive_part b)) c

within_lcm : (x a b : ℤ) → x ≤ℤ lcm_on a b → int_max x (pos 0) ≤ℤ lcm_on a b
within_lcm x a b h = omega (arith, ints, clamps)

not_within_lcm : (x a b : ℤ) → lcm_on a b <ℤ x → int_max x (pos 0) ≤ℤ lcm_on a b → ⊥
not_within_lcm x a b h k = omega (arith, ints, clamps)

pub divides_lcm_here : (lead a b : List ℤ) (n : ℕ) → entry lead n ≤ℤ lcm_on (entry a n) (entry b n) → entry (positive_part lead) n ≤ℤ entry (lcm (positive_part a) (positive_part b)) n
divides_lcm_here lead a b n k = simp (entry-positive_part, entry-lcm_on) (within_lcm (entry lead n) (entry a n) (entry b n) k)

pub lcm_nonnegative : (a b : List ℤ) (c : ℕ) → pos 0 ≤ℤ entry (lcm (positive_part a) (positive_part b)) c
lcm_nonnegative a b c = subst (λ (z : ℤ). pos 0 ≤ℤ z) (sym (entry-lcm_on a b c)) (lcm_on_nonnegative (entry a c) (entry b c))

pub divides_lcm_more : (lead a b : List ℤ) (n : ℕ) → DividesLcmUpTo lead a b n → entry lead n ≤ℤ lcm_on (entry a n) (entry b n) → DividesLcmUpTo lead a b (n + 1)
divides_lcm_more lead a b n h k =
    below_more (λ c. entry (positive_part lead) c ≤ℤ entry (lcm (positive_part a) (positive_part b)) c) n h (divides_lcm_here lead a b n k)

pub divides_lcm_whole : (lead a b : List ℤ) (n : ℕ) → length lead ≤ n → DividesLcmUpTo lead a b n → Divides (positive_part lead) (lcm (positive_part a) (positive_part b))
divides_lcm_whole lead a b n l h = record { entries = λ c. at c (cases_lt c n) }
  where
    at : (c : ℕ) → (c < n) ⊎ (n ≤ c) → entry (positive_part lead) c ≤ℤ entry (lcm (positive_part a) (positive_part b)) c
    at c (inl k) = h c k
    at c (inr k) =
        subst (λ (z : ℤ). z ≤ℤ entry (lcm (positive_part a) (positive_part b)) c) (sym (part_of_past Plus lead c (omega arith))) (lcm_nonnegative a b c)

pub divides_lcm_not : (lead a b : List ℤ) (n : ℕ) → lcm_on (entry a n) (entry b n) <ℤ entry lead n → Divides (positive_part lead) (lcm (positive_part a) (positive_part b)) → ⊥
divides_lcm_not lead a b n h d =
    not_within_lcm (entry lead n) (entry a n) (entry b n) h (simp (entry-positive_part, entry-lcm_on) at (d.entries n))

-- the entry of the least common multiple, as the code has it
lcm_on_range : (a b : ℤ) → IsEntry a → IsEntry b → IsEntry (lcm_on a b)
lcm_on_range a b h k = (omega (arith, ints, clamps, h.0, k.0), omega (arith, ints, clamps, h.1, k.1))

pub lcm_read : (a b r : ℤ) → IsEntry a → IsEntry b → r ≡ lcm_on (as_entry a) (as_entry b) → as_entry r ≡ lcm_on a b
lcm_read a b r h k e =
    ap as_entry (e ∙ ap (λ z. lcm_on z (as_entry b)) (entry_read a h) ∙ ap (lcm_on a) (entry_read b k))
    ∙ entry_read (lcm_on a b) (lcm_on_range a b h k)

-- ---- by the masks
one_of_two : (a b : ℕ) → a < 2 → b < 2 → max a b ≡ 1 → (a ≡ 1) ⊎ (b ≡ 1)
one_of_two a b h k e = go (cases_eq a 1)
  where
    go : (a ≡ 1) ⊎ (a ≢ 1) → (a ≡ 1) ⊎ (b ≡ 1)
    go (inl f) = inl f
    go (inr f) = inr (omega (arith, h, k, e, f))

-- the bits of two masks of nonnegative vectors of as many columns are those of their least common multiple
module _ (x y : List ℤ) (left right : ℕ) (same : length x ≡ length y) (h : IsMask x left) (g : IsMask y right) where
  as_many : length (lcm x y) ≡ length x
  as_many = omega (arith, length-lcm x y, same)

  block_is : (c : ℕ) → block_of (lcm x y) c ≡ block_of x c
  block_is c = ap (λ (n : ℕ). c / block_width n) as_many

  block_is_too : (c : ℕ) → block_of (lcm x y) c ≡ block_of y c
  block_is_too c = ap (λ (n : ℕ). c / block_width n) (as_many ∙ same)

  in_either : (c : ℕ) → pos 0 <ℤ entry (lcm x y) c → (pos 0 <ℤ entry x c) ⊎ (pos 0 <ℤ entry y c)
  in_either c p =
      let q : pos 0 <ℤ int_max (entry x c) (entry y c) = subst (λ (z : ℤ). pos 0 <ℤ z) (entry-lcm x y c) p in
      by_lt_z (pos 0) (entry x c) (λ l. inl l) (λ l. inr (omega (arith, ints, clamps, q, l)))

  covers_in : (c : ℕ) → (pos 0 <ℤ entry x c) ⊎ (pos 0 <ℤ entry y c) → bit_at (bit_or left right) (block_of (lcm x y) c) ≡ 1
  covers_in c (inl p) =
      let set : bit_at left (block_of (lcm x y) c) ≡ 1 = ap (bit_at left) (block_is c) ∙ h.covers c p in
      omega (arith, set, bit_at_or left right (block_of (lcm x y) c), bit_at-lt right (block_of (lcm x y) c))
  covers_in c (inr p) =
      let set : bit_at right (block_of (lcm x y) c) ≡ 1 = ap (bit_at right) (block_is_too c) ∙ g.covers c p in
      omega (arith, set, bit_at_or left right (block_of (lcm x y) c), bit_at-lt left (block_of (lcm x y) c))

  positive_in : (block : ℕ) → (bit_at left block ≡ 1) ⊎ (bit_at right block ≡ 1) → HasPositive (lcm x y) block
  positive_in block (inl e) =
      let at = h.covered block e in
      record { column = at.column; there = block_is at.column ∙ at.there; positive = subst (λ (z : ℤ). pos 0 <ℤ z) (sym (entry-lcm x y at.column)) (omega (arith, ints, clamps, at.positive)) }
  positive_in block (inr e) =
      let at = g.covered block e in
      record { column = at.column; there = block_is_too at.column ∙ at.there; positive = subst (λ (z : ℤ). pos 0 <ℤ z) (sym (entry-lcm x y at.column)) (omega (arith, ints, clamps, at.positive)) }

  pub mask_of_lcm : IsMask (lcm x y) (bit_or left right)
  mask_of_lcm = record {
    covers = λ c p. covers_in c (in_either c p);
    covered = λ block e. positive_in block (one_of_two (bit_at left block) (bit_at right block) (bit_at-lt left block) (bit_at-lt right block) (sym (bit_at_or left right block) ∙ e));
  }
