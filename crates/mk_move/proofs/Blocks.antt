-- Masks of vectors, one column after another, and of their negatives.
use Rattle.std.proofs.Common.{◌≡◌, ◌≢◌, ◌⊎◌, inl, inr, ℕ, ◌+◌, ◌*◌, ◌/◌, ◌%◌, ◌^◌, ◌<◌, ◌≤◌, List, length, arith, sym, ap, ◌∙◌, subst, ℤ, pos, ◌<ℤ◌, ◌≤ℤ◌}
use Rattle.std.specs.Int.{bit_at, w64}
use Rattle.std.specs.Int.RustNames.{bit_or}
use Rattle.std.proofs.lemmas.Int.{ints, clamps}
use Rattle.std.proofs.lemmas.Nat.{div_below}
use Rattle.std.proofs.lemmas.Nat.Bits.{bit_at_set_same, bit_at_set_other, bit_at-zero}
use Rattle.std.proofs.lemmas.Bool.{cases_lt, cases_eq}
use Rattle.std.proofs.lemmas.List.{get_or_past}
use Rattle.mk_model.specs.Vectors.{entry, negate, positive_part, negative_part}
use Rattle.mk_model.proofs.VectorAlgebra.{lengths, columns, entry-positive_part, entry-negative_part, length-positive_part, length-negative_part, positive_part-negate, negative_part-negate}
use Rattle.mk_move.specs.Masks.{block_width, block_of, HasPositive, IsMask, AreMasks}

-- each block of at most 512 columns has a bit
pub block_below : (n c : ℕ) → n ≤ 512 → c < n → c / block_width n < 64
block_below n c few l = div_below c (block_width n) 64 (omega arith) (omega arith)

-- the mask of the columns so far
pub record IsMaskUpTo (x : List ℤ) (n mask : ℕ) : Type 0 where
  pub covers : (c : ℕ) → c < n → pos 0 <ℤ entry x c → bit_at mask (block_of x c) ≡ 1
  pub covered : (block : ℕ) → bit_at mask block ≡ 1 → HasPositive x block

pub mask_first : (x : List ℤ) → IsMaskUpTo x 0 0
mask_first x = record {
  covers = λ c l p. absurd (omega arith);
  covered = λ block e. absurd (omega (arith, e, bit_at-zero block));
}

pub mask_same : (x : List ℤ) (n mask : ℕ) → entry x n ≤ℤ pos 0 → IsMaskUpTo x n mask → IsMaskUpTo x (n + 1) mask
mask_same x n mask none h = record {
  covers = λ c l p. elim (cases_eq c n) [
    | inl same ↦ absurd (not_there c same p)
    | inr other ↦ h.covers c (omega arith) p
  ];
  covered = h.covered;
}
  where
    not_there : (c : ℕ) → c ≡ n → pos 0 <ℤ entry x c → ⊥
    not_there c same p = let q : pos 0 <ℤ entry x n = subst (λ (i : ℕ). pos 0 <ℤ entry x i) same p in omega (arith, ints)

-- the bit of a block set
abbrev pub with_block : ℕ → ℕ → ℕ
with_block mask block = bit_or mask (1 * 2 ^ block % 2 ^ 64)

pub mask_more : (x : List ℤ) (n mask : ℕ) → length x ≤ 512 → n < length x → pos 0 <ℤ entry x n → IsMaskUpTo x n mask → IsMaskUpTo x (n + 1) (with_block mask (block_of x n))
mask_more x n mask few within positive h = record {
  covers = λ c l p. covers c l p (cases_eq (block_of x c) (block_of x n));
  covered = λ block e. covered block e (cases_eq block (block_of x n));
}
  where
    low : block_of x n < 64
    low = block_below (length x) n few within

    same : (block : ℕ) → block ≡ block_of x n → bit_at (with_block mask (block_of x n)) block ≡ 1
    same block e = ap (bit_at (with_block mask (block_of x n))) e ∙ bit_at_set_same w64 mask (block_of x n) low

    covers : (c : ℕ) → c < n + 1 → pos 0 <ℤ entry x c → (block_of x c ≡ block_of x n) ⊎ (block_of x c ≢ block_of x n) → bit_at (with_block mask (block_of x n)) (block_of x c) ≡ 1
    covers c l p (inl e) = same (block_of x c) e
    covers c l p (inr f) =
        bit_at_set_other w64 mask (block_of x n) low (block_of x c) f
        ∙ h.covers c (elim (cases_eq c n) [ inl e ↦ absurd (f (ap (block_of x) e)) | inr g ↦ omega arith ]) p

    covered : (block : ℕ) → bit_at (with_block mask (block_of x n)) block ≡ 1 → (block ≡ block_of x n) ⊎ (block ≢ block_of x n) → HasPositive x block
    covered block e (inl f) = record { column = n; there = sym f; positive = positive }
    covered block e (inr f) = h.covered block (sym (bit_at_set_other w64 mask (block_of x n) low block f) ∙ e)

pub mask_whole : (x : List ℤ) (n mask : ℕ) → length x ≤ n → IsMaskUpTo x n mask → IsMask x mask
mask_whole x n mask l h = record {
  covers = λ c p. covers c p (cases_lt c n);
  covered = h.covered;
}
  where
    covers : (c : ℕ) → pos 0 <ℤ entry x c → (c < n) ⊎ (n ≤ c) → bit_at mask (block_of x c) ≡ 1
    covers c p (inl k) = h.covers c k p
    covers c p (inr k) = absurd (none (get_or_past x c (pos 0) (omega arith)))
      where
        none : entry x c ≡ pos 0 → ⊥
        none e = omega (arith, ints)

-- ---- both parts of a vector
pub record AreMasksUpTo (x : List ℤ) (n plus minus : ℕ) : Type 0 where
  pub positive : IsMaskUpTo (positive_part x) n plus
  pub negative : IsMaskUpTo (negative_part x) n minus

pub masks_first : (x : List ℤ) → AreMasksUpTo x 0 0 0
masks_first x = record { positive = mask_first (positive_part x); negative = mask_first (negative_part x) }

-- the entries of the parts, by that of the vector
positive_there : (x : List ℤ) (n : ℕ) → pos 0 <ℤ entry x n → pos 0 <ℤ entry (positive_part x) n
positive_there x n h = omega (arith, ints, columns)

negative_there : (x : List ℤ) (n : ℕ) → entry x n <ℤ pos 0 → pos 0 <ℤ entry (negative_part x) n
negative_there x n h = omega (arith, ints, columns)

no_positive : (x : List ℤ) (n : ℕ) → entry x n ≤ℤ pos 0 → entry (positive_part x) n ≤ℤ pos 0
no_positive x n h = omega (arith, ints, clamps, entry-positive_part x n)

no_negative : (x : List ℤ) (n : ℕ) → pos 0 ≤ℤ entry x n → entry (negative_part x) n ≤ℤ pos 0
no_negative x n h = omega (arith, ints, clamps, entry-negative_part x n)

-- a part of as many columns, with a bit set for a column of the vector
mask_more_of : (x part : List ℤ) (n mask : ℕ) → length part ≡ length x → length x ≤ 512 → n < length x → pos 0 <ℤ entry part n → IsMaskUpTo part n mask → IsMaskUpTo part (n + 1) (with_block mask (block_of x n))
mask_more_of x part n mask same few within positive h =
    subst (λ (columns : ℕ). IsMaskUpTo part (n + 1) (with_block mask (n / block_width columns))) same
    (mask_more part n mask (omega arith) (omega arith) positive h)

pub masks_positive : (x : List ℤ) (n plus minus : ℕ) → length x ≤ 512 → n < length x → pos 0 <ℤ entry x n → AreMasksUpTo x n plus minus → AreMasksUpTo x (n + 1) (with_block plus (block_of x n)) minus
masks_positive x n plus minus few within h so_far = record {
  positive = mask_more_of x (positive_part x) n plus (length-positive_part x) few within (positive_there x n h) so_far.positive;
  negative = mask_same (negative_part x) n minus (no_negative x n (omega (arith, ints))) so_far.negative;
}

pub masks_negative : (x : List ℤ) (n plus minus : ℕ) → length x ≤ 512 → n < length x → entry x n <ℤ pos 0 → AreMasksUpTo x n plus minus → AreMasksUpTo x (n + 1) plus (with_block minus (block_of x n))
masks_negative x n plus minus few within h so_far = record {
  positive = mask_same (positive_part x) n plus (no_positive x n (omega (arith, ints))) so_far.positive;
  negative = mask_more_of x (negative_part x) n minus (length-negative_part x) few within (negative_there x n h) so_far.negative;
}

pub masks_neither : (x : List ℤ) (n plus minus : ℕ) → entry x n ≤ℤ pos 0 → pos 0 ≤ℤ entry x n → AreMasksUpTo x n plus minus → AreMasksUpTo x (n + 1) plus minus
masks_neither x n plus minus h k so_far = record {
  positive = mask_same (positive_part x) n plus (no_positive x n h) so_far.positive;
  negative = mask_same (negative_part x) n minus (no_negative x n k) so_far.negative;
}

-- masks that are these
pub masks_as_they_are : (x : List ℤ) (n plus minus above below : ℕ) → plus ≡ above → minus ≡ below → AreMasksUpTo x n above below → AreMasksUpTo x n plus minus
masks_as_they_are x n plus minus above below e f h =
    subst (λ (k : ℕ). AreMasksUpTo x n k minus) (sym e) (subst (λ (k : ℕ). AreMasksUpTo x n above k) (sym f) h)

pub masks_whole : (x : List ℤ) (n plus minus : ℕ) → length x ≤ n → AreMasksUpTo x n plus minus → AreMasks x plus minus
masks_whole x n plus minus l h = record {
  positive = mask_whole (positive_part x) n plus (omega (arith, lengths)) h.positive;
  negative = mask_whole (negative_part x) n minus (omega (arith, lengths)) h.negative;
}

-- the negative has the masks the other way round
pub masks_turned : (x y : List ℤ) (plus minus above below : ℕ) → y ≡ negate x → above ≡ minus → below ≡ plus → AreMasks x plus minus → AreMasks y above below
masks_turned x y plus minus above below e f g h = record {
  positive = subst (λ (k : ℕ). IsMask (positive_part y) k) (sym f) (subst (λ (z : List ℤ). IsMask z minus) (sym (ap positive_part e ∙ positive_part-negate x)) h.negative);
  negative = subst (λ (k : ℕ). IsMask (negative_part y) k) (sym g) (subst (λ (z : List ℤ). IsMask z plus) (sym (ap negative_part e ∙ negative_part-negate x)) h.positive);
}
