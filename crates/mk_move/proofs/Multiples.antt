-- When a row is so many times another: by its entries, and by the masks of both.
use Rattle.std.proofs.Common.{◌≡◌, ◌≢◌, ◌⊎◌, inl, inr, ℕ, zero, suc, ◌/◌, ◌^◌, ◌<◌, List, length, arith, sym, ap, ◌∙◌, subst, ℤ, pos, negsuc, ◌-ℤ◌, ◌*ℤ◌, ◌<ℤ◌}
use Rattle.std.specs.Int.{bit_at}
use Rattle.std.proofs.lemmas.Bool.{cases_eq, cases_lt}
use Rattle.std.proofs.lemmas.Int.{ints}
use Rattle.std.proofs.lemmas.Nat.Bits.{bit_at_above, bit_at-lt, bit_at-zero, same_from_bits}
use Rattle.mk_model.specs.Vectors.{entry, zeros, scale, negate, positive_part, negative_part}
use Rattle.mk_model.proofs.VectorAlgebra.{lengths, same_vectors, entry-scale, entry-zeros, length-scale, only_zeros, positive_part-scale, positive_part-negate, negative_part-scale, negative_part-negate, scale-negsuc, zero-scale}
use Rattle.mk_model.proofs.Integers.{product_below, below_product}
use Rattle.mk_move.specs.Masks.{IsMask, AreMasks, block_of, block_width}
use Rattle.mk_move.specs.Steps.{minus_times}
use Rattle.mk_move.specs.InPlace.{AreBits}
use Rattle.mk_move.proofs.Differences.{entry-minus_times}

-- ---- by the entries
-- at the columns whose bit is done the entry is so many times that of the other
pub record IsMultipleSoFar (x y : List ℤ) (times : ℤ) (left : ℕ) : Type 0 where
  pub fits : left < 2 ^ 64
  pub within : (c : ℕ) → bit_at left c ≡ 1 → c < length y
  pub done : (c : ℕ) → bit_at left c ≡ 0 → entry x c -ℤ (times *ℤ entry y c) ≡ pos 0

neither : (a t b : ℤ) → a ≡ pos 0 → b ≡ pos 0 → a -ℤ (t *ℤ b) ≡ pos 0
neither a t b e f = omega (arith, ints, ap (λ z. t *ℤ z) f)

pub multiple_begins : (x y : List ℤ) (times : ℤ) (bits : ℕ) → bits < 2 ^ 64 → AreBits x bits → AreBits y bits → IsMultipleSoFar x y times bits
multiple_begins x y times bits fits h k = record {
  fits = fits;
  within = k.within;
  done = λ c b. neither (entry x c) times (entry y c) (h.covers c b) (k.covers c b);
}

pub multiple_goes_on : (x y : List ℤ) (times : ℤ) (left others n : ℕ) → others < left → bit_at others n ≡ 0 → ((c : ℕ) → c < 64 → c ≢ n → bit_at others c ≡ bit_at left c) →
    IsMultipleSoFar x y times left → entry x n -ℤ (times *ℤ entry y n) ≡ pos 0 → IsMultipleSoFar x y times others
multiple_goes_on x y times left others n fewer cleared same h here = record {
  fits = omega (arith, h.fits);
  within = λ c b. h.within c (sym (other_bit c (not_here c b)) ∙ b);
  done = λ c b. elim (cases_eq c n) [
    | inl e ↦ subst (λ (k : ℕ). entry x k -ℤ (times *ℤ entry y k) ≡ pos 0) (sym e) here
    | inr d ↦ h.done c (sym (other_bit c d) ∙ b)
  ];
}
  where
    other_bit : (c : ℕ) → c ≢ n → bit_at others c ≡ bit_at left c
    other_bit c d = elim (cases_lt c 64) [
      | inl l ↦ same c l d
      | inr l ↦ bit_at_above others 64 c (omega (arith, h.fits)) l ∙ sym (bit_at_above left 64 c h.fits l)
    ]

    not_here : (c : ℕ) → bit_at others c ≡ 1 → c ≢ n
    not_here c b e = let z : bit_at others c ≡ 0 = ap (bit_at others) e ∙ cleared in omega arith

-- once no bit is left
pub multiple_whole : (x y : List ℤ) (times : ℤ) (left : ℕ) → length x ≡ length y → left ≡ 0 → IsMultipleSoFar x y times left → minus_times x times y ≡ zeros (length x)
multiple_whole x y times left l none h =
    only_zeros (minus_times x times y) (λ c. entry-minus_times x y times c ∙ h.done c (ap (λ n. bit_at n c) none ∙ bit_at-zero c)) ∙ ap zeros (omega (arith, lengths))

-- each entry of a difference of zero is zero
pub nothing_left : (x y : List ℤ) (times : ℤ) → minus_times x times y ≡ zeros (length x) → (c : ℕ) → entry x c -ℤ (times *ℤ entry y c) ≡ pos 0
nothing_left x y times e c = sym (entry-minus_times x y times c) ∙ ap (λ r. entry r c) e ∙ entry-zeros (length x) c

-- a row whose difference is zero is so many times the other
is_scaled : (x y : List ℤ) (times : ℤ) → length x ≡ length y → minus_times x times y ≡ zeros (length x) → x ≡ scale times y
is_scaled x y times l e = same_vectors x (scale times y) (omega (arith, lengths)) (λ c. equal (entry x c) (times *ℤ entry y c) (nothing_left x y times e c) ∙ sym (entry-scale times y c))
  where
    equal : (a b : ℤ) → a -ℤ b ≡ pos 0 → a ≡ b
    equal a b h = omega (arith, ints)

-- a row that is such a difference isn't zero, where the difference isn't
pub some_left : (x y row : List ℤ) (times : ℤ) → length x ≡ length y → row ≡ minus_times x times y → minus_times x times y ≢ zeros (length x) → row ≢ zeros (length row)
some_left x y row times l is some none = some (sym is ∙ none ∙ ap zeros (ap length is ∙ omega (arith, lengths)))

-- ---- by the masks
-- a vector has one mask
one_mask : (x : List ℤ) (m n : ℕ) → IsMask x m → IsMask x n → m ≡ n
one_mask x m n h k = same_from_bits m n (λ block. same block (either_bit m block) (either_bit n block))
  where
    either_bit : (n c : ℕ) → (bit_at n c ≡ 0) ⊎ (bit_at n c ≡ 1)
    either_bit n c = elim (cases_eq (bit_at n c) 0) [ inl e ↦ inl e | inr d ↦ inr (omega (arith, bit_at-lt n c)) ]

    in_other : (m n block : ℕ) → IsMask x m → IsMask x n → bit_at m block ≡ 1 → bit_at n block ≡ 1
    in_other m n block h k set =
        let there = h.covered block set in ap (bit_at n) (sym there.there) ∙ k.covers there.column there.positive

    same : (block : ℕ) → (bit_at m block ≡ 0) ⊎ (bit_at m block ≡ 1) → (bit_at n block ≡ 0) ⊎ (bit_at n block ≡ 1) → bit_at m block ≡ bit_at n block
    same block (inl e) (inl f) = e ∙ sym f
    same block (inr e) f = e ∙ sym (in_other m n block h k e)
    same block (inl e) (inr f) = in_other n m block k h f ∙ sym f

-- so many times a vector, at least once, has its mask
mask_of_times : (k : ℕ) (x : List ℤ) (mask : ℕ) → IsMask x mask → IsMask (scale (pos (suc k)) x) mask
mask_of_times k x mask h = record {
  covers = λ c p. ap (bit_at mask) (same_block c) ∙ h.covers c (below (entry x c) (subst (λ (z : ℤ). pos 0 <ℤ z) (entry-scale (pos (suc k)) x c) p));
  covered = λ block b. let there = h.covered block b in record {
    column = there.column;
    there = same_block there.column ∙ there.there;
    positive = subst (λ (z : ℤ). pos 0 <ℤ z) (sym (entry-scale (pos (suc k)) x there.column)) (above (entry x there.column) there.positive);
  };
}
  where
    same_block : (c : ℕ) → block_of (scale (pos (suc k)) x) c ≡ block_of x c
    same_block c = ap (λ (n : ℕ). c / block_width n) (length-scale (pos (suc k)) x)

    below : (a : ℤ) → pos 0 <ℤ (pos (suc k) *ℤ a) → pos 0 <ℤ a
    below a p = below_product k (pos 0) a (omega (arith, ints, p))

    above : (a : ℤ) → pos 0 <ℤ a → pos 0 <ℤ (pos (suc k) *ℤ a)
    above a p = omega (arith, ints, product_below k (pos 0) a p)

-- a vector that is turned has its masks the other way round
masks_crossed : (y : List ℤ) (plus minus : ℕ) → AreMasks y plus minus → AreMasks (negate y) minus plus
masks_crossed y plus minus h = record {
  positive = subst (λ (x : List ℤ). IsMask x minus) (sym (positive_part-negate y)) h.negative;
  negative = subst (λ (x : List ℤ). IsMask x plus) (sym (negative_part-negate y)) h.positive;
}

-- so many times a vector has its masks, and the other way round where the number is negative
pub masks_more : (times : ℤ) (y : List ℤ) (plus minus : ℕ) → pos 0 <ℤ times → AreMasks y plus minus → AreMasks (scale times y) plus minus
masks_more (pos (suc k)) y plus minus some h = record {
  positive = subst (λ (x : List ℤ). IsMask x plus) (sym (positive_part-scale (suc k) y)) (mask_of_times k (positive_part y) plus h.positive);
  negative = subst (λ (x : List ℤ). IsMask x minus) (sym (negative_part-scale (suc k) y)) (mask_of_times k (negative_part y) minus h.negative);
}
masks_more (pos zero) y plus minus some h = absurd (omega (arith, ints))
masks_more (negsuc k) y plus minus some h = absurd (omega (arith, ints))

pub masks_less : (times : ℤ) (y : List ℤ) (plus minus : ℕ) → times <ℤ pos 0 → AreMasks y plus minus → AreMasks (scale times y) minus plus
masks_less (negsuc k) y plus minus below h =
    subst (λ (x : List ℤ). AreMasks x minus plus) (sym (scale-negsuc k y)) (masks_more (pos (suc k)) (negate y) minus plus (omega (arith, ints)) (masks_crossed y plus minus h))
masks_less (pos k) y plus minus below h = absurd (omega (arith, ints))

-- a row with the masks of so many times another, as long as the number isn't 0, if it is that
pub has_its_masks : (x y : List ℤ) (times : ℤ) (plus minus above below : ℕ) → length x ≡ length y → x ≢ zeros (length x) → AreMasks x plus minus → (times ≢ pos 0 → AreMasks (scale times y) above below) →
    minus_times x times y ≡ zeros (length x) → (plus ≡ above) × (minus ≡ below)
has_its_masks x y times plus minus above below l some h k none =
    let is = is_scaled x y times l none in
    let its : AreMasks x above below = subst (λ (r : List ℤ). AreMasks r above below) (sym is) (k (λ e. some (is ∙ ap (λ z. scale z y) e ∙ zero-scale y ∙ ap zeros (sym l)))) in
    (one_mask (positive_part x) plus above h.positive its.positive, one_mask (negative_part x) minus below h.negative its.negative)
