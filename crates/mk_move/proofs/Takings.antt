-- A row from which a multiple of another is taken off in place, one bit after another, and its masks.
use Rattle.std.proofs.Common.{◌≡◌, ◌≢◌, ◌⊎◌, ◌↔◌, inl, inr, ℕ, ◌+◌, ◌*◌, ◌^◌, ◌<◌, ◌≤◌, max, ◌&&◌, ◌||◌, not, nat_eq, Result, Ok, Err, rules, Bool, true, false, IsTrue, List, All, length, set, arith, sym, ap, ◌∙◌, subst, refl, ℤ, pos, neg_ℤ, ◌-ℤ◌, ◌*ℤ◌, ◌<ℤ◌, unsigned_abs}
use mir.Syntax.{w128}
use mir.Val.{Fits, SFits, to_z, of_z}
use Rattle.std.proofs.Math.Facts.{Fits-or}
use Rattle.std.specs.List.{refill}
use Rattle.std.specs.Int.{bit_at, w64}
use Rattle.std.specs.Int.RustNames.{bit_or}
use borrow.Author.Count.{below_more}
use Rattle.std.proofs.Math.Nat.{mul-le-mul}
use Rattle.std.proofs.lemmas.Bool.{cases_eq, cases_lt, false≢true}
use Rattle.std.proofs.lemmas.Bool.Decides.{nat_tests}
use Rattle.std.proofs.lemmas.Int.{ints, clamps, by_lt_z, to_z-of_z, unsigned_abs-mul, fits_signed_from_abs}
use Rattle.std.proofs.lemmas.List.{length-set, get_or-set_same, get_or-set_other, get_or_past, get_or_default, ext_get_or}
use Rattle.std.proofs.lemmas.List.Elements.{All-weaker}
use Rattle.std.proofs.lemmas.Nat.Bits.{bit_at_above, bit_at-lt, bit_at_or, bit_at-zero, bit_at-trailing_zeros}
use Rattle.mk_model.specs.Vectors.{entry, zeros, positive_part, negative_part, IsEntry}
use Rattle.mk_model.proofs.VectorAlgebra.{lengths, same_vectors, entry-positive_part, entry-negative_part, entry-zeros, only_zeros}
use Rattle.mk_model.proofs.Integers.{neg_ℤ-*ℤ}
use Rattle.mk_move.specs.Masks.{block_of, IsMask, AreMasks}
use Rattle.mk_model.specs.Overflows.{IsBeyond}
use Rattle.mk_move.specs.Steps.{minus_times, IsOverflow}
use Rattle.mk_move.specs.declared.steps.OverflowAt.{OverflowAt}
use Rattle.mk_move.specs.InPlace.{IsWide, AreBits, IsWithEntry, LeavesSome, TakesOffInPlace}
use Rattle.mk_move.specs.declared.in_place.Taken.{Taken}
use Rattle.mk_move.proofs.Entries.{as_entry, entry_read, most_entry, abs_bounds, abs_from_bounds, IsEntry-abs}
use Rattle.mk_move.specs.Moves.{Weighed, IsMoveKept}
use Rattle.mk_move.proofs.Differences.{entry-minus_times}
use Rattle.mk_move.proofs.Orientations.{refill_all}
use Rattle.mk_move.proofs.MaskTests.{one_column, covers_column, covered_column}

-- ---- masks by the columns themselves
pub record AreBitMasks (x : List ℤ) (plus minus : ℕ) : Type 0 where
  pub positive : (c : ℕ) → pos 0 <ℤ entry x c → bit_at plus c ≡ 1
  pub is_positive : (c : ℕ) → bit_at plus c ≡ 1 → pos 0 <ℤ entry x c
  pub negative : (c : ℕ) → entry x c <ℤ pos 0 → bit_at minus c ≡ 1
  pub is_negative : (c : ℕ) → bit_at minus c ≡ 1 → entry x c <ℤ pos 0

mask_of_columns : (x : List ℤ) (mask : ℕ) → length x ≤ 64 → ((c : ℕ) → pos 0 <ℤ entry x c → bit_at mask c ≡ 1) → ((c : ℕ) → bit_at mask c ≡ 1 → pos 0 <ℤ entry x c) → IsMask x mask
mask_of_columns x mask few h k = record {
  covers = λ c p. ap (bit_at mask) (one_column x c few) ∙ h c p;
  covered = λ block b. record { column = block; there = one_column x block few; positive = k block b };
}

at_positive : (x : List ℤ) (c : ℕ) → (pos 0 <ℤ entry (positive_part x) c) ↔ (pos 0 <ℤ entry x c)
at_positive x c = ((λ h. omega (arith, ints, clamps, entry-positive_part x c)), (λ h. omega (arith, ints, clamps, entry-positive_part x c)))

at_negative : (x : List ℤ) (c : ℕ) → (pos 0 <ℤ entry (negative_part x) c) ↔ (entry x c <ℤ pos 0)
at_negative x c = ((λ h. omega (arith, ints, clamps, entry-negative_part x c)), (λ h. omega (arith, ints, clamps, entry-negative_part x c)))

pub bit_masks : (x : List ℤ) (plus minus : ℕ) → length x ≤ 64 → AreMasks x plus minus → AreBitMasks x plus minus
bit_masks x plus minus few h = record {
  positive = λ c p. covers_column (positive_part x) plus c above h.positive ((at_positive x c).1 p);
  is_positive = λ c b. (at_positive x c).0 (covered_column (positive_part x) plus c above h.positive b);
  negative = λ c p. covers_column (negative_part x) minus c below h.negative ((at_negative x c).1 p);
  is_negative = λ c b. (at_negative x c).0 (covered_column (negative_part x) minus c below h.negative b);
}
  where
    above : length (positive_part x) ≤ 64
    above = omega (arith, lengths)

    below : length (negative_part x) ≤ 64
    below = omega (arith, lengths)

pub masks_by_bits : (x : List ℤ) (plus minus : ℕ) → length x ≤ 64 → AreBitMasks x plus minus → AreMasks x plus minus
masks_by_bits x plus minus few h = record {
  positive = mask_of_columns (positive_part x) plus (omega (arith, lengths)) (λ c p. h.positive c ((at_positive x c).0 p)) (λ c b. (at_positive x c).1 (h.is_positive c b));
  negative = mask_of_columns (negative_part x) minus (omega (arith, lengths)) (λ c p. h.negative c ((at_negative x c).0 p)) (λ c b. (at_negative x c).1 (h.is_negative c b));
}

-- ---- one bit after another
-- the multiple is taken off at the columns whose bit is done, and the entries of the others are as they were
pub record IsTaking (x y : List ℤ) (times : ℤ) (left : ℕ) (row : List ℤ) (taken : Taken) : Type 0 where
  pub fits : left < 2 ^ 64
  pub columns : length row ≡ length x
  pub done : (c : ℕ) → bit_at left c ≡ 0 → entry row c ≡ entry x c -ℤ (times *ℤ entry y c)
  pub waiting : (c : ℕ) → bit_at left c ≡ 1 → entry row c ≡ entry x c
  pub within : (c : ℕ) → bit_at left c ≡ 1 → c < length y
  pub masks : AreBitMasks row taken.plus taken.minus
  pub range : IsTrue taken.in_range → All IsEntry x → (c : ℕ) → c < length x → IsEntry (entry row c)

nothing_off : (a t b : ℤ) → b ≡ pos 0 → a ≡ a -ℤ (t *ℤ b)
nothing_off a t b e = omega (arith, ints, ap (λ z. t *ℤ z) e)

pub taking_begins : (x y : List ℤ) (times : ℤ) (bits plus minus : ℕ) → length x ≤ 64 → bits < 2 ^ 64 → AreBits y bits → AreMasks x plus minus → IsTaking x y times bits x (record { plus = plus; minus = minus; in_range = true })
taking_begins x y times bits plus minus few fits h k = record {
  fits = fits;
  columns = refl;
  done = λ c b. nothing_off (entry x c) times (entry y c) (h.covers c b);
  waiting = λ c b. refl;
  within = h.within;
  masks = bit_masks x plus minus few k;
  range = λ t all c l. all c (pos 0) l;
}

either_bit : (n c : ℕ) → (bit_at n c ≡ 0) ⊎ (bit_at n c ≡ 1)
either_bit n c = elim (cases_eq (bit_at n c) 0) [ inl e ↦ inl e | inr d ↦ inr (omega (arith, bit_at-lt n c)) ]

-- a bit of the numbers that were put together
module _ (x y : List ℤ) (times : ℤ) (left others n : ℕ) (row : List ℤ) (before after : Taken) (value : ℤ)
    (fewer : others < left)
    (set_there : bit_at left n ≡ 1) (cleared : bit_at others n ≡ 0) (same : (c : ℕ) → c < 64 → c ≢ n → bit_at others c ≡ bit_at left c)
    (h : IsTaking x y times left row before) (as_many : length x ≡ length y) (changed : IsWithEntry before n value after) (is : value ≡ entry x n -ℤ (times *ℤ entry y n)) where
  other_bit : (c : ℕ) → c ≢ n → bit_at others c ≡ bit_at left c
  other_bit c d = elim (cases_lt c 64) [
    | inl l ↦ same c l d
    | inr l ↦ bit_at_above others 64 c (omega (arith, h.fits)) l ∙ sym (bit_at_above left 64 c h.fits l)
  ]

  within_row : n < length row
  within_row = omega (arith, h.within n set_there, h.columns, as_many)

  here : entry (set row n value) n ≡ value
  here = get_or-set_same row n value (pos 0) within_row

  elsewhere : (c : ℕ) → c ≢ n → entry (set row n value) c ≡ entry row c
  elsewhere c d = get_or-set_other row n c value (pos 0) d

  by_column : (P : ℕ → Type 0) → P n → ((c : ℕ) → c ≢ n → P c) → (c : ℕ) → P c
  by_column P p q c = elim (cases_eq c n) [ inl e ↦ subst P (sym e) p | inr d ↦ q c d ]

  masks_after : AreBitMasks (set row n value) after.plus after.minus
  masks_after = record {
    positive = by_column (λ c. pos 0 <ℤ entry (set row n value) c → bit_at after.plus c ≡ 1)
        (λ p. changed.positive.1 (subst (λ (z : ℤ). pos 0 <ℤ z) here p)) (λ c d p. changed.others_plus c d ∙ h.masks.positive c (subst (λ (z : ℤ). pos 0 <ℤ z) (elsewhere c d) p));
    is_positive = by_column (λ c. bit_at after.plus c ≡ 1 → pos 0 <ℤ entry (set row n value) c)
        (λ b. subst (λ (z : ℤ). pos 0 <ℤ z) (sym here) (changed.positive.0 b)) (λ c d b. subst (λ (z : ℤ). pos 0 <ℤ z) (sym (elsewhere c d)) (h.masks.is_positive c (sym (changed.others_plus c d) ∙ b)));
    negative = by_column (λ c. entry (set row n value) c <ℤ pos 0 → bit_at after.minus c ≡ 1)
        (λ p. changed.negative.1 (subst (λ (z : ℤ). z <ℤ pos 0) here p)) (λ c d p. changed.others_minus c d ∙ h.masks.negative c (subst (λ (z : ℤ). z <ℤ pos 0) (elsewhere c d) p));
    is_negative = by_column (λ c. bit_at after.minus c ≡ 1 → entry (set row n value) c <ℤ pos 0)
        (λ b. subst (λ (z : ℤ). z <ℤ pos 0) (sym here) (changed.negative.0 b)) (λ c d b. subst (λ (z : ℤ). z <ℤ pos 0) (sym (elsewhere c d)) (h.masks.is_negative c (sym (changed.others_minus c d) ∙ b)));
  }

  not_here : (c : ℕ) → bit_at others c ≡ 1 → c ≢ n
  not_here c b e = let z : bit_at others c ≡ 0 = ap (bit_at others) e ∙ cleared in omega arith

  pub taking_goes_on : IsTaking x y times others (set row n value) after
  taking_goes_on = record {
    fits = omega (arith, h.fits);
    columns = length-set row n value ∙ h.columns;
    done = by_column (λ c. bit_at others c ≡ 0 → entry (set row n value) c ≡ entry x c -ℤ (times *ℤ entry y c))
        (λ b. here ∙ is) (λ c d b. elsewhere c d ∙ h.done c (sym (other_bit c d) ∙ b));
    waiting = λ c b. elsewhere c (not_here c b) ∙ h.waiting c (sym (other_bit c (not_here c b)) ∙ b);
    within = λ c b. h.within c (sym (other_bit c (not_here c b)) ∙ b);
    masks = masks_after;
    range = λ t all. by_column (λ c. c < length x → IsEntry (entry (set row n value) c))
        (λ l. subst IsEntry (sym here) (changed.range t).1) (λ c d l. subst IsEntry (sym (elsewhere c d)) (h.range (changed.range t).0 all c l));
  }

-- ---- once all bits are done
pub taken_entries : (x y : List ℤ) (times : ℤ) (row : List ℤ) (taken : Taken) → length x ≡ length y → IsTaking x y times 0 row taken → row ≡ minus_times x times y
taken_entries x y times row taken l h =
    same_vectors row (minus_times x times y) (omega (arith, lengths, h.columns)) (λ c. h.done c (bit_at_above 0 0 c (omega arith) (omega arith)) ∙ sym (entry-minus_times x y times c))

pub taken_range : (x y : List ℤ) (times : ℤ) (left : ℕ) (row : List ℤ) (taken : Taken) → IsTaking x y times left row taken → IsTrue taken.in_range → All IsEntry x → All IsEntry row
taken_range x y times left row taken h t all c d l = subst IsEntry (get_or_default row c (pos 0) d l) (h.range t all c (omega (arith, h.columns)))

-- ---- numbers in 128 bits
pub wide_fits : (z : ℤ) → IsWide z → SFits w128 z
wide_fits z h = fits_signed_from_abs w128 z (omega arith)

pub quick_product : (times right : ℤ) → unsigned_abs times < 2 ^ 45 → IsEntry right → unsigned_abs (times *ℤ right) ≤ 2 ^ 125
quick_product times right h k =
    let small : unsigned_abs times ≤ 2 ^ 45 = omega arith in
    let few : unsigned_abs times * unsigned_abs right ≤ 2 ^ 45 * most_entry = mul-le-mul small (IsEntry-abs right k) in
    omega (arith, unsigned_abs-mul times right, few)

-- a difference from a wide number: how large it is, and what the code has of it
pub difference_bound : (left times right : ℤ) → IsWide left → unsigned_abs times < 2 ^ 45 → IsEntry right → unsigned_abs (left -ℤ (times *ℤ right)) ≤ 2 ^ 126 + 2 ^ 125
difference_bound left times right h k l =
    let bounds = abs_bounds (times *ℤ right) (2 ^ 125) (quick_product times right k l) in
    let wide = abs_bounds left (2 ^ 126) h in
    abs_from_bounds (left -ℤ (times *ℤ right)) (2 ^ 126 + 2 ^ 125) (omega (arith, ints, wide.0, bounds.1)) (omega (arith, ints, wide.1, bounds.0))

pub difference_read : (left times right : ℤ) → IsWide left → unsigned_abs times < 2 ^ 45 → IsEntry right →
    to_z w128 (of_z w128 (as_entry left -ℤ to_z w128 (of_z w128 (as_entry times *ℤ as_entry right)))) ≡ left -ℤ (times *ℤ right)
difference_read left times right h k l =
    ap (λ u. to_z w128 (of_z w128 (u -ℤ to_z w128 (of_z w128 (as_entry times *ℤ as_entry right))))) (to_z-of_z w128 left (wide_fits left h))
    ∙ ap (λ u. to_z w128 (of_z w128 (left -ℤ to_z w128 (of_z w128 (u *ℤ as_entry right))))) (to_z-of_z w128 times (wide_fits times (omega arith)))
    ∙ ap (λ u. to_z w128 (of_z w128 (left -ℤ to_z w128 (of_z w128 (times *ℤ u))))) (entry_read right l)
    ∙ ap (λ u. to_z w128 (of_z w128 (left -ℤ u))) (to_z-of_z w128 (times *ℤ right) (fits_signed_from_abs w128 (times *ℤ right) (omega (arith, quick_product times right k l))))
    ∙ to_z-of_z w128 (left -ℤ (times *ℤ right)) (fits_signed_from_abs w128 (left -ℤ (times *ℤ right)) (omega (arith, difference_bound left times right h k l)))

-- ---- rows that are zero, and the bits of a move
no_bits : (plus minus k : ℕ) → bit_or plus minus ≡ 0 → (bit_at plus k ≡ 0) × (bit_at minus k ≡ 0)
no_bits plus minus k e =
    let none : max (bit_at plus k) (bit_at minus k) ≡ 0 = sym (bit_at_or plus minus k) ∙ ap (λ n. bit_at n k) e ∙ bit_at-zero k in
    (omega (arith, none), omega (arith, none))

pub zero_masks : (x : List ℤ) (plus minus : ℕ) → AreMasks x plus minus → bit_or plus minus ≡ 0 → x ≡ zeros (length x)
zero_masks x plus minus h none = only_zeros x (λ c. neither c)
  where
    not_positive : (c : ℕ) → pos 0 <ℤ entry x c → ⊥
    not_positive c p = omega (arith, (no_bits plus minus (block_of (positive_part x) c) none).0, h.positive.covers c ((at_positive x c).1 p))

    not_negative : (c : ℕ) → entry x c <ℤ pos 0 → ⊥
    not_negative c p = omega (arith, (no_bits plus minus (block_of (negative_part x) c) none).1, h.negative.covers c ((at_negative x c).1 p))

    neither : (c : ℕ) → entry x c ≡ pos 0
    neither c = by_lt_z (pos 0) (entry x c) (λ p. absurd (not_positive c p)) (λ p. by_lt_z (entry x c) (pos 0) (λ q. absurd (not_negative c q)) (λ q. omega (arith, ints)))

some_of : (plus minus k : ℕ) → bit_at (bit_or plus minus) k ≡ 1 → (bit_at plus k ≡ 1) ⊎ (bit_at minus k ≡ 1)
some_of plus minus k b =
    let one : max (bit_at plus k) (bit_at minus k) ≡ 1 = sym (bit_at_or plus minus k) ∙ b in
    elim (either_bit plus k) [ inl e ↦ inr (omega (arith, one)) | inr e ↦ inl e ]

pub some_masks : (x : List ℤ) (plus minus : ℕ) → Fits w64 plus → Fits w64 minus → AreMasks x plus minus → bit_or plus minus ≢ 0 → x ≢ zeros (length x)
some_masks x plus minus f g h some zero =
    let (_, set_there, _) = bit_at-trailing_zeros w64 (bit_or plus minus) (omega (arith, some)) (Fits-or f g).fits in
    elim (some_of plus minus _ set_there) [
      | inl b ↦ let there = h.positive.covered _ b in none there.column (inl ((at_positive x there.column).0 there.positive))
      | inr b ↦ let there = h.negative.covered _ b in none there.column (inr ((at_negative x there.column).0 there.positive))
    ]
  where
    none : (c : ℕ) → (pos 0 <ℤ entry x c) ⊎ (entry x c <ℤ pos 0) → ⊥
    none c (inl p) = let z : entry x c ≡ pos 0 = ap (λ r. entry r c) zero ∙ entry-zeros (length x) c in omega (arith, ints)
    none c (inr p) = let z : entry x c ≡ pos 0 = ap (λ r. entry r c) zero ∙ entry-zeros (length x) c in omega (arith, ints)

pub bits_of : (y : List ℤ) (plus minus : ℕ) → length y ≤ 64 → AreMasks y plus minus → AreBits y (bit_or plus minus)
bits_of y plus minus few masks = record {
  within = λ c b. within c (cases_lt c (length y)) (some_of plus minus c b);
  covers = λ c b. neither c b;
}
  where
    h : AreBitMasks y plus minus
    h = bit_masks y plus minus few masks

    within : (c : ℕ) → (c < length y) ⊎ (length y ≤ c) → (bit_at plus c ≡ 1) ⊎ (bit_at minus c ≡ 1) → c < length y
    within c (inl l) b = l
    within c (inr l) (inl b) = let z = get_or_past y c (pos 0) l in let p = h.is_positive c b in absurd (omega (arith, ints))
    within c (inr l) (inr b) = let z = get_or_past y c (pos 0) l in let p = h.is_negative c b in absurd (omega (arith, ints))

    neither : (c : ℕ) → bit_at (bit_or plus minus) c ≡ 0 → entry y c ≡ pos 0
    neither c b =
        let none : max (bit_at plus c) (bit_at minus c) ≡ 0 = sym (bit_at_or plus minus c) ∙ b in
        by_lt_z (pos 0) (entry y c) (λ p. absurd (omega (arith, none, h.positive c p)))
        (λ p. by_lt_z (entry y c) (pos 0) (λ q. absurd (omega (arith, none, h.negative c q))) (λ q. omega (arith, ints)))

-- ---- what is taken off and put back
pub put_back : (x y : List ℤ) (times : ℤ) → length x ≡ length y → minus_times (minus_times x times y) (neg_ℤ times) y ≡ x
put_back x y times l =
    same_vectors _ x (omega (arith, lengths)) (λ c.
    entry-minus_times (minus_times x times y) y (neg_ℤ times) c ∙ ap (λ z. z -ℤ (neg_ℤ times *ℤ entry y c)) (entry-minus_times x y times c)
    ∙ ap (λ z. (entry x c -ℤ (times *ℤ entry y c)) -ℤ z) (neg_ℤ-*ℤ times (entry y c)) ∙ omega (arith, ints))

pub All-wide : (x : List ℤ) → All IsEntry x → All IsWide x
All-wide x h = All-weaker IsEntry IsWide (λ a e. omega (arith, IsEntry-abs a e)) x h

pub All-wide_difference : (x y : List ℤ) (times : ℤ) → length x ≡ length y → unsigned_abs times < 2 ^ 45 → All IsEntry x → All IsEntry y → All IsWide (minus_times x times y)
All-wide_difference x y times l h k m c d i =
    subst IsWide (get_or_default (minus_times x times y) c (pos 0) d i)
    (subst IsWide (sym (entry-minus_times x y times c)) (small (entry x c) times (entry y c) (k c (pos 0) (omega (arith, lengths))) h (m c (pos 0) (omega (arith, lengths)))))
  where
    small : (left times right : ℤ) → IsEntry left → unsigned_abs times < 2 ^ 45 → IsEntry right → IsWide (left -ℤ (times *ℤ right))
    small left times right h k l =
        let bounds = abs_bounds (times *ℤ right) (2 ^ 125) (quick_product times right k l) in
        abs_from_bounds (left -ℤ (times *ℤ right)) (2 ^ 126) (omega (arith, ints, h.0, bounds.1)) (omega (arith, ints, h.1, bounds.0))

-- ---- one column after another
pub record IsTakenUpTo (x y : List ℤ) (times : ℤ) (n : ℕ) (row : List ℤ) (in_range : Bool) : Type 0 where
  pub columns : length row ≡ length x
  pub done : (c : ℕ) → c < n → entry row c ≡ entry x c -ℤ (times *ℤ entry y c)
  pub waiting : (c : ℕ) → n ≤ c → entry row c ≡ entry x c
  pub range : IsTrue in_range → (c : ℕ) → c < n → IsEntry (entry row c)

pub columns_begin : (x y : List ℤ) (times : ℤ) → IsTakenUpTo x y times 0 x true
columns_begin x y times = record {
  columns = refl;
  done = λ c l. absurd (omega arith);
  waiting = λ c l. refl;
  range = λ t c l. absurd (omega arith);
}

pub column_goes_on : (x y : List ℤ) (times : ℤ) (n : ℕ) (row : List ℤ) (before after : Bool) (value : ℤ) → n < length x → IsTakenUpTo x y times n row before →
    value ≡ entry x n -ℤ (times *ℤ entry y n) → (IsTrue after → IsTrue before × IsEntry value) → IsTakenUpTo x y times (n + 1) (set row n value) after
column_goes_on x y times n row before after value l h e range = record {
  columns = length-set row n value ∙ h.columns;
  done = below_more (λ c. entry (set row n value) c ≡ entry x c -ℤ (times *ℤ entry y c)) n (λ c k. elsewhere c (λ d. omega arith) ∙ h.done c k) (here ∙ e);
  waiting = λ c k. elsewhere c (λ d. omega arith) ∙ h.waiting c (omega arith);
  range = λ t. below_more (λ c. IsEntry (entry (set row n value) c)) n (λ c k. subst IsEntry (sym (elsewhere c (λ d. omega arith))) (h.range (range t).0 c k)) (subst IsEntry (sym here) (range t).1);
}
  where
    elsewhere : (c : ℕ) → c ≢ n → entry (set row n value) c ≡ entry row c
    elsewhere c d = get_or-set_other row n c value (pos 0) d

    here : entry (set row n value) n ≡ value
    here = get_or-set_same row n value (pos 0) (omega (arith, h.columns))

pub columns_entries : (x y : List ℤ) (times : ℤ) (n : ℕ) (row : List ℤ) (in_range : Bool) → length x ≡ length y → length x ≤ n → IsTakenUpTo x y times n row in_range → row ≡ minus_times x times y
columns_entries x y times n row in_range l k h =
    ext_get_or (pos 0) row (minus_times x times y) (omega (arith, lengths, h.columns)) (λ c i. h.done c (omega (arith, h.columns)) ∙ sym (entry-minus_times x y times c))

pub columns_range : (x y : List ℤ) (times : ℤ) (n : ℕ) (row : List ℤ) (in_range : Bool) → length x ≤ n → IsTakenUpTo x y times n row in_range → IsTrue in_range → All IsEntry row
columns_range x y times n row in_range k h t c d l = subst IsEntry (get_or_default row c (pos 0) d l) (h.range t c (omega (arith, h.columns)))

-- ---- the move as a whole
-- a row that a buffer of as many columns is filled with, as the entries of a move
pub kept_row : (x y row : List ℤ) (times weight : ℤ) (plus minus : ℕ) → length x ≡ length y → length x ≤ 512 → row ≡ minus_times x times y → All IsEntry row → row ≢ zeros (length row) → AreMasks row plus minus →
    IsMoveKept (record { entries = refill (length x) x row; weight = weight }) × AreMasks (refill (length x) x row) plus minus
kept_row x y row times weight plus minus l few is range some masks =
    let as_many : length row ≡ length x = ap length is ∙ omega (arith, lengths) in
    subst (λ (r : List ℤ). IsMoveKept (record { entries = r; weight = weight }) × AreMasks r plus minus) (sym (refill_all x row as_many))
    (record { columns = omega (arith, as_many); not_zero = some; entries = range }, masks)

-- the same after it was put back
pub kept_back : (x y row back : List ℤ) (times : ℤ) → length x ≡ length y → row ≡ minus_times x times y → back ≡ minus_times row (neg_ℤ times) y → refill (length x) x back ≡ x
kept_back x y row back times l is again =
    let same : back ≡ x = again ∙ ap (λ r. minus_times r (neg_ℤ times) y) is ∙ put_back x y times l in
    refill_all x back (ap length same) ∙ same

-- the negative of a quick number, as the code has it
pub negative_read : (times : ℤ) → unsigned_abs times < 2 ^ 45 → as_entry (pos 0 -ℤ as_entry times) ≡ neg_ℤ times
negative_read times h =
    let bounds = abs_bounds times (2 ^ 45) (omega arith) in
    let size : unsigned_abs (neg_ℤ times) ≤ 2 ^ 45 = abs_from_bounds (neg_ℤ times) (2 ^ 45) (omega (arith, ints, bounds.1)) (omega (arith, ints, bounds.0)) in
    let fits : SFits w128 (neg_ℤ times) = fits_signed_from_abs w128 (neg_ℤ times) (omega (arith, size)) in
    ap (λ z. as_entry (pos 0 -ℤ z)) (to_z-of_z w128 times (wide_fits times (omega arith))) ∙ ap (λ z. as_entry z) (zero_less times) ∙ to_z-of_z w128 (neg_ℤ times) fits
  where
    zero_less : (a : ℤ) → pos 0 -ℤ a ≡ neg_ℤ a
    zero_less a = omega (arith, ints)

pub both : (a b : Bool) → IsTrue (a && b) → IsTrue a × IsTrue b
both true b t = (search rules, t)
both false b t = absurd (search rules)

-- ---- what is left, one column after another: in range, and zero unless some is said to be left
pub record IsLeaving (x y : List ℤ) (times : ℤ) (n : ℕ) (some : Bool) : Type 0 where
  pub range : (c : ℕ) → c < n → IsEntry (entry x c -ℤ (times *ℤ entry y c))
  pub some_left : IsTrue some → (c : ℕ) × (entry x c -ℤ (times *ℤ entry y c) ≢ pos 0)
  pub none_left : some ≡ false → (c : ℕ) → c < n → entry x c -ℤ (times *ℤ entry y c) ≡ pos 0

pub leaving_begins : (x y : List ℤ) (times : ℤ) → IsLeaving x y times 0 false
leaving_begins x y times = record {
  range = λ c l. absurd (omega arith);
  some_left = λ t. absurd (search rules);
  none_left = λ e c l. absurd (omega arith);
}

pub leaving_goes_on : (x y : List ℤ) (times : ℤ) (n : ℕ) (before here : Bool) → IsLeaving x y times n before → IsEntry (entry x n -ℤ (times *ℤ entry y n)) →
    (IsTrue here → entry x n -ℤ (times *ℤ entry y n) ≢ pos 0) → (here ≡ false → entry x n -ℤ (times *ℤ entry y n) ≡ pos 0) → IsLeaving x y times (n + 1) (before || here)
leaving_goes_on x y times n before here h range some none = record {
  range = below_more (λ c. IsEntry (entry x c -ℤ (times *ℤ entry y c))) n h.range range;
  some_left = some_left before here h.some_left some;
  none_left = none_left before here h.none_left none;
}
  where
    some_left : (a b : Bool) → (IsTrue a → (c : ℕ) × (entry x c -ℤ (times *ℤ entry y c) ≢ pos 0)) → (IsTrue b → entry x n -ℤ (times *ℤ entry y n) ≢ pos 0) → IsTrue (a || b) → (c : ℕ) × (entry x c -ℤ (times *ℤ entry y c) ≢ pos 0)
    some_left true b f g t = f t
    some_left false b f g t = (n, g t)

    none_left : (a b : Bool) → (a ≡ false → (c : ℕ) → c < n → entry x c -ℤ (times *ℤ entry y c) ≡ pos 0) → (b ≡ false → entry x n -ℤ (times *ℤ entry y n) ≡ pos 0) → a || b ≡ false →
        (c : ℕ) → c < n + 1 → entry x c -ℤ (times *ℤ entry y c) ≡ pos 0
    none_left true b f g e = absurd (false≢true (sym e))
    none_left false b f g e = below_more (λ c. entry x c -ℤ (times *ℤ entry y c) ≡ pos 0) n (f refl) (g e)

pub leaves_some_of : (x y : List ℤ) (times : ℤ) (n : ℕ) (some : Bool) → length x ≡ length y → length x ≤ n → IsLeaving x y times n some → LeavesSome x times y (Ok some)
leaves_some_of x y times n true l k h = (not_zero (h.some_left (search rules)), range)
  where
    not_zero : (c : ℕ) × (entry x c -ℤ (times *ℤ entry y c) ≢ pos 0) → minus_times x times y ≢ zeros (length x)
    not_zero (c, d) z = d (sym (entry-minus_times x y times c) ∙ ap (λ r. entry r c) z ∙ entry-zeros (length x) c)

    range : All IsEntry (minus_times x times y)
    range c d i = subst IsEntry (get_or_default (minus_times x times y) c (pos 0) d i) (subst IsEntry (sym (entry-minus_times x y times c)) (h.range c (omega (arith, lengths))))
leaves_some_of x y times n false l k h =
    ext_get_or (pos 0) (minus_times x times y) (zeros (length x)) (omega (arith, lengths)) (λ c i. entry-minus_times x y times c ∙ h.none_left refl c (omega (arith, lengths)) ∙ sym (entry-zeros (length x) c))

-- no entry of a difference is beyond its range
pub none_beyond : (x y : List ℤ) (times : ℤ) (at : OverflowAt) → length x ≡ length y → All IsEntry (minus_times x times y) → IsOverflow x y times at → ⊥
none_beyond x y times at l range f = outside (subst IsEntry (entry-minus_times x y times at.column) (range at.column (pos 0) (omega (arith, lengths, f.within)))) f.beyond
  where
    outside : {z : ℤ} → IsEntry z → IsBeyond z → ⊥
    outside h (inl l) = omega (arith, ints, h.0)
    outside h (inr l) = omega (arith, ints, h.1)

-- what the code reads of a number that is compared with 0
pub isnt_zero : (v : ℤ) → IsTrue (not (nat_eq (of_z w128 v) 0)) → v ≢ pos 0
isnt_zero v t e = absurd (none (subst (λ (z : ℤ). IsTrue (not (nat_eq (of_z w128 z) 0))) e t))
  where
    none : IsTrue false → ⊥
    none h = search rules

pub is_zero : (v : ℤ) → IsEntry v → not (nat_eq (of_z w128 v) 0) ≡ false → v ≡ pos 0
is_zero v h e =
    let same : of_z w128 v ≡ 0 = grind (arith, nat_tests) in
    sym (entry_read v h) ∙ ap (to_z w128) same

-- a step keeps the columns
pub length-taken : (m : Weighed) (times : ℤ) (y : List ℤ) (result : Result Bool OverflowAt) (after : Weighed) → length y ≡ length m.entries → TakesOffInPlace m times y result after → length after.entries ≡ length m.entries
length-taken m times y (Ok true) after l h = ap (λ (w : Weighed). length w.entries) h ∙ omega (arith, lengths)
length-taken m times y (Ok false) after l h = ap (λ (w : Weighed). length w.entries) h.0
length-taken m times y (Err at) after l h = ap (λ (w : Weighed). length w.entries) h.0
