-- The last blocks of masks, and the order by the standard list that they tell.
use Rattle.std.proofs.Common.{◌≡◌, ◌⊎◌, inl, inr, ℕ, zero, suc, ◌+◌, ◌/◌, ◌%◌, ◌^◌, ◌<◌, ◌≤◌, List, length, arith, sym, ap, ◌∙◌, subst, ℤ, pos, ◌<ℤ◌, ◌≤ℤ◌}
use Rattle.std.specs.Int.{bit_at}
use Rattle.std.specs.Int.Count.{count_leading_zeros, leading_of_zero}
use Rattle.std.proofs.Math.Nat.{pow-suc, div-eq_of_lt-le, div-mul-le_self}
use Rattle.std.proofs.lemmas.Int.{ints, by_lt_z}
use Rattle.std.proofs.lemmas.Nat.{leading_top, leading_le, leading_length, le-div}
use Rattle.std.proofs.lemmas.Nat.Bits.{bit_at_above}
use Rattle.std.proofs.lemmas.Bool.{cases_lt, cases_eq}
use Rattle.std.proofs.lemmas.List.{get_or_past}
use Rattle.mk_model.specs.Vectors.{entry}
use Rattle.mk_model.specs.Orders.{IsBelow, standard}
use Rattle.mk_move.specs.Masks.{block_width, block_of, HasPositive, IsMask}
use Rattle.mk_move.specs.declared.side.Side.{Side}
use Rattle.mk_move.specs.Sides.{part_of}
use Rattle.mk_move.proofs.Divisions.{length-part_of, part_of_nonnegative}
use Rattle.mk_move.proofs.MaskTests.{same_block}

-- larger at a column, and not less at any behind it
pub below_higher : (n c : ℕ) (x y : List ℤ) → c < n → entry y c <ℤ entry x c → ((d : ℕ) → c ≤ d → entry y d ≤ℤ entry x d) → IsBelow (standard n) x y
below_higher zero c x y l more h = absurd (omega arith)
below_higher (suc n) c x y l more h =
    by_lt_z (entry y n) (entry x n) (λ k. inl k)
    (λ k. elim (cases_eq c n) [
      | inl same ↦ inl (subst (λ (i : ℕ). entry y i <ℤ entry x i) same more)
      | inr other ↦ inr (equal (h n (omega arith)) k, below_higher n c x y (omega arith) more h)
    ])
  where
    equal : entry y n ≤ℤ entry x n → entry x n ≤ℤ entry y n → entry x n ≡ entry y n
    equal i j = omega (arith, ints)

highest : (n j : ℕ) → 2 ^ j ≤ n → n < 2 ^ suc j → bit_at n j ≡ 1
highest n j least most =
    let e : n / 2 ^ j ≡ 1 = div-eq_of_lt-le (2 ^ j) (omega arith) (omega (arith, pow-suc 2 j)) in
    ap (λ q. q % 2) e

-- the highest bit that is set, where there is one
pub top_bit : (mask : ℕ) → mask < 2 ^ 64 → count_leading_zeros 64 mask < 64 → (j : ℕ) × (count_leading_zeros 64 mask + suc j ≡ 64) × (bit_at mask j ≡ 1)
top_bit zero fits some = absurd (omega (arith, leading_of_zero 64))
top_bit (suc n) fits some =
    let (j, length, least, most) = leading_top 64 (suc n) (omega arith) fits in
    (j, length, highest (suc n) j least most)

-- no bit from there on is set
pub no_bit_above : (mask i : ℕ) → mask < 2 ^ 64 → 64 ≤ count_leading_zeros 64 mask + i → bit_at mask i ≡ 0
no_bit_above mask i fits past =
    let (m, length, below, _) = leading_length 64 mask fits in
    bit_at_above mask m i below (omega arith)

-- blocks keep the order of the columns
block_later : (x : List ℤ) (c d : ℕ) → c ≤ d → block_of x c ≤ block_of x d
block_later x c d l = le-div (block_of x c) d (block_width (length x)) (omega arith) (omega (arith, div-mul-le_self c (block_width (length x))))

-- the mask has no bit from a block on: no entry in its columns and behind them
none_behind : (y : List ℤ) (right block c d : ℕ) → right < 2 ^ 64 → IsMask y right → 64 ≤ count_leading_zeros 64 right + block → block ≤ block_of y c → c ≤ d → entry y d ≤ℤ pos 0
none_behind y right block c d fits g past there l =
    by_lt_z (pos 0) (entry y d) (λ p. absurd (go p)) (λ p. p)
  where
    go : pos 0 <ℤ entry y d → ⊥
    go p =
        let clear = no_bit_above right (block_of y d) fits (omega (arith, block_later y c d l)) in
        omega (arith, clear, g.covers d p)

-- an entry of the one in a later block than all of the other
pub below_later_block : (x y : List ℤ) (left right : ℕ) → left < 2 ^ 64 → right < 2 ^ 64 → length x ≡ length y → ((c : ℕ) → pos 0 ≤ℤ entry x c) → IsMask x left → IsMask y right →
    count_leading_zeros 64 left < count_leading_zeros 64 right → IsBelow (standard (length x)) x y
below_later_block x y left right fits room l m h g later = go (top_bit left fits (omega (arith, leading_le 64 right)))
  where
    at : (j : ℕ) → count_leading_zeros 64 left + suc j ≡ 64 → (there : HasPositive x j) → IsBelow (standard (length x)) x y
    at j e there =
        let none = λ (d : ℕ) (k : there.column ≤ d). none_behind y right j there.column d room g (omega arith) (omega (arith, same_block x y there.column l, there.there)) k in
        below_higher (length x) there.column x y (within (cases_lt there.column (length x))) (strictly there.positive (none there.column (omega arith))) (λ d k. weakly (m d) (none d k))
      where
        within : (there.column < length x) ⊎ (length x ≤ there.column) → there.column < length x
        within (inl k) = k
        within (inr k) = absurd (past (get_or_past x there.column (pos 0) k) there.positive)
          where
            past : entry x there.column ≡ pos 0 → pos 0 <ℤ entry x there.column → ⊥
            past e p = omega (arith, ints)

        strictly : pos 0 <ℤ entry x there.column → entry y there.column ≤ℤ pos 0 → entry y there.column <ℤ entry x there.column
        strictly p q = omega (arith, ints)

        weakly : {a b : ℤ} → pos 0 ≤ℤ a → b ≤ℤ pos 0 → b ≤ℤ a
        weakly p q = omega (arith, ints)

    go : (j : ℕ) × (count_leading_zeros 64 left + suc j ≡ 64) × (bit_at left j ≡ 1) → IsBelow (standard (length x)) x y
    go (j, e, set) = at j e (h.covered j set)

-- parts of vectors of so many columns
pub parts_below : (side : Side) (a b : List ℤ) (n left right : ℕ) → length a ≡ n → length b ≡ n → left < 2 ^ 64 → right < 2 ^ 64 → IsMask (part_of side a) left → IsMask (part_of side b) right →
    count_leading_zeros 64 left < count_leading_zeros 64 right → IsBelow (standard n) (part_of side a) (part_of side b)
parts_below side a b n left right l k fits room h g later =
    subst (λ (columns : ℕ). IsBelow (standard columns) (part_of side a) (part_of side b)) (length-part_of side a ∙ l)
    (below_later_block (part_of side a) (part_of side b) left right fits room (length-part_of side a ∙ l ∙ sym k ∙ sym (length-part_of side b)) (part_of_nonnegative side a) h g later)
