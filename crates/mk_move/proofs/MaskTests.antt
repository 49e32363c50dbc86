-- What two masks say of the vectors that they are masks of.
use Rattle.std.proofs.Common.{◌≡◌, ◌≢◌, ◌⊎◌, inl, inr, ℕ, ◌/◌, ◌^◌, ◌<◌, ◌≤◌, min, List, length, arith, sym, ap, ◌∙◌, subst, ℤ, pos, ◌<ℤ◌, ◌≤ℤ◌}
use Rattle.std.specs.Int.{bit_at, w64, bit_not}
use Rattle.std.specs.Int.RustNames.{bit_and}
use Rattle.std.proofs.lemmas.Bool.{cases_lt}
use Rattle.std.proofs.lemmas.Int.{ints, by_lt_z}
use Rattle.std.proofs.lemmas.List.{get_or_past}
use Rattle.std.proofs.lemmas.Nat.{and_le_l}
use Rattle.std.proofs.lemmas.Nat.Bits.{bit_at-zero, bit_at_and, bit_at_not, bit_at-lt, bit_at-trailing_zeros}
use Rattle.std.proofs.Math.Nat.{div-one}
use Rattle.mk_model.specs.Vectors.{entry}
use Rattle.mk_model.specs.Reductions.{Divides}
use Rattle.mk_model.specs.Pairs.{AreDisjoint}
use Rattle.mk_move.specs.Masks.{block_width, block_of, HasPositive, IsMask, HasExactMask}

-- a number that isn't 0 has a bit that is set
some_bit : (n : ℕ) → n < 2 ^ 64 → n ≢ 0 → (k : ℕ) × (k < 64) × (bit_at n k ≡ 1)
some_bit n fits some =
    let (within, set, _) = bit_at-trailing_zeros w64 n (omega (arith, some)) fits in (_, within, set)

-- columns of vectors of as many columns in one block
pub same_block : (x y : List ℤ) (c : ℕ) → length x ≡ length y → block_of y c ≡ block_of x c
same_block x y c l = ap (λ (n : ℕ). c / block_width n) (sym l)

-- a mask covers a column of its block
pub covered_there : (y : List ℤ) (outer block c : ℕ) → IsMask y outer → block_of y c ≡ block → pos 0 <ℤ entry y c → bit_at outer block ≡ 1
covered_there y outer block c g e p = ap (bit_at outer) (sym e) ∙ g.covers c p

-- a block with an entry of the one, and none of the other: the one doesn't divide the other
not_dividing_at : (x y : List ℤ) (outer block : ℕ) → length x ≡ length y → HasPositive x block → IsMask y outer → bit_at outer block ≡ 0 → Divides x y → ⊥
not_dividing_at x y outer block l there g clear d =
    let positive : pos 0 <ℤ entry y there.column = omega (arith, ints, there.positive, d.entries there.column) in
    omega (arith, covered_there y outer block there.column g (same_block x y there.column l ∙ there.there) positive)

only_in_first : (inner outer k : ℕ) → outer < 2 ^ 64 → k < 64 → bit_at (bit_and inner (bit_not w64 outer)) k ≡ 1 → (bit_at inner k ≡ 1) × (bit_at outer k ≡ 0)
only_in_first inner outer k room low set =
    let both : min (bit_at inner k) (bit_at (bit_not w64 outer) k) ≡ 1 = sym (bit_at_and inner (bit_not w64 outer) k) ∙ set in
    (omega (arith, both, bit_at-lt inner k, bit_at-lt (bit_not w64 outer) k), omega (arith, both, bit_at_not w64 outer k room low, bit_at-lt outer k))

pub not_dividing : (x y : List ℤ) (inner outer : ℕ) → inner < 2 ^ 64 → outer < 2 ^ 64 → length x ≡ length y → IsMask x inner → IsMask y outer → bit_and inner (bit_not w64 outer) ≢ 0 → Divides x y → ⊥
not_dividing x y inner outer fits room l h g some d = go (some_bit (bit_and inner (bit_not w64 outer)) (omega (arith, and_le_l inner (bit_not w64 outer))) some)
  where
    go : (k : ℕ) × (k < 64) × (bit_at (bit_and inner (bit_not w64 outer)) k ≡ 1) → ⊥
    go (k, low, set) =
        let bits = only_in_first inner outer k room low set in
        not_dividing_at x y outer k l (h.covered k bits.0) g bits.1 d

-- no block with entries of both
pub apart : (x y : List ℤ) (left right : ℕ) → length x ≡ length y → IsMask x left → IsMask y right → bit_and left right ≡ 0 → (c : ℕ) → pos 0 <ℤ entry x c → pos 0 <ℤ entry y c → ⊥
apart x y left right l h g none c p q =
    let in_left : bit_at left (block_of x c) ≡ 1 = h.covers c p in
    let in_right : bit_at right (block_of x c) ≡ 1 = covered_there y right (block_of x c) c g (same_block x y c l) q in
    let neither : bit_at (bit_and left right) (block_of x c) ≡ 0 = ap (λ n. bit_at n (block_of x c)) none ∙ bit_at-zero (block_of x c) in
    omega (arith, bit_at_and left right (block_of x c))

pub apart_disjoint : (x y : List ℤ) (left right : ℕ) → length x ≡ length y → ((c : ℕ) → pos 0 ≤ℤ entry x c) → ((c : ℕ) → pos 0 ≤ℤ entry y c) → IsMask x left → IsMask y right → bit_and left right ≡ 0 → AreDisjoint x y
apart_disjoint x y left right l m n h g none c =
    by_lt_z (pos 0) (entry x c) (λ p. by_lt_z (pos 0) (entry y c) (λ q. absurd (apart x y left right l h g none c p q)) (λ q. inr (only_zero (entry y c) (n c) q)))
    (λ p. inl (only_zero (entry x c) (m c) p))
  where
    only_zero : (a : ℤ) → pos 0 ≤ℤ a → a ≤ℤ pos 0 → a ≡ pos 0
    only_zero a h k = omega (arith, ints)

-- for up to 64 columns a block is a column
pub one_column : (x : List ℤ) (c : ℕ) → length x ≤ 64 → block_of x c ≡ c
one_column x c few = let e : block_width (length x) ≡ 1 = omega arith in ap (λ n. c / n) e ∙ div-one c

-- and the bit of a column is set where its entry is positive, and nowhere else
pub covers_column : (x : List ℤ) (mask c : ℕ) → length x ≤ 64 → IsMask x mask → pos 0 <ℤ entry x c → bit_at mask c ≡ 1
covers_column x mask c few h p = ap (bit_at mask) (sym (one_column x c few)) ∙ h.covers c p

pub positive_column : (x : List ℤ) (c : ℕ) → length x ≤ 64 → HasPositive x c → pos 0 <ℤ entry x c
positive_column x c few there = subst (λ (k : ℕ). pos 0 <ℤ entry x k) (sym (one_column x there.column few) ∙ there.there) there.positive

pub covered_column : (x : List ℤ) (mask c : ℕ) → length x ≤ 64 → IsMask x mask → bit_at mask c ≡ 1 → pos 0 <ℤ entry x c
covered_column x mask c few h b = positive_column x c few (h.covered c b)

not_disjoint_at : (x y : List ℤ) (k : ℕ) → length x ≡ length y → length x ≤ 64 → HasPositive x k → HasPositive y k → AreDisjoint x y → ⊥
not_disjoint_at x y k l few first second d =
    go (subst (λ (c : ℕ). pos 0 <ℤ entry x c) (sym (one_column x first.column few) ∙ first.there) first.positive)
    (subst (λ (c : ℕ). pos 0 <ℤ entry y c) (sym (one_column y second.column (omega arith)) ∙ second.there) second.positive) (d k)
  where
    go : pos 0 <ℤ entry x k → pos 0 <ℤ entry y k → (entry x k ≡ pos 0) ⊎ (entry y k ≡ pos 0) → ⊥
    go p q (inl e) = omega (arith, ints)
    go p q (inr e) = omega (arith, ints)

in_both : (left right k : ℕ) → bit_at (bit_and left right) k ≡ 1 → (bit_at left k ≡ 1) × (bit_at right k ≡ 1)
in_both left right k set =
    let both : min (bit_at left k) (bit_at right k) ≡ 1 = sym (bit_at_and left right k) ∙ set in
    (omega (arith, both, bit_at-lt left k, bit_at-lt right k), omega (arith, both, bit_at-lt left k, bit_at-lt right k))

pub not_apart : (x y : List ℤ) (left right : ℕ) → left < 2 ^ 64 → length x ≡ length y → length x ≤ 64 → IsMask x left → IsMask y right → bit_and left right ≢ 0 → AreDisjoint x y → ⊥
not_apart x y left right fits l few h g some d = go (some_bit (bit_and left right) (omega (arith, and_le_l left right)) some)
  where
    go : (k : ℕ) × (k < 64) × (bit_at (bit_and left right) k ≡ 1) → ⊥
    go (k, low, set) =
        let bits = in_both left right k set in
        not_disjoint_at x y k l few (h.covered k bits.0) (g.covered k bits.1) d

-- ---- an exact mask, which gives the whole of a vector
bit_in_second : (inner outer k : ℕ) → outer < 2 ^ 64 → k < 64 → bit_and inner (bit_not w64 outer) ≡ 0 → bit_at inner k ≡ 1 → bit_at outer k ≡ 1
bit_in_second inner outer k room low none set =
    let both : min (bit_at inner k) (bit_at (bit_not w64 outer) k) ≡ 0 = sym (bit_at_and inner (bit_not w64 outer) k) ∙ ap (λ n. bit_at n k) none ∙ bit_at-zero k in
    omega (arith, both, set, bit_at_not w64 outer k room low, bit_at-lt outer k)

-- it divides each nonnegative vector whose mask it lies within
pub exact_divides : (x y : List ℤ) (inner outer : ℕ) → outer < 2 ^ 64 → length x ≡ length y → HasExactMask x → ((c : ℕ) → pos 0 ≤ℤ entry y c) → IsMask x inner → IsMask y outer → bit_and inner (bit_not w64 outer) ≡ 0 → Divides x y
exact_divides x y inner outer room l exact nonnegative h g none = record { entries = λ c. by_lt_z (pos 0) (entry x c) (λ p. at c p) (λ q. omega (arith, ints, q, nonnegative c)) }
  where
    here : (c : ℕ) → pos 0 <ℤ entry x c → HasPositive y c
    here c p =
        let set : bit_at inner c ≡ 1 = ap (bit_at inner) (sym (one_column x c exact.few)) ∙ h.covers c p in
        g.covered c (bit_in_second inner outer c room (omega (arith, inside c p (cases_lt c (length x)), exact.few)) none set)
      where
        inside : (c : ℕ) → pos 0 <ℤ entry x c → (c < length x) ⊎ (length x ≤ c) → c < length x
        inside c p (inl l) = l
        inside c p (inr l) = let z = get_or_past x c (pos 0) l in absurd (omega (arith, ints))

    at : (c : ℕ) → pos 0 <ℤ entry x c → entry x c ≤ℤ entry y c
    at c p =
        let there = here c p in
        let column_is : there.column ≡ c = sym (one_column y there.column (omega (arith, l, exact.few))) ∙ there.there in
        let positive : pos 0 <ℤ entry y c = subst (λ (n : ℕ). pos 0 <ℤ entry y n) column_is there.positive in
        omega (arith, ints, positive, exact.squarefree c)
