-- The entries that a mask gives, and those that it doesn't.
use Rattle.std.proofs.Common.{◌≡◌, ◌⊎◌, inl, inr, ℕ, ◌<◌, ◌≤◌, List, length, arith, sym, ap, ◌∙◌, subst, ℤ, pos, ◌≤ℤ◌, ◌<ℤ◌}
use Rattle.std.specs.Int.{bit_at, int_max}
use Rattle.std.proofs.lemmas.Int.{ints, clamps, by_lt_z}
use Rattle.std.proofs.lemmas.Nat.Bits.{bit_at-lt}
use Rattle.std.proofs.lemmas.Bool.{cases_lt}
use Rattle.mk_model.specs.Vectors.{entry, positive_part}
use Rattle.mk_model.proofs.VectorAlgebra.{entry-positive_part, length-positive_part}
use Rattle.mk_move.specs.Masks.{HasPositive, IsMask, entry_by_mask, least_unmasked}
use Rattle.mk_move.proofs.MaskTests.{covers_column, positive_column, covered_column}

none_given : (n mask c : ℕ) → 64 < n → entry_by_mask n mask c ≡ pos 0
none_given n mask c l = grind arith

bit_given : (n mask c : ℕ) → n ≤ 64 → entry_by_mask n mask c ≡ pos (bit_at mask c)
bit_given n mask c l = grind arith

least_many : (n : ℕ) → 64 < n → least_unmasked n ≡ pos 1
least_many n l = grind arith

least_few : (n : ℕ) → n ≤ 64 → least_unmasked n ≡ pos 2
least_few n l = grind arith

pub least_positive : (n : ℕ) → pos 1 ≤ℤ least_unmasked n
least_positive n = elim (cases_lt 64 n) [ inl l ↦ omega (arith, ints, least_many n l) | inr l ↦ omega (arith, ints, least_few n l) ]

-- a bit is set or not
bit_cases : (mask c : ℕ) → (bit_at mask c ≡ 1) ⊎ (bit_at mask c ≡ 0)
bit_cases mask c = elim (cases_lt 0 (bit_at mask c)) [
  | inl l ↦ inl (omega (arith, bit_at-lt mask c))
  | inr l ↦ inr (omega arith)
]

-- a mask gives the entries of the positive part below the least that it doesn't
pub given_below : (row : List ℤ) (mask c : ℕ) → IsMask (positive_part row) mask → entry row c <ℤ least_unmasked (length row) → entry_by_mask (length row) mask c ≡ int_max (entry row c) (pos 0)
given_below row mask c h small = elim (cases_lt 64 (length row)) [ inl l ↦ many l | inr l ↦ few l (bit_cases mask c) ]
  where
    many : 64 < length row → entry_by_mask (length row) mask c ≡ int_max (entry row c) (pos 0)
    many l = omega (arith, ints, clamps, none_given (length row) mask c l, least_many (length row) l)

    few : length row ≤ 64 → (bit_at mask c ≡ 1) ⊎ (bit_at mask c ≡ 0) → entry_by_mask (length row) mask c ≡ int_max (entry row c) (pos 0)
    few l (inl e) =
        let p : pos 0 <ℤ entry (positive_part row) c = covered_column (positive_part row) mask c (omega (arith, length-positive_part row)) h e in
        let q : entry_by_mask (length row) mask c ≡ pos 1 = bit_given (length row) mask c l ∙ ap pos e in
        omega (arith, ints, clamps, p, q, small, least_few (length row) l, entry-positive_part row c)
    few l (inr e) =
        let q : entry_by_mask (length row) mask c ≡ pos 0 = bit_given (length row) mask c l ∙ ap pos e in
        by_lt_z (pos 0) (entry row c) (λ p.
        let set : bit_at mask c ≡ 1 = covers_column (positive_part row) mask c (omega (arith, length-positive_part row)) h (omega (arith, ints, clamps, entry-positive_part row c)) in
        absurd (omega (arith, set, e))) (λ p. omega (arith, ints, clamps, q))

-- what a mask gives is within a vector that has an entry in each of its blocks
pub given_within : (mask c : ℕ) (y : List ℤ) → ((c : ℕ) → pos 0 ≤ℤ entry y c) → ((c : ℕ) → bit_at mask c ≡ 1 → HasPositive y c) → entry_by_mask (length y) mask c ≤ℤ entry y c
given_within mask c y least some = elim (cases_lt 64 (length y)) [
  | inl m ↦ subst (λ (z : ℤ). z ≤ℤ entry y c) (sym (none_given (length y) mask c m)) (least c)
  | inr m ↦ elim (bit_cases mask c) [
    | inl e ↦
        let there : pos 0 <ℤ entry y c = positive_column y c m (some c e) in
        let is : entry_by_mask (length y) mask c ≡ pos 1 = bit_given (length y) mask c m ∙ ap pos e in
        omega (arith, ints, there, is)
    | inr e ↦ subst (λ (z : ℤ). z ≤ℤ entry y c) (sym (bit_given (length y) mask c m ∙ ap pos e)) (least c)
  ]
]
