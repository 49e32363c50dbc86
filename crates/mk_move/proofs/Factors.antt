-- Which products are formed where a multiple is taken off: those that fit 128 bits. The others are out of range.
use Rattle.std.proofs.Common.{◌≡◌, ◌⊎◌, All, List, length, ℕ, ◌+◌, ◌*◌, ◌/◌, ◌<◌, ◌≤◌, ◌^◌, inl, inr, ℤ, pos, negsuc, ◌-ℤ◌, ◌*ℤ◌, unsigned_abs, arith, ap, sym, ◌∙◌, subst}
use mir.Syntax.{w128}
use mir.Val.{SFits, to_z, of_z}
use Rattle.std.proofs.Math.Nat.{mul-le-mul_left, le-div_iff_mul-le}
use Rattle.std.proofs.lemmas.Bool.{cases_lt}
use Rattle.std.proofs.lemmas.Int.{ints, to_z-of_z, unsigned_abs-mul, fits_signed_from_abs}
use Rattle.mk_model.specs.Vectors.{entry, IsEntry}
use Rattle.mk_model.specs.Overflows.{IsBeyond}
use Rattle.mk_move.specs.Steps.{AreFormed}
use Rattle.mk_move.proofs.Entries.{as_entry, most_entry, abs_bounds, abs_from_bounds, IsEntry-abs, entry_read}

-- a difference from a number that is more than twice out of range
beyond_far : (left p : ℤ) → IsEntry left → 2 * most_entry < unsigned_abs p → IsBeyond (left -ℤ p)
beyond_far left (pos n) h l = inl (omega (arith, ints, h.1))
beyond_far left (negsuc n) h l = inr (omega (arith, ints, h.0))

-- with a small number each product of an entry fits
pub all_formed : (times : ℤ) (y : List ℤ) → unsigned_abs times * most_entry ≤ 2 ^ 126 → All IsEntry y → AreFormed y times (length y)
all_formed times y h range = record {
  within = omega arith;
  fits = λ c l. omega (arith, h, mul-le-mul_left (unsigned_abs times) (IsEntry-abs (entry y c) (range c (pos 0) l)));
  beyond = λ l. absurd (omega arith);
}

-- up to the quotient of twice the largest entry a product fits
pub quotient_fits : (times right : ℤ) → 0 < unsigned_abs times → unsigned_abs right ≤ 2 * most_entry / unsigned_abs times → unsigned_abs times * unsigned_abs right ≤ 2 ^ 126
quotient_fits times right some h = omega (arith, (le-div_iff_mul-le some).0 h)

-- and a greater entry is too far away
pub quotient_far : (times left right : ℤ) → 0 < unsigned_abs times → IsEntry left → 2 * most_entry / unsigned_abs times < unsigned_abs right → IsBeyond (left -ℤ (times *ℤ right))
quotient_far times left right some range more = beyond_far left (times *ℤ right) range (far (cases_lt (2 * most_entry) (unsigned_abs right * unsigned_abs times)))
  where
    far : (2 * most_entry < unsigned_abs right * unsigned_abs times) ⊎ (unsigned_abs right * unsigned_abs times ≤ 2 * most_entry) → 2 * most_entry < unsigned_abs (times *ℤ right)
    far (inl l) = omega (arith, l, unsigned_abs-mul times right)
    far (inr l) = absurd (omega (arith, more, (le-div_iff_mul-le some).1 l))

pub formed_up_to : (times : ℤ) (y : List ℤ) (n : ℕ) → 0 < unsigned_abs times → n ≤ length y → ((c : ℕ) → c < n → unsigned_abs (entry y c) ≤ 2 * most_entry / unsigned_abs times) →
    (n < length y → 2 * most_entry / unsigned_abs times < unsigned_abs (entry y n)) → AreFormed y times n
formed_up_to times y n some within small far = record {
  within = within;
  fits = λ c l. quotient_fits times (entry y c) some (small c l);
  beyond = λ l left range. quotient_far times left (entry y n) some range (far l);
}

-- a product that is formed, and the difference from it: as the code has them, they fit and are what they say
pub record IsFormed (left times right : ℤ) : Type 0 where
  pub product : SFits w128 (as_entry times *ℤ as_entry right)
  pub difference : SFits w128 (as_entry left -ℤ to_z w128 (of_z w128 (as_entry times *ℤ as_entry right)))
  pub value : to_z w128 (of_z w128 (as_entry left -ℤ to_z w128 (of_z w128 (as_entry times *ℤ as_entry right)))) ≡ left -ℤ (times *ℤ right)

pub formed : (left times right : ℤ) → IsEntry left → IsEntry times → IsEntry right → unsigned_abs times * unsigned_abs right ≤ 2 ^ 126 → IsFormed left times right
formed left times right h k l fits = record {
  product = subst (SFits w128) (sym product_is) product_fits;
  difference = subst (SFits w128) (sym difference_is) difference_fits;
  value = ap (λ u. to_z w128 (of_z w128 u)) difference_is ∙ to_z-of_z w128 (left -ℤ (times *ℤ right)) difference_fits;
}
  where
    size : unsigned_abs (times *ℤ right) ≤ 2 ^ 126
    size = omega (arith, unsigned_abs-mul times right, fits)

    product_is : as_entry times *ℤ as_entry right ≡ times *ℤ right
    product_is = ap (λ u. u *ℤ as_entry right) (entry_read times k) ∙ ap (λ u. times *ℤ u) (entry_read right l)

    product_fits : SFits w128 (times *ℤ right)
    product_fits = fits_signed_from_abs w128 (times *ℤ right) (omega (arith, size))

    difference_is : as_entry left -ℤ to_z w128 (of_z w128 (as_entry times *ℤ as_entry right)) ≡ left -ℤ (times *ℤ right)
    difference_is =
        ap (λ u. as_entry left -ℤ u) (ap (λ u. to_z w128 (of_z w128 u)) product_is ∙ to_z-of_z w128 (times *ℤ right) product_fits)
        ∙ ap (λ u. u -ℤ (times *ℤ right)) (entry_read left h)

    difference_fits : SFits w128 (left -ℤ (times *ℤ right))
    difference_fits =
        let bounds = abs_bounds (times *ℤ right) (2 ^ 126) size in
        fits_signed_from_abs w128 (left -ℤ (times *ℤ right))
        (omega (arith, abs_from_bounds (left -ℤ (times *ℤ right)) (2 ^ 126 + most_entry) (omega (arith, ints, h.0, bounds.1)) (omega (arith, ints, h.1, bounds.0))))
