-- Tokens, and the one number that a token writes.
use Rattle.std.proofs.Common.{◌≡◌, ℕ, ◌<ℤ◌, List, ◌∷◌, get_or, ℤ, pos, neg_ℤ, inl, inr, refl, sym, ap, subst, ◌∙◌, arith}
use Rattle.std.specs.Str.Parse.{digits_value}
use Rattle.std.proofs.lemmas.Int.{ints}
use Rattle.mk_model.specs.declared.TheConstants.{ENTRY_MAX}
use Rattle.mk_model.specs.Tables.{AreDigits, IsNumber}
use Rattle.mk_model.proofs.TokenNumbers.{minus_no_count}
use Rattle.mk_files.specs.Numbers.{without_plus, NumberBeyond}
use Rattle.mk_files.proofs.DigitsRead.{IsCount-from, IsCount-digits, IsCount-value}

-- behind a minus stand digits
pub minus_digits : (digits : List ℕ) (z : ℤ) → IsNumber (45 ∷ digits) z → AreDigits digits × (z ≡ neg_ℤ (pos (digits_value 10 digits)))
minus_digits digits z (inl (n, is, count)) = absurd (minus_no_count digits n count)
minus_digits digits z (inr (other, are, is, same)) =
    let e : digits ≡ other = cc in
    (subst AreDigits (sym e) are, is ∙ ap (λ ds. neg_ℤ (pos (digits_value 10 ds))) (sym e))

pub IsNumber-minus : (digits : List ℕ) → AreDigits digits → IsNumber (45 ∷ digits) (neg_ℤ (pos (digits_value 10 digits)))
IsNumber-minus digits are = inr (digits, are, refl, refl)

-- any other number is a count
pub other_digits : (token : List ℕ) (z : ℤ) → (get_or token 0 0 ≡ 45 → ⊥) → IsNumber token z → AreDigits (without_plus token) × (z ≡ pos (digits_value 10 (without_plus token)))
other_digits token z other (inl (n, is, count)) =
    (IsCount-digits token n count, is ∙ ap pos (IsCount-value token n count))
other_digits token z other (inr (digits, are, is, same)) = absurd (other (ap (λ t. get_or t 0 0) same))

pub IsNumber-other : (token : List ℕ) → AreDigits (without_plus token) → IsNumber token (pos (digits_value 10 (without_plus token)))
IsNumber-other token are = inl (digits_value 10 (without_plus token), refl, IsCount-from token are)

-- the digits of a number too large for an entry
pub minus_beyond : (digits : List ℕ) → AreDigits digits × (ENTRY_MAX <ℤ pos (digits_value 10 digits)) → NumberBeyond (45 ∷ digits)
minus_beyond digits (are, large) =
    (neg_ℤ (pos (digits_value 10 digits)), IsNumber-minus digits are, inl (omega (arith, ints)))

pub other_beyond : (token digits : List ℕ) → digits ≡ without_plus token → AreDigits digits × (ENTRY_MAX <ℤ pos (digits_value 10 digits)) → NumberBeyond token
other_beyond token digits e (are, large) =
    (pos (digits_value 10 (without_plus token)), IsNumber-other token (subst AreDigits e are), inr (omega (arith, ints, ap (digits_value 10) e)))
