-- Digits, and the number that they write.
use Rattle.std.proofs.Common.{◌≡◌, ℕ, ◌+◌, ◌*◌, ◌-◌, ◌<◌, min, true, false, ◌==◌, Bool, cond, List, [], ◌∷◌, length, get_or, take, inl, inr, refl, sym, ap, subst, ◌∙◌, arith}
use Rattle.std.specs.Char.{is_ascii_digit, digit_value}
use Rattle.std.specs.Str.Parse.{digits_value}
use Rattle.std.proofs.lemmas.Bool.{eqb-true, ne_eqb, false≢true}
use Rattle.std.proofs.lemmas.Bool.Decides.{nat_tests}
use Rattle.std.proofs.lemmas.Int.Digits.{digits_value_more}
use Rattle.mk_model.specs.Tables.{AreDigits, IsCount}
use Rattle.mk_model.specs.TableFaults.{CountAbove}
use Rattle.mk_model.proofs.TokenNumbers.{first_digit}
use Rattle.mk_files.specs.Numbers.{without_plus}

-- to hold a number at a limit and go on is to go on and hold it there
min-held : (value limit digit : ℕ) → min (min value limit * 10 + digit) limit ≡ min (value * 10 + digit) limit
min-held value limit digit = omega arith

digit_value-ascii : (c : ℕ) → is_ascii_digit c ≡ true → digit_value c ≡ c - 48
digit_value-ascii c h = grind (arith, nat_tests)

-- one more digit
pub digits_value-held : (digits : List ℕ) (i limit old digit : ℕ) (new : ℕ) → i < length digits → is_ascii_digit (get_or digits i 0) ≡ true → old ≡ min (digits_value 10 (take i digits)) limit → digit ≡ get_or digits i 0 - 48 → new ≡ min (old * 10 + digit) limit → new ≡ min (digits_value 10 (take (i + 1) digits)) limit
digits_value-held digits i limit old digit new more ascii is_old is_digit is_new =
    let value : digits_value 10 (take (i + 1) digits) ≡ digits_value 10 (take i digits) * 10 + digit = digits_value_more 10 digits i more ∙ ap (λ d. digits_value 10 (take i digits) * 10 + d) (digit_value-ascii _ ascii ∙ sym is_digit) in
    let held : min (min (digits_value 10 (take i digits)) limit * 10 + digit) limit ≡ min (digits_value 10 (take i digits) * 10 + digit) limit = min-held _ limit digit in
    cc

-- digits have no sign in front
no_plus : (b : ℕ) → is_ascii_digit b ≡ true → (b == 43) ≡ false
no_plus b h = ne_eqb b 43 (λ e. false≢true (ap is_ascii_digit (sym e) ∙ h))

without_plus-digits : (digits : List ℕ) → AreDigits digits → without_plus digits ≡ digits
without_plus-digits [] are = refl
without_plus-digits (b ∷ digits) are =
    ap (λ t. cond t digits (b ∷ digits)) (no_plus b (first_digit b digits are))

count_behind : (b : ℕ) (token : List ℕ) (t : Bool) → (b == 43) ≡ t → AreDigits (cond t token (b ∷ token)) → IsCount (b ∷ token) (digits_value 10 (cond t token (b ∷ token)))
count_behind b token true e are = (token, are, refl, inr (ap (λ c. c ∷ token) (eqb-true b 43 e)))
count_behind b token false e are = (b ∷ token, are, refl, inl refl)

-- a count is what the digits behind a plus write
pub IsCount-from : (token : List ℕ) → AreDigits (without_plus token) → IsCount token (digits_value 10 (without_plus token))
IsCount-from [] are = ([], are, refl, inl refl)
IsCount-from (b ∷ token) are = count_behind b token (b == 43) refl are

digits_of_count : (token : List ℕ) (n : ℕ) (count : IsCount token n) → without_plus token ≡ count.0
digits_of_count token n (digits, are, value, inl e) = ap without_plus e ∙ without_plus-digits digits are
digits_of_count token n (digits, are, value, inr e) = ap without_plus e

pub IsCount-digits : (token : List ℕ) (n : ℕ) → IsCount token n → AreDigits (without_plus token)
IsCount-digits token n count = subst AreDigits (sym (digits_of_count token n count)) count.1

pub IsCount-value : (token : List ℕ) (n : ℕ) → IsCount token n → n ≡ digits_value 10 (without_plus token)
IsCount-value token n count = count.2 ∙ ap (digits_value 10) (sym (digits_of_count token n count))

-- the number that is held at a limit is larger than a smaller one
pub CountAbove-held : (token digits : List ℕ) (most count limit : ℕ) → digits ≡ without_plus token → AreDigits digits → count ≡ min (digits_value 10 digits) limit → most < count → CountAbove most token
CountAbove-held token digits most count limit e are is above =
    (digits_value 10 (without_plus token), IsCount-from token (subst AreDigits e are), omega (arith, ap (digits_value 10) e))
