-- The one number that a token writes.
use Rattle.std.proofs.Common.{◌≡◌, ℕ, List, ◌∷◌, get_or, true, ℤ, pos, neg_ℤ, inl, inr, sym, ap, subst, ◌∙◌, arith}
use Rattle.std.specs.Char.{is_ascii_digit}
use Rattle.std.specs.Str.Parse.{digits_value}
use Rattle.std.proofs.lemmas.Bool.{false≢true}
use Rattle.std.proofs.lemmas.List.Elements.{All-head}
use Rattle.mk_model.specs.Tables.{AreDigits, IsCount, IsNumber}

-- digits begin with a digit
pub first_digit : (b : ℕ) (digits : List ℕ) → AreDigits (b ∷ digits) → is_ascii_digit b ≡ true
first_digit b digits are = All-head (λ c. is_ascii_digit c ≡ true) b digits are.each

pub no_sign : (b : ℕ) (digits token : List ℕ) → (is_ascii_digit b ≡ true → ⊥) → AreDigits token → token ≡ b ∷ digits → ⊥
no_sign b digits token sign are e = sign (first_digit b digits (subst AreDigits e are))

pub IsCount-same : (token : List ℕ) (m n : ℕ) → IsCount token m → IsCount token n → m ≡ n
IsCount-same token m n (ds, are, is, inl e) (es, too, same, inl f) = is ∙ ap (digits_value 10) (sym e ∙ f) ∙ sym same
IsCount-same token m n (ds, are, is, inl e) (es, too, same, inr f) = absurd (no_sign 43 es ds false≢true are (sym e ∙ f))
IsCount-same token m n (ds, are, is, inr e) (es, too, same, inl f) = absurd (no_sign 43 ds es false≢true too (sym f ∙ e))
IsCount-same token m n (ds, are, is, inr e) (es, too, same, inr f) =
    let both : ds ≡ es = cc in
    is ∙ ap (digits_value 10) both ∙ sym same

-- nothing with a minus in front is a count
pub minus_no_count : (digits : List ℕ) (n : ℕ) → IsCount (45 ∷ digits) n → ⊥
minus_no_count digits n (ds, are, is, inl e) = no_sign 45 digits ds false≢true are (sym e)
minus_no_count digits n (ds, are, is, inr e) = absurd (omega (arith, ap (λ (t : List ℕ). get_or t 0 0) e))

pub IsNumber-same : (token : List ℕ) (y z : ℤ) → IsNumber token y → IsNumber token z → y ≡ z
IsNumber-same token y z (inl (m, y_is, y_count)) (inl (n, z_is, z_count)) =
    y_is ∙ ap pos (IsCount-same token m n y_count z_count) ∙ sym z_is
IsNumber-same token y z (inl (m, y_is, y_count)) (inr (digits, are, z_is, same)) =
    let P : List ℕ → Type 0 = λ t. IsCount t m in
    absurd (minus_no_count digits m (subst P same y_count))
IsNumber-same token y z (inr (digits, are, y_is, same)) (inl (n, z_is, z_count)) =
    let P : List ℕ → Type 0 = λ t. IsCount t n in
    absurd (minus_no_count digits n (subst P same z_count))
IsNumber-same token y z (inr (digits, are, y_is, same)) (inr (others, z_are, z_is, z_same)) =
    let e : digits ≡ others = cc in
    y_is ∙ ap (λ ds. neg_ℤ (pos (digits_value 10 ds))) e ∙ sym z_is
