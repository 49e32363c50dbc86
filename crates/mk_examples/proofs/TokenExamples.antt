-- Tokens at the edges of the grammar, and white space.
use Rattle.std.proofs.Common.{◌≡◌, inl, inr, ℕ, List, [], ◌∷◌, ◌++◌, length, get_or, codes, All, ℤ, pos, true, false, arith, ap, refl, sym}
use Rattle.std.proofs.lemmas.Bool.{false≢true}
use Rattle.std.proofs.lemmas.List.Elements.{All-nil, All-cons}
use Rattle.std.proofs.lemmas.List.Sums.{AllPass-from_list_all}
use Rattle.mk_model.specs.Tables.{is_space, tokens, AreDigits, IsCount, IsNumber}
use Rattle.mk_model.proofs.TokenNumbers.{no_sign, minus_no_count}
use Rattle.mk_examples.proofs.TableExamples.{digits}

pub count_zero : IsCount (codes "+0") 0
count_zero = (codes "0", digits (codes "0") (omega arith) refl, refl, inr refl)

pub plus_zero : IsNumber (codes "+0") (pos 0)
plus_zero = inl (0, refl, count_zero)

pub minus_zero : IsNumber (codes "-0") (pos 0)
minus_zero = inr (codes "0", digits (codes "0") (omega arith) refl, refl, refl)

-- digits are some, and begin with no sign
no_digits : (ds : List ℕ) → AreDigits ds → [] ≡ ds → ⊥
no_digits ds are e = omega (arith, are.some, ap (λ (t : List ℕ). length t) e)

heads_apart : (b c : ℕ) (s t : List ℕ) → (b ≡ c → ⊥) → b ∷ s ≡ c ∷ t → ⊥
heads_apart b c s t apart e = apart (ap (λ (t : List ℕ). get_or t 0 0) e)

rests : (b : ℕ) (s t : List ℕ) → b ∷ s ≡ b ∷ t → s ≡ t
rests b s t e = cc

pub no_count : (n : ℕ) → ¬ (IsCount (codes "-0") n)
no_count n h = minus_no_count (codes "0") n h

pub plus : (z : ℤ) → ¬ (IsNumber (codes "+") z)
plus z (inl (n, v, (ds, are, w, inl e))) = no_sign 43 [] ds false≢true are (sym e)
plus z (inl (n, v, (ds, are, w, inr e))) = no_digits ds are (rests 43 [] ds e)
plus z (inr (ds, are, v, e)) = heads_apart 43 45 [] ds (λ h. omega (arith, h)) e

pub minus : (z : ℤ) → ¬ (IsNumber (codes "-") z)
minus z (inl (n, v, h)) = minus_no_count [] n h
minus z (inr (ds, are, v, e)) = no_digits ds are (rests 45 [] ds e)

pub plus_minus : (z : ℤ) → ¬ (IsNumber (codes "+-1") z)
plus_minus z (inl (n, v, (ds, are, w, inl e))) = no_sign 43 (codes "-1") ds false≢true are (sym e)
plus_minus z (inl (n, v, (ds, are, w, inr e))) = no_sign 45 (codes "1") ds false≢true are (sym (rests 43 (codes "-1") ds e))
plus_minus z (inr (ds, are, v, e)) = heads_apart 43 45 (codes "-1") ds (λ h. omega (arith, h)) e

pub spaces : All (λ b. is_space b ≡ true) (9 ∷ 10 ∷ 11 ∷ 12 ∷ 13 ∷ 32 ∷ [])
spaces = AllPass-from_list_all is_space (9 ∷ 10 ∷ 11 ∷ 12 ∷ 13 ∷ 32 ∷ []) refl

NoSpace : ℕ → Type 0
NoSpace b = is_space b ≡ false

pub no_spaces : All (λ b. is_space b ≡ false) (0 ∷ 8 ∷ 14 ∷ 31 ∷ 33 ∷ 133 ∷ 160 ∷ [])
unfolding NoSpace
no_spaces =
    All-cons NoSpace 0 (8 ∷ 14 ∷ 31 ∷ 33 ∷ 133 ∷ 160 ∷ []) refl (All-cons NoSpace 8 (14 ∷ 31 ∷ 33 ∷ 133 ∷ 160 ∷ []) refl
    (All-cons NoSpace 14 (31 ∷ 33 ∷ 133 ∷ 160 ∷ []) refl (All-cons NoSpace 31 (33 ∷ 133 ∷ 160 ∷ []) refl
    (All-cons NoSpace 33 (133 ∷ 160 ∷ []) refl (All-cons NoSpace 133 (160 ∷ []) refl (All-cons NoSpace 160 [] refl (All-nil NoSpace)))))))

pub split : tokens (codes "1" ++ 11 ∷ codes "2" ++ 12 ∷ 8 ∷ 14 ∷ []) ≡ codes "1" ∷ codes "2" ∷ (8 ∷ 14 ∷ []) ∷ []
unfolding tokens
split = refl
