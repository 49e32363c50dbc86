-- A token begins at one byte, since the tokens in front of it have all bytes in front of it that are not white.
use Rattle.std.proofs.Common.{◌≡◌, ℕ, zero, suc, ◌+◌, ◌<◌, Bool, true, false, cond, List, [], ◌∷◌, ◌++◌, length, get_or, take, inl, inr}
use Rattle.std.proofs.Common.{refl, sym, ap, ◌∙◌, length-append, arith}
use Rattle.std.proofs.lemmas.Bool.{cases_lt}
use Rattle.std.proofs.lemmas.List.{take_all}
use Rattle.mk_model.specs.Tables.{is_space, begins_with_space, with_first, tokens}
use Rattle.mk_model.specs.TableFaults.{TokenAt}

-- the bytes of the tokens, and the bytes of a text that are not white
letters : List (List ℕ) → ℕ
letters [] = 0
letters (token ∷ words) = length token + letters words

not_white : List ℕ → ℕ
not_white [] = 0
not_white (b ∷ bytes) = cond (is_space b) (not_white bytes) (suc (not_white bytes))

letters-first : (b : ℕ) (words : List (List ℕ)) → letters (with_first b words) ≡ suc (letters words)
unfolding letters
letters-first b [] = omega arith
letters-first b (token ∷ words) = omega arith

letters_by : (b : ℕ) (bytes : List ℕ) (white ends : Bool) → letters (tokens bytes) ≡ not_white bytes →
    letters (cond white (tokens bytes) (cond ends ((b ∷ []) ∷ tokens bytes) (with_first b (tokens bytes)))) ≡ cond white (not_white bytes)
    (suc (not_white bytes))
unfolding letters
letters_by b bytes true ends h = h
letters_by b bytes false true h = omega arith
letters_by b bytes false false h = letters-first b (tokens bytes) ∙ ap (λ n. suc n) h

letters-tokens : (bytes : List ℕ) → letters (tokens bytes) ≡ not_white bytes
unfolding tokens letters not_white
letters-tokens [] = refl
letters-tokens (b ∷ bytes) = letters_by b bytes (is_space b) (begins_with_space bytes) (letters-tokens bytes)

-- two bytes that are not white, with as many such bytes in front, are one
one_byte : (bytes : List ℕ) (j k : ℕ) → j < length bytes → k < length bytes → is_space (get_or bytes j 0) ≡ false →
    is_space (get_or bytes k 0) ≡ false → not_white (take j bytes) ≡ not_white (take k bytes) → j ≡ k
unfolding not_white
one_byte [] j k j_in k_in j_is k_is e = absurd (omega arith)
one_byte (b ∷ bytes) zero zero j_in k_in j_is k_is e = refl
one_byte (b ∷ bytes) zero (suc k) j_in k_in j_is k_is e =
    let more : 0 ≡ suc (not_white (take k bytes)) = e ∙ ap (λ t. cond t (not_white (take k bytes)) (suc (not_white (take k bytes)))) j_is in
    absurd (omega arith)
one_byte (b ∷ bytes) (suc j) zero j_in k_in j_is k_is e =
    let more : 0 ≡ suc (not_white (take j bytes)) = sym e ∙ ap (λ t. cond t (not_white (take j bytes)) (suc (not_white (take j bytes))))
    k_is in
    absurd (omega arith)
one_byte (b ∷ bytes) (suc j) (suc k) j_in k_in j_is k_is e =
    ap (λ n. suc n) (one_byte bytes j k (omega arith) (omega arith) j_is k_is (cancel (is_space b) e))
  where
    cancel : (white : Bool) → cond white (not_white (take j bytes)) (suc (not_white (take j bytes))) ≡ cond white (not_white (take k bytes))
        (suc (not_white (take k bytes))) → not_white (take j bytes) ≡ not_white (take k bytes)
    cancel true h = h
    cancel false h = omega arith

-- the byte of a token is one of the text
pub byte_within : (bytes : List ℕ) (byte : ℕ) (front : List (List ℕ)) (token : List ℕ) → TokenAt bytes byte front token →
    byte < length bytes
byte_within bytes byte front token at = elim (cases_lt byte (length bytes)) [
  | inl less ↦ less
  | inr all ↦
      let same : front ++ token ∷ at.rest ≡ front = sym at.whole ∙ ap tokens (sym (take_all byte bytes all)) ∙ at.in_front in
      absurd (omega (arith, ap length same, length-append front (token ∷ at.rest)))
]

pub same_byte : (bytes : List ℕ) (j k : ℕ) (front : List (List ℕ)) (token other : List ℕ) → TokenAt bytes j front token →
    TokenAt bytes k front other → j ≡ k
same_byte bytes j k front token other at too =
    one_byte bytes j k (byte_within bytes j front token at) (byte_within bytes k front other too) at.begins too.begins
    (sym (letters-tokens (take j bytes)) ∙ ap letters (at.in_front ∙ sym too.in_front) ∙ letters-tokens (take k bytes))
