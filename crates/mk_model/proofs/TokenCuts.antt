-- Where a text is cut in front of white space, its tokens are those of the two parts.
use Rattle.std.proofs.Common.{◌≡◌, Bool, true, false, cond, ℕ, zero, suc, List, [], ◌∷◌, ◌++◌, take, drop, All, refl, sym, ap, ◌∙◌}
use Rattle.std.proofs.lemmas.Bool.{false≢true}
use Rattle.std.proofs.lemmas.List.Elements.{All-head, All-tail}
use Rattle.mk_model.specs.Tables.{is_space, begins_with_space, with_first, tokens}

-- the tokens of a text that begins with a byte, by what the byte is and what follows it
unfoldable pub tokens_by : ℕ → List ℕ → Bool → Bool → List (List ℕ)
tokens_by b bytes white ends =
    cond white (tokens bytes) (cond ends ((b ∷ []) ∷ tokens bytes) (with_first b (tokens bytes)))

pub tokens-cons : (b : ℕ) (bytes : List ℕ) → tokens (b ∷ bytes) ≡ tokens_by b bytes (is_space b) (begins_with_space bytes)
unfolding tokens tokens_by
tokens-cons b bytes = refl

-- a text that does not begin with white space has a token
some_token : (bytes : List ℕ) → begins_with_space bytes ≡ false → (token : List ℕ) × (words : List (List ℕ))
    × (tokens bytes ≡ token ∷ words)
unfolding tokens_by
some_token [] h = absurd (false≢true (sym h))
some_token (b ∷ bytes) h =
    let e : tokens (b ∷ bytes) ≡ tokens_by b bytes false (begins_with_space bytes) = tokens-cons b bytes
    ∙ ap (λ t. tokens_by b bytes t (begins_with_space bytes)) h in
    go (begins_with_space bytes) (tokens bytes) e
  where
    go : (ends : Bool) (words : List (List ℕ)) → tokens (b ∷ bytes) ≡ cond ends ((b ∷ []) ∷ words) (with_first b words) → (token : List ℕ)
        × (rest : List (List ℕ)) × (tokens (b ∷ bytes) ≡ token ∷ rest)
    go true words e = (b ∷ [], words, e)
    go false [] e = (b ∷ [], [], e)
    go false (word ∷ words) e = (b ∷ word, words, e)

begins-append : (xs ys : List ℕ) → begins_with_space ys ≡ true → begins_with_space (xs ++ ys) ≡ begins_with_space xs
begins-append [] ys h = h
begins-append (x ∷ xs) ys h = refl

with_first-append : (x : ℕ) (words others : List (List ℕ)) (token : List ℕ) (rest : List (List ℕ)) → words ≡ token ∷ rest →
    with_first x (words ++ others) ≡ with_first x words ++ others
with_first-append x [] others token rest e = cc
with_first-append x (word ∷ words) others token rest e = refl

pub tokens-append : (xs ys : List ℕ) → begins_with_space ys ≡ true → tokens (xs ++ ys) ≡ tokens xs ++ tokens ys
unfolding tokens tokens_by
tokens-append [] ys h = refl
tokens-append (x ∷ xs) ys h =
    ap (tokens_by x (xs ++ ys) (is_space x)) (begins-append xs ys h)
    ∙ go (is_space x) (begins_with_space xs) refl (tokens-append xs ys h)
  where
    go : (white ends : Bool) → begins_with_space xs ≡ ends → tokens (xs ++ ys) ≡ tokens xs ++ tokens ys →
        tokens_by x (xs ++ ys) white ends ≡ tokens_by x xs white ends ++ tokens ys
    go true ends e rest = rest
    go false true e rest = ap (λ (ts : List (List ℕ)). (x ∷ []) ∷ ts) rest
    go false false e rest =
        let some = some_token xs e in
        ap (with_first x) rest ∙ with_first-append x (tokens xs) (tokens ys) some.0 some.1 some.2

-- white space has no tokens
pub tokens-white_all : (bytes : List ℕ) → All (λ b. is_space b ≡ true) bytes → tokens bytes ≡ []
unfolding tokens tokens_by
tokens-white_all [] white = refl
tokens-white_all (b ∷ bytes) white =
    let P : ℕ → Type 0 = λ c. is_space c ≡ true in
    ap (λ t. tokens_by b bytes t (begins_with_space bytes)) (All-head P b bytes white)
    ∙ tokens-white_all bytes (All-tail P b bytes white)

-- white space at the front is skipped
pub tokens-white : (k : ℕ) (bytes : List ℕ) → All (λ b. is_space b ≡ true) (take k bytes) → tokens bytes ≡ tokens (drop k bytes)
unfolding tokens tokens_by
tokens-white zero bytes white = refl
tokens-white (suc k) [] white = refl
tokens-white (suc k) (b ∷ bytes) white =
    let P : ℕ → Type 0 = λ c. is_space c ≡ true in
    ap (λ t. tokens_by b bytes t (begins_with_space bytes)) (All-head P b (take k bytes) white)
    ∙ tokens-white k bytes (All-tail P b (take k bytes) white)
