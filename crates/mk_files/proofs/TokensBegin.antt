-- The next token behind a byte where the text is cut.
use Rattle.std.proofs.Common.{◌≡◌, ◌≢◌, ℕ, zero, suc, ◌+◌, ◌-◌, ◌<◌, Bool, true, false, List, [], ◌∷◌, ◌++◌, length, get_or, take, drop, All, slice_range, inl, inr, refl, sym, ap, ◌∙◌, add-zero, append_assoc, arith}
use Rattle.std.proofs.lemmas.Bool.{cases_lt}
use Rattle.std.proofs.lemmas.List.{append-nil, append_cancel_right, drop_all, drop_more, drop-drop, get_or-drop, length-drop, take_all, take-append-drop}
use Rattle.std.proofs.lemmas.List.Elements.{All-head, All-tail}
use Rattle.std.proofs.Math.Seq.{take-add}
use Rattle.mk_model.specs.Tables.{is_space, begins_with_space, with_first, tokens}
use Rattle.mk_model.proofs.TokenCuts.{tokens_by, tokens-append, tokens-white, tokens-white_all}
use Rattle.mk_files.specs.declared.tokens.Token.{Token}
use Rattle.mk_files.specs.Tokens.{IsStretch, IsTokenCut, IsNextToken}

not_false : (b : Bool) → b ≢ false → b ≡ true
not_false true h = refl
not_false false h = absurd (h refl)

not_true : (b : Bool) → b ≢ true → b ≡ false
not_true false h = refl
not_true true h = absurd (h refl)

-- a token goes on where its next byte is not white
goes_on : (k : ℕ) (bytes : List ℕ) → k < length bytes → All (λ b. is_space b ≡ false) (take (suc k) bytes) → begins_with_space bytes ≡ false
goes_on k [] h word = absurd (omega arith)
goes_on k (b ∷ bytes) h word = All-head (λ c. is_space c ≡ false) b (take k bytes) word

-- bytes that are not white, up to white space or the end, are the first token
tokens-first : (k : ℕ) (bytes : List ℕ) → k < length bytes → All (λ b. is_space b ≡ false) (take (suc k) bytes) → begins_with_space (drop (suc k) bytes) ≡ true → tokens bytes ≡ take (suc k) bytes ∷ tokens (drop (suc k) bytes)
unfolding tokens tokens_by
tokens-first k [] h word ends = absurd (omega arith)
tokens-first zero (b ∷ bytes) h word ends =
    ap (λ t. tokens_by b bytes t (begins_with_space bytes)) (All-head (λ c. is_space c ≡ false) b [] word)
    ∙ ap (tokens_by b bytes false) ends
tokens-first (suc k) (b ∷ bytes) h word ends =
    let P : ℕ → Type 0 = λ c. is_space c ≡ false in
    let rest : All P (take (suc k) bytes) = All-tail P b (take (suc k) bytes) word in
    ap (λ t. tokens_by b bytes t (begins_with_space bytes)) (All-head P b (take (suc k) bytes) word)
    ∙ ap (tokens_by b bytes false) (goes_on k bytes (omega arith) rest)
    ∙ ap (with_first b) (tokens-first k bytes (omega arith) rest ends)

-- behind a run of bytes white space stands, or a byte that is not white, or the text ends
begins_at : (k : ℕ) (bytes : List ℕ) → (k < length bytes → is_space (get_or bytes k 0) ≡ true) → begins_with_space (drop k bytes) ≡ true
begins_at k bytes h = elim (cases_lt k (length bytes)) [
  | inl more ↦ ap begins_with_space (drop_more bytes k 0 more) ∙ h more
  | inr all ↦ ap begins_with_space (drop_all k bytes all)
]

word_run : (len : ℕ) (bytes : List ℕ) → 0 < length bytes → is_space (get_or bytes 0 0) ≡ false → IsStretch bytes false len → (begins_with_space (drop len bytes) ≡ true) × (tokens bytes ≡ take len bytes ∷ tokens (drop len bytes))
word_run zero bytes some word run = absurd (run.longest some word)
word_run (suc k) bytes some word run =
    let ends : begins_with_space (drop (suc k) bytes) ≡ true = begins_at (suc k) bytes (λ more. not_false _ (run.longest more)) in
    (ends, tokens-first k bytes (omega (arith, run.within)) run.same ends)

-- ---- cuts
pub cut_start : (bytes : List ℕ) → IsTokenCut bytes 0
unfolding tokens
cut_start bytes = record { within = omega arith; whole = refl }

cut_at : (bytes : List ℕ) (k : ℕ) → k < length bytes + 1 → begins_with_space (drop k bytes) ≡ true → IsTokenCut bytes k
cut_at bytes k within ends = record {
  within = omega arith;
  whole = ap tokens (sym (take-append-drop k bytes)) ∙ tokens-append (take k bytes) (drop k bytes) ends;
}

-- white space behind a cut has no token
white_behind : (bytes : List ℕ) (from white : ℕ) → IsStretch (drop from bytes) true white → tokens (take (from + white) bytes) ≡ tokens (take from bytes)
white_behind bytes from white run =
    ap tokens (take-add from white bytes)
    ∙ tokens-append (take from bytes) (take white (drop from bytes)) (begins (take white (drop from bytes)) run.same)
    ∙ ap (λ ts. tokens (take from bytes) ++ ts) (tokens-white_all (take white (drop from bytes)) run.same)
    ∙ append-nil (tokens (take from bytes))
  where
    begins : (space : List ℕ) → All (λ b. is_space b ≡ true) space → begins_with_space space ≡ true
    begins [] all = refl
    begins (b ∷ space) all = All-head (λ c. is_space c ≡ true) b space all

-- a text of which only white space is left has no more tokens
pub no_token : (bytes : List ℕ) (from white : ℕ) → IsStretch (drop from bytes) true white → from + white ≡ length bytes → tokens bytes ≡ tokens (take from bytes)
no_token bytes from white run all =
    ap tokens (sym (take_all (from + white) bytes (omega arith))) ∙ white_behind bytes from white run

pub next : (bytes : List ℕ) (from white len : ℕ) (token : Token) → IsTokenCut bytes from → IsStretch (drop from bytes) true white → from + white < length bytes → token.start ≡ from + white → IsStretch (drop token.start bytes) false len → token.end ≡ token.start + len → IsNextToken bytes from token
next bytes from white len token cut space more is_start word is_end =
    let start = token.start in
    let end = token.end in
    let first : get_or (drop start bytes) 0 0 ≡ get_or (drop from bytes) white 0 =
    get_or-drop start bytes 0 0 ∙ ap (λ i. get_or bytes i 0) (add-zero start ∙ is_start) ∙ sym (get_or-drop from bytes white 0) in
    let begins : is_space (get_or (drop start bytes) 0 0) ≡ false =
    ap is_space first ∙ not_true _ (space.longest (omega (arith, length-drop from bytes))) in
    let run = word_run len (drop start bytes) (omega (arith, length-drop start bytes)) begins word in
    let behind : drop len (drop start bytes) ≡ drop end bytes = drop-drop len start bytes ∙ ap (λ n. drop n bytes) (sym is_end) in
    let itself : take len (drop start bytes) ≡ slice_range bytes start end =
    let length_is : len ≡ end - start = omega arith in ap (λ n. take n (drop start bytes)) length_is in
    let rest : tokens (drop from bytes) ≡ slice_range bytes start end ∷ tokens (drop end bytes) =
    tokens-white white (drop from bytes) space.same
    ∙ ap tokens (drop-drop white from bytes ∙ ap (λ n. drop n bytes) (sym is_start))
    ∙ run.1
    ∙ ap (λ (t : List ℕ). t ∷ tokens (drop len (drop start bytes))) itself
    ∙ ap (λ (bs : List ℕ). slice_range bytes start end ∷ tokens bs) behind in
    let whole : tokens bytes ≡ tokens (take from bytes) ++ slice_range bytes start end ∷ tokens (drop end bytes) =
    cut.whole ∙ ap (λ ts. tokens (take from bytes) ++ ts) rest in
    let cut_end : IsTokenCut bytes end =
    cut_at bytes end (omega (arith, word.within, length-drop start bytes)) (ap begins_with_space (sym behind) ∙ run.0) in
    record {
      ordered = omega arith;
      token_at = record {
        rest = tokens (drop end bytes);
        whole = whole;
        in_front = ap (λ n. tokens (take n bytes)) is_start ∙ white_behind bytes from white space;
        begins = ap is_space (sym (get_or-drop start bytes 0 0 ∙ ap (λ i. get_or bytes i 0) (add-zero start))) ∙ begins;
      };
      cut = cut_end;
      front = append_cancel_right (tokens (take end bytes)) (tokens (take from bytes) ++ slice_range bytes start end ∷ []) (tokens (drop end bytes))
          (sym cut_end.whole ∙ whole ∙ sym (append_assoc (tokens (take from bytes)) (slice_range bytes start end ∷ []) (tokens (drop end bytes))));
    }
