-- What the parser sees in a word.
use Rattle.std.proofs.Common.{◌≡◌, ◌≢◌, ◌⊎◌, ◌==◌, ℕ, suc, zero, Bool, true, false, List, [], ◌∷◌, ◌++◌, Option, Some, None, length, get_or, slice_get, drop, inl, inr, refl, sym, ap, subst, ◌∙◌, arith}
use Rattle.std.proofs.lemmas.Bool.{eqb-true, eqb-false}
use Rattle.std.proofs.lemmas.Str.{encodes-chars, encodes-IsAscii}
use lib.Utf8.{encodes}
use Rattle.std.specs.Str.{bytes_eq, chars, IsAscii, IsUtf8}
use Rattle.clap.specs.Lexer.{long_of, short_of, name_and_value}
use Rattle.clap.proofs.CutLemmas.{Lacks}
use Rattle.clap.proofs.LexerLemmas.{name_and_value-at, name_and_value-without}
use Rattle.mk_words.specs.declared.options.Setting.{Setting}
use Rattle.mk_words.specs.declared.options.Setting.TheVariants.{Workers, Budget, Upto, Model}
use Rattle.mk_words.specs.Words.{Word, option_name, with_value, end_of_options, IsOptionWord}
use Rattle.mk_words.specs.Given.{label}
use Rattle.mk_words.proofs.Rules.{IsNoName, named}

-- no option word, and the parser sees none
pub record IsSeenPlain (w : Word) : Type 0 where
  pub no_end : bytes_eq w (45 ∷ 45 ∷ []) ≡ false
  pub no_long : long_of w ≡ None
  pub no_short : short_of w ≡ None

-- an option word of another kind
pub record IsUnknown (w : Word) : Type 0 where
  pub option : IsOptionWord w
  pub no_end : w ≢ end_of_options
  pub no_name : (s : Setting) → (w ≢ option_name s) × ((v : Word) → w ≢ with_value s v)

pub data Seen (w : Word) : Type 0 where
  ends : w ≡ end_of_options → Seen w
  bare : (s : Setting) → w ≡ option_name s → Seen w
  both : (s : Setting) (v : Word) → w ≡ with_value s v → Seen w
  plain_word : ¬ (IsOptionWord w) → IsSeenPlain w → Seen w
  long : IsUnknown w → (name : Word) (v : Option Word) → bytes_eq w (45 ∷ 45 ∷ []) ≡ false → long_of w ≡ Some (name, v) → IsNoName name → Seen w
  short : IsUnknown w → (x : ℕ) (xs : Word) → bytes_eq w (45 ∷ 45 ∷ []) ≡ false → long_of w ≡ None → short_of w ≡ Some (x ∷ xs) → w ≡ 45 ∷ x ∷ xs → Seen w

-- a text is cut at its first `=`
lacks_cons : (x : ℕ) (r : List ℕ) → (x == 61) ≡ false → Lacks 61 r → Lacks 61 (x ∷ r)
lacks_cons x r e h zero lt is = eqb-false x 61 e is
lacks_cons x r e h (suc i) lt is = h i (omega arith) is

record IsCutThere (r : List ℕ) : Type 0 where
  front : List ℕ
  behind : List ℕ
  none : Lacks 61 front
  whole : r ≡ front ++ 61 ∷ behind

abbrev Cut : List ℕ → Type 0
Cut r = Lacks 61 r ⊎ IsCutThere r

cut : (r : List ℕ) → Cut r
cut [] = inl (λ i lt. absurd (omega arith))
cut (x ∷ r) = go (x == 61) refl (cut r)
  where
    go : (t : Bool) → (x == 61) ≡ t → Cut r → Cut (x ∷ r)
    go true e c = inr (record { front = []; behind = r; none = λ i lt. absurd (omega arith); whole = ap (λ y. y ∷ r) (eqb-true x 61 e) })
    go false e (inl h) = inl (lacks_cons x r e h)
    go false e (inr p) = inr (record { front = x ∷ p.front; behind = p.behind; none = lacks_cons x p.front e p.none; whole = ap (λ y. x ∷ y) p.whole })

-- the name in a word that begins with two hyphens
tail_name : Word → Word
tail_name w = (name_and_value (drop 2 w)).0

tail_of_name : (s : Setting) → tail_name (option_name s) ≡ label s
unfolding tail_name
tail_of_name Workers = refl
tail_of_name Budget = refl
tail_of_name Upto = refl
tail_of_name Model = refl

tail_of_both : (s : Setting) (v : Word) → tail_name (with_value s v) ≡ label s
unfolding tail_name
tail_of_both Workers v = refl
tail_of_both Budget v = refl
tail_of_both Upto v = refl
tail_of_both Model v = refl

tail_is : (r : Word) → tail_name (45 ∷ 45 ∷ r) ≡ (name_and_value r).0
unfolding tail_name
tail_is r = refl

name_is : (s : Setting) → option_name s ≡ 45 ∷ 45 ∷ label s
name_is Workers = refl
name_is Budget = refl
name_is Upto = refl
name_is Model = refl

second : Word → ℕ
second w = get_or w 1 0

second_of_name : (s : Setting) → second (option_name s) ≡ 45
unfolding second
second_of_name Workers = refl
second_of_name Budget = refl
second_of_name Upto = refl
second_of_name Model = refl

second_of_both : (s : Setting) (v : Word) → second (with_value s v) ≡ 45
unfolding second
second_of_both Workers v = refl
second_of_both Budget v = refl
second_of_both Upto v = refl
second_of_both Model v = refl

second_is : (x y : ℕ) (r : Word) → second (x ∷ y ∷ r) ≡ y
unfolding second
second_is x y r = refl

-- a word that begins with two hyphens, and has more
unknown_long : (r : Word) → IsNoName (name_and_value r).0 → (45 ∷ 45 ∷ r ≢ end_of_options) → IsUnknown (45 ∷ 45 ∷ r)
unknown_long r none no_end = record {
  option = (omega arith, refl);
  no_end = no_end;
  no_name = λ s. (
    (λ e. none.apart s (sym (tail_is r) ∙ ap tail_name e ∙ tail_of_name s)),
    (λ v e. none.apart s (sym (tail_is r) ∙ ap tail_name e ∙ tail_of_both s v)),
  );
}

see_named : (z : ℕ) (zs : Word) (s : Setting) → (name_and_value (z ∷ zs)).0 ≡ label s → Cut (z ∷ zs) → Seen (45 ∷ 45 ∷ z ∷ zs)
see_named z zs s e (inl h) =
    let is : z ∷ zs ≡ label s = sym (ap (λ p. p.0) (name_and_value-without (z ∷ zs) h)) ∙ e in
    bare s (ap (λ r. 45 ∷ 45 ∷ r) is ∙ sym (name_is s))
see_named z zs s e (inr p) =
    let cut_is = ap name_and_value p.whole ∙ name_and_value-at p.front p.behind p.none in
    let is : p.front ≡ label s = sym (ap (λ q. q.0) cut_is) ∙ e in
    both s p.behind (ap (λ r. 45 ∷ 45 ∷ r) (p.whole ∙ ap (λ a. a ++ 61 ∷ p.behind) is) ∙ ap (λ n. n ++ 61 ∷ p.behind) (sym (name_is s)))

longer_end : (z : ℕ) (zs : Word) → 45 ∷ 45 ∷ z ∷ zs ≢ end_of_options
longer_end z zs e = let n = ap length e in absurd (omega arith)

see_long : (r : Word) → Seen (45 ∷ 45 ∷ r)
see_long [] = ends refl
see_long (z ∷ zs) = go (named (name_and_value (z ∷ zs)).0)
  where
    go : ((s : Setting) × ((name_and_value (z ∷ zs)).0 ≡ label s)) ⊎ IsNoName (name_and_value (z ∷ zs)).0 → Seen (45 ∷ 45 ∷ z ∷ zs)
    go (inl p) = see_named z zs p.0 p.1 (cut (z ∷ zs))
    go (inr none) = long (unknown_long (z ∷ zs) none (longer_end z zs)) (name_and_value (z ∷ zs)).0 (name_and_value (z ∷ zs)).1 refl refl none

unknown_short : (y : ℕ) (r : Word) → y ≢ 45 → IsUnknown (45 ∷ y ∷ r)
unknown_short y r differs = record {
  option = (omega arith, refl);
  no_end = λ e. differs (sym (second_is 45 y r) ∙ ap second e ∙ second_of_end);
  no_name = λ s. (
    (λ e. differs (sym (second_is 45 y r) ∙ ap second e ∙ second_of_name s)),
    (λ v e. differs (sym (second_is 45 y r) ∙ ap second e ∙ second_of_both s v)),
  );
}
  where
    second_of_end : second end_of_options ≡ 45
    second_of_end = second_is 45 45 []

see_option : (y : ℕ) (r : Word) → Seen (45 ∷ y ∷ r)
see_option y r = go (y == 45) refl
  where
    go : (t : Bool) → (y == 45) ≡ t → Seen (45 ∷ y ∷ r)
    go true e = subst (λ x. Seen (45 ∷ x ∷ r)) (sym (eqb-true y 45 e)) (see_long r)
    go false e = short (unknown_short y r (eqb-false y 45 e)) y r (rw e refl) (rw e refl) (rw e refl) refl

first_is : (x y : ℕ) (r : Word) → IsOptionWord (x ∷ y ∷ r) → x ≡ 45
first_is x y r is = let e = is.1 in cc

pub see : (w : Word) → Seen w
see [] = plain_word (λ is. let le = is.0 in absurd (omega arith)) (record { no_end = refl; no_long = refl; no_short = refl })
see (x ∷ []) = plain_word (λ is. let le = is.0 in absurd (omega arith)) (go (x == 45) refl)
  where
    go : (t : Bool) → (x == 45) ≡ t → IsSeenPlain (x ∷ [])
    go true e = subst (λ y. IsSeenPlain (y ∷ [])) (sym (eqb-true x 45 e)) (record { no_end = refl; no_long = refl; no_short = refl })
    go false e = record { no_end = rw e refl; no_long = rw e refl; no_short = rw e refl }
see (x ∷ y ∷ r) = go (x == 45) refl
  where
    go : (t : Bool) → (x == 45) ≡ t → Seen (x ∷ y ∷ r)
    go true e = subst (λ z. Seen (z ∷ y ∷ r)) (sym (eqb-true x 45 e)) (see_option y r)
    go false e =
        plain_word (λ is. eqb-false x 45 e (first_is x y r is)) (record { no_end = rw e refl; no_long = rw e refl; no_short = rw e refl })

-- a text that begins with a hyphen has a character behind it
after_hyphen : (x : ℕ) (xs : Word) → chars (45 ∷ x ∷ xs) ≡ 45 ∷ chars (x ∷ xs)
unfolding chars
after_hyphen x xs = refl

hyphen_is_ascii : IsAscii (45 ∷ [])
hyphen_is_ascii zero = omega arith
hyphen_is_ascii (suc i) = omega arith

pub has_char : (x : ℕ) (xs : Word) → IsUtf8 (45 ∷ x ∷ xs) → (c : ℕ) × (slice_get (chars (x ∷ xs)) 0 ≡ Some c)
has_char x xs u = go (chars (x ∷ xs)) (after_hyphen x xs)
  where
    go : (cs : List ℕ) → chars (45 ∷ x ∷ xs) ≡ 45 ∷ cs → (c : ℕ) × (slice_get cs 0 ≡ Some c)
    go [] e =
        let short = sym (encodes-chars (45 ∷ x ∷ xs) u) ∙ ap encodes e ∙ encodes-IsAscii (45 ∷ []) hyphen_is_ascii in
        let n = ap length short in absurd (omega arith)
    go (c ∷ cs) e = (c, refl)
