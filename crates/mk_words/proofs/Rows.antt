-- What pieces give, and the rows that the parser keeps of them.
use Rattle.std.proofs.Common.{◌≡◌, ◌⊎◌, ◌≤◌, Bool, true, false, true≢false, List, [], ◌∷◌, ◌++◌, Option, Some, None, length, map, inl, inr, refl, sym, ap, subst, ◌∙◌, length-append, arith}
use Rattle.std.specs.List.{flat_map}
use Rattle.std.specs.Str.{bytes_eq}
use Rattle.std.proofs.lemmas.List.{append-nil}
use Rattle.std.proofs.lemmas.List.Concat.{flat_map-append}
use Rattle.std.proofs.lemmas.Slice.Eq.{bytes_eq-Decides}
use Rattle.clap.specs.Walk.{Row, Text, at_row, first_of, has_row, more_values, reading_by, with_values, without}
use Rattle.clap.specs.declared.builder.value_parser.Reading.{Reading}
use Rattle.clap.specs.declared.parser.matches.ValueSource.TheVariants.{CommandLine}
use Rattle.mk_words.specs.declared.options.Setting.{Setting}
use Rattle.mk_words.specs.declared.options.Setting.TheVariants.{Workers, Budget, Upto, Model}
use Rattle.mk_words.specs.Words.{Word, Piece, option, plain}
use Rattle.mk_words.specs.Found.{one_or_none}
use Rattle.mk_words.specs.Given.{AreRepeated}
use Rattle.mk_words.specs.Requests.{value_of, plain_of}
use Rattle.mk_words.proofs.Rules.{id_of, full_rule}

-- what a piece gives a value to: an option, or the plain word where it is none
abbrev pub key : Piece → Option Setting
key (option s v) = Some s
key (plain w) = None

abbrev pub text_of : Piece → Word
text_of (option s v) = v
text_of (plain w) = w

abbrev pub row_for : Piece → Row
row_for p = record {
  id = id_of (key p);
  values = text_of p ∷ [];
  count = None;
  source = Some CommandLine;
  reading = reading_by (full_rule (key p));
}

abbrev pub texts_in : Option Setting → Piece → List Word
texts_in None p = plain_of p
texts_in (Some s) p = value_of s p

abbrev pub texts_for : Option Setting → List Piece → List Word
texts_for k pieces = flat_map (texts_in k) pieces

abbrev one_if : Bool → Word → List Word
one_if true w = w ∷ []
one_if false w = []

texts_are : (k : Option Setting) (p : Piece) → texts_in k p ≡ one_if (bytes_eq (id_of (key p)) (id_of k)) (text_of p)
texts_are None (plain w) = refl
texts_are None (option Workers v) = refl
texts_are (Some Workers) (plain w) = refl
texts_are None (option Budget v) = refl
texts_are (Some Budget) (plain w) = refl
texts_are None (option Upto v) = refl
texts_are (Some Upto) (plain w) = refl
texts_are None (option Model v) = refl
texts_are (Some Model) (plain w) = refl
texts_are (Some Workers) (option Workers v) = refl
texts_are (Some Workers) (option Budget v) = refl
texts_are (Some Workers) (option Upto v) = refl
texts_are (Some Workers) (option Model v) = refl
texts_are (Some Budget) (option Workers v) = refl
texts_are (Some Budget) (option Budget v) = refl
texts_are (Some Budget) (option Upto v) = refl
texts_are (Some Budget) (option Model v) = refl
texts_are (Some Upto) (option Workers v) = refl
texts_are (Some Upto) (option Budget v) = refl
texts_are (Some Upto) (option Upto v) = refl
texts_are (Some Upto) (option Model v) = refl
texts_are (Some Model) (option Workers v) = refl
texts_are (Some Model) (option Budget v) = refl
texts_are (Some Model) (option Upto v) = refl
texts_are (Some Model) (option Model v) = refl

texts_own : (p : Piece) → texts_in (key p) p ≡ text_of p ∷ []
texts_own (plain w) = refl
texts_own (option Workers v) = refl
texts_own (option Budget v) = refl
texts_own (option Upto v) = refl
texts_own (option Model v) = refl

if_own : (k : Option Setting) (p : Piece) → bytes_eq (id_of (key p)) (id_of k) ≡ true → texts_in k p ≡ text_of p ∷ []
if_own k p e = texts_are k p ∙ ap (λ b. one_if b (text_of p)) e

if_other : (k : Option Setting) (p : Piece) → bytes_eq (id_of (key p)) (id_of k) ≡ false → texts_in k p ≡ []
if_other k p e = texts_are k p ∙ ap (λ b. one_if b (text_of p)) e

-- whether a row is there, by the texts
Counted : Option Setting → List Piece → Type 0
Counted k ps = ((has_row (id_of k) (map row_for ps) ≡ false) × (texts_for k ps ≡ [])) ⊎ ((has_row (id_of k) (map row_for ps) ≡ true) × (1 ≤ length (texts_for k ps)))

counted : (k : Option Setting) (ps : List Piece) → Counted k ps
unfolding Counted
counted k [] = inl (refl, refl)
counted k (p ∷ ps) = go (bytes_eq (id_of (key p)) (id_of k)) refl (counted k ps)
  where
    go : (b : Bool) → bytes_eq (id_of (key p)) (id_of k) ≡ b → Counted k ps → Counted k (p ∷ ps)
    go true e c = inr (rw e refl, omega (arith, length-append (texts_in k p) (texts_for k ps), ap length (if_own k p e)))
    go false e (inl h) = inl (rw e h.0, ap (λ t. t ++ texts_for k ps) (if_other k p e) ∙ h.1)
    go false e (inr h) = inr (rw e h.0, (let more = h.1 in omega (arith, length-append (texts_in k p) (texts_for k ps))))

pub absent : (k : Option Setting) (ps : List Piece) → has_row (id_of k) (map row_for ps) ≡ false → texts_for k ps ≡ []
unfolding Counted
absent k ps e = go (counted k ps)
  where
    go : Counted k ps → texts_for k ps ≡ []
    go (inl h) = h.1
    go (inr h) = absurd (true≢false (sym h.0 ∙ e))

pub present : (k : Option Setting) (ps : List Piece) → has_row (id_of k) (map row_for ps) ≡ true → 1 ≤ length (texts_for k ps)
unfolding Counted
present k ps e = go (counted k ps)
  where
    go : Counted k ps → 1 ≤ length (texts_for k ps)
    go (inl h) = absurd (true≢false (sym e ∙ h.0))
    go (inr h) = h.1

-- nothing is given more than once, and something is
abbrev pub Once : List Piece → Type 0
Once ps = (k : Option Setting) → length (texts_for k ps) ≤ 1

abbrev pub Repeats : List Piece → Type 0
Repeats ps = (k : Option Setting) × (2 ≤ length (texts_for k ps))

pub repeated : (ps : List Piece) → Repeats ps → AreRepeated ps
repeated ps r = go r.0 r.1
  where
    go : (k : Option Setting) → 2 ≤ length (texts_for k ps) → AreRepeated ps
    go None h = inr h
    go (Some s) h = inl (s, h)

pub texts_more : (k : Option Setting) (ps more : List Piece) → texts_for k (ps ++ more) ≡ texts_for k ps ++ texts_for k more
texts_more k ps more = flat_map-append (texts_in k) ps more

pub texts_one_more : (k : Option Setting) (ps : List Piece) (p : Piece) → texts_for k (ps ++ p ∷ []) ≡ texts_for k ps ++ texts_in k p
texts_one_more k ps p = texts_more k ps (p ∷ []) ∙ ap (λ t. texts_for k ps ++ t) (append-nil (texts_in k p))

pub repeats_more : (ps more : List Piece) → Repeats ps → Repeats (ps ++ more)
repeats_more ps more r = (r.0, (let h = r.1 in omega (arith, ap length (texts_more r.0 ps more), length-append (texts_for r.0 ps) (texts_for r.0 more))))

pub once_nil : Once []
once_nil k = omega arith

pub once_more : (ps : List Piece) (p : Piece) → Once ps → has_row (id_of (key p)) (map row_for ps) ≡ false → Once (ps ++ p ∷ [])
once_more ps p once none k = go (bytes_eq (id_of (key p)) (id_of k)) refl
  where
    go : (b : Bool) → bytes_eq (id_of (key p)) (id_of k) ≡ b → length (texts_for k (ps ++ p ∷ [])) ≤ 1
    go true e =
        let same = (bytes_eq-Decides (id_of (key p)) (id_of k)).0 e in
        let empty = absent k ps (ap (λ i. has_row i (map row_for ps)) (sym same) ∙ none) in
        omega (arith, ap length (texts_one_more k ps p), length-append (texts_for k ps) (texts_in k p), ap length (if_own k p e), ap length empty)
    go false e =
        let few = once k in
        omega (arith, ap length (texts_one_more k ps p), length-append (texts_for k ps) (texts_in k p), ap length (if_other k p e))

pub repeats_again : (ps : List Piece) (p : Piece) → has_row (id_of (key p)) (map row_for ps) ≡ true → Repeats (ps ++ p ∷ [])
repeats_again ps p there =
    let one = present (key p) ps there in
    (key p, omega (arith, ap length (texts_one_more (key p) ps p), length-append (texts_for (key p) ps) (texts_in (key p) p), ap length (texts_own p)))

-- the text of the row, where nothing is given more than once
nil_of : (w : Word) (rest : List Word) → length (w ∷ rest) ≤ 1 → rest ≡ []
nil_of w [] le = refl
nil_of w (v ∷ rest) le = absurd (omega arith)

pub firsts : (k : Option Setting) (ps : List Piece) → length (texts_for k ps) ≤ 1 → texts_for k ps ≡ one_or_none (first_of (id_of k) (map row_for ps))
firsts k [] le = refl
firsts k (p ∷ ps) le = go (bytes_eq (id_of (key p)) (id_of k)) refl (firsts k ps)
  where
    go : (b : Bool) → bytes_eq (id_of (key p)) (id_of k) ≡ b → (length (texts_for k ps) ≤ 1 → texts_for k ps ≡ one_or_none (first_of (id_of k) (map row_for ps))) → texts_for k (p ∷ ps) ≡ one_or_none (first_of (id_of k) (map row_for (p ∷ ps)))
    go true e rest =
        let own = ap (λ t. t ++ texts_for k ps) (if_own k p e) in
        rw e (own ∙ ap (λ t. text_of p ∷ t) (nil_of (text_of p) (texts_for k ps) (subst (λ (t : List Word). length t ≤ 1) own le)))
    go false e rest =
        let other = ap (λ t. t ++ texts_for k ps) (if_other k p e) in
        rw e (other ∙ rest (subst (λ (t : List Word). length t ≤ 1) other le))

-- a row that is not there yet comes last
row_last : (id : Text) (change : Row → List Row) (missing rows : List Row) → has_row id rows ≡ false → at_row id change missing rows ≡ rows ++ missing
row_last id change missing [] e = refl
row_last id change missing (r ∷ rows) e = go (bytes_eq r.id id) refl (row_last id change missing rows)
  where
    go : (b : Bool) → bytes_eq r.id id ≡ b → (has_row id rows ≡ false → at_row id change missing rows ≡ rows ++ missing) → at_row id change missing (r ∷ rows) ≡ (r ∷ rows) ++ missing
    go true is rest = absurd (true≢false (sym (rw is refl) ∙ e))
    go false is rest = rw is (ap (λ t. r ∷ t) (rest (sym (rw is refl) ∙ e)))

pub row_added : (id : Text) (how : Reading) (values : List Text) (rows : List Row) → has_row id rows ≡ false
    → with_values id how CommandLine values (without id rows) ≡ rows ++ record { id = id; values = values; count = None; source = Some CommandLine; reading = how } ∷ []
row_added id how values rows e =
    ap (λ r. with_values id how CommandLine values r) (row_last id (λ _. []) [] rows e ∙ append-nil rows)
    ∙ row_last id (more_values CommandLine values) (record { id = id; values = values; count = None; source = Some CommandLine; reading = how } ∷ []) rows e
