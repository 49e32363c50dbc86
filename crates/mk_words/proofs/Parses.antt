-- The parser takes exactly the lines that give nothing more than once, and finds what they give.
use Rattle.std.proofs.Common.{◌≡◌, ◌≢◌, ◌⊎◌, ◌≤◌, ◌+◌, ℕ, Bool, true, false, List, [], ◌∷◌, ◌++◌, Some, None, length, map, fold, inl, inr, refl, sym, ap, subst, ◌∙◌, length-append, arith}
use Rattle.std.specs.Str.{IsUtf8}
use Rattle.std.proofs.lemmas.List.{append-nil}
use Rattle.clap.specs.Walk.{Held, Row, Walk, settled, used, walked}
use Rattle.clap.specs.Kinds.{Kinds, or_else}
use Rattle.clap.specs.Faults.{react_fault, settle_fault, use_fault, walk_fault}
use Rattle.mk_words.specs.declared.options.Setting.{Setting}
use Rattle.mk_words.specs.Words.{Word, Piece, option, plain, option_name, with_value, end_of_options, IsOptionWord}
use Rattle.mk_words.specs.Given.{label, IsOnlyLine, AreNotGiven, AreRepeated}
use Rattle.mk_words.specs.Requests.{plains_of}
use Rattle.mk_words.proofs.Reading.{Next, Any, Value, Plain, HasRead, IsNoLine, Takes}
use Rattle.mk_words.proofs.Names.{name_is_option, both_is_option, end_is_option}
use Rattle.mk_words.proofs.Steps.{takes_plain, takes_value, refuses_value, takes_end, takes_bare, takes_both, takes_word, refuses_unknown}
use Rattle.mk_words.proofs.Lines.{line_goes, read_more, read_none, stopped, stopped_at_end, ended_any, ended_plain}
use Rattle.mk_words.proofs.Rules.{all_rules, built_shape, full_rule}
use Rattle.mk_words.proofs.Rows.{row_for, texts_more, Once, once_nil, Repeats, repeated, repeats_more}
use Rattle.mk_words.proofs.Seen.{Seen, ends, bare, both, plain_word, long, short, IsSeenPlain, see}
use Rattle.mk_words.proofs.Turns.{Kept, closed, open_last, front, pieces_of, held_by, held_before_value, pending_by, at, at_value, turn, step, fails_as, left_nil, Uses, uses, Settles, settles, unsettled, turn_end, step_end, turn_value_end, step_value_end, turn_bare, step_bare, turn_both, step_both, turn_value_bare, turn_value_both, react_fails, turn_plain, turn_plain_again, step_plain, turn_value, step_value, turn_too_late, turn_wrong, turn_value_wrong, long_wrong, short_wrong}

-- the parser found the pieces of the words, and nothing is given more than once
pub record IsFound (words : List Word) (rows : List Row) : Type 0 where
  pub pieces : List Piece
  pub line : IsOnlyLine words pieces
  pub once : Once pieces
  pub rows_are : rows ≡ map row_for pieces

-- what the faults of a walk and its end say of the words
abbrev pub Says : List Word → Kinds → Walk → Type 0
Says words faults end =
    ((or_else faults (settle_fault all_rules false end.held) ≡ []) × IsFound words (settled all_rules end.held).rows)
    ⊎ ((or_else faults (settle_fault all_rules false end.held) ≢ []) × AreNotGiven words)

abbrev pub Verdict : List Word → Walk → List Word → Type 0
Verdict words w rest = Says words (walk_fault built_shape [] w rest) (fold (walked all_rules []) w rest)

onward : (words : List Word) (w after : Walk) (word : Word) (rest : List Word) → turn w word ≡ [] → step w word ≡ after → Verdict words after rest
    → Verdict words w (word ∷ rest)
unfolding walk_fault
onward words w after word rest none is v =
    subst (λ (t : Kinds). Says words (or_else t (walk_fault built_shape [] (step w word) rest)) (fold (walked all_rules []) (step w word) rest)) (sym none)
    (subst (λ (x : Walk). Verdict words x rest) (sym is) v)

refused : (words : List Word) (w : Walk) (word : Word) (rest : List Word) → turn w word ≢ [] → AreNotGiven words → Verdict words w (word ∷ rest)
unfolding walk_fault
refused words w word rest bad wrong = inr ((λ e. bad (left_nil _ _ (left_nil _ _ e))), wrong)

abbrev next_of : Bool → Next
next_of false = Any
next_of true = Plain

-- the words go on from pieces with something more than once, or are no line
not_given : (words : List Word) (done : List Piece) (rest : List Word) (behind : Next) → HasRead words done rest behind → Repeats done → AreNotGiven words
not_given words done rest behind read again pieces line =
    let there = read.whole pieces (line_goes words pieces line) in
    subst (λ (p : List Piece). AreRepeated p) (sym there.are) (repeated (done ++ there.more) (repeats_more done there.more again))

no_line : (words : List Word) → IsNoLine words → AreNotGiven words
no_line words none pieces line = absurd (none pieces line)

read_none_of : (words : List Word) (done : List Piece) (w : Word) (rest : List Word) (before behind : Next) → HasRead words done (w ∷ rest) before → Takes before w [] behind → HasRead words done rest behind
read_none_of words done w rest before behind read takes =
    subst (λ (d : List Piece). HasRead words d rest behind) (append-nil done) (read_more words done w rest before behind [] read takes)

-- where the plain word goes: to the project while there is none
abbrev Place : List Piece → ℕ → Type 0
Place ps k = ((k ≡ 1) × (length (plains_of ps) ≡ 0)) ⊎ ((k ≡ 2) × (1 ≤ length (plains_of ps)))

place_as : (ps : List Piece) (k : ℕ) → Place ps k → (k ≡ 1) ⊎ (k ≡ 2)
place_as ps k (inl p) = inl p.0
place_as ps k (inr p) = inr p.0

place_option : (ps : List Piece) (s : Setting) (v : Word) (k : ℕ) → Place ps k → Place (ps ++ option s v ∷ []) k
place_option ps s v k (inl p) = inl (p.0, (let n = p.1 in omega (arith, ap length (texts_more None ps (option s v ∷ [])), length-append (plains_of ps) [])))
place_option ps s v k (inr p) = inr (p.0, (let n = p.1 in omega (arith, ap length (texts_more None ps (option s v ∷ [])), length-append (plains_of ps) [])))

plains_more : (ps : List Piece) (w : Word) → length (plains_of (ps ++ plain w ∷ [])) ≡ length (plains_of ps) + 1
plains_more ps w = omega (arith, ap length (texts_more None ps (plain w ∷ [])), length-append (plains_of ps) (w ∷ []))

-- what the parser says of words from here on
record Parses (rest : List Word) : Type 0 where
  between : (words : List Word) (st : Kept) (b : Bool) (k : ℕ) → Once (front st) → Place (pieces_of st) k → HasRead words (pieces_of st) rest (next_of b)
      → Verdict words (at b k (held_by st)) rest
  value : (words : List Word) (ps : List Piece) (s : Setting) (k : ℕ) → Once ps → Place ps k → HasRead words ps rest (Value s)
      → Verdict words (at_value false s k (held_before_value ps s)) rest

-- the end of the words
end_found : (words : List Word) (done : List Piece) (b : Bool) → HasRead words done [] (next_of b) → IsOnlyLine words done
end_found words done false read = ended_any words done read
end_found words done true read = ended_plain words done read

between_end : (words : List Word) (st : Kept) (b : Bool) (k : ℕ) → Once (front st) → HasRead words (pieces_of st) [] (next_of b) → Verdict words (at b k (held_by st)) []
unfolding walk_fault
between_end words st b k once read = go (settles st once)
  where
    go : Settles st → Verdict words (at b k (held_by st)) []
    go (inl h) = inl (h.0, record { pieces = pieces_of st; line = end_found words (pieces_of st) b read; once = h.2; rows_are = ap (λ (x : Held). x.rows) h.1 })
    go (inr h) = inr (h.0, not_given words (pieces_of st) [] (next_of b) read h.1)

value_end : (words : List Word) (ps : List Piece) (s : Setting) (k : ℕ) → HasRead words ps [] (Value s) → Verdict words (at_value false s k (held_before_value ps s)) []
unfolding walk_fault
value_end words ps s k read = inr (unsettled ps s, no_line words (stopped_at_end words ps s read))

-- a plain word
plain_from : (words : List Word) (st : Kept) (b : Bool) (k : ℕ) (w : Word) (rest : List Word) → Parses rest → Once (front st) → Place (pieces_of st) k
    → HasRead words (pieces_of st) (w ∷ rest) (next_of b) → (b ≡ true) ⊎ IsSeenPlain w → Takes (next_of b) w (plain w ∷ []) (next_of b)
    → Verdict words (at b k (held_by st)) (w ∷ rest)
plain_from words st b k w rest more once (inr p) read seen takes =
    let there = read_more words (pieces_of st) w rest (next_of b) (next_of b) (plain w ∷ []) read takes in
    let n = p.1 in
    refused words (at b k (held_by st)) w rest (subst (λ (i : ℕ). turn (at b i (held_by st)) w ≢ []) (sym p.0) (turn_plain_again b w (held_by st) seen))
    (not_given words (pieces_of st ++ plain w ∷ []) rest (next_of b) there (None, omega (arith, plains_more (pieces_of st) w)))
plain_from words st b k w rest more once (inl p) read seen takes =
    subst (λ (i : ℕ). Verdict words (at b i (held_by st)) (w ∷ rest)) (sym p.0) (go (settles st once))
  where
    there : HasRead words (pieces_of st ++ plain w ∷ []) rest (next_of b)
    there = read_more words (pieces_of st) w rest (next_of b) (next_of b) (plain w ∷ []) read takes

    go : Settles st → Verdict words (at b 1 (held_by st)) (w ∷ rest)
    go (inl h) =
        onward words (at b 1 (held_by st)) (at b 2 (held_by (open_last (pieces_of st) (plain w)))) w rest
        (turn_plain b w (held_by st) seen ∙ h.0)
        (step_plain b w (held_by st) seen ∙ ap (λ (x : Held). at b 2 (record x { pending = pending_by (open_last (pieces_of st) (plain w)) })) h.1)
        (more.between words (open_last (pieces_of st) (plain w)) b 2 h.2 (inr (refl, (let n = p.1 in omega (arith, plains_more (pieces_of st) w)))) there)
    go (inr h) =
        refused words (at b 1 (held_by st)) w rest (fails_as _ _ (turn_plain b w (held_by st) seen) h.0) (not_given words (pieces_of st) (w ∷ rest) (next_of b) read h.1)

-- an option whose value comes next, and one with its value
bare_from : (words : List Word) (st : Kept) (k : ℕ) (s : Setting) (rest : List Word) → Parses rest → Once (front st) → Place (pieces_of st) k
    → HasRead words (pieces_of st) (option_name s ∷ rest) Any → Verdict words (at false k (held_by st)) (option_name s ∷ rest)
bare_from words st k s rest more once where_it read = go (settles st once)
  where
    go : Settles st → Verdict words (at false k (held_by st)) (option_name s ∷ rest)
    go (inl h) =
        onward words (at false k (held_by st)) (at_value false s k (held_before_value (pieces_of st) s)) (option_name s) rest
        (turn_bare s k (held_by st) ∙ h.0)
        (step_bare s k (held_by st) ∙ ap (λ (x : Held). at_value false s k (record x { pending = Some (label s, []) })) h.1)
        (more.value words (pieces_of st) s k h.2 where_it (read_none_of words (pieces_of st) (option_name s) rest Any (Value s) read (takes_bare s (option_name s) refl)))
    go (inr h) =
        refused words (at false k (held_by st)) (option_name s) rest (fails_as _ _ (turn_bare s k (held_by st)) h.0)
        (not_given words (pieces_of st) (option_name s ∷ rest) Any read h.1)

used_after : (st : Kept) (k : ℕ) (s : Setting) (v : Word) → settled all_rules (held_by st) ≡ held_by (closed (pieces_of st))
    → step (at false k (held_by st)) (with_value s v) ≡ at false k (record (held_by (closed (pieces_of st))) { rows = used (full_rule (Some s)) (v ∷ []) (map row_for (pieces_of st)) })
used_after st k s v is =
    step_both s v k (held_by st) ∙ ap (λ (x : Held). at false k (record { rows = used (full_rule (Some s)) (v ∷ []) x.rows; pending = None; skip = 0 })) is

fault_after : (st : Kept) (s : Setting) (v : Word) → settle_fault all_rules false (held_by st) ≡ [] → settled all_rules (held_by st) ≡ held_by (closed (pieces_of st))
    → react_fault all_rules false (full_rule (Some s)) (v ∷ []) (held_by st) ≡ use_fault false (full_rule (Some s)) (v ∷ []) (map row_for (pieces_of st))
fault_after st s v none is =
    ap (λ (f : Kinds). or_else f (use_fault false (full_rule (Some s)) (v ∷ []) (settled all_rules (held_by st)).rows)) none
    ∙ ap (λ (x : Held). use_fault false (full_rule (Some s)) (v ∷ []) x.rows) is

both_from : (words : List Word) (st : Kept) (k : ℕ) (s : Setting) (v : Word) (rest : List Word) → Parses rest → Once (front st) → Place (pieces_of st) k
    → HasRead words (pieces_of st) (with_value s v ∷ rest) Any → Verdict words (at false k (held_by st)) (with_value s v ∷ rest)
both_from words st k s v rest more once where_it read = go (settles st once)
  where
    done : List Piece
    done = pieces_of st ++ option s v ∷ []

    there : HasRead words (pieces_of st ++ option s v ∷ []) rest Any
    there = read_more words (pieces_of st) (with_value s v) rest Any Any (option s v ∷ []) read (takes_both s v (with_value s v) refl)

    so_used : (settle_fault all_rules false (held_by st) ≡ []) → settled all_rules (held_by st) ≡ held_by (closed (pieces_of st)) → Uses (pieces_of st) (option s v)
        → Verdict words (at false k (held_by st)) (with_value s v ∷ rest)
    so_used none is (inl u) =
        onward words (at false k (held_by st)) (at false k (held_by (closed (pieces_of st ++ option s v ∷ [])))) (with_value s v) rest
        (turn_both s v k (held_by st) ∙ fault_after st s v none is ∙ u.0)
        (used_after st k s v is ∙ ap (λ (r : List Row). at false k (record { rows = r; pending = None; skip = 0 })) u.1)
        (more.between words (closed (pieces_of st ++ option s v ∷ [])) false k u.2 (place_option (pieces_of st) s v k where_it) there)
    so_used none is (inr u) =
        refused words (at false k (held_by st)) (with_value s v) rest (fails_as _ _ (turn_both s v k (held_by st) ∙ fault_after st s v none is) u.0)
        (not_given words (pieces_of st ++ option s v ∷ []) rest Any there u.1)

    go : Settles st → Verdict words (at false k (held_by st)) (with_value s v ∷ rest)
    go (inl h) = so_used h.0 h.1 (uses (pieces_of st) (option s v) h.2)
    go (inr h) =
        refused words (at false k (held_by st)) (with_value s v) rest
        (fails_as _ _ (turn_both s v k (held_by st)) (react_fails (full_rule (Some s)) (v ∷ []) (held_by st) h.0))
        (not_given words (pieces_of st) (with_value s v ∷ rest) Any read h.1)

-- a word where nothing waits
any_from : (words : List Word) (st : Kept) (k : ℕ) (w : Word) (rest : List Word) → IsUtf8 w → Parses rest → Once (front st) → Place (pieces_of st) k
    → HasRead words (pieces_of st) (w ∷ rest) Any → Seen w → Verdict words (at false k (held_by st)) (w ∷ rest)
any_from words st k w rest text more once where_it read (ends e) =
    subst (λ (u : Word). HasRead words (pieces_of st) (u ∷ rest) Any → Verdict words (at false k (held_by st)) (u ∷ rest)) (sym e)
    (λ there. onward words (at false k (held_by st)) (at true k (held_by st)) end_of_options rest (turn_end k (held_by st)) (step_end k (held_by st))
    (more.between words st true k once where_it (read_none_of words (pieces_of st) end_of_options rest Any Plain there (takes_end end_of_options refl)))) read
any_from words st k w rest text more once where_it read (bare s e) =
    subst (λ (u : Word). HasRead words (pieces_of st) (u ∷ rest) Any → Verdict words (at false k (held_by st)) (u ∷ rest)) (sym e)
    (bare_from words st k s rest more once where_it) read
any_from words st k w rest text more once where_it read (both s v e) =
    subst (λ (u : Word). HasRead words (pieces_of st) (u ∷ rest) Any → Verdict words (at false k (held_by st)) (u ∷ rest)) (sym e)
    (both_from words st k s v rest more once where_it) read
any_from words st k w rest text more once where_it read (plain_word isnt seen) = plain_from words st false k w rest more once where_it read (inr seen) (takes_word w isnt)
any_from words st k w rest text more once where_it read (long is name v no_end is_long none) =
    refused words (at false k (held_by st)) w rest (turn_wrong k w (held_by st) (long_wrong w name v (held_by st) no_end is_long none))
    (no_line words (stopped words (pieces_of st) w rest Any read (refuses_unknown w is.option is.no_end is.no_name)))
any_from words st k w rest text more once where_it read (short is x xs no_end no_long is_short all) =
    refused words (at false k (held_by st)) w rest (turn_wrong k w (held_by st) (short_wrong w x xs (front st) (pending_by st) no_end no_long is_short all text))
    (no_line words (stopped words (pieces_of st) w rest Any read (refuses_unknown w is.option is.no_end is.no_name)))

between_from : (words : List Word) (st : Kept) (b : Bool) (k : ℕ) (w : Word) (rest : List Word) → IsUtf8 w → Parses rest → Once (front st) → Place (pieces_of st) k
    → HasRead words (pieces_of st) (w ∷ rest) (next_of b) → Verdict words (at b k (held_by st)) (w ∷ rest)
between_from words st false k w rest text more once where_it read = any_from words st k w rest text more once where_it read (see w)
between_from words st true k w rest text more once where_it read = plain_from words st true k w rest more once where_it read (inl refl) (takes_plain w)

-- a word where an option waits for its value: an option word is refused, the end of the options as soon as the walk goes on
too_late : (words : List Word) (ps : List Piece) (s : Setting) (k : ℕ) (rest : List Word) → (k ≡ 1) ⊎ (k ≡ 2) → AreNotGiven words
    → Verdict words (at_value true s k (held_before_value ps s)) rest
unfolding walk_fault
too_late words ps s k [] at_place wrong = inr (unsettled ps s, wrong)
too_late words ps s k (w ∷ rest) at_place wrong = refused words (at_value true s k (held_before_value ps s)) w rest (turn_too_late s k ps w at_place) wrong

value_from : (words : List Word) (ps : List Piece) (s : Setting) (k : ℕ) (w : Word) (rest : List Word) → IsUtf8 w → Parses rest → Once ps → Place ps k
    → HasRead words ps (w ∷ rest) (Value s) → Seen w → Verdict words (at_value false s k (held_before_value ps s)) (w ∷ rest)
value_from words ps s k w rest text more once where_it read (ends e) =
    let wrong = no_line words (stopped words ps w rest (Value s) read (refuses_value s w (subst IsOptionWord (sym e) end_is_option))) in
    subst (λ (u : Word). Verdict words (at_value false s k (held_before_value ps s)) (u ∷ rest)) (sym e)
    (onward words (at_value false s k (held_before_value ps s)) (at_value true s k (held_before_value ps s)) end_of_options rest
    (turn_value_end s k (held_before_value ps s)) (step_value_end s k (held_before_value ps s)) (too_late words ps s k rest (place_as ps k where_it) wrong))
value_from words ps s k w rest text more once where_it read (bare t e) =
    let wrong = no_line words (stopped words ps w rest (Value s) read (refuses_value s w (subst IsOptionWord (sym e) (name_is_option t)))) in
    refused words (at_value false s k (held_before_value ps s)) w rest
    (subst (λ (u : Word). turn (at_value false s k (held_before_value ps s)) u ≢ []) (sym e) (fails_as _ _ (turn_value_bare s t k (held_before_value ps s)) (unsettled ps s))) wrong
value_from words ps s k w rest text more once where_it read (both t v e) =
    let wrong = no_line words (stopped words ps w rest (Value s) read (refuses_value s w (subst IsOptionWord (sym e) (both_is_option t v)))) in
    refused words (at_value false s k (held_before_value ps s)) w rest
    (subst (λ (u : Word). turn (at_value false s k (held_before_value ps s)) u ≢ []) (sym e)
    (fails_as _ _ (turn_value_both s t v k (held_before_value ps s)) (react_fails (full_rule (Some t)) (v ∷ []) (held_before_value ps s) (unsettled ps s)))) wrong
value_from words ps s k w rest text more once where_it read (plain_word isnt seen) =
    onward words (at_value false s k (held_before_value ps s)) (at false k (held_by (open_last ps (option s w)))) w rest (turn_value s k ps w seen) (step_value s k ps w seen)
    (more.between words (open_last ps (option s w)) false k once (place_option ps s w k where_it)
    (read_more words ps w rest (Value s) Any (option s w ∷ []) read (takes_value s w isnt)))
value_from words ps s k w rest text more once where_it read (long is name v no_end is_long none) =
    refused words (at_value false s k (held_before_value ps s)) w rest
    (turn_value_wrong s k w (held_before_value ps s) (long_wrong w name v (held_before_value ps s) no_end is_long none))
    (no_line words (stopped words ps w rest (Value s) read (refuses_value s w is.option)))
value_from words ps s k w rest text more once where_it read (short is x xs no_end no_long is_short all) =
    refused words (at_value false s k (held_before_value ps s)) w rest
    (turn_value_wrong s k w (held_before_value ps s) (short_wrong w x xs ps (Some (label s, [])) no_end no_long is_short all text))
    (no_line words (stopped words ps w rest (Value s) read (refuses_value s w is.option)))

-- each word is text
abbrev pub AreTexts : List Word → Type 0
AreTexts [] = Unit {0}
AreTexts (w ∷ words) = IsUtf8 w × AreTexts words

parses : (rest : List Word) → AreTexts rest → Parses rest
parses [] texts = record {
  between = λ words st b k once where_it read. between_end words st b k once read;
  value = λ words ps s k once where_it read. value_end words ps s k read;
}
parses (w ∷ rest) texts = record {
  between = λ words st b k once where_it read. between_from words st b k w rest texts.0 (parses rest texts.1) once where_it read;
  value = λ words ps s k once where_it read. value_from words ps s k w rest texts.0 (parses rest texts.1) once where_it read (see w);
}

pub all_parsed : (words : List Word) → AreTexts words → Verdict words (at false 1 (held_by (closed []))) words
all_parsed words texts = (parses words texts).between words (closed []) false 1 once_nil (inl (refl, refl)) (read_none words)
