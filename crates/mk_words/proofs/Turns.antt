-- The parser's walk over the words, one turn at a time.
use Rattle.std.proofs.Common.{◌≡◌, ◌≢◌, ◌⊎◌, ◌&&◌, ◌||◌, ℕ, Bool, true, false, List, [], ◌∷◌, ◌++◌, Option, Some, None, length, map, if◌then◌else◌, slice_get, inl, inr, refl, sym, ap, subst, ◌∙◌, arith}
use Rattle.std.specs.Str.{bytes_eq, chars, IsUtf8}
use Rattle.std.proofs.lemmas.Bool.{false≢true}
use Rattle.std.specs.Option.{option_map_or}
use Rattle.std.proofs.lemmas.List.{map-append}
use Rattle.clap.specs.Lexer.{long_of, short_of}
use Rattle.clap.specs.Walk.{Held, Row, Rule, Step, Text, Walk, after_step, has_row, idle, option as wanting, is_pending, next, pushed, reacted, settled, used, used_by_id, value, walked, word_met}
use Rattle.clap.specs.Kinds.{Kinds, or_else}
use Rattle.clap.specs.Faults.{bundle_step_fault, flags_fault, react_fault, settle_fault, turn_fault, use_fault, word_fault}
use Rattle.clap.proofs.FaultLemmas.{turn_is}
use Rattle.clap.specs.declared.error.kind.ErrorKind.{ErrorKind}
use Rattle.clap.specs.declared.error.kind.ErrorKind.TheVariants as kind
use Rattle.mk_words.specs.declared.options.Setting.{Setting}
use Rattle.mk_words.specs.declared.options.Setting.TheVariants.{Workers, Budget, Upto, Model}
use Rattle.mk_words.specs.Words.{Word, Piece, option, option_name, with_value, end_of_options}
use Rattle.mk_words.specs.Given.{label, project}
use Rattle.mk_words.proofs.Rules.{all_rules, built_shape, by_id, full_rule, id_of, IsNoName}
use Rattle.mk_words.proofs.Rows.{key, text_of, row_for, row_added, Once, Repeats, once_more, repeats_again}
use Rattle.mk_words.proofs.Seen.{IsSeenPlain, has_char}

-- the walk where nothing waits for a value, before and behind the end of the options, and where an option waits
abbrev pub at : Bool → ℕ → Held → Walk
at b k h = record { held = h; waiting = idle; position = k; is_trailing = b; stopped = None }

abbrev pub at_value : Bool → Setting → ℕ → Held → Walk
at_value b s k h = record { held = h; waiting = wanting (label s); position = k; is_trailing = b; stopped = None }

abbrev pub turn : Walk → Word → Kinds
turn w word = turn_fault built_shape [] w word

abbrev pub step : Walk → Word → Walk
step w word = walked all_rules [] w word

-- what the parser holds of pieces: all in rows, or the last one still open; or an option without its value
pub data Kept : Type 0 where
  closed : List Piece → Kept
  open_last : List Piece → Piece → Kept

abbrev pub front : Kept → List Piece
front (closed ps) = ps
front (open_last ps p) = ps

abbrev pub pieces_of : Kept → List Piece
pieces_of (closed ps) = ps
pieces_of (open_last ps p) = ps ++ p ∷ []

abbrev pub pending_by : Kept → Option (Text × List Text)
pending_by (closed ps) = None
pending_by (open_last ps p) = Some (id_of (key p), text_of p ∷ [])

abbrev pub held : List Piece → Option (Text × List Text) → Held
held ps pending = record { rows = map row_for ps; pending = pending; skip = 0 }

abbrev pub held_by : Kept → Held
held_by st = held (front st) (pending_by st)

abbrev pub held_before_value : List Piece → Setting → Held
held_before_value ps s = held ps (Some (label s, []))

-- a use of an argument, by whether its row is there
use_fresh : (k : Option Setting) (v : Word) (rows : List Row) → has_row (id_of k) rows ≡ false → use_fault false (full_rule k) (v ∷ []) rows ≡ []
use_fresh k v rows e = rw e refl

use_again : (k : Option Setting) (v : Word) (rows : List Row) → has_row (id_of k) rows ≡ true → use_fault false (full_rule k) (v ∷ []) rows ≡ kind.ArgumentConflict ∷ []
use_again k v rows e = rw e refl

some_kind : (k : ErrorKind) (ks : Kinds) → k ∷ ks ≢ []
some_kind k ks e = let n = ap length e in absurd (omega arith)

pub fails_as : (a b : Kinds) → a ≡ b → b ≢ [] → a ≢ []
fails_as a b e bad is = bad (sym e ∙ is)

abbrev pub Uses : List Piece → Piece → Type 0
Uses ps p =
    ((use_fault false (full_rule (key p)) (text_of p ∷ []) (map row_for ps) ≡ [])
    × (used (full_rule (key p)) (text_of p ∷ []) (map row_for ps) ≡ map row_for (ps ++ p ∷ []))
    × Once (ps ++ p ∷ []))
    ⊎ ((use_fault false (full_rule (key p)) (text_of p ∷ []) (map row_for ps) ≢ []) × Repeats (ps ++ p ∷ []))

pub uses : (ps : List Piece) (p : Piece) → Once ps → Uses ps p
uses ps p once = go (has_row (id_of (key p)) (map row_for ps)) refl
  where
    go : (b : Bool) → has_row (id_of (key p)) (map row_for ps) ≡ b → Uses ps p
    go true e = inr (fails_as _ _ (use_again (key p) (text_of p) (map row_for ps) e) (some_kind kind.ArgumentConflict []), repeats_again ps p e)
    go false e = inl (
      use_fresh (key p) (text_of p) (map row_for ps) e,
      row_added (id_of (key p)) (row_for p).reading (text_of p ∷ []) (map row_for ps) e ∙ sym (map-append row_for ps (p ∷ [])),
      once_more ps p once e,
    )

-- what is kept is settled
abbrev pub Settles : Kept → Type 0
Settles st =
    ((settle_fault all_rules false (held_by st) ≡ []) × (settled all_rules (held_by st) ≡ held_by (closed (pieces_of st))) × Once (pieces_of st))
    ⊎ ((settle_fault all_rules false (held_by st) ≢ []) × Repeats (pieces_of st))

pub settles : (st : Kept) → Once (front st) → Settles st
settles (closed ps) once = inl (refl, refl, once)
settles (open_last ps p) once = go (uses ps p once)
  where
    rows : List Row
    rows = map row_for ps

    fault : settle_fault all_rules false (held_by (open_last ps p)) ≡ use_fault false (full_rule (key p)) (text_of p ∷ []) (map row_for ps)
    fault = ap (λ found. option_map_or (λ a. use_fault false a (text_of p ∷ []) (map row_for ps)) found []) (by_id (key p))

    go : Uses ps p → Settles (open_last ps p)
    go (inl h) = inl (
      fault ∙ h.0,
      ap (λ (rows : List Row). let h : Held = record { rows = rows; pending = None; skip = 0 } in h)
          (ap (λ found. used_by_id found (text_of p ∷ []) (map row_for ps)) (by_id (key p)) ∙ h.1),
      h.2,
    )
    go (inr h) = inr (fails_as _ _ fault h.0, h.1)

-- an option without its value is refused when it is settled
pub unsettled : (ps : List Piece) (s : Setting) → settle_fault all_rules false (held_before_value ps s) ≢ []
unsettled ps Workers = some_kind kind.InvalidValue []
unsettled ps Budget = some_kind kind.InvalidValue []
unsettled ps Upto = some_kind kind.InvalidValue []
unsettled ps Model = some_kind kind.InvalidValue []

-- the end of the options
pub turn_end : (k : ℕ) (h : Held) → turn (at false k h) end_of_options ≡ []
turn_end k h = refl

pub step_end : (k : ℕ) (h : Held) → step (at false k h) end_of_options ≡ at true k h
unfolding walked
step_end k h = refl

pub turn_value_end : (s : Setting) (k : ℕ) (h : Held) → turn (at_value false s k h) end_of_options ≡ []
turn_value_end s k h = refl

pub step_value_end : (s : Setting) (k : ℕ) (h : Held) → step (at_value false s k h) end_of_options ≡ at_value true s k h
unfolding walked
step_value_end s k h = refl

pub or_nil : (a : Kinds) → or_else a [] ≡ a
or_nil [] = refl
or_nil (k ∷ ks) = refl

-- an option, alone and with its value
pub turn_bare : (s : Setting) (k : ℕ) (h : Held) → turn (at false k h) (option_name s) ≡ settle_fault all_rules false h
turn_bare Workers k h = or_nil (settle_fault all_rules false h)
turn_bare Budget k h = or_nil (settle_fault all_rules false h)
turn_bare Upto k h = or_nil (settle_fault all_rules false h)
turn_bare Model k h = or_nil (settle_fault all_rules false h)

pub step_bare : (s : Setting) (k : ℕ) (h : Held) → step (at false k h) (option_name s) ≡ at_value false s k (record (settled all_rules h) { pending = Some (label s, []) })
unfolding walked
step_bare Workers k h = refl
step_bare Budget k h = refl
step_bare Upto k h = refl
step_bare Model k h = refl

pub turn_both : (s : Setting) (v : Word) (k : ℕ) (h : Held) → turn (at false k h) (with_value s v) ≡ react_fault all_rules false (full_rule (Some s)) (v ∷ []) h
turn_both Workers v k h = or_nil (react_fault all_rules false (full_rule (Some Workers)) (v ∷ []) h)
turn_both Budget v k h = or_nil (react_fault all_rules false (full_rule (Some Budget)) (v ∷ []) h)
turn_both Upto v k h = or_nil (react_fault all_rules false (full_rule (Some Upto)) (v ∷ []) h)
turn_both Model v k h = or_nil (react_fault all_rules false (full_rule (Some Model)) (v ∷ []) h)

pub step_both : (s : Setting) (v : Word) (k : ℕ) (h : Held) → step (at false k h) (with_value s v) ≡ at false k (reacted all_rules (full_rule (Some s)) (v ∷ []) h)
unfolding walked
step_both Workers v k h = refl
step_both Budget v k h = refl
step_both Upto v k h = refl
step_both Model v k h = refl

-- where an option waits, another one settles it first
pub turn_value_bare : (t s : Setting) (k : ℕ) (h : Held) → turn (at_value false t k h) (option_name s) ≡ settle_fault all_rules false h
turn_value_bare t Workers k h = or_nil (settle_fault all_rules false h)
turn_value_bare t Budget k h = or_nil (settle_fault all_rules false h)
turn_value_bare t Upto k h = or_nil (settle_fault all_rules false h)
turn_value_bare t Model k h = or_nil (settle_fault all_rules false h)

pub turn_value_both : (t s : Setting) (v : Word) (k : ℕ) (h : Held) → turn (at_value false t k h) (with_value s v) ≡ react_fault all_rules false (full_rule (Some s)) (v ∷ []) h
turn_value_both t Workers v k h = or_nil (react_fault all_rules false (full_rule (Some Workers)) (v ∷ []) h)
turn_value_both t Budget v k h = or_nil (react_fault all_rules false (full_rule (Some Budget)) (v ∷ []) h)
turn_value_both t Upto v k h = or_nil (react_fault all_rules false (full_rule (Some Upto)) (v ∷ []) h)
turn_value_both t Model v k h = or_nil (react_fault all_rules false (full_rule (Some Model)) (v ∷ []) h)

pub left_nil : (a b : Kinds) → or_else a b ≡ [] → a ≡ []
left_nil [] b e = refl
left_nil (k ∷ ks) b e = e

pub react_fails : (a : Rule) (values : List Text) (h : Held) → settle_fault all_rules false h ≢ [] → react_fault all_rules false a values h ≢ []
react_fails a values h bad e = bad (left_nil _ _ e)

-- a plain word goes to the project: where it is the first, it is kept
and_false : (b : Bool) (f g : Kinds) → (if b && false then f else g) ≡ g
and_false true f g = refl
and_false false f g = refl

and_false_held : (b : Bool) (f g : Held) → (if b && false then f else g) ≡ g
and_false_held true f g = refl
and_false_held false f g = refl

plain_met : (b : Bool) (k : ℕ) (w : Word) (h : Held) → (b ≡ true) ⊎ IsSeenPlain w → (h, value) ≡ word_met all_rules [] b idle k w h
plain_met true k w h seen = refl
plain_met false k w h (inl e) = absurd (false≢true e)
plain_met false k w h (inr seen) = rw (seen.no_end, seen.no_long, seen.no_short) refl

plain_passes : (b : Bool) (w : Word) (h : Held) → (b ≡ true) ⊎ IsSeenPlain w → word_fault built_shape [] b idle w h ≡ []
plain_passes true w h seen = refl
plain_passes false w h (inl e) = absurd (false≢true e)
plain_passes false w h (inr seen) = rw (seen.no_end, seen.no_long, seen.no_short) refl

pub turn_plain : (b : Bool) (w : Word) (h : Held) → (b ≡ true) ⊎ IsSeenPlain w → turn (at b 1 h) w ≡ settle_fault all_rules false h
turn_plain b w h seen =
    sym (turn_is built_shape [] (at b 1 h) w h value (plain_met b 1 w h seen) (plain_passes b w h seen))
    ∙ and_false (is_pending (full_rule None) h.pending) [] (settle_fault all_rules false h)

pub turn_plain_again : (b : Bool) (w : Word) (h : Held) → (b ≡ true) ⊎ IsSeenPlain w → turn (at b 2 h) w ≢ []
turn_plain_again b w h seen =
    fails_as _ _ (sym (turn_is built_shape [] (at b 2 h) w h value (plain_met b 2 w h seen) (plain_passes b w h seen))) (some_kind kind.UnknownArgument [])

or_false : (b : Bool) → (b || false) ≡ b
or_false true = refl
or_false false = refl

pub step_plain : (b : Bool) (w : Word) (h : Held) → (b ≡ true) ⊎ IsSeenPlain w
    → step (at b 1 h) w ≡ at b 2 (record h { rows = (settled all_rules h).rows; pending = Some (project, w ∷ []) })
unfolding walked
step_plain b w h seen =
    ap (λ (m : Held × Step). after_step all_rules w (at b 1 h) m.0 m.1) (sym (plain_met b 1 w h seen))
    ∙ ap (λ (x : Held). at (b || false) 2 (pushed project w x)) (and_false_held (is_pending (full_rule None) h.pending) h (settled all_rules h))
    ∙ ap (λ c. at c 2 (record h { rows = (settled all_rules h).rows; pending = Some (project, w ∷ []) })) (or_false b)

-- a plain word is the value that an option waits for
value_met : (s : Setting) (k : ℕ) (ps : List Piece) (w : Word) → IsSeenPlain w
    → (held_by (open_last ps (option s w)), next idle) ≡ word_met all_rules [] false (wanting (label s)) k w (held_before_value ps s)
value_met Workers k ps w seen = rw (seen.no_end, seen.no_long, seen.no_short) refl
value_met Budget k ps w seen = rw (seen.no_end, seen.no_long, seen.no_short) refl
value_met Upto k ps w seen = rw (seen.no_end, seen.no_long, seen.no_short) refl
value_met Model k ps w seen = rw (seen.no_end, seen.no_long, seen.no_short) refl

value_passes : (s : Setting) (w : Word) (h : Held) → IsSeenPlain w → word_fault built_shape [] false (wanting (label s)) w h ≡ []
value_passes s w h seen = rw (seen.no_end, seen.no_long, seen.no_short) refl

pub turn_value : (s : Setting) (k : ℕ) (ps : List Piece) (w : Word) → IsSeenPlain w → turn (at_value false s k (held_before_value ps s)) w ≡ []
turn_value s k ps w seen =
    sym (turn_is built_shape [] (at_value false s k (held_before_value ps s)) w (held_by (open_last ps (option s w))) (next idle)
    (value_met s k ps w seen) (value_passes s w (held_before_value ps s) seen))

pub step_value : (s : Setting) (k : ℕ) (ps : List Piece) (w : Word) → IsSeenPlain w
    → step (at_value false s k (held_before_value ps s)) w ≡ at false k (held_by (open_last ps (option s w)))
unfolding walked
step_value s k ps w seen =
    ap (λ (m : Held × Step). after_step all_rules w (at_value false s k (held_before_value ps s)) m.0 m.1) (sym (value_met s k ps w seen))

-- behind the end of the options the next word settles an option that waits
pub turn_too_late : (s : Setting) (k : ℕ) (ps : List Piece) (w : Word) → (k ≡ 1) ⊎ (k ≡ 2) → turn (at_value true s k (held_before_value ps s)) w ≢ []
turn_too_late s k ps w (inl e) =
    subst (λ (n : ℕ). turn (at_value true s n (held_before_value ps s)) w ≢ []) (sym e)
    (fails_as _ (settle_fault all_rules false (held_before_value ps s)) (and_false (is_pending (full_rule None) (Some (label s, []))) [] (settle_fault all_rules false (held_before_value ps s))) (unsettled ps s))
turn_too_late s k ps w (inr e) =
    subst (λ (n : ℕ). turn (at_value true s n (held_before_value ps s)) w ≢ []) (sym e) (some_kind kind.UnknownArgument [])

-- a word that names nothing
wrong_long : (w name : Word) (v : Option Word) (h : Held) → bytes_eq w (45 ∷ 45 ∷ []) ≡ false → long_of w ≡ Some (name, v) → IsNoName name
    → word_fault built_shape [] false idle w h ≡ kind.UnknownArgument ∷ []
wrong_long w name v h no_end is none = rw (no_end, is, none.unknown) refl

flags_wrong : (x : ℕ) (xs : Word) (h : Held) (c : ℕ) → slice_get (chars (x ∷ xs)) 0 ≡ Some c
    → flags_fault all_rules false (length (x ∷ xs)) (x ∷ xs) 0 h ≡ kind.UnknownArgument ∷ []
unfolding flags_fault
flags_wrong x xs h c is = ap (λ found. bundle_step_fault all_rules false found (x ∷ xs) 0 h (flags_fault all_rules false (length xs))) is

wrong_short : (w : Word) (x : ℕ) (xs : Word) (ps : List Piece) (pending : Option (Text × List Text)) (c : ℕ) → bytes_eq w (45 ∷ 45 ∷ []) ≡ false
    → long_of w ≡ None → short_of w ≡ Some (x ∷ xs) → slice_get (chars (x ∷ xs)) 0 ≡ Some c
    → word_fault built_shape [] false idle w (held ps pending) ≡ kind.UnknownArgument ∷ []
wrong_short w x xs ps pending c no_end no_long is first = rw (no_end, no_long, is) (flags_wrong x xs (held ps pending) c first)

pub turn_wrong : (k : ℕ) (w : Word) (h : Held) → word_fault built_shape [] false idle w h ≢ [] → turn (at false k h) w ≢ []
turn_wrong k w h bad e = bad (left_nil _ _ e)

pub turn_value_wrong : (s : Setting) (k : ℕ) (w : Word) (h : Held) → word_fault built_shape [] false idle w h ≢ [] → turn (at_value false s k h) w ≢ []
turn_value_wrong s k w h bad e = bad (left_nil _ _ e)

pub long_wrong : (w name : Word) (v : Option Word) (h : Held) → bytes_eq w (45 ∷ 45 ∷ []) ≡ false → long_of w ≡ Some (name, v) → IsNoName name
    → word_fault built_shape [] false idle w h ≢ []
long_wrong w name v h no_end is none = fails_as _ _ (wrong_long w name v h no_end is none) (some_kind kind.UnknownArgument [])

pub short_wrong : (w : Word) (x : ℕ) (xs : Word) (ps : List Piece) (pending : Option (Text × List Text)) → bytes_eq w (45 ∷ 45 ∷ []) ≡ false
    → long_of w ≡ None → short_of w ≡ Some (x ∷ xs) → w ≡ 45 ∷ x ∷ xs → IsUtf8 w → word_fault built_shape [] false idle w (held ps pending) ≢ []
short_wrong w x xs ps pending no_end no_long is all text =
    let first = has_char x xs (subst (λ (v : Word). IsUtf8 v) all text) in
    fails_as _ _ (wrong_short w x xs ps pending first.0 no_end no_long is first.1) (some_kind kind.UnknownArgument [])
