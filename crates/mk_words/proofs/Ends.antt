-- What a parse of all the words answers.
use Rattle.std.proofs.Common.{◌≡◌, ◌≢◌, Bool, true, false, List, [], ◌∷◌, Option, Some, None, map, fold, String, string_bytes, inl, inr, refl, sym, ap, subst, ◌∙◌}
use Rattle.std.proofs.lemmas.Str.{IsUtf8-string_bytes}
use Rattle.clap.specs.Words.{found_of, kind_of}
use Rattle.clap.specs.Walk.{Row, first_of, Walk, has_row, rows_of, settled, walked, with_default}
use Rattle.clap.specs.Simple.{built, matches_of}
use Rattle.clap.specs.Kinds.{HasKind, IsAmong, Kinds, or_else}
use Rattle.clap.specs.Faults.{default_fault, defaults_fault, fault_of, settle_fault, walk_fault}
use Rattle.clap.specs.declared.error.Error.{Error}
use Rattle.clap.specs.declared.error.kind.ErrorKind.TheVariants.{OutOfMemory}
use Rattle.clap.specs.declared.parser.matches.ArgMatches.{ArgMatches}
use Rattle.clap.proofs.FaultLemmas.{leaf_fault}
use Rattle.clap.proofs.WalkLemmas.{first_value-rows}
use Rattle.mk_words.specs.declared.options.Setting.{Setting}
use Rattle.mk_words.specs.declared.options.Setting.TheVariants.{Workers, Budget, Upto, Model}
use Rattle.mk_words.specs.Words.{Word}
use Rattle.mk_words.specs.Found.{one_or_none}
use Rattle.mk_words.specs.Given.{label, project, command_app, AreGiven, AreNotGiven}
use Rattle.mk_words.proofs.Rules.{all_rules, built_shape, full_rule, id_of}
use Rattle.mk_words.proofs.Rows.{firsts}
use Rattle.mk_words.proofs.Turns.{at, closed, held_by, or_nil}
use Rattle.mk_words.proofs.Parses.{all_parsed, AreTexts, IsFound, Verdict}

-- no argument has a default
default_kept : (k : Option Setting) (rows : List Row) → with_default rows (full_rule k) ≡ rows
default_kept k rows = go (has_row (id_of k) rows) refl
  where
    go : (b : Bool) → has_row (id_of k) rows ≡ b → with_default rows (full_rule k) ≡ rows
    go true e = rw e refl
    go false e = rw e refl

default_passes : (k : Option Setting) (rows : List Row) → default_fault rows (full_rule k) ≡ []
default_passes k rows = go (has_row (id_of k) rows) refl
  where
    go : (b : Bool) → has_row (id_of k) rows ≡ b → default_fault rows (full_rule k) ≡ []
    go true e = rw e refl
    go false e = rw e refl

all_kept : (ks : List (Option Setting)) (rows : List Row) → fold with_default rows (map full_rule ks) ≡ rows
all_kept [] rows = refl
all_kept (k ∷ ks) rows = ap (λ (r : List Row). fold with_default r (map full_rule ks)) (default_kept k rows) ∙ all_kept ks rows

all_pass : (ks : List (Option Setting)) (rows : List Row) → defaults_fault rows (map full_rule ks) ≡ []
unfolding defaults_fault
all_pass [] rows = refl
all_pass (k ∷ ks) rows =
    ap (λ (f : Kinds). or_else f (defaults_fault (with_default rows (full_rule k)) (map full_rule ks))) (default_passes k rows)
    ∙ all_pass ks (with_default rows (full_rule k))

abbrev keys : List (Option Setting)
keys = Some Workers ∷ Some Budget ∷ Some Upto ∷ Some Model ∷ None ∷ []

abbrev end_of : List Word → Walk
end_of words = fold (walked all_rules []) (at false 1 (held_by (closed []))) words

-- the faults and the rows of a parse are those of the walk and its end
faults_are : (words : List Word)
    → fault_of command_app words ≡ or_else (walk_fault built_shape [] (at false 1 (held_by (closed []))) words) (settle_fault all_rules false (end_of words).held)
faults_are words =
    leaf_fault (built command_app) (held_by (closed [])) words refl
    ∙ ap (λ (d : Kinds). or_else (walk_fault built_shape [] (at false 1 (held_by (closed []))) words) (or_else (settle_fault all_rules false (end_of words).held) (or_else d [])))
    (all_pass keys (settled all_rules (end_of words).held).rows)
    ∙ ap (λ (f : Kinds). or_else (walk_fault built_shape [] (at false 1 (held_by (closed []))) words) f) (or_nil (settle_fault all_rules false (end_of words).held))

rows_are : (words : List Word) → matches_of command_app words ≡ (settled all_rules (end_of words).held).rows
rows_are words = all_kept keys (settled all_rules (end_of words).held).rows

found_given : (words : List Word) (found : ArgMatches) (rows : List Row) → IsFound words rows → rows_of (found_of found) ≡ rows → AreGiven words found
found_given words found rows is same =
    let rows_match = same ∙ is.rows_are in
    record {
      pieces = is.pieces;
      line = is.line;
      values = λ s. firsts (Some s) is.pieces (is.once (Some s))
          ∙ ap one_or_none (sym (first_value-rows (found_of found) (label s) ∙ ap (first_of (label s)) rows_match));
      plains = firsts None is.pieces (is.once None)
          ∙ ap one_or_none (sym (first_value-rows (found_of found) project ∙ ap (first_of project) rows_match));
    }

pub given_by : (words : List Word) → AreTexts words → (found : ArgMatches) → fault_of command_app words ≡ []
    → rows_of (found_of found) ≡ matches_of command_app words → AreGiven words found
given_by words texts found none rows = go (all_parsed words texts)
  where
    go : Verdict words (at false 1 (held_by (closed []))) words → AreGiven words found
    go (inl h) = found_given words found (settled all_rules (end_of words).held).rows h.1 (rows ∙ rows_are words)
    go (inr h) = absurd (h.0 (sym (faults_are words) ∙ none))

not_given_by : (words : List Word) → AreTexts words → fault_of command_app words ≢ [] → AreNotGiven words
not_given_by words texts some = go (all_parsed words texts)
  where
    go : Verdict words (at false 1 (held_by (closed []))) words → AreNotGiven words
    go (inl h) = absurd (some (faults_are words ∙ h.0))
    go (inr h) = h.1

none_among : (e : Error) (kinds : Kinds) → IsAmong (kind_of e) kinds → kinds ≢ []
none_among e kinds is none = subst (λ (ks : Kinds). IsAmong (kind_of e) ks) none is

pub refused_by : (words : List Word) → AreTexts words → (e : Error) → HasKind (fault_of command_app words) e → kind_of e ≢ OutOfMemory → AreNotGiven words
refused_by words texts e (inl h) other = absurd (other h)
refused_by words texts e (inr h) other = not_given_by words texts (none_among e (fault_of command_app words) h)

-- strings are texts
pub are_texts : {Z : Type 0} (words : List (String Z)) → AreTexts (map string_bytes words)
are_texts [] = tt
are_texts (w ∷ words) = (IsUtf8-string_bytes w, are_texts words)
