-- What the parser makes of the command: its rules, and which of them a name or an id means.
use Rattle.std.proofs.Common.{◌≡◌, ◌≢◌, ◌⊎◌, ℕ, Bool, true, false, List, [], ◌∷◌, Option, Some, None, inl, inr, true≢false, refl, sym, ◌∙◌}
use Rattle.std.proofs.lemmas.Slice.Eq.{bytes_eq-Decides}
use Rattle.std.specs.Str.{bytes_eq}
use Rattle.clap.specs.Walk.{Rule, arg_by_id, arg_by_long}
use Rattle.clap.specs.Simple.{Shape, built, is_simple, new_rule}
use Rattle.clap.specs.Faults.{is_simple_and_free}
use Rattle.clap.specs.declared.builder.action.ArgAction.TheVariants.{Set}
use Rattle.clap.specs.declared.builder.value_parser.ValueParser.TheVariants as parser
use Rattle.mk_words.specs.declared.options.Setting.{Setting}
use Rattle.mk_words.specs.declared.options.Setting.TheVariants.{Workers, Budget, Upto, Model}
use Rattle.mk_words.specs.Words.{Word}
use Rattle.mk_words.specs.Given.{label, project, command_app}

-- an option, or the plain word where there is none
abbrev pub id_of : Option Setting → Word
id_of None = project
id_of (Some s) = label s

abbrev pub long_name : Option Setting → Option Word
long_name None = None
long_name (Some s) = Some (label s)

abbrev pub place : Option Setting → Option ℕ
place None = Some 1
place (Some s) = None

-- the argument as the parser completes it: it sets one text
abbrev pub full_rule : Option Setting → Rule
full_rule k = record (new_rule (id_of k)) {
  long = long_name k;
  index = place k;
  action = Some Set;
  range = Some (record { start_inclusive = 1; end_inclusive = 1 });
  parser = Some parser.String;
}

abbrev pub all_rules : List Rule
all_rules = full_rule (Some Workers) ∷ full_rule (Some Budget) ∷ full_rule (Some Upto) ∷ full_rule (Some Model) ∷ full_rule None ∷ []

abbrev pub built_shape : Shape
built_shape = (built command_app).top

pub app_is_simple : is_simple command_app ≡ true
app_is_simple = refl

pub app_is_free : is_simple_and_free command_app ≡ true
app_is_free = refl

pub by_id : (k : Option Setting) → arg_by_id all_rules (id_of k) ≡ Some (full_rule k)
by_id None = refl
by_id (Some Workers) = refl
by_id (Some Budget) = refl
by_id (Some Upto) = refl
by_id (Some Model) = refl

-- a name is an option's, or no option has it
pub record IsNoName (name : Word) : Type 0 where
  pub apart : (s : Setting) → name ≢ label s
  pub unknown : arg_by_long all_rules name ≡ None

no_long : (name : Word) → ((s : Setting) → bytes_eq (label s) name ≡ false) → arg_by_long all_rules name ≡ None
no_long name none = rw (none Workers, none Budget, none Upto, none Model) refl

no_label : (name : Word) (s : Setting) → bytes_eq (label s) name ≡ false → name ≢ label s
no_label name s differs e = absurd (true≢false (sym ((bytes_eq-Decides (label s) name).1 (sym e)) ∙ differs))

is_label : (name : Word) (s : Setting) → (name ≡ label s) ⊎ (bytes_eq (label s) name ≡ false)
is_label name s = go (bytes_eq (label s) name) refl
  where
    go : (b : Bool) → bytes_eq (label s) name ≡ b → (name ≡ label s) ⊎ (bytes_eq (label s) name ≡ false)
    go true e = inl (sym ((bytes_eq-Decides (label s) name).0 e))
    go false e = inr e

none_of : (name : Word) → bytes_eq (label Workers) name ≡ false → bytes_eq (label Budget) name ≡ false → bytes_eq (label Upto) name ≡ false
    → bytes_eq (label Model) name ≡ false → (s : Setting) → bytes_eq (label s) name ≡ false
none_of name w b u m Workers = w
none_of name w b u m Budget = b
none_of name w b u m Upto = u
none_of name w b u m Model = m

pub named : (name : Word) → ((s : Setting) × (name ≡ label s)) ⊎ IsNoName name
named name = go (is_label name Workers) (is_label name Budget) (is_label name Upto) (is_label name Model)
  where
    go : (name ≡ label Workers) ⊎ (bytes_eq (label Workers) name ≡ false) → (name ≡ label Budget) ⊎ (bytes_eq (label Budget) name ≡ false)
        → (name ≡ label Upto) ⊎ (bytes_eq (label Upto) name ≡ false) → (name ≡ label Model) ⊎ (bytes_eq (label Model) name ≡ false)
        → ((s : Setting) × (name ≡ label s)) ⊎ IsNoName name
    go (inl e) b u m = inl (Workers, e)
    go (inr w) (inl e) u m = inl (Budget, e)
    go (inr w) (inr b) (inl e) m = inl (Upto, e)
    go (inr w) (inr b) (inr u) (inl e) = inl (Model, e)
    go (inr w) (inr b) (inr u) (inr m) =
        let none = none_of name w b u m in inr (record { apart = λ s. no_label name s (none s); unknown = no_long name none })
