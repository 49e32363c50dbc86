-- The words that name options are told apart by their third byte.
use Rattle.std.proofs.Common.{◌≡◌, ◌≢◌, ◌<◌, ℕ, length, get_or, refl, sym, ap, ◌∙◌, arith}
use Rattle.mk_words.specs.declared.options.Setting.{Setting}
use Rattle.mk_words.specs.declared.options.Setting.TheVariants.{Workers, Budget, Upto, Model}
use Rattle.mk_words.specs.Words.{Word, option_name, with_value, end_of_options, IsOptionWord}

letter : Setting → ℕ
letter Workers = 119
letter Budget = 98
letter Upto = 117
letter Model = 109

third : Word → ℕ
third w = get_or w 2 0

third_of_name : (s : Setting) → third (option_name s) ≡ letter s
unfolding third letter
third_of_name Workers = refl
third_of_name Budget = refl
third_of_name Upto = refl
third_of_name Model = refl

third_of_both : (s : Setting) (v : Word) → third (with_value s v) ≡ letter s
unfolding third letter
third_of_both Workers v = refl
third_of_both Budget v = refl
third_of_both Upto v = refl
third_of_both Model v = refl

same_letter : (s t : Setting) → letter s ≡ letter t → s ≡ t
unfolding letter
same_letter Workers Workers e = refl
same_letter Budget Budget e = refl
same_letter Upto Upto e = refl
same_letter Model Model e = refl
same_letter Workers Budget e = absurd (omega arith)
same_letter Workers Upto e = absurd (omega arith)
same_letter Workers Model e = absurd (omega arith)
same_letter Budget Workers e = absurd (omega arith)
same_letter Budget Upto e = absurd (omega arith)
same_letter Budget Model e = absurd (omega arith)
same_letter Upto Workers e = absurd (omega arith)
same_letter Upto Budget e = absurd (omega arith)
same_letter Upto Model e = absurd (omega arith)
same_letter Model Workers e = absurd (omega arith)
same_letter Model Budget e = absurd (omega arith)
same_letter Model Upto e = absurd (omega arith)

some_letter : (s : Setting) → 0 < letter s
unfolding letter
some_letter Workers = omega arith
some_letter Budget = omega arith
some_letter Upto = omega arith
some_letter Model = omega arith

third_of_end : third end_of_options ≡ 0
unfolding third
third_of_end = refl

pub name_no_end : (s : Setting) → option_name s ≢ end_of_options
name_no_end s e = let some = some_letter s in let zero : letter s ≡ 0 = sym (third_of_name s) ∙ ap third e ∙ third_of_end in absurd (omega arith)

pub both_no_end : (s : Setting) (v : Word) → with_value s v ≢ end_of_options
both_no_end s v e = let some = some_letter s in let zero : letter s ≡ 0 = sym (third_of_both s v) ∙ ap third e ∙ third_of_end in absurd (omega arith)

pub same_name : (s t : Setting) → option_name s ≡ option_name t → s ≡ t
same_name s t e = same_letter s t (sym (third_of_name s) ∙ ap third e ∙ third_of_name t)

pub same_both : (s t : Setting) (v w : Word) → with_value s v ≡ with_value t w → s ≡ t
same_both s t v w e = same_letter s t (sym (third_of_both s v) ∙ ap third e ∙ third_of_both t w)

name_or_both : (s t : Setting) (v : Word) → option_name s ≡ with_value t v → s ≡ t
name_or_both s t v e = same_letter s t (sym (third_of_name s) ∙ ap third e ∙ third_of_both t v)

longer : (s : Setting) (v : Word) → option_name s ≢ with_value s v
longer Workers v e = let same = ap length e in absurd (grind arith)
longer Budget v e = let same = ap length e in absurd (grind arith)
longer Upto v e = let same = ap length e in absurd (grind arith)
longer Model v e = let same = ap length e in absurd (grind arith)

pub name_no_both : (s t : Setting) (v : Word) → option_name s ≢ with_value t v
name_no_both s t v e = longer s v (e ∙ ap (λ u. with_value u v) (sym (name_or_both s t v e)))

pub same_value : (s : Setting) (v w : Word) → with_value s v ≡ with_value s w → v ≡ w
same_value Workers v w e = cc
same_value Budget v w e = cc
same_value Upto v w e = cc
same_value Model v w e = cc

pub name_is_option : (s : Setting) → IsOptionWord (option_name s)
name_is_option Workers = (omega arith, refl)
name_is_option Budget = (omega arith, refl)
name_is_option Upto = (omega arith, refl)
name_is_option Model = (omega arith, refl)

pub both_is_option : (s : Setting) (v : Word) → IsOptionWord (with_value s v)
both_is_option Workers v = (omega arith, refl)
both_is_option Budget v = (omega arith, refl)
both_is_option Upto v = (omega arith, refl)
both_is_option Model v = (omega arith, refl)

pub end_is_option : IsOptionWord end_of_options
end_is_option = (omega arith, refl)
