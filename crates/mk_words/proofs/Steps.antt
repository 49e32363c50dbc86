-- What one word may be, where the words are read from the left.
use Rattle.std.proofs.Common.{◌≡◌, ◌≢◌, List, [], ◌∷◌, inl, inr, refl, sym, ap, subst, ◌∙◌}
use Rattle.mk_words.specs.declared.options.Setting.{Setting}
use Rattle.mk_words.specs.Words.{Word, Piece, option, plain, option_name, with_value, end_of_options, IsOptionWord}
use Rattle.mk_words.proofs.Reading.{Any, Value, Plain, GoesOn, GoesBehind, behind_first, Takes}
use Rattle.mk_words.proofs.Names.{name_no_end, both_no_end, same_name, same_both, name_no_both, same_value, name_is_option, both_is_option, end_is_option}

pub takes_plain : (w : Word) → Takes Plain w (plain w ∷ []) Plain
unfolding GoesOn
takes_plain w = record {
  sound = λ words more h. record { more = more; are = refl; rest = h };
  whole = λ words all h. behind_first (plain w) all words Plain h;
}

pub takes_value : (s : Setting) (w : Word) → ¬ (IsOptionWord w) → Takes (Value s) w (option s w ∷ []) Any
unfolding GoesOn
takes_value s w isnt = record {
  sound = λ words more h. record { isnt = isnt; first = record { more = more; are = refl; rest = h } };
  whole = λ words all h. behind_first (option s w) all words Any h.first;
}

pub refuses_value : (s : Setting) (w : Word) → IsOptionWord w → (words : List Word) (all : List Piece) → GoesOn (w ∷ words) (Value s) all → ⊥
unfolding GoesOn
refuses_value s w is words all h = h.isnt is

-- a word may be a plain one, and then it is no option word
option_no_plain : (w : Word) → IsOptionWord w → (v : Word) → v ≡ w → ¬ (IsOptionWord v) → ⊥
option_no_plain w is v e isnt = isnt (subst IsOptionWord (sym e) is)

pub whole_end : (w : Word) (words : List Word) (all : List Piece) → w ≡ end_of_options → GoesOn (w ∷ words) Any all → GoesBehind [] all words Plain
unfolding GoesOn
whole_end w words all e (inl p) = record { more = all; are = refl; rest = p.rest }
whole_end w words all e (inr (inl p)) = absurd (name_no_end p.setting (sym p.is ∙ e))
whole_end w words all e (inr (inr (inl p))) = absurd (both_no_end p.setting p.value (sym p.is ∙ e))
whole_end w words all e (inr (inr (inr p))) = absurd (option_no_plain end_of_options end_is_option w e p.isnt)

pub takes_end : (w : Word) → w ≡ end_of_options → Takes Any w [] Plain
unfolding GoesOn
takes_end w e = record {
  sound = λ words more h. inl (record { is = e; rest = h });
  whole = λ words all h. whole_end w words all e h;
}

pub whole_bare : (s : Setting) (w : Word) (words : List Word) (all : List Piece) → w ≡ option_name s → GoesOn (w ∷ words) Any all → GoesBehind [] all words (Value s)
unfolding GoesOn
whole_bare s w words all e (inl p) = absurd (name_no_end s (sym e ∙ p.is))
whole_bare s w words all e (inr (inl p)) =
    record { more = all; are = refl; rest = subst (λ (t : Setting). GoesOn words (Value t) all) (same_name p.setting s (sym p.is ∙ e)) p.rest }
whole_bare s w words all e (inr (inr (inl p))) = absurd (name_no_both s p.setting p.value (sym e ∙ p.is))
whole_bare s w words all e (inr (inr (inr p))) = absurd (option_no_plain (option_name s) (name_is_option s) w e p.isnt)

pub takes_bare : (s : Setting) (w : Word) → w ≡ option_name s → Takes Any w [] (Value s)
unfolding GoesOn
takes_bare s w e = record {
  sound = λ words more h. inr (inl (record { setting = s; is = e; rest = h }));
  whole = λ words all h. whole_bare s w words all e h;
}

same_pair : (s t : Setting) (v u : Word) → with_value s v ≡ with_value t u → s ≡ t → option t u ≡ option s v
same_pair s t v u e st =
    let values : with_value s v ≡ with_value s u = e ∙ ap (λ x. with_value x u) (sym st) in
    let same : v ≡ u = same_value s v u values in cc

pub whole_both : (s : Setting) (v w : Word) (words : List Word) (all : List Piece) → w ≡ with_value s v → GoesOn (w ∷ words) Any all → GoesBehind (option s v ∷ []) all words Any
unfolding GoesOn
whole_both s v w words all e (inl p) = absurd (both_no_end s v (sym e ∙ p.is))
whole_both s v w words all e (inr (inl p)) = absurd (name_no_both p.setting s v (sym p.is ∙ e))
whole_both s v w words all e (inr (inr (inl p))) =
    let same = sym e ∙ p.is in
    record { more = p.first.more; are = p.first.are ∙ ap (λ x. x ∷ p.first.more) (same_pair s p.setting v p.value same (same_both s p.setting v p.value same)); rest = p.first.rest }
whole_both s v w words all e (inr (inr (inr p))) = absurd (option_no_plain (with_value s v) (both_is_option s v) w e p.isnt)

pub takes_both : (s : Setting) (v w : Word) → w ≡ with_value s v → Takes Any w (option s v ∷ []) Any
unfolding GoesOn
takes_both s v w e = record {
  sound = λ words more h. inr (inr (inl (record { setting = s; value = v; is = e; first = record { more = more; are = refl; rest = h } })));
  whole = λ words all h. whole_both s v w words all e h;
}

pub whole_word : (w : Word) (words : List Word) (all : List Piece) → ¬ (IsOptionWord w) → GoesOn (w ∷ words) Any all → GoesBehind (plain w ∷ []) all words Any
unfolding GoesOn
whole_word w words all isnt (inl p) = absurd (isnt (subst IsOptionWord (sym p.is) end_is_option))
whole_word w words all isnt (inr (inl p)) = absurd (isnt (subst IsOptionWord (sym p.is) (name_is_option p.setting)))
whole_word w words all isnt (inr (inr (inl p))) = absurd (isnt (subst IsOptionWord (sym p.is) (both_is_option p.setting p.value)))
whole_word w words all isnt (inr (inr (inr p))) = behind_first (plain w) all words Any p.first

pub takes_word : (w : Word) → ¬ (IsOptionWord w) → Takes Any w (plain w ∷ []) Any
unfolding GoesOn
takes_word w isnt = record {
  sound = λ words more h. inr (inr (inr (record { isnt = isnt; first = record { more = more; are = refl; rest = h } })));
  whole = λ words all h. whole_word w words all isnt h;
}

pub refuses_unknown : (w : Word) → IsOptionWord w → w ≢ end_of_options → ((s : Setting) → (w ≢ option_name s) × ((v : Word) → w ≢ with_value s v)) → (words : List Word) (all : List Piece) → GoesOn (w ∷ words) Any all → ⊥
unfolding GoesOn
refuses_unknown w is no_end none words all (inl p) = no_end p.is
refuses_unknown w is no_end none words all (inr (inl p)) = (none p.setting).0 p.is
refuses_unknown w is no_end none words all (inr (inr (inl p))) = (none p.setting).1 p.value p.is
refuses_unknown w is no_end none words all (inr (inr (inr p))) = p.isnt is
