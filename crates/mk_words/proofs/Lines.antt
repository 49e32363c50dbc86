-- Lines, and reading them from the left.
use Rattle.std.proofs.Common.{◌≡◌, List, [], ◌∷◌, ◌++◌, Option, Some, None, map, inl, inr, refl, sym, ap, subst, ◌∙◌, append_assoc}
use Rattle.std.proofs.lemmas.List.{append-nil}
use Rattle.mk_words.specs.declared.options.Setting.{Setting}
use Rattle.mk_words.specs.Words.{Word, Piece, option, plain, option_name, end_of_options, IsCommandLine, IsWritten, AreWritten, behind, plain_behind}
use Rattle.mk_words.specs.Given.{IsOnlyLine}
use Rattle.mk_words.proofs.Reading.{Next, Any, Value, Plain, GoesOn, Takes, HasRead, IsNoLine}

-- plain words behind the end of the options
plain_goes : (words : List Word) → GoesOn words Plain (map plain words)
unfolding GoesOn
plain_goes [] = refl
plain_goes (w ∷ words) = record { more = map plain words; are = refl; rest = plain_goes words }

plain_only : (words : List Word) (pieces : List Piece) → GoesOn words Plain pieces → pieces ≡ map plain words
unfolding GoesOn
plain_only [] pieces h = h
plain_only (w ∷ words) pieces h = h.are ∙ ap (λ x. plain w ∷ x) (plain_only words h.more h.rest)

end_goes : (later : Option (List Word)) → GoesOn (behind later) Any (plain_behind later)
unfolding GoesOn
end_goes None = refl
end_goes (Some later) = inl (record { is = refl; rest = plain_goes later })

-- a piece in front
option_goes : (s : Setting) (v : Word) (first rest : List Word) (more : List Piece) → IsWritten (option s v) first → GoesOn rest Any more → GoesOn (first ++ rest) Any (option s v ∷ more)
unfolding GoesOn
option_goes s v first rest more (inl p) h =
    subst (λ (f : List Word). GoesOn (f ++ rest) Any (option s v ∷ more)) (sym p.0) (inr (inl (record { setting = s; is = refl; rest = record { isnt = p.1; first = record { more = more; are = refl; rest = h } } })))
option_goes s v first rest more (inr p) h =
    subst (λ (f : List Word). GoesOn (f ++ rest) Any (option s v ∷ more)) (sym p) (inr (inr (inl (record { setting = s; value = v; is = refl; first = record { more = more; are = refl; rest = h } }))))

piece_goes : (piece : Piece) (first rest : List Word) (more : List Piece) → IsWritten piece first → GoesOn rest Any more → GoesOn (first ++ rest) Any (piece ∷ more)
unfolding GoesOn
piece_goes (option s v) first rest more p h = option_goes s v first rest more p h
piece_goes (plain w) first rest more p h =
    subst (λ (f : List Word). GoesOn (f ++ rest) Any (plain w ∷ more)) (sym p.0) (inr (inr (inr (record { isnt = p.1; first = record { more = more; are = refl; rest = h } }))))

front_goes : (before : List Piece) (front : List Word) (later : Option (List Word)) → AreWritten before front → GoesOn (front ++ behind later) Any (before ++ plain_behind later)
unfolding AreWritten
front_goes [] front later h = subst (λ (f : List Word). GoesOn (f ++ behind later) Any (plain_behind later)) (sym h) (end_goes later)
front_goes (piece ∷ before) front later h =
    let goes = piece_goes piece h.first (h.rest ++ behind later) (before ++ plain_behind later) h.written (front_goes before h.rest later h.others) in
    let same : front ++ behind later ≡ h.first ++ (h.rest ++ behind later) = ap (λ f. f ++ behind later) h.whole ∙ append_assoc h.first h.rest (behind later) in
    subst (λ (f : List Word). GoesOn f Any (piece ∷ (before ++ plain_behind later))) (sym same) goes

-- a line is read
pub line_goes : (words : List Word) (pieces : List Piece) → IsCommandLine words pieces → GoesOn words Any pieces
line_goes words pieces line =
    subst (λ (w : List Word). GoesOn w Any pieces) (sym line.whole) (subst (λ (p : List Piece). GoesOn (line.front ++ behind line.later) Any p) (sym line.all) (front_goes line.before line.front line.later line.written))

-- what is read is a line
empty_line : (pieces : List Piece) → pieces ≡ [] → IsCommandLine [] pieces
unfolding AreWritten
empty_line pieces e = record { front = []; before = []; later = None; written = refl; whole = refl; all = e }

end_line : (w : Word) (words : List Word) (pieces : List Piece) → w ≡ end_of_options → pieces ≡ map plain words → IsCommandLine (w ∷ words) pieces
unfolding AreWritten
end_line w words pieces e p = record { front = []; before = []; later = Some words; written = refl; whole = ap (λ x. x ∷ words) e; all = p }

line_more : (piece : Piece) (first rest words : List Word) (more pieces : List Piece) → IsWritten piece first → words ≡ first ++ rest → pieces ≡ piece ∷ more → IsCommandLine rest more → IsCommandLine words pieces
unfolding AreWritten
line_more piece first rest words more pieces written e p line = record {
  front = first ++ line.front;
  before = piece ∷ line.before;
  later = line.later;
  written = record { first = first; rest = line.front; whole = refl; written = written; others = line.written };
  whole = e ∙ ap (λ x. first ++ x) line.whole ∙ sym (append_assoc first line.front (behind line.later));
  all = p ∙ ap (λ x. piece ∷ x) line.all;
}

-- both ways to go on at once: with any word, and with the value of an option that stands before
record AreLines (words : List Word) : Type 0 where
  any : (pieces : List Piece) → GoesOn words Any pieces → IsCommandLine words pieces
  value : (s : Setting) (w : Word) (pieces : List Piece) → w ≡ option_name s → GoesOn words (Value s) pieces → IsCommandLine (w ∷ words) pieces

any_line : (w : Word) (words : List Word) (pieces : List Piece) → AreLines words → GoesOn (w ∷ words) Any pieces → IsCommandLine (w ∷ words) pieces
unfolding GoesOn
any_line w words pieces rest (inl p) = end_line w words pieces p.is (plain_only words pieces p.rest)
any_line w words pieces rest (inr (inl p)) = rest.value p.setting w pieces p.is p.rest
any_line w words pieces rest (inr (inr (inl p))) =
    line_more (option p.setting p.value) (w ∷ []) words (w ∷ words) p.first.more pieces (inr (ap (λ x. x ∷ []) p.is)) refl p.first.are (rest.any p.first.more p.first.rest)
any_line w words pieces rest (inr (inr (inr p))) =
    line_more (plain w) (w ∷ []) words (w ∷ words) p.first.more pieces (refl, p.isnt) refl p.first.are (rest.any p.first.more p.first.rest)

value_line : (s : Setting) (name v : Word) (words : List Word) (pieces : List Piece) → AreLines words → name ≡ option_name s → GoesOn (v ∷ words) (Value s) pieces → IsCommandLine (name ∷ v ∷ words) pieces
unfolding GoesOn
value_line s name v words pieces rest e h =
    line_more (option s v) (name ∷ v ∷ []) words (name ∷ v ∷ words) h.first.more pieces (inl (ap (λ x. x ∷ v ∷ []) e, h.isnt)) refl h.first.are (rest.any h.first.more h.first.rest)

no_value : (s : Setting) (pieces : List Piece) → GoesOn [] (Value s) pieces → ⊥
unfolding GoesOn
no_value s pieces h = h

no_words : (pieces : List Piece) → GoesOn [] Any pieces → pieces ≡ []
unfolding GoesOn
no_words pieces h = h

are_lines : (words : List Word) → AreLines words
are_lines [] = record {
  any = λ pieces h. empty_line pieces (no_words pieces h);
  value = λ s w pieces e h. absurd (no_value s pieces h);
}
are_lines (w ∷ words) = record {
  any = λ pieces h. any_line w words pieces (are_lines words) h;
  value = λ s name pieces e h. value_line s name w words pieces (are_lines words) e h;
}

pub goes_is_line : (words : List Word) (pieces : List Piece) → GoesOn words Any pieces → IsCommandLine words pieces
goes_is_line words = (are_lines words).any

-- one word more
pub read_more : (words : List Word) (done : List Piece) (w : Word) (rest : List Word) (before behind : Next) (pieces : List Piece) → HasRead words done (w ∷ rest) before → Takes before w pieces behind → HasRead words (done ++ pieces) rest behind
read_more words done w rest before behind pieces read takes = record {
  sound = λ more h. rw append_assoc (read.sound (pieces ++ more) (takes.sound rest more h));
  whole = λ all h.
      let there = read.whole all h in
      let next = takes.whole rest there.more there.rest in
      record { more = next.more; are = there.are ∙ ap (λ x. done ++ x) next.are ∙ sym (append_assoc done pieces next.more); rest = next.rest };
}

pub read_none : (words : List Word) → HasRead words [] words Any
read_none words = record { sound = λ more h. h; whole = λ all h. record { more = all; are = refl; rest = h } }

-- a word that nothing can be made of, and an option without its value
pub stopped : (words : List Word) (done : List Piece) (w : Word) (rest : List Word) (before : Next) → HasRead words done (w ∷ rest) before → ((more : List Word) (all : List Piece) → GoesOn (w ∷ more) before all → ⊥) → IsNoLine words
stopped words done w rest before read stops pieces line =
    let there = read.whole pieces (line_goes words pieces line) in stops rest there.more there.rest

pub stopped_at_end : (words : List Word) (done : List Piece) (s : Setting) → HasRead words done [] (Value s) → IsNoLine words
stopped_at_end words done s read pieces line =
    let there = read.whole pieces (line_goes words pieces line) in no_value s there.more there.rest

-- the words are at their end
ended : (words : List Word) (done : List Piece) (behind : Next) → HasRead words done [] behind → GoesOn [] behind [] → ((more : List Piece) → GoesOn [] behind more → more ≡ []) → IsOnlyLine words done
ended words done behind read goes only = record {
  line = goes_is_line words done (subst (λ (p : List Piece). GoesOn words Any p) (append-nil done) (read.sound [] goes));
  alone = λ other line.
      let there = read.whole other (line_goes words other line) in
      there.are ∙ ap (λ x. done ++ x) (only there.more there.rest) ∙ append-nil done;
}

pub ended_any : (words : List Word) (done : List Piece) → HasRead words done [] Any → IsOnlyLine words done
unfolding GoesOn
ended_any words done read = ended words done Any read refl (λ more h. h)

pub ended_plain : (words : List Word) (done : List Piece) → HasRead words done [] Plain → IsOnlyLine words done
unfolding GoesOn
ended_plain words done read = ended words done Plain read refl (λ more h. h)
