-- How many pairs phases settled together.
use Rattle.std.proofs.Common.{◌≡◌, ℕ, ◌+◌, ◌<◌, ◌^◌, List, [], ◌∷◌, ◌++◌, length, arith, refl, ap, length-append}
use Rattle.std.proofs.lemmas.List.{length-map}
use Rattle.mk_model.specs.Books.{settled_in}
use Rattle.mk_journal.specs.Entries.{settle_of}
use Rattle.mk_core.specs.declared.phase.Phase.{Phase}
use Rattle.mk_solve.specs.Books.{settled_of, IsBookKept}

pub none_settled : settled_of [] ≡ 0
unfolding settled_in
none_settled = refl

pub settled_push : (phases : List Phase) (phase : Phase) → settled_of (phases ++ phase ∷ []) ≡ settled_of phases + length phase.journal
unfolding settled_in
settled_push [] phase = omega (arith, length-map phase.journal settle_of)
settled_push (first ∷ phases) phase = omega (arith, settled_push phases phase)

pub length-push : (phases : List Phase) (phase : Phase) → length (phases ++ phase ∷ []) ≡ length phases + 1
length-push phases phase = omega (arith, length-append phases (phase ∷ []))

-- a phase more
pub kept_push : (settled more : ℕ) (phases after : List Phase) (phase : Phase) → IsBookKept settled phases → after ≡ phases ++ phase ∷ [] → more ≡ length phase.journal → length phases + 1 < 2 ^ 32 → IsBookKept (settled + more) after
kept_push settled more phases after phase h e m l = record {
  sum = omega (arith, h.sum, m, settled_push phases phase, ap settled_of e);
  few = omega (arith, l, length-push phases phase, ap (λ (xs : List Phase). length xs) e);
}
