-- A copy of the first moves of a basis grows by the next one.
use Rattle.std.proofs.Common.{◌≡◌, List, [], ◌∷◌, ◌++◌, length, get_or, slice_get, Some, refl, sym, ap, ◌∙◌, arith, append_assoc}
use Rattle.std.proofs.Math.Seq.{get_or-append_seam}
use Rattle.std.proofs.lemmas.List.{append-nil}
use Rattle.std.proofs.lemmas.Option.{get_or_from_slice_get, slice_get_within}
use Rattle.mk_move.specs.Moves.{Weighed}
use Rattle.mk_move.specs.MoveLists.{BasisView}
use Rattle.mk_ledger.specs.Settlings.{with_placed}
use Rattle.mk_core.specs.GrownBases.{IsLonger}
use Rattle.mk_core.proofs.GrownBases.{longer_then}

module _ (copy basis : BasisView) (longer : IsLonger copy basis) (m : Weighed)
    (at : slice_get basis.moves (length copy.moves) ≡ Some m) where
  behind : (more : List Weighed) → basis.moves ≡ copy.moves ++ more → (rest : List Weighed) × (basis.moves ≡ (copy.moves ++ m ∷ []) ++ rest)
  behind [] e = absurd (omega (
    arith,
    slice_get_within basis.moves (length copy.moves) m at,
    ap length e,
    ap length (append-nil copy.moves),
  ))
  behind (next ∷ rest) e =
      let same : next ≡ m = sym (get_or-append_seam copy.moves next rest m) ∙ ap (λ ms. get_or ms (length copy.moves) m) (sym e)
      ∙ get_or_from_slice_get basis.moves (length copy.moves) m m at in
      (rest, e ∙ ap (λ n. copy.moves ++ n ∷ rest) same ∙ sym (append_assoc copy.moves (m ∷ []) rest))

  pub next_copied : IsLonger (with_placed copy m) basis
  next_copied = let (rest, e) = behind longer.more longer.moves in
      record { priority = longer.priority; grading = longer.grading; more = rest; moves = e }

pub grown_copy : (first copy : BasisView) (m : Weighed) → IsLonger first copy → IsLonger first (with_placed copy m)
grown_copy first copy m h = longer_then first copy (with_placed copy m) h
    (record { priority = refl; grading = refl; more = m ∷ []; moves = refl })
