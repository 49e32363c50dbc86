-- Moves that are copied, turned and put at the end.
use Rattle.std.proofs.Common.{◌≡◌, ℕ, ◌+◌, List, [], ◌∷◌, ◌++◌, length, take, Some, slice_get, arith, ap, sym, ◌∙◌, subst, ℤ}
use Rattle.std.specs.List.{AllZip}
use Rattle.std.proofs.lemmas.List.{take_more, map-append}
use Rattle.std.proofs.lemmas.List.Elements.{AllZip-push}
use Rattle.mk_move.specs.Moves.{Weighed, IsRowOriented, IsGraded}
use Rattle.mk_move.specs.MoveLists.{BasisView, BelongsTo, vectors_of}
use Rattle.mk_move.proofs.Parts.{length-oriented}
use Rattle.mk_move.proofs.MoveVectors.{vector_at, length-vectors_of}
use Rattle.mk_model.specs.Orders.{IsRowTurned}
use Rattle.mk_saturate.specs.Saturations.{IsTurnedOnto}
use Rattle.mk_saturate.proofs.RowsTurned.{got_within}

-- a row that is oriented by the list belongs to it
pub turned_belongs : (p : List ℕ) (w : List ℤ) (row next : Weighed) → length row.entries ≡ length p → IsRowOriented row.entries p next.entries → IsGraded w next → BelongsTo p w next
turned_belongs p w row next same h g = record {
  columns = length-oriented row.entries p next.entries h ∙ same;
  graded = g;
  oriented = h.turned.oriented;
}

pub turned_row : (p : List ℕ) (row entries : List ℤ) → IsRowOriented row p entries → IsRowTurned p row entries
turned_row p row entries h = record { either = h.turned.either; oriented = h.turned.oriented }

pub turned_more : (p : List ℕ) (rows : List Weighed) (k : ℕ) (row : Weighed) (turned after : BasisView) → slice_get rows k ≡ Some row → turned.priority ≡ p → AllZip (IsRowTurned p) (take k (vectors_of rows)) (vectors_of turned.moves) → IsTurnedOnto turned row after → AllZip (IsRowTurned p) (take (k + 1) (vectors_of rows)) (vectors_of after.moves)
turned_more p rows k row turned after at same z h =
    subst (λ xs. AllZip (IsRowTurned p) xs (vectors_of after.moves)) (sym front)
    (subst (λ ys. AllZip (IsRowTurned p) (take k (vectors_of rows) ++ row.entries ∷ []) ys) (sym back)
    (AllZip-push (IsRowTurned p) (take k (vectors_of rows)) (vectors_of turned.moves) row.entries h.move.entries z
    (subst (λ (l : List ℕ). IsRowTurned l row.entries h.move.entries) same h.turned)))
  where
    front : take (k + 1) (vectors_of rows) ≡ take k (vectors_of rows) ++ row.entries ∷ []
    front = take_more (vectors_of rows) k [] (omega (arith, got_within rows k row at, length-vectors_of rows)) ∙ ap (λ x. take k (vectors_of rows) ++ x ∷ []) (vector_at rows k row at)

    back : vectors_of after.moves ≡ vectors_of turned.moves ++ h.move.entries ∷ []
    back = ap (λ (b : BasisView). vectors_of b.moves) h.pushed ∙ map-append (λ (m : Weighed). m.entries) turned.moves (h.move ∷ [])
