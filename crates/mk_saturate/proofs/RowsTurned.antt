-- The rows of a table, turned into moves one after another.
use Rattle.std.proofs.Common.{◌≡◌, ℕ, zero, suc, ◌+◌, ◌<◌, ◌≤◌, Bool, true, false, cond, not, List, [], ◌∷◌, ◌++◌, length, take, get_or, slice_get, Option, Some, None, Ok, All, ap, sym, ◌∙◌, subst, arith, ℤ, pos, length-append}
use Rattle.std.proofs.lemmas.List.{append-nil, map-append}
use Rattle.std.proofs.lemmas.List.Elements.{filter_more, All-more, AllZip-push}
use Rattle.std.specs.List.{AllZip}
use Rattle.mk_model.specs.Vectors.{weight}
use Rattle.mk_model.specs.Lattices.{is_zero, nonzero_rows}
use Rattle.mk_model.proofs.VectorAlgebra.{weight-zeros}
use Rattle.mk_model.proofs.LatticeLaws.{is_zero-true, is_zero-false}
use Rattle.mk_move.specs.Moves.{Weighed, ReadsRow}
use Rattle.mk_move.specs.MoveLists.{BasisView, vectors_of}
use Rattle.mk_model.specs.Orders.{IsRowTurned}
use Rattle.mk_saturate.specs.Starts.{Starts, PutsOn, with_start}
use Rattle.mk_move.proofs.Belongings.{BelongsTo-of_row}

-- what is got at a place stands there
pub got_is : {X : Type 0} (xs : List X) (i : ℕ) (x d : X) → slice_get xs i ≡ Some x → get_or xs i d ≡ x
got_is [] i x d e = absurd (cc)
got_is (y ∷ xs) zero x d e = cc
got_is (y ∷ xs) (suc i) x d e = got_is xs i x d e

pub got_within : {X : Type 0} (xs : List X) (i : ℕ) (x : X) → slice_get xs i ≡ Some x → i < length xs
got_within [] i x e = absurd (cc)
got_within (y ∷ xs) zero x e = omega arith
got_within (y ∷ xs) (suc i) x e = omega (arith, got_within xs i x e)

-- ---- one row more
module _ (rows : List (List ℤ)) (r : ℕ) (row : List ℤ) (at : slice_get rows r ≡ Some row) where
  one_more : (b : Bool) → is_zero row ≡ b → nonzero_rows (take (r + 1) rows) ≡ nonzero_rows (take r rows) ++ cond (not b) (row ∷ []) []
  one_more b e =
      filter_more (λ row. not (is_zero row)) rows r [] (got_within rows r row at)
      ∙ ap (λ x. nonzero_rows (take r rows) ++ cond (not (is_zero x)) (x ∷ []) []) (got_is rows r row [] at)
      ∙ ap (λ z. nonzero_rows (take r rows) ++ cond (not z) (row ∷ []) []) e

  module _ (w : List ℤ) (p : List ℕ) (basis : BasisView) (h : Starts (take r rows) w p (Ok basis)) where
    graded_more : weight w row ≡ pos 0 → All (λ row. weight w row ≡ pos 0) (take (r + 1) rows)
    graded_more z =
        All-more (λ row. weight w row ≡ pos 0) rows r [] (got_within rows r row at) h.1 (ap (weight w) (got_is rows r row [] at) ∙ z)

    turned : (found : Option Weighed) → ReadsRow row w p (Ok found) → AllZip (IsRowTurned p) (nonzero_rows (take (r + 1) rows)) (vectors_of (with_start basis.moves found))
    turned None z = subst (λ xs. AllZip (IsRowTurned p) xs (vectors_of basis.moves)) (sym (one_more true (is_zero-true row z) ∙ append-nil (nonzero_rows (take r rows)))) h.0.moves
    turned (Some m) (z, k) =
        subst (λ ys. AllZip (IsRowTurned p) (nonzero_rows (take (r + 1) rows)) ys) (sym (map-append (λ (m : Weighed). m.entries) basis.moves (m ∷ [])))
        (subst (λ xs. AllZip (IsRowTurned p) xs (vectors_of basis.moves ++ m.entries ∷ [])) (sym (one_more false (is_zero-false row k.entries.not_zero)))
        (AllZip-push (IsRowTurned p) (nonzero_rows (take r rows)) (vectors_of basis.moves) row m.entries h.0.moves (record { either = k.entries.turned.either; oriented = k.entries.turned.oriented })))

    product : (found : Option Weighed) → ReadsRow row w p (Ok found) → weight w row ≡ pos 0
    product None z = ap (weight w) z ∙ weight-zeros w (length row)
    product (Some m) (z, k) = z

    pub row_taken : (found : Option Weighed) (after : BasisView) → ReadsRow row w p (Ok found) → after ≡ record basis { moves = with_start basis.moves found } → Starts (take (r + 1) rows) w p (Ok after)
    row_taken found after k e =
        subst (λ b. Starts (take (r + 1) rows) w p (Ok b)) (sym e)
        (record { priority = h.0.priority; grading = h.0.grading; moves = turned found k }, graded_more (product found k))

pub length-with_move : (moves : List Weighed) (found : Option Weighed) (r : ℕ) → length moves ≤ r → length (with_start moves found) ≤ r + 1
length-with_move moves None r l = omega (arith, l)
length-with_move moves (Some m) r l = omega (arith, l, length-append moves (m ∷ []))

-- what is put at the end belongs there
pub puts_on : (basis : BasisView) (row : List ℤ) (found : Option Weighed) (r : ℕ) → length row ≡ length basis.priority → ReadsRow row basis.grading basis.priority (Ok found) →
    length basis.moves ≤ r → r ≤ 4096 → PutsOn basis found
puts_on basis row None r e h l few = tt
puts_on basis row (Some m) r e h l few = (BelongsTo-of_row row basis.grading basis.priority m e h, omega (arith, l, few))
