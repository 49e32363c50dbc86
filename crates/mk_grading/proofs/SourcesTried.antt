-- The sources of a lattice without a grade, as they are tried.
use Rattle.std.proofs.Common.{◌≡◌, ◌⊎◌, inl, inr, ℕ, ◌*◌, true, false, List, length, All, Any, Option, Some, None, Result, Ok, Err, IfOk, IfErr, IfSome, IfNone, sym, ◌∙◌, subst, refl, arith, ℤ, pos}
use Rattle.std.specs.Option.{is_some}
use Rattle.std.proofs.lemmas.Option.{slice_get_within, get_or_from_slice_get}
use Rattle.std.proofs.lemmas.Int.{ints}
use Rattle.std.proofs.lemmas.List.Elements.{All-replicate}
use Rattle.mk_model.specs.Lattices.{ones}
use Rattle.mk_model.specs.Tables.{Grid, rows_of}
use Rattle.mk_model.specs.ChosenGradings.{IsGradingOf, IsColumnWeight, IsOrthogonal, HasNonzeroProduct, IsFirstProduct, FitsMatrix, matrix_sum, IsOnesOrSum, HasNoSource}
use Rattle.mk_grading.specs.declared.fault.GradeFault.{GradeFault}
use Rattle.mk_grading.specs.declared.fault.GradeFault.TheVariants.{Memory, NoGrading}
use Rattle.mk_grading.proofs.FirstFailures.{some_not_all}
use Rattle.mk_grading.proofs.GradedRows.{graded_by_ones, graded_by_sum}

-- the grading of these weights, if they are in range
pub record IsGradingMade (weights : List ℤ) (r : Result (List ℤ) GradeFault) : Type 0 where
  pub value : IfOk r (λ grading. grading ≡ weights)
  pub in_range : IfOk r (All IsColumnWeight)
  pub refused : IfErr r (λ fault. (fault ≡ Memory) ⊎ ((fault ≡ NoGrading) × Any (λ k. ¬ (IsColumnWeight k)) weights))

pub IfNone_then : {X : Type 0} {P : Type 0} (o : Option X) → is_some o ≡ false → IfNone o P → P
IfNone_then None e h = h
IfNone_then (Some x) e h = absurd (cc)

-- where some product isn't 0
pub HasNonzeroProduct-from_first : (lat : Grid) (w : List ℤ) (found : Option (ℕ × ℤ)) → is_some found ≡ true → IfSome found (λ f. IsFirstProduct lat w f.0 f.1) → HasNonzeroProduct lat w
HasNonzeroProduct-from_first lat w None e h = absurd (cc)
HasNonzeroProduct-from_first lat w (Some (r, v)) e h =
    (r, h.row, slice_get_within (rows_of lat) r h.row h.at, get_or_from_slice_get (rows_of lat) r h.row h.row h.at, λ z. h.nonzero (h.product ∙ z))

-- what is answered without a grade
pub record IsSourced (lat : Grid) (mat : Option Grid) (r : Result (List ℤ) GradeFault) : Type 0 where
  pub chosen : IfOk r (IsOnesOrSum lat mat)
  pub graded : IfOk r (IsGradingOf lat)
  pub caused : IfErr r (λ fault. (fault ≡ Memory) ⊎ ((fault ≡ NoGrading) × HasNoSource lat mat None))

module _ (lat : Grid) (filled : length lat.entries ≡ lat.rows * lat.columns) (mat : Option Grid) where
  -- all ones are in range
  ones_in_range : Any (λ k. ¬ (IsColumnWeight k)) (ones lat.columns) → ⊥
  ones_in_range h = some_not_all IsColumnWeight (ones lat.columns) h (All-replicate IsColumnWeight lat.columns (pos 1) (omega (arith, ints), omega (arith, ints)))

  pub ones_tried : (r : Result (List ℤ) GradeFault) → IsOrthogonal lat (ones lat.columns) → IsGradingMade (ones lat.columns) r → IsSourced lat mat r
  ones_tried (Ok w) sums h = record {
    chosen = inl (sums, h.value);
    graded = subst (IsGradingOf lat) (sym h.value) (graded_by_ones lat filled sums);
    caused = tt;
  }
  ones_tried (Err fault) sums h = record { chosen = tt; graded = tt; caused = only_memory h.refused }
    where
      only_memory : (fault ≡ Memory) ⊎ ((fault ≡ NoGrading) × Any (λ k. ¬ (IsColumnWeight k)) (ones lat.columns)) → (fault ≡ Memory) ⊎ ((fault ≡ NoGrading) × HasNoSource lat mat None)
      only_memory (inl memory) = inl memory
      only_memory (inr (no_grading, outside)) = absurd (ones_in_range outside)

  module _ (matrix : Grid) (given : mat ≡ Some matrix) (fits : FitsMatrix lat matrix) (long : length (matrix_sum matrix) ≡ matrix.columns) (not_ones : HasNonzeroProduct lat (ones lat.columns)) where
    pub sum_tried : (r : Result (List ℤ) GradeFault) → IsGradingMade (matrix_sum matrix) r → IsSourced lat mat r
    sum_tried (Ok w) h =
        let weights = subst (All IsColumnWeight) h.value h.in_range in
        record {
          chosen = inr (not_ones, rw given (weights, h.value));
          graded = subst (IsGradingOf lat) (sym h.value) (graded_by_sum lat filled matrix fits long weights);
          caused = tt;
        }
    sum_tried (Err fault) h = record { chosen = tt; graded = tt; caused = no_source h.refused }
      where
        no_source : (fault ≡ Memory) ⊎ ((fault ≡ NoGrading) × Any (λ k. ¬ (IsColumnWeight k)) (matrix_sum matrix)) → (fault ≡ Memory) ⊎ ((fault ≡ NoGrading) × HasNoSource lat mat None)
        no_source (inl memory) = inl memory
        no_source (inr (no_grading, outside)) = inr (no_grading, record { no_grade = refl; not_ones = not_ones; no_sum = rw given outside })
