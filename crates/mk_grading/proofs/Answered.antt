-- What a call that chooses a grading says of its answer.
use Rattle.std.proofs.Common.{◌≡◌, ◌⊎◌, inl, inr, List, All, Any, Option, Some, None, Result, Ok, Err, IfOk, IfErr, IfSome, refl, sym, subst, ℤ}
use Rattle.mk_model.specs.Tables.{Grid}
use Rattle.mk_model.specs.ChosenGradings.{IsGradingOf, IsSmallEntry, IsColumnWeight, FitsMatrix, FitsGrade, IsGradeOf, HasNoSource}
use Rattle.mk_grading.specs.Choices.{IsGradeFault}
use Rattle.mk_grading.specs.declared.fault.GradeFault.{GradeFault}
use Rattle.mk_grading.specs.declared.fault.GradeFault.TheVariants.{Memory, NoGrading}
use Rattle.mk_grading.proofs.FirstFailures.{some_not_all}
use Rattle.mk_grading.proofs.SourcesTried.{IsGradingMade, IsSourced}
use Rattle.mk_grading.proofs.OneChoice.{only_choice}

module _ (lat : Grid) (mat grade : Option Grid) where
  -- the clauses of `choose`
  abbrev pub Answers : Result (List ℤ) GradeFault → Type 0
  Answers r = record {
    chosen : IfOk r (IsGradeOf lat mat grade);
    graded : IfOk r (IsGradingOf lat);
    caused : IfErr r (λ fault. (fault ≡ Memory) ⊎ IsGradeFault lat mat grade fault);
    answered : (w : List ℤ) → IsGradeOf lat mat grade w → (r ≡ Ok w) ⊎ (r ≡ Err Memory);
    refused : (fault : GradeFault) → IsGradeFault lat mat grade fault → (r ≡ Err fault) ⊎ (r ≡ Err Memory);
  }

  pub answers_ok : (w : List ℤ) → IsGradeOf lat mat grade w → IsGradingOf lat w → Answers (Ok w)
  answers_ok w h graded = record {
    chosen = h;
    graded = graded;
    caused = tt;
    answered = λ u k. inl (only_choice lat mat grade (Ok w) (Ok u) h k);
    refused = λ fault k. inl (only_choice lat mat grade (Ok w) (Err fault) h k);
  }

  pub answers_cause : (fault : GradeFault) → IsGradeFault lat mat grade fault → Answers (Err fault)
  answers_cause fault h = record {
    chosen = tt;
    graded = tt;
    caused = inr h;
    answered = λ w k. inl (only_choice lat mat grade (Err fault) (Ok w) h k);
    refused = λ other k. inl (only_choice lat mat grade (Err fault) (Err other) h k);
  }

  pub answers_memory : Answers (Err Memory)
  answers_memory = record {
    chosen = tt;
    graded = tt;
    caused = inl refl;
    answered = λ w k. inr refl;
    refused = λ fault k. inr refl;
  }

  pub answers_refusal : (fault : GradeFault) → (fault ≡ Memory) ⊎ IsGradeFault lat mat grade fault → Answers (Err fault)
  answers_refusal fault (inl e) = subst (λ (f : GradeFault). Answers (Err f)) (sym e) answers_memory
  answers_refusal fault (inr h) = answers_cause fault h

module _ (lat : Grid) (mat : Option Grid) (fits : IfSome mat (FitsMatrix lat)) where
  -- what is answered without a grade
  pub without_grade : (r : Result (List ℤ) GradeFault) → IsSourced lat mat r → Answers lat mat None r
  without_grade (Ok w) h = answers_ok lat mat None w (record { matrix_fits = fits; grade_fits = tt; source = h.chosen }) h.graded
  without_grade (Err fault) h = refusal h.caused
    where
      refusal : (fault ≡ Memory) ⊎ ((fault ≡ NoGrading) × HasNoSource lat mat None) → Answers lat mat None (Err fault)
      refusal (inl e) = subst (λ (f : GradeFault). Answers lat mat None (Err f)) (sym e) (answers_memory lat mat None)
      refusal (inr (e, h)) = subst (λ (f : GradeFault). Answers lat mat None (Err f)) (sym e) (answers_cause lat mat None NoGrading (fits, h))

  -- what is answered for a grade that fits
  module _ (grade : Grid) (small : All IsSmallEntry grade.entries) (grade_fits : FitsGrade lat grade) (graded : IsGradingOf lat grade.entries) where
    grade_in_range : Any (λ k. ¬ (IsColumnWeight k)) grade.entries → ⊥
    grade_in_range h = some_not_all IsColumnWeight grade.entries h (λ k d l. (grade_fits.positive k d l, (small k d l).1))

    pub with_grade : (r : Result (List ℤ) GradeFault) → IsGradingMade grade.entries r → Answers lat mat (Some grade) r
    with_grade (Ok w) h =
        answers_ok lat mat (Some grade) w (record { matrix_fits = fits; grade_fits = grade_fits; source = h.value })
        (subst (IsGradingOf lat) (sym h.value) graded)
    with_grade (Err fault) h = refusal h.refused
      where
        refusal : (fault ≡ Memory) ⊎ ((fault ≡ NoGrading) × Any (λ k. ¬ (IsColumnWeight k)) grade.entries) → Answers lat mat (Some grade) (Err fault)
        refusal (inl e) = subst (λ (f : GradeFault). Answers lat mat (Some grade) (Err f)) (sym e) (answers_memory lat mat (Some grade))
        refusal (inr (e, outside)) = absurd (grade_in_range outside)
