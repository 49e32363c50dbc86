-- The moves of a basis: their columns and products, and that their leads aren't zero.
use Rattle.std.proofs.Common.{◌≡◌, ◌≢◌, List, [], length, ℤ, pos, refl, sym, ◌∙◌, Ok, Some}
use Rattle.std.proofs.lemmas.List.Elements.{All-nil}
use Rattle.mk_model.specs.Vectors.{zeros, positive_part, weight}
use Rattle.mk_model.specs.Lattices.{lattice_of, HasGrading}
use Rattle.mk_move.specs.Gradings.{AreWeights}
use Rattle.mk_move.specs.Moves.{Weighed, ReadsRow}
use Rattle.mk_move.specs.MoveLists.{BasisView, BelongsTo, IsBasis}
use Rattle.mk_move.proofs.Belongings.{BelongsTo-of_row, BelongsTo-lead}
use Rattle.mk_reduce.proofs.Heights.{IsLevel}

-- weights are a grading of any columns that are as many
pub grading_of : (w : List ℤ) → AreWeights w → HasGrading (lattice_of (length w) [] w)
grading_of w h = record {
  columns = refl;
  positive = λ c l. (h.each c (pos 0) l).0;
  rows_columns = All-nil (λ row. length row ≡ length w);
  rows_weight = All-nil (λ row. weight w row ≡ pos 0);
}

module _ (basis : BasisView) (h : IsBasis basis) (m : Weighed) (b : BelongsTo basis.priority basis.grading m) where
  pub columns_of : length m.entries ≡ length basis.grading
  columns_of = b.columns ∙ h.columns

  pub level_of : IsLevel (grading_of basis.grading h.grading) basis.priority m.entries
  level_of = record { columns = columns_of; product = b.graded.product }

  pub lead_not_zero : positive_part m.entries ≢ zeros (length m.entries)
  lead_not_zero = BelongsTo-lead basis.priority basis.grading m h.priority h.grading h.columns b

-- the move of a row belongs to the basis
pub row_belongs : (basis : BasisView) → IsBasis basis → (row : List ℤ) (m : Weighed) → length row ≡ length basis.grading → ReadsRow row basis.grading basis.priority (Ok (Some m)) → BelongsTo basis.priority basis.grading m
row_belongs basis h row m l read = BelongsTo-of_row row basis.grading basis.priority m (l ∙ sym h.columns) read
