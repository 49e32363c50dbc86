-- Moves that are put into a basis one after another.
use Rattle.std.proofs.Common.{◌≡◌, List, [], ◌∷◌, ◌++◌, ap, ◌∙◌}
use Rattle.mk_move.specs.Moves.{Weighed}
use Rattle.mk_move.specs.MoveLists.{BasisView}

-- the moves, with the list and the grading of a basis
pub record IsMadeOf (basis : BasisView) (moves : List Weighed) (made : BasisView) : Type 0 where
  pub moves_are : made.moves ≡ moves
  pub priority : made.priority ≡ basis.priority
  pub grading : made.grading ≡ basis.grading

pub made_more : (basis : BasisView) (moves : List Weighed) (made after : BasisView) (m : Weighed) → IsMadeOf basis moves made → after ≡ record made { moves = made.moves ++ m ∷ [] } → IsMadeOf basis (moves ++ m ∷ []) after
made_more basis moves made after m h e = record {
  moves_are = ap (λ b. b.moves) e ∙ ap (λ xs. xs ++ m ∷ []) h.moves_are;
  priority = ap (λ b. b.priority) e ∙ h.priority;
  grading = ap (λ b. b.grading) e ∙ h.grading;
}
