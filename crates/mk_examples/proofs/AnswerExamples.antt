-- The answers for one row of double_move columns, for one of eight, and for a row of zeros.
use Rattle.std.proofs.Common.{◌≡◌, inl, inr, ℕ, List, [], ◌∷◌, length, None, ℤ, pos, arith, refl}
use Rattle.std.proofs.lemmas.Int.{ints}
use Rattle.std.proofs.lemmas.List.Elements.{All-nil, All-cons}
use Rattle.mk_model.specs.Vectors.{zeros, combine, add, subtract, scale, negate, weight, positive_part, negative_part}
use Rattle.mk_model.specs.Lattices.{lattice_of, combination, HasGrading, ones}
use Rattle.mk_model.specs.Orders.{standard}
use Rattle.mk_model.specs.Walks.Walk.{stay, step}
use Rattle.mk_model.specs.Bases.{MovesBefore, IsEssential, IsMinimalMarkovBasis}
use Rattle.mk_examples.specs.Worked.{double_move, fourfold_move, double_lattice, eight_row, eight_move}
use Rattle.mk_model.proofs.OneRow.{the_answer_of_row, the_answer_of_no_row}
use Rattle.mk_examples.proofs.VectorExamples.{graded_by_ones}
use Rattle.mk_examples.proofs.SmallVectors.{oriented_by_test}
use Rattle.mk_examples.proofs.WalkExamples.{point_of_two}

pub row_graded : (n : ℕ) (row : List ℤ) → length row ≡ n → weight (ones n) row ≡ pos 0 → HasGrading (lattice_of n (row ∷ []) (ones n))
row_graded n row l e =
    graded_by_ones n (row ∷ []) (All-cons (λ row. length row ≡ n) row [] l (All-nil (λ row. length row ≡ n)))
    (All-cons (λ row. weight (ones n) row ≡ pos 0) row [] e (All-nil (λ row. weight (ones n) row ≡ pos 0)))

pub of_two_columns : IsMinimalMarkovBasis double_lattice None (double_move ∷ [])
unfolding weight negate positive_part negative_part
of_two_columns = the_answer_of_row 2 (double_move ∷ []) (ones 2) double_move double_move (row_graded 2 double_move refl refl) refl
    (inl refl) (inl (record { lt = tt }))

pub negated : IsMinimalMarkovBasis (lattice_of 8 (eight_row ∷ []) (ones 8)) None (eight_move ∷ [])
unfolding weight negate positive_part negative_part
negated = the_answer_of_row 8 (eight_row ∷ []) (ones 8) eight_row eight_move (row_graded 8 eight_row refl refl) refl (inr refl)
    (inl (record { lt = tt }))

pub of_zeros : IsMinimalMarkovBasis (lattice_of 3 ((zeros 3) ∷ []) (ones 3)) None []
unfolding weight
of_zeros = the_answer_of_no_row 3 ((zeros 3) ∷ []) (ones 3) (row_graded 3 (zeros 3) refl refl) refl

-- ---- before (4 -4) stands (2 -2), which joins its ends
pub earlier : MovesBefore double_lattice fourfold_move double_move
unfolding combination combine add scale negate positive_part negative_part weight
earlier = (
  record { in_lattice = ((λ i. pos 1), refl); oriented = oriented_by_test (standard 2) double_move refl },
  inl (omega (arith, ints)),
)

pub multiple : ¬ (IsEssential double_lattice fourfold_move)
unfolding combine add subtract positive_part negate negative_part
multiple e = e.not_joined (step (point_of_two 4 0) (double_move, earlier, inr refl)
    (step (point_of_two 2 2) (double_move, earlier, inr refl) (stay (point_of_two 0 4))))
