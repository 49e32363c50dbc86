-- The answer of three like columns.
use Rattle.std.proofs.Common.{◌≡◌, List, [], ◌∷◌, length, None, ℤ, pos, ◌<ℤ◌, All, Contains, arith, refl}
use Rattle.std.proofs.lemmas.Int.{ints}
use Rattle.std.proofs.lemmas.List.Elements.{All-contains}
use Rattle.mk_model.specs.Vectors.{combine, add, subtract, negate, scale, positive_part, negative_part, weight, IsPoint}
use Rattle.mk_model.specs.Lattices.{combination, InLattice, HasGrading, ones}
use Rattle.mk_model.specs.Orders.{standard, lead}
use Rattle.mk_model.specs.Bases.{IsMove, IsMinimalMarkovBasis}
use Rattle.mk_model.specs.Reductions.{IsIrreducible}
use Rattle.mk_model.specs.ReducedBases.{IsReducedBasis}
use Rattle.mk_model.specs.Saturation.{divides}
use Rattle.mk_examples.specs.Worked.{like_row, like_rows, like_first, like_second, like_moves, like_lattice}
use Rattle.mk_model.proofs.LatticeLaws.{InLattice-weight}
use Rattle.mk_examples.proofs.Ascending.{ascends-true}
use Rattle.mk_examples.proofs.VectorExamples.{graded_by_ones}
use Rattle.mk_examples.proofs.SmallVectors.{three_entries, same_three, Divides-nil, Divides-cons, less, oriented_by_test, two_factors, all_two}
use Rattle.mk_examples.proofs.UndividedBases.{reduced_from_undivided}
use Rattle.mk_model.proofs.Components.{answer_of_one_weight}
use Rattle.mk_model.proofs.TheAnswer.{the_answer}

pub sums : All (λ row. weight (ones 3) row ≡ pos 0) like_rows
unfolding weight
sums = all_two (λ row. weight (ones 3) row ≡ pos 0) like_row like_first refl refl

graded : HasGrading like_lattice
graded = graded_by_ones 3 like_rows (all_two (λ row. length row ≡ 3) like_row like_first refl refl) sums

member : (m : List ℤ) → Contains like_moves m → IsMove 3 like_rows m
unfolding combination add combine scale positive_part negative_part negate
member m h =
    All-contains (IsMove 3 like_rows) like_moves m
    (all_two (IsMove 3 like_rows) like_first like_second
    (record { in_lattice = (two_factors (pos 0) (pos 1), refl); oriented = oriented_by_test (standard 3) like_first refl })
    (record { in_lattice = (two_factors (pos 1) (pos 1), refl); oriented = oriented_by_test (standard 3) like_second refl })) h

-- what no lead divides
undivided : (a b c : ℤ) → IsPoint 3 (a ∷ b ∷ c ∷ []) → IsIrreducible like_moves (a ∷ b ∷ c ∷ []) → (a <ℤ pos 1) × (b <ℤ pos 1)
unfolding positive_part
undivided a b c p none = (
  less a (pos 1) (λ l. none like_second (1, omega arith, refl) (Divides-cons l
      (Divides-cons (p.nonnegative 1) (Divides-cons (p.nonnegative 2) Divides-nil)))),
  less b (pos 1) (λ l. none like_first (0, omega arith, refl) (Divides-cons (p.nonnegative 0)
      (Divides-cons l (Divides-cons (p.nonnegative 2) Divides-nil)))),
)

one_undivided : (a b c d e f : ℤ) → IsPoint 3 (a ∷ b ∷ c ∷ []) → IsPoint 3 (d ∷ e ∷ f ∷ []) →
    InLattice 3 like_rows (subtract (a ∷ b ∷ c ∷ []) (d ∷ e ∷ f ∷ [])) →
    IsIrreducible like_moves (a ∷ b ∷ c ∷ []) → IsIrreducible like_moves (d ∷ e ∷ f ∷ []) → (a ∷ b ∷ c ∷ []) ≡ d ∷ e ∷ f ∷ []
unfolding weight subtract combine
one_undivided a b c d e f p q h none other =
    let sum = InLattice-weight (ones 3) 3 like_rows (subtract (a ∷ b ∷ c ∷ []) (d ∷ e ∷ f ∷ [])) sums h in
    let (i, j) = undivided a b c p none in
    let (k, l) = undivided d e f q other in
    let first : a ≡ d = omega (arith, ints, i, k, p.nonnegative 0, q.nonnegative 0) in
    let second : b ≡ e = omega (arith, ints, j, l, p.nonnegative 1, q.nonnegative 1) in
    same_three a b c d e f first second (omega (arith, ints, sum, first, second))

one : (x y : List ℤ) → IsPoint 3 x → IsPoint 3 y → InLattice 3 like_rows (subtract x y) → IsIrreducible like_moves x →
    IsIrreducible like_moves y → x ≡ y
one x y p q h none other =
    let e = three_entries x p.columns in
    let f = three_entries y q.columns in
    rw (e, f) (one_undivided _ _ _ _ _ _ (rw e at p) (rw f at q) (rw (e, f) at h) (rw e at none) (rw f at other))

like_basis : IsReducedBasis like_lattice like_moves
unfolding divides subtract combine positive_part negative_part negate weight
like_basis = reduced_from_undivided graded like_moves member one refl refl (ascends-true 3 (ones 3) like_moves refl)

weights : (m : List ℤ) → Contains like_moves m → weight (ones 3) (lead m) ≡ pos 1
unfolding weight positive_part
weights m h = All-contains (λ m. weight (ones 3) (lead m) ≡ pos 1) like_moves m
    (all_two (λ m. weight (ones 3) (lead m) ≡ pos 1) like_first like_second refl refl) h

pub of_like_columns : IsMinimalMarkovBasis like_lattice None like_moves
of_like_columns = the_answer graded (answer_of_one_weight graded like_basis (pos 1) weights)
