-- The answer of the twisted cubic.
use Rattle.std.proofs.Common.{◌≡◌, ◌⊎◌, inl, inr, List, [], ◌∷◌, length, None, ℤ, pos, negsuc, ◌+ℤ◌, ◌-ℤ◌, ◌*ℤ◌, ◌≤ℤ◌, ◌<ℤ◌, All, Contains, arith, refl}
use Rattle.std.proofs.lemmas.Int.{ints}
use Rattle.std.proofs.lemmas.List.Elements.{All-contains}
use Rattle.mk_model.specs.Vectors.{combine, add, subtract, negate, scale, positive_part, negative_part, weight, IsPoint}
use Rattle.mk_model.specs.Lattices.{combination, InLattice, HasGrading, ones}
use Rattle.mk_model.specs.Orders.{standard, lead}
use Rattle.mk_model.specs.Bases.{IsMove, IsMinimalMarkovBasis}
use Rattle.mk_model.specs.Reductions.{IsIrreducible}
use Rattle.mk_model.specs.ReducedBases.{IsReducedBasis}
use Rattle.mk_model.specs.Saturation.{divides}
use Rattle.mk_examples.specs.Worked.{cubic_top, cubic_bottom, cubic_rows, cubic_first, cubic_second, cubic_third, cubic_moves, cubic_lattice}
use Rattle.mk_model.proofs.LatticeLaws.{InLattice-weight}
use Rattle.mk_examples.proofs.Ascending.{ascends-true}
use Rattle.mk_examples.proofs.VectorExamples.{graded_by_ones}
use Rattle.mk_examples.proofs.SmallVectors.{four_entries, same_four, Divides-nil, Divides-cons, less, less_either, oriented_by_test, two_factors, all_two, all_three}
use Rattle.mk_examples.proofs.UndividedBases.{reduced_from_undivided}
use Rattle.mk_model.proofs.Components.{answer_of_one_weight}
use Rattle.mk_model.proofs.TheAnswer.{the_answer}

sums : All (λ row. weight (ones 4) row ≡ pos 0) cubic_rows
unfolding weight
sums = all_two (λ row. weight (ones 4) row ≡ pos 0) cubic_top cubic_bottom refl refl

-- the rows have product 0 with the degrees as well
abbrev degrees : List ℤ
degrees = pos 0 ∷ pos 1 ∷ pos 2 ∷ pos 3 ∷ []

products : All (λ row. weight degrees row ≡ pos 0) cubic_rows
unfolding weight
products = all_two (λ row. weight degrees row ≡ pos 0) cubic_top cubic_bottom refl refl

pub cubic_graded : HasGrading cubic_lattice
cubic_graded = graded_by_ones 4 cubic_rows (all_two (λ row. length row ≡ 4) cubic_top cubic_bottom refl refl) sums

pub cubic_member : (m : List ℤ) → Contains cubic_moves m → IsMove 4 cubic_rows m
unfolding combination add combine scale positive_part negative_part negate
cubic_member m h =
    All-contains (IsMove 4 cubic_rows) cubic_moves m
    (all_three (IsMove 4 cubic_rows) cubic_second cubic_third cubic_first
    (record { in_lattice = (two_factors (pos 0) (negsuc 0), refl); oriented = oriented_by_test (standard 4) cubic_second refl })
    (record { in_lattice = (two_factors (negsuc 0) (negsuc 0), refl); oriented = oriented_by_test (standard 4) cubic_third refl })
    (record { in_lattice = (two_factors (negsuc 0) (pos 0), refl); oriented = oriented_by_test (standard 4) cubic_first refl })) h

-- what no lead divides
abbrev IsSmall : ℤ → ℤ → Type 0
IsSmall b c = (b <ℤ pos 2) × (c <ℤ pos 2) × ((b <ℤ pos 1) ⊎ (c <ℤ pos 1))

undivided : (a b c d : ℤ) → IsPoint 4 (a ∷ b ∷ c ∷ d ∷ []) → IsIrreducible cubic_moves (a ∷ b ∷ c ∷ d ∷ []) → IsSmall b c
unfolding positive_part
undivided a b c d p none = (
  less b (pos 2) (λ l. none cubic_first (2, omega arith, refl) (Divides-cons (p.nonnegative 0)
      (Divides-cons l (Divides-cons (p.nonnegative 2) (Divides-cons (p.nonnegative 3) Divides-nil))))),
  less c (pos 2) (λ l. none cubic_second (0, omega arith, refl) (Divides-cons (p.nonnegative 0)
      (Divides-cons (p.nonnegative 1) (Divides-cons l (Divides-cons (p.nonnegative 3) Divides-nil))))),
  less_either b c (pos 1) (λ k l. none cubic_third (1, omega arith, refl)
      (Divides-cons (p.nonnegative 0) (Divides-cons k (Divides-cons l (Divides-cons (p.nonnegative 3) Divides-nil))))),
)

-- two such pairs that differ by a multiple of 3 in the degree are the same
same_pair : (b c f g k : ℤ) → IsSmall b c → IsSmall f g → pos 0 ≤ℤ b → pos 0 ≤ℤ c → pos 0 ≤ℤ f → pos 0 ≤ℤ g →
    ((b -ℤ f) +ℤ (pos 2 *ℤ (c -ℤ g))) +ℤ (pos 3 *ℤ k) ≡ pos 0 → (b ≡ f) × (c ≡ g)
same_pair b c f g k (i, j, inl l) (m, n, inl o) p q r s e = (omega (arith, ints), omega (arith, ints))
same_pair b c f g k (i, j, inl l) (m, n, inr o) p q r s e = (omega (arith, ints), omega (arith, ints))
same_pair b c f g k (i, j, inr l) (m, n, inl o) p q r s e = (omega (arith, ints), omega (arith, ints))
same_pair b c f g k (i, j, inr l) (m, n, inr o) p q r s e = (omega (arith, ints), omega (arith, ints))

one_undivided : (a b c d e f g h : ℤ) → IsPoint 4 (a ∷ b ∷ c ∷ d ∷ []) → IsPoint 4 (e ∷ f ∷ g ∷ h ∷ []) →
    InLattice 4 cubic_rows (subtract (a ∷ b ∷ c ∷ d ∷ []) (e ∷ f ∷ g ∷ h ∷ [])) →
    IsIrreducible cubic_moves (a ∷ b ∷ c ∷ d ∷ []) → IsIrreducible cubic_moves (e ∷ f ∷ g ∷ h ∷ []) →
    (a ∷ b ∷ c ∷ d ∷ []) ≡ e ∷ f ∷ g ∷ h ∷ []
unfolding weight subtract combine
one_undivided a b c d e f g h p q inside none other =
    let sum = InLattice-weight (ones 4) 4 cubic_rows (subtract (a ∷ b ∷ c ∷ d ∷ []) (e ∷ f ∷ g ∷ h ∷ [])) sums inside in
    let degree = InLattice-weight degrees 4 cubic_rows (subtract (a ∷ b ∷ c ∷ d ∷ []) (e ∷ f ∷ g ∷ h ∷ [])) products inside in
    let (i, j) = same_pair b c f g (d -ℤ h) (undivided a b c d p none) (undivided e f g h q other) (p.nonnegative 1) (p.nonnegative 2)
    (q.nonnegative 1) (q.nonnegative 2) (omega (arith, ints, degree)) in
    let last : d ≡ h = omega (arith, ints, degree, i, j) in
    same_four a b c d e f g h (omega (arith, ints, sum, i, j, last)) i j last

one : (x y : List ℤ) → IsPoint 4 x → IsPoint 4 y → InLattice 4 cubic_rows (subtract x y) → IsIrreducible cubic_moves x →
    IsIrreducible cubic_moves y → x ≡ y
one x y p q h none other =
    let e = four_entries x p.columns in
    let f = four_entries y q.columns in
    rw (e, f) (one_undivided _ _ _ _ _ _ _ _ (rw e at p) (rw f at q) (rw (e, f) at h) (rw e at none) (rw f at other))

pub cubic_basis : IsReducedBasis cubic_lattice cubic_moves
unfolding divides subtract combine positive_part negative_part negate weight
cubic_basis = reduced_from_undivided cubic_graded cubic_moves cubic_member one refl refl (ascends-true 4 (ones 4) cubic_moves refl)

pub cubic_weights : (m : List ℤ) → Contains cubic_moves m → weight (ones 4) (lead m) ≡ pos 2
unfolding weight positive_part
cubic_weights m h = All-contains (λ m. weight (ones 4) (lead m) ≡ pos 2) cubic_moves m
    (all_three (λ m. weight (ones 4) (lead m) ≡ pos 2) cubic_second cubic_third cubic_first refl refl refl) h

pub of_twisted_cubic : IsMinimalMarkovBasis cubic_lattice None cubic_moves
of_twisted_cubic = the_answer cubic_graded (answer_of_one_weight cubic_graded cubic_basis (pos 2) cubic_weights)
