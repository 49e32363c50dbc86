-- Vectors and lattices of the examples.
use Rattle.std.proofs.Common.{◌≡◌, ℕ, zero, suc, ◌<◌, List, [], ◌∷◌, length, All, ℤ, pos, negsuc, ◌+ℤ◌, ◌*ℤ◌, ◌≤ℤ◌, arith, ap, refl, ◌∙◌}
use Rattle.std.proofs.lemmas.List.{get_or-replicate, length-replicate}
use Rattle.std.proofs.lemmas.Int.{ints}
use Rattle.mk_model.specs.declared.TheConstants.{ENTRY_MAX}
use Rattle.mk_model.specs.Vectors.{entry, combine, add, scale, weight, IsPoint, IsEntry}
use Rattle.mk_model.specs.Lattices.{lattice_of, combination, InLattice, HasGrading, ones, SameLattice}
use Rattle.mk_examples.specs.Worked.{unit_move, double_move, like_rows, like_second, steep_first, steep_second, steep_weights, steep_lattice}
use Rattle.mk_examples.proofs.SmallVectors.{same_two, two_factors, all_two}

pub inside : InLattice 3 like_rows like_second
unfolding combination combine add scale
inside = ((λ i. pos 1), refl)

-- all ones are a grading of rows of sum 0
pub graded_by_ones : (n : ℕ) (rows : List (List ℤ)) → All (λ row. length row ≡ n) rows → All (λ row. weight (ones n) row ≡ pos 0) rows →
    HasGrading (lattice_of n rows (ones n))
graded_by_ones n rows columns sums = record {
  columns = length-replicate n (pos 1);
  positive = λ c l. rw (get_or-replicate n c (pos 1) (pos 0) l) (omega (arith, ints));
  rows_columns = columns;
  rows_weight = sums;
}

pub outside : ¬ (InLattice 2 (double_move ∷ []) unit_move)
unfolding combination combine add scale
outside (f, e) =
    let d : pos 1 ≡ (f 0 *ℤ pos 2) +ℤ pos 0 = ap (λ v. entry v 0) e in
    omega (arith, ints, d)

pub same : SameLattice 2 (unit_move ∷ double_move ∷ []) (unit_move ∷ [])
unfolding combination combine add scale
same = record {
  there = λ x (f, e). ((λ i. f 0 +ℤ (pos 2 *ℤ f 1)), e ∙ same_two _ _ _ _ (omega (arith, ints)) (omega (arith, ints)));
  back = λ x (f, e). (two_factors (f 0) (pos 0), e ∙ same_two _ _ _ _ (omega (arith, ints)) (omega (arith, ints)));
}

at_least_one : (c : ℕ) → c < 3 → pos 1 ≤ℤ entry steep_weights c
at_least_one zero l = omega (arith, ints)
at_least_one (suc zero) l = omega (arith, ints)
at_least_one (suc (suc zero)) l = omega (arith, ints)
at_least_one (suc (suc (suc c))) l = absurd (omega arith)

pub grading : HasGrading steep_lattice
unfolding weight
grading = record {
  columns = refl;
  positive = at_least_one;
  rows_columns = all_two (λ row. length row ≡ 3) steep_first steep_second refl refl;
  rows_weight = all_two (λ row. weight steep_weights row ≡ pos 0) steep_first steep_second refl refl;
}

pub not_point : ¬ (IsPoint 4 (pos 2 ∷ negsuc 1 ∷ pos 1 ∷ pos 1 ∷ []))
not_point p = omega (arith, ints, p.nonnegative 1)

pub largest : IsEntry ENTRY_MAX
largest = (record { le = tt }, record { le = tt })

pub too_large : ¬ (IsEntry (ENTRY_MAX +ℤ pos 1))
too_large (h, k) = omega (arith, ints, k)
