-- The reduced basis of a lattice spans it, and is the reduced basis of what it spans.
use Rattle.std.proofs.Common.{◌≡◌, ℕ, suc, List, [], ◌∷◌, length, ℤ, pos, All, Contains, sym, subst}
use Rattle.std.proofs.lemmas.List.Elements.{All-head, All-tail, All-weaker, All-contains}
use Rattle.mk_model.specs.Vectors.{subtract, scale, weight}
use Rattle.mk_model.specs.Lattices.{lattice_of, combination, InLattice, HasGrading, SameLattice}
use Rattle.mk_model.specs.Orders.{lead, tail}
use Rattle.mk_model.specs.Walks.{Members}
use Rattle.mk_model.specs.ReducedBases.{IsLeast, IsReducedMove, IsReducedBasis}
use Rattle.mk_model.proofs.VectorAlgebra.{parts, IsPoint-positive_part, IsPoint-negative_part}
use Rattle.mk_model.proofs.LatticeLaws.{AllColumns, InLattice-zeros, InLattice-add, InLattice-scale, InLattice-row, InLattice-columns, InLattice-weight}
use Rattle.mk_model.proofs.NormalForms.{All-from_contains}
use Rattle.mk_model.proofs.Fibres.{same_fibre_of_walk}
use Rattle.mk_model.proofs.ReducedLaws.{members_inside, reduced_joins}

-- a combination of vectors of a lattice is in it
combination_inside : (n : ℕ) (others : List (List ℤ)) → AllColumns n others → (factors : ℕ → ℤ) (rows : List (List ℤ)) → All (InLattice n others) rows → InLattice n others (combination n factors rows)
unfolding combination
combination_inside n others columns factors [] each = InLattice-zeros n others columns
combination_inside n others columns factors (row ∷ rows) each =
    InLattice-add n others (scale (factors 0) row) (combination n (λ i. factors (suc i)) rows)
    (InLattice-scale n others (factors 0) row (All-head (InLattice n others) row rows each))
    (combination_inside n others columns (λ i. factors (suc i)) rows (All-tail (InLattice n others) row rows each))

-- where the rows are in the lattice of others, what is in theirs is
pub InLattice-others : (n : ℕ) (others rows : List (List ℤ)) → AllColumns n others → All (InLattice n others) rows → (x : List ℤ) → InLattice n rows x → InLattice n others x
InLattice-others n others rows columns each x (factors, e) = subst (InLattice n others) (sym e) (combination_inside n others columns factors rows each)

module _ {n : ℕ} {rows : List (List ℤ)} {w : List ℤ} {moves : List (List ℤ)} (g : HasGrading (lattice_of n rows w)) (basis : IsReducedBasis (lattice_of n rows w) moves) where
  grading_of_moves : HasGrading (lattice_of n moves w)
  grading_of_moves = record {
    columns = g.columns;
    positive = g.positive;
    rows_columns = All-from_contains (λ m. length m ≡ n) moves (λ m c. InLattice-columns n rows m g.rows_columns (members_inside g basis m c));
    rows_weight = All-from_contains (λ m. weight w m ≡ pos 0) moves (λ m c. InLattice-weight w n rows m g.rows_weight (members_inside g basis m c));
  }

  -- a walk by the moves leads from the lead of a row to its tail
  row_inside : (row : List ℤ) → Contains rows row → InLattice n moves row
  row_inside row c =
      let l : length row ≡ n = All-contains (λ r. length r ≡ n) rows row g.rows_columns c in
      let ends : InLattice n rows (subtract (lead row) (tail row)) = subst (InLattice n rows) (sym (parts row)) (InLattice-row n rows row g.rows_columns c) in
      let walk = reduced_joins g basis (lead row) (tail row) (IsPoint-positive_part row l) (IsPoint-negative_part row l) ends in
      subst (InLattice n moves) (parts row)
      (same_fibre_of_walk grading_of_moves {moves = Members moves} (λ m k. InLattice-row n moves m grading_of_moves.rows_columns k) walk)

  pub same_lattice : SameLattice n rows moves
  same_lattice = record {
    there = InLattice-others n moves rows grading_of_moves.rows_columns (All-from_contains (InLattice n moves) rows row_inside);
    back = InLattice-others n rows moves g.rows_columns (All-from_contains (InLattice n rows) moves (members_inside g basis));
  }

-- ---- rows of the same lattice have the same reduced basis
pub SameLattice-back : {n : ℕ} {rows others : List (List ℤ)} → SameLattice n rows others → SameLattice n others rows
SameLattice-back s = record { there = s.back; back = s.there }

least_of_others : {n : ℕ} {rows others : List (List ℤ)} → SameLattice n rows others → (x : List ℤ) → IsLeast n rows x → IsLeast n others x
least_of_others s x l = record { point = l.point; none_below = λ y q h b. l.none_below y q (s.back (subtract y x) h) b }

reduced_of_others : {n : ℕ} {rows others : List (List ℤ)} → SameLattice n rows others → (m : List ℤ) → IsReducedMove n rows m → IsReducedMove n others m
reduced_of_others s m r = record {
  from = r.from;
  to = r.to;
  point = r.point;
  not_least = λ l. r.not_least (least_of_others (SameLattice-back s) r.from l);
  divisors = λ y q d apart. least_of_others s y (r.divisors y q d apart);
  same_fibre = s.there (subtract r.from r.to) r.same_fibre;
  least = least_of_others s r.to r.least;
  difference = r.difference;
}

pub basis_of_others : {n : ℕ} {rows others : List (List ℤ)} {w : List ℤ} {moves : List (List ℤ)} → SameLattice n rows others → IsReducedBasis (lattice_of n rows w) moves → IsReducedBasis (lattice_of n others w) moves
basis_of_others {n} {rows} {others} {w} {moves} s b = record {
  ascending = b.ascending;
  each = All-weaker (IsReducedMove n rows) (IsReducedMove n others) (reduced_of_others s) moves b.each;
  complete = λ m r. b.complete m (reduced_of_others (SameLattice-back s) m r);
}
