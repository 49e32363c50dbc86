-- The answer for a lattice of no row, or of the multiples of one vector.
use Rattle.std.proofs.Common.{◌≡◌, ◌⊎◌, inl, inr, ℕ, zero, suc, List, [], ◌∷◌, None, ℤ, pos, neg_ℤ, ◌*ℤ◌, All, Contains, arith, ap, sym}
use Rattle.std.proofs.Common.{◌∙◌, subst, not}
use Rattle.std.proofs.lemmas.List.Elements.{All-nil, All-cons, All-head, All-filter, All-contains_itself}
use Rattle.mk_model.specs.Vectors.{entry, zeros, negate, scale, weight}
use Rattle.mk_model.specs.Lattices.{lattice_of, combination, InLattice, HasGrading, is_zero, nonzero_rows}
use Rattle.mk_model.specs.Orders.{standard, IsOriented, lead, tail, ComesBefore}
use Rattle.mk_model.specs.Walks.{Joined}
use Rattle.mk_model.specs.Bases.{IsMove, MovesBefore, IsEssential, IsEssentialUpTo, IsAnswer, IsMinimalMarkovBasis}
use Rattle.mk_model.proofs.Integers.{product_more}
use Rattle.mk_model.proofs.VectorAlgebra.{parts, scale-one, scale-negate, negate-negate, positive_part-scale, weight-scale, entry-zeros}
use Rattle.mk_model.proofs.OrderLaws.{factor_is_positive, IsOriented-not_zero, IsOriented-lead_not_tail, ComesBefore-asymmetric}
use Rattle.mk_model.proofs.OrderLaws.{ComesBefore-irreflexive}
use Rattle.mk_model.proofs.WalkLaws.{walk_stays, walk_along}
use Rattle.mk_model.proofs.LatticeLaws.{InLattice-row, InLattice-negate, combination_of_no_row, combination_of_one_row}
use Rattle.mk_model.proofs.MoveLaws.{IsMove-columns, IsMove-lead, IsMove-tail, IsMove-lead_weight}
use Rattle.mk_model.proofs.TheAnswer.{the_answer}

-- ---- every vector of the lattice is a multiple of the move m
module _ (n : ℕ) (rows : List (List ℤ)) (w m : List ℤ) (g : HasGrading (lattice_of n rows w)) (move : IsMove n rows m)
    (multiples : (x : List ℤ) → InLattice n rows x → (k : ℤ) × (x ≡ scale k m)) where
  multiple : (v : List ℤ) → IsMove n rows v → (j : ℕ) × (v ≡ scale (pos (suc j)) m)
  multiple v a =
      let (k, e) = multiples v a.in_lattice in
      let (j, d) = factor_is_positive (standard n) k m move.oriented (subst (IsOriented (standard n)) e a.oriented) in
      (j, e ∙ ap (λ k. scale k m) d)

  before_multiple : (j : ℕ) (v : List ℤ) → v ≡ scale (pos (suc (suc j))) m → ComesBefore n w m v
  before_multiple j v e =
      let d : weight w (lead v) ≡ pos (suc (suc j)) *ℤ weight w (lead m) =
      ap (λ v. weight w (lead v)) e ∙ ap (weight w) (positive_part-scale (suc (suc j)) m) ∙ weight-scale w (pos (suc (suc j))) (lead m) in
      inl (rw d (product_more j (weight w (lead m)) (IsMove-lead_weight g move)))

  none_before : (v : List ℤ) → MovesBefore (lattice_of n rows w) m v → ⊥
  none_before v (a, b) = go (multiple v a)
    where
      go : (j : ℕ) × (v ≡ scale (pos (suc j)) m) → ⊥
      go (zero, e) = ComesBefore-irreflexive n w m (subst (λ v. ComesBefore n w v m) (e ∙ scale-one m) b)
      go (suc j, e) = ComesBefore-asymmetric n w m v (before_multiple j v e) b

  essential_generator : IsEssential (lattice_of n rows w) m
  essential_generator = record {
    move = move;
    not_joined = λ j. IsOriented-lead_not_tail (standard n) m move.oriented (walk_stays none_before j);
  }

  member_or_joined : (v : List ℤ) → IsMove n rows v → Contains (m ∷ []) v ⊎ Joined n (MovesBefore (lattice_of n rows w) v) (lead v) (tail v)
  member_or_joined v a = go (multiple v a)
    where
      go : (j : ℕ) × (v ≡ scale (pos (suc j)) m) → Contains (m ∷ []) v ⊎ Joined n (MovesBefore (lattice_of n rows w) v) (lead v) (tail v)
      go (zero, e) = inl (0, omega arith, sym (e ∙ scale-one m))
      go (suc j, e) = inr (walk_along m (move, before_multiple j v e) (pos (suc (suc j))) (lead v) (tail v) (IsMove-lead g a)
          (IsMove-tail g a)
          (omega (arith, IsMove-columns g move)) (parts v ∙ e))

  answer_of_generator : IsAnswer (lattice_of n rows w) None (m ∷ [])
  answer_of_generator = record {
    ascending = λ i j d h l. absurd (omega arith);
    essential = All-cons (IsEssentialUpTo (lattice_of n rows w) None) m [] (record { essential = essential_generator; light = tt })
        (All-nil (IsEssentialUpTo (lattice_of n rows w) None));
    complete = λ v a light. member_or_joined v a;
  }

  pub the_answer_of_generator : IsMinimalMarkovBasis (lattice_of n rows w) None (m ∷ [])
  the_answer_of_generator = the_answer g answer_of_generator

-- ---- one row that is not zero
pub the_answer_of_row : (n : ℕ) (rows : List (List ℤ)) (w row m : List ℤ) → HasGrading (lattice_of n rows w) →
    nonzero_rows rows ≡ row ∷ [] →
    (m ≡ row) ⊎ (m ≡ negate row) → IsOriented (standard n) m → IsMinimalMarkovBasis (lattice_of n rows w) None (m ∷ [])
the_answer_of_row n rows w row m g e s o = the_answer_of_generator n rows w m g (record { in_lattice = inside s; oriented = o })
    (λ x (f, d). all s x f d)
  where
    row_stands : Contains rows row
    row_stands = All-head (Contains rows) row [] (subst (All (Contains rows)) e
        (All-filter (λ row. not (is_zero row)) (Contains rows) rows (All-contains_itself rows)))

    row_inside : InLattice n rows row
    row_inside = InLattice-row n rows row g.rows_columns row_stands

    inside : (m ≡ row) ⊎ (m ≡ negate row) → InLattice n rows m
    inside (inl d) = subst (InLattice n rows) (sym d) row_inside
    inside (inr d) = subst (InLattice n rows) (sym d) (InLattice-negate n rows row row_inside)

    all : (m ≡ row) ⊎ (m ≡ negate row) → (x : List ℤ) (f : ℕ → ℤ) → x ≡ combination n f rows → (k : ℤ) × (x ≡ scale k m)
    all (inl d) x f c = let (k, h) = combination_of_one_row n f rows row g.rows_columns e in (k, c ∙ h ∙ ap (scale k) (sym d))
    all (inr d) x f c =
        let (k, h) = combination_of_one_row n f rows row g.rows_columns e in
        let turned : row ≡ negate m = sym (negate-negate row) ∙ ap negate (sym d) in
        (neg_ℤ k, c ∙ h ∙ ap (scale k) turned ∙ scale-negate k m)

-- ---- no row that is not zero
pub the_answer_of_no_row : (n : ℕ) (rows : List (List ℤ)) (w : List ℤ) → HasGrading (lattice_of n rows w) → nonzero_rows rows ≡ [] →
    IsMinimalMarkovBasis (lattice_of n rows w) None []
the_answer_of_no_row n rows w g e = the_answer g answer
  where
    only_zero : (x : List ℤ) → InLattice n rows x → x ≡ zeros n
    only_zero x (f, d) = d ∙ combination_of_no_row n f rows g.rows_columns e

    no_move : (m : List ℤ) → IsMove n rows m → ⊥
    no_move m a = IsOriented-not_zero (standard n) m (λ c. ap (λ v. entry v c) (only_zero m a.in_lattice) ∙ entry-zeros n c) a.oriented

    answer : IsAnswer (lattice_of n rows w) None []
    answer = record {
      ascending = λ i j d h l. absurd (omega arith);
      essential = All-nil (IsEssentialUpTo (lattice_of n rows w) None);
      complete = λ m a light. absurd (no_move m a);
    }
