-- Divisors of points are lighter.
use Rattle.std.proofs.Common.{◌≡◌, ◌⊎◌, inl, inr, ℕ, List, ℤ, ◌≤ℤ◌, ◌<ℤ◌, arith, ap, sym, ◌∙◌, ⊎_elim}
use Rattle.std.proofs.lemmas.Int.{ints, by_lt_z}
use Rattle.mk_model.specs.Vectors.{zeros, add, subtract, weight, IsPoint}
use Rattle.mk_model.specs.Lattices.{lattice_of, HasGrading}
use Rattle.mk_model.specs.Reductions.{Divides}
use Rattle.mk_model.proofs.VectorAlgebra.{weight-subtract, add-zeros, add_difference}
use Rattle.mk_model.proofs.Divisors.{IsPoint-quotient}
use Rattle.mk_model.proofs.Fibres.{point_of_no_weight}

-- a divisor of a point is lighter, or it is the point
pub divisor_cases : {n : ℕ} {rows : List (List ℤ)} {w : List ℤ} (g : HasGrading (lattice_of n rows w)) (x y : List ℤ) → IsPoint n x →
    IsPoint n y → Divides y x → (weight w y <ℤ weight w x) ⊎ (y ≡ x)
divisor_cases {n} {w = w} g x y p q d = by_lt_z (weight w y) (weight w x) inl (λ l. inr (same (nothing l)))
  where
    nothing : weight w x ≤ℤ weight w y → subtract x y ≡ zeros n
    nothing l = point_of_no_weight g (subtract x y) (IsPoint-quotient p (omega (arith, q.columns)) d)
        (omega (arith, ints, l, weight-subtract w x y (omega (arith, p.columns, q.columns))))

    same : subtract x y ≡ zeros n → y ≡ x
    same e = sym (add-zeros y n (omega (arith, q.columns))) ∙ ap (add y) (sym e) ∙ add_difference x y (p.columns ∙ sym q.columns)

pub proper_divisor_lighter : {n : ℕ} {rows : List (List ℤ)} {w : List ℤ} (g : HasGrading (lattice_of n rows w)) (x y : List ℤ) →
    IsPoint n x → IsPoint n y → Divides y x → ¬ (y ≡ x) → weight w y <ℤ weight w x
proper_divisor_lighter g x y p q d apart = ⊎_elim (λ l. l) (λ e. absurd (apart e)) (divisor_cases g x y p q d)
