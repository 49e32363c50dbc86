-- Induction along numbers, and along the order of moves by their ranks.
use Rattle.std.proofs.Common.{◌≡◌, ◌⊎◌, inl, inr, ℕ, zero, suc, ◌<◌, List, ℤ, arith, ap, refl, sym, ◌∙◌}
use Rattle.std.proofs.lemmas.Int.{ints}
use borrow.Author.Differences.{up, down}
use Rattle.mk_model.specs.Vectors.{weight, IsPoint}
use Rattle.mk_model.specs.Lattices.{lattice_of, HasGrading}
use Rattle.mk_model.specs.Orders.{IsBelow, standard, lead, tail, ComesBefore}
use Rattle.mk_model.specs.Bases.{IsMove}
use Rattle.mk_model.proofs.VectorAlgebra.{weight_nonnegative}
use Rattle.mk_model.proofs.Ranks.{rank, rank_below, down_of_nonnegative, IsBounded-weight}
use Rattle.mk_model.proofs.MoveLaws.{IsMove-lead, IsMove-tail, IsMove-same_weight}

-- ---- induction along numbers
pub by_number : {X : Type 0} (P : X → Type 0) (f : X → ℕ) → ((x : X) → ((y : X) → f y < f x → P y) → P x) → (x : X) → P x
by_number {X} P f go x = upto (suc (f x)) x (omega arith)
  where
    upto : (k : ℕ) (x : X) → f x < k → P x
    upto zero x l = absurd (omega arith)
    upto (suc k) x l = go x (λ y h. upto k y (omega arith))

-- by the first number, then by the second, then by the third
pub by_three_numbers : {X : Type 0} (P : X → Type 0) (f g h : X → ℕ) →
    ((x : X) → ((y : X) → (f y < f x) ⊎ ((f y ≡ f x) × ((g y < g x) ⊎ ((g y ≡ g x) × (h y < h x)))) → P y) → P x) → (x : X) → P x
by_three_numbers {X} P f g h go x =
    by_number P f (λ x fs. by_number (λ y. f y ≡ f x → P y) g (λ y gs e. by_number (λ z. f z ≡ f x → g z ≡ g y → P z) h
    (λ z hs d k. go z (lower x fs y gs z hs d k)) y e refl) x refl) x
  where
    lower : (x : X) → ((y : X) → f y < f x → P y) → (y : X) → ((z : X) → g z < g y → f z ≡ f x → P z) →
        (z : X) → ((u : X) → h u < h z → f u ≡ f x → g u ≡ g y → P u) → f z ≡ f x → g z ≡ g y →
        (u : X) → (f u < f z) ⊎ ((f u ≡ f z) × ((g u < g z) ⊎ ((g u ≡ g z) × (h u < h z)))) → P u
    lower x fs y gs z hs d k u (inl l) = fs u (omega arith)
    lower x fs y gs z hs d k u (inr (e, inl l)) = gs u (omega arith) (e ∙ d)
    lower x fs y gs z hs d k u (inr (e, inr (i, l))) = hs u l (e ∙ d) (i ∙ k)

-- ---- induction along the order of moves
module _ {n : ℕ} {rows : List (List ℤ)} {w : List ℤ} (g : HasGrading (lattice_of n rows w)) where
  pub weight_down : (x : List ℤ) → IsPoint n x → down (weight w x) ≡ 0
  weight_down x p = down_of_nonnegative (weight w x) (weight_nonnegative w x (λ c k. g.positive c (omega (arith, g.columns))) p.nonnegative)

  -- the ranks of two points of one weight ascend as the standard order goes
  pub rank_of_points : (x y : List ℤ) → IsPoint n x → IsPoint n y → weight w x ≡ weight w y → IsBelow (standard n) x y →
      rank (up (weight w x)) (standard n) x < rank (up (weight w y)) (standard n) y
  rank_of_points x y p q e h = rw (← e) (rank_below (up (weight w x)) (standard n) x y (IsBounded-weight g p)
      (rw e (IsBounded-weight g q)) h)

  -- what follows for each move from the moves before it holds of all moves
  pub by_move_order : (P : List ℤ → Type 0) → ((m : List ℤ) → IsMove n rows m →
      ((v : List ℤ) → IsMove n rows v → ComesBefore n w v m → P v) → P m) → (m : List ℤ) → IsMove n rows m → P m
  by_move_order P go = by_three_numbers (λ m. IsMove n rows m → P m) heavy high low
      (λ m below a. go m a (λ v b k. below v (lower v m b a k) b))
    where
      heavy : List ℤ → ℕ
      heavy m = up (weight w (lead m))

      high : List ℤ → ℕ
      high m = rank (up (weight w (lead m))) (standard n) (lead m)

      low : List ℤ → ℕ
      low m = rank (up (weight w (tail m))) (standard n) (tail m)

      lower : (v m : List ℤ) → IsMove n rows v → IsMove n rows m → ComesBefore n w v m →
          (heavy v < heavy m) ⊎ ((heavy v ≡ heavy m) × ((high v < high m) ⊎ ((high v ≡ high m) × (low v < low m))))
      lower v m b a (inl h) = inl (omega (arith, ints, h, weight_down (lead v) (IsMove-lead g b), weight_down (lead m) (IsMove-lead g a)))
      lower v m b a (inr (e, inl h)) = inr (ap up e, inl (rank_of_points (lead v) (lead m) (IsMove-lead g b) (IsMove-lead g a) e h))
      lower v m b a (inr (e, inr (d, h))) =
          inr (
            ap up e,
            inr (
              ap (λ x. rank (up (weight w x)) (standard n) x) d,
              rank_of_points (tail v) (tail m) (IsMove-tail g b) (IsMove-tail g a)
                  (sym (IsMove-same_weight g b) ∙ e ∙ IsMove-same_weight g a) h,
            ),
          )
