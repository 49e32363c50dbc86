-- A number that each step of reduction lowers: first by the weight of what is left, then by the ranks of its two parts.
use Rattle.std.proofs.Common.{◌≡◌, ◌⊎◌, inl, inr, ℕ, zero, suc, ◌+◌, ◌*◌, ◌^◌, ◌≤◌, ◌<◌, List, length, ℤ, pos, neg_ℤ, ◌-ℤ◌, ◌*ℤ◌, ◌<ℤ◌, arith, ap, refl, sym, ◌∙◌, subst, ⊎_elim}
use Rattle.std.proofs.lemmas.Int.{ints}
use Rattle.std.proofs.Math.Nat.{pow-le-pow_left, mul-le-mul}
use borrow.Author.Differences.{up}
use Rattle.mk_model.specs.Vectors.{subtract, scale, positive_part, negative_part, weight, IsPoint}
use Rattle.mk_model.specs.Lattices.{lattice_of, HasGrading}
use Rattle.mk_model.specs.Orders.{IsBelow, IsOriented, lead, tail}
use Rattle.mk_model.specs.Reductions.{Divides}
use Rattle.mk_model.proofs.VectorAlgebra.{lengths, columns, same_vectors, weight-subtract, weight-scale, weight-parts, positive_part-scale, IsPoint-positive_part, IsPoint-negative_part}
use Rattle.mk_model.proofs.OrderLaws.{IsBelow-subtract, IsOriented-scale}
use Rattle.mk_model.proofs.Divisors.{IsPoint-lower}
use Rattle.mk_model.proofs.Ranks.{rank, rank_limit, rank_below, IsBounded, IsBounded-weight}
use Rattle.mk_model.proofs.MoveRanks.{weight_down}
use Rattle.mk_model.proofs.Fibres.{lead_of_difference}
use Rattle.mk_model.specs.Overflows.{IsTimesDividing}
use Rattle.mk_move.specs.Steps.{minus_times}

-- ---- the number
abbrev pub height_of : ℕ → List ℕ → List ℤ → List ℤ → ℕ
height_of bound p x y = bound * (2 * suc bound ^ length p) + (rank bound p x + rank bound p y)

abbrev pub height : List ℤ → List ℕ → List ℤ → ℕ
height w p r = height_of (up (weight w (positive_part r))) p (positive_part r) (negative_part r)

lower_by_weight : (p : List ℕ) (less more : ℕ) (a b x y : List ℤ) → less < more → height_of less p a b < height_of more p x y
lower_by_weight p less more a b x y h =
    let powers : suc less ^ length p ≤ suc more ^ length p = pow-le-pow_left (omega arith) (length p) in
    let products : suc less * (2 * suc less ^ length p) ≤ more * (2 * suc more ^ length p) = mul-le-mul (omega arith) (omega arith) in
    omega (arith, rank_limit less p a, rank_limit less p b)

-- the difference of two points of one weight, the one or the other below where it was, is lower than these
module _ {n : ℕ} {rows : List (List ℤ)} {w : List ℤ} (g : HasGrading (lattice_of n rows w)) (p : List ℕ) where
  bounded : (bound : ℤ) (x : List ℤ) → IsPoint n x → weight w x ≡ bound → IsBounded (up bound) x
  bounded bound x q e = subst (λ (z : ℤ). IsBounded (up z) x) e (IsBounded-weight g q)

  ranks_down : (bound : ℤ) (x a : List ℤ) → IsPoint n x → IsPoint n a → weight w x ≡ bound → weight w a ≡ bound → IsBelow p x a → rank (up bound) p x < rank (up bound) p a
  ranks_down bound x a q t e f h = rank_below (up bound) p x a (bounded bound x q e) (bounded bound a t f) h

  -- the parts of the difference are lighter, or they are the two points
  lower_parts : (x y a b : List ℤ) → IsPoint n x → IsPoint n y → IsPoint n a → weight w x ≡ weight w a →
      rank (up (weight w a)) p x + rank (up (weight w a)) p y < rank (up (weight w a)) p a + rank (up (weight w a)) p b →
      height w p (subtract x y) < height_of (up (weight w a)) p a b
  lower_parts x y a b q t s e h = ⊎_elim light same (lead_of_difference g x y q t)
    where
      lower : List ℤ
      lower = subtract x y

      light : weight w (lead lower) <ℤ weight w x → height w p lower < height_of (up (weight w a)) p a b
      light l =
          lower_by_weight p (up (weight w (lead lower))) (up (weight w a)) (lead lower) (tail lower) a b
          (omega (arith, ints, weight_down g a s, weight_down g (lead lower) (IsPoint-positive_part lower (omega (arith, lengths, q.columns, t.columns)))))

      same : (x ≡ lead lower) × (y ≡ tail lower) → height w p lower < height_of (up (weight w a)) p a b
      same (c, d) =
          let bound : up (weight w (lead lower)) ≡ up (weight w a) = ap (λ z. up (weight w z)) (sym c) ∙ ap up e in
          rw (bound, ← c, ← d) (omega (arith, h))

  -- a multiple of an oriented vector that divides a point, taken off it: a point of the same weight, below it
  record IsLowered (x a : List ℤ) : Type 0 where
    pub point : IsPoint n x
    pub weighs : weight w x ≡ weight w a
    pub below : IsBelow p x a

  lowered : (a v : List ℤ) (k : ℕ) → IsPoint n a → length v ≡ n → weight w v ≡ pos 0 → IsOriented p v → Divides (scale (pos (suc k)) (lead v)) a → IsLowered (subtract a (scale (pos (suc k)) v)) a
  lowered a v k q l e o d = record {
    point = IsPoint-lower (scale (pos (suc k)) v) q (omega (arith, lengths)) (rw positive_part-scale d);
    weighs = weight-subtract w a (scale (pos (suc k)) v) (omega (arith, lengths, q.columns)) ∙ ap (λ z. weight w a -ℤ z) (weight-scale w (pos (suc k)) v ∙ ap (λ z. pos (suc k) *ℤ z) e) ∙ omega (arith, ints);
    below = IsBelow-subtract p a (scale (pos (suc k)) v) (IsOriented-scale p k v o);
  }

  -- a vector with product 0, of n columns
  pub record IsLevel (r : List ℤ) : Type 0 where
    pub columns : length r ≡ n
    pub product : weight w r ≡ pos 0

  same_weights : (r : List ℤ) → IsLevel r → weight w (negative_part r) ≡ weight w (positive_part r)
  same_weights r l = omega (arith, ints, weight-parts w r, l.product)

  plus_lower : (r v : List ℤ) (k : ℕ) → IsLevel r → IsLevel v → IsOriented p v → Divides (scale (pos (suc k)) (lead v)) (positive_part r) → height w p (minus_times r (pos (suc k)) v) < height w p r
  plus_lower r v k l m o d =
      let a = positive_part r in
      let b = negative_part r in
      let s : IsPoint n a = IsPoint-positive_part r l.columns in
      let t : IsPoint n b = IsPoint-negative_part r l.columns in
      let less = lowered a v k s m.columns m.product o d in
      let ranks = ranks_down (weight w a) (subtract a (scale (pos (suc k)) v)) a less.point s less.weighs refl less.below in
      let e : subtract (subtract a (scale (pos (suc k)) v)) b ≡ minus_times r (pos (suc k)) v = same_vectors _ _ (omega (arith, lengths, l.columns, m.columns)) (λ c. omega (arith, ints, columns)) in
      rw e at (lower_parts (subtract a (scale (pos (suc k)) v)) b a b less.point t s less.weighs (omega (arith, ranks)))

  minus_lower : (r v : List ℤ) (k : ℕ) → IsLevel r → IsLevel v → IsOriented p v → Divides (scale (pos (suc k)) (lead v)) (negative_part r) → height w p (minus_times r (neg_ℤ (pos (suc k))) v) < height w p r
  minus_lower r v k l m o d =
      let a = positive_part r in
      let b = negative_part r in
      let s : IsPoint n a = IsPoint-positive_part r l.columns in
      let t : IsPoint n b = IsPoint-negative_part r l.columns in
      let less = lowered b v k t m.columns m.product o d in
      let ranks = ranks_down (weight w a) (subtract b (scale (pos (suc k)) v)) b less.point t (less.weighs ∙ same_weights r l) (same_weights r l) less.below in
      let e : subtract a (subtract b (scale (pos (suc k)) v)) ≡ minus_times r (neg_ℤ (pos (suc k))) v = same_vectors _ _ (omega (arith, lengths, l.columns, m.columns)) (λ c. omega (arith, ints, columns)) in
      rw e at (lower_parts a (subtract b (scale (pos (suc k)) v)) a b s less.point s refl (omega (arith, ranks)))

  -- each step lowers the number
  pub step_lowers : (r v : List ℤ) (times : ℤ) → IsLevel r → IsLevel v → IsOriented p v → IsTimesDividing v r times → height w p (minus_times r times v) < height w p r
  step_lowers r v times l m o d = go d.count d.some d.divides
    where
      go : (count : ℕ) → 1 ≤ count → ((times ≡ pos count) × Divides (scale (pos count) (lead v)) (positive_part r)) ⊎ ((times ≡ neg_ℤ (pos count)) × Divides (scale (pos count) (lead v)) (negative_part r)) → height w p (minus_times r times v) < height w p r
      go zero h e = absurd (omega arith)
      go (suc k) h (inl (e, f)) = rw e (plus_lower r v k l m o f)
      go (suc k) h (inr (e, f)) = rw e (minus_lower r v k l m o f)
