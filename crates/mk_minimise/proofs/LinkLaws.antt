-- Links: what is left of a pair's difference is one, its negative is one, and what two with one lead leave.
use Rattle.std.proofs.Common.{◌≡◌, ◌≢◌, ◌⊎◌, ℕ, List, length, ℤ, ◌<ℤ◌, ◌≤ℤ◌, Contains, arith, ap, sym, ◌∙◌, subst, ⊎_elim}
use Rattle.std.proofs.lemmas.Int.{ints, by_lt_z}
use Rattle.mk_model.specs.Vectors.{entry, zeros, subtract, negate, positive_part, negative_part, weight, IsPoint}
use Rattle.mk_model.specs.Lattices.{lattice_of, InLattice, HasGrading}
use Rattle.mk_model.specs.Orders.{standard, lead}
use Rattle.mk_model.specs.Walks.{Members, Joined}
use Rattle.mk_model.specs.Reductions.{lcm, Divides, Reduct, IsIrreducible}
use Rattle.mk_model.specs.Reductions.Reaches.{here, go}
use Rattle.mk_model.specs.Pairs.{AreOrientedMoves}
use Rattle.mk_model.specs.ReducedBases.{IsReducedBasis}
use Rattle.mk_model.proofs.VectorAlgebra.{lengths, columns, same_vectors, parts, only_zeros, weight-parts, positive_part-negate, negative_part-negate, IsPoint-positive_part, IsPoint-negative_part}
use Rattle.mk_model.proofs.WalkLaws.{walk_append, walk_back, walk_from, walk_to}
use Rattle.mk_model.proofs.LatticeLaws.{InLattice-columns, InLattice-weight, InLattice-negate}
use Rattle.mk_model.proofs.Fibres.{same_fibre_of_walk, same_fibre_weight, lead_of_difference}
use Rattle.mk_model.proofs.Divisors.{Divides-transitive, Divides-positive_part, Divides-negative_part}
use Rattle.mk_model.proofs.Confluence.{descent_point, member_columns, lcm_point, lcm_descent_first, lcm_descent_second}
use Rattle.mk_model.proofs.NormalForms.{reach_joined}
use Rattle.mk_model.proofs.Reducts.{StepDownTo, reduct_steps_down}
use Rattle.mk_model.proofs.ReducedLaws.{one_least}
use Rattle.mk_minimise.specs.Links.{AreLower, IsLink}
use Rattle.mk_minimise.proofs.LowerMoves.{lower_move, lower_oriented, lighter_irreducible_least}

-- a vector whose parts are equal is zero
pub parts_apart : (r : List ℤ) → r ≢ zeros (length r) → positive_part r ≡ negative_part r → ⊥
parts_apart r apart e = apart (only_zeros r (λ c. omega (arith, ints, columns, ap (λ x. entry x c) e)))

irreducible_divisor : (lower : List (List ℤ)) (x y : List ℤ) → Divides y x → IsIrreducible lower x → IsIrreducible lower y
irreducible_divisor lower x y d none v c e = none v c (Divides-transitive e d)

module _ {n : ℕ} {rows : List (List ℤ)} {w : List ℤ} {moves : List (List ℤ)} (g : HasGrading (lattice_of n rows w)) (basis : IsReducedBasis (lattice_of n rows w) moves) {bound : ℤ} {lower : List (List ℤ)} (part : AreLower w moves bound lower) where
  -- a vector of the lattice that isn't zero, no part of which a lower lead divides, isn't lighter
  pub not_lighter : (r : List ℤ) → InLattice n rows r → r ≢ zeros (length r) → IsIrreducible lower (positive_part r) → IsIrreducible lower (negative_part r) → bound ≤ℤ weight w (positive_part r)
  not_lighter r h apart f t = by_lt_z (weight w (positive_part r)) bound (λ l. absurd (refuse l)) (λ l. l)
    where
      long : length r ≡ n
      long = InLattice-columns n rows r g.rows_columns h

      level : weight w (positive_part r) ≡ weight w (negative_part r)
      level = omega (arith, ints, weight-parts w r, InLattice-weight w n rows r g.rows_weight h)

      refuse : weight w (positive_part r) <ℤ bound → ⊥
      refuse l =
          parts_apart r apart
          (one_least g (positive_part r) (negative_part r)
          (lighter_irreducible_least g basis part (positive_part r) (IsPoint-positive_part r long) l f)
          (lighter_irreducible_least g basis part (negative_part r) (IsPoint-negative_part r long) (omega (arith, ints, l, level)) t)
          (subst (InLattice n rows) (sym (parts r)) h))

  -- the difference of two points of the weight that the lower moves join, where no lower lead divides a part of it
  pub link_of_points : (x y r : List ℤ) → Joined n (Members lower) x y → subtract x y ≡ r → weight w x ≡ bound → r ≢ zeros (length r) → IsIrreducible lower (positive_part r) → IsIrreducible lower (negative_part r) → IsLink n rows lower w bound r
  link_of_points x y r j e weighs apart f t = ⊎_elim (λ l. absurd (omega (arith, ints, l, weighs, heavy))) link ends
    where
      inside : InLattice n rows r
      inside = subst (InLattice n rows) e (same_fibre_of_walk g {moves = Members lower} (λ m c. (lower_move g basis part m c).in_lattice) j)

      heavy : bound ≤ℤ weight w (positive_part r)
      heavy = not_lighter r inside apart f t

      ends : (weight w (positive_part r) <ℤ weight w x) ⊎ ((x ≡ positive_part r) × (y ≡ negative_part r))
      ends = rw e at (lead_of_difference g x y (walk_from j) (walk_to j))

      link : (x ≡ positive_part r) × (y ≡ negative_part r) → IsLink n rows lower w bound r
      link (a, b) = record { in_lattice = inside; positive = f; negative = t; weighs = ap (weight w) (sym a) ∙ weighs; joined = rw (a, b) at j }

  pub link_negated : (r : List ℤ) → IsLink n rows lower w bound r → IsLink n rows lower w bound (negate r)
  link_negated r link = record {
    in_lattice = InLattice-negate n rows r link.in_lattice;
    positive = rw positive_part-negate link.negative;
    negative = rw negative_part-negate link.positive;
    weighs = rw positive_part-negate (omega (arith, ints, weight-parts w r, InLattice-weight w n rows r g.rows_weight link.in_lattice, link.weighs));
    joined = rw (positive_part-negate, negative_part-negate) (walk_back link.joined);
  }

  -- two links with one lead: their difference is zero or a link
  pub link_less : (r m : List ℤ) → IsLink n rows lower w bound r → IsLink n rows lower w bound m → positive_part m ≡ positive_part r → subtract r m ≢ zeros (length (subtract r m)) → IsLink n rows lower w bound (subtract r m)
  link_less r m link other e apart =
      link_of_points (negative_part m) (negative_part r) (subtract r m) (walk_append (walk_back other.joined) (rw e link.joined)) difference
      (omega (arith, ints, weight-parts w m, InLattice-weight w n rows m g.rows_weight other.in_lattice, other.weighs)) apart
      (irreducible_divisor lower (negative_part m) (positive_part (subtract r m)) (subst (λ z. Divides (positive_part z) (negative_part m)) difference (Divides-positive_part (walk_to other.joined) (walk_to link.joined))) other.negative)
      (irreducible_divisor lower (negative_part r) (negative_part (subtract r m)) (subst (λ z. Divides (negative_part z) (negative_part r)) difference (Divides-negative_part (walk_to other.joined) (walk_to link.joined))) link.negative)
    where
      difference : subtract (negative_part m) (negative_part r) ≡ subtract r m
      difference = same_vectors _ _ (omega (arith, lengths)) (λ c. omega (arith, ints, columns, ap (λ x. entry x c) e))

  -- what is left of the difference of a pair of lower moves whose least common multiple has the weight
  pub link_of_pair : (a b r : List ℤ) → Contains lower a → Contains lower b → weight w (lcm (lead a) (lead b)) ≡ bound → Reduct lower (subtract b a) r → r ≢ zeros (length r) → IsIrreducible lower (positive_part r) → IsIrreducible lower (negative_part r) → IsLink n rows lower w bound r
  link_of_pair a b r h k weighs d apart f t =
      link_of_points down.first down.second r (walk_append (walk_back from_first) (walk_append (walk_back to_first) (walk_append to_second from_second))) down.difference
      (sym (same_fibre_weight g l down.first top (walk_to from_first) (same_fibre_of_walk g {moves = Members lower} inside (walk_append to_first from_first))) ∙ weighs) apart f t
    where
      inside : (m : List ℤ) → Contains lower m → InLattice n rows m
      inside m c = (lower_move g basis part m c).in_lattice

      o : AreOrientedMoves (lattice_of n rows w) (standard n) lower
      o = lower_oriented g basis part

      l : List ℤ
      l = lcm (lead a) (lead b)

      top : IsPoint n l
      top = lcm_point o a b h k

      difference : subtract (subtract l a) (subtract l b) ≡ subtract b a
      difference = same_vectors _ _ (omega (arith, lengths, top.columns, member_columns o a h, member_columns o b k)) (λ c. omega (arith, ints, columns))

      down : StepDownTo lower n (subtract l a) (subtract l b) r
      down = reduct_steps_down o (subtract b a) r (subtract l a) (subtract l b) (descent_point o top (lcm_descent_first o a b h)) (descent_point o top (lcm_descent_second o a b k)) difference d

      to_first : Joined n (Members lower) l (subtract l a)
      to_first = reach_joined o top (go (lcm_descent_first o a b h) here)

      to_second : Joined n (Members lower) l (subtract l b)
      to_second = reach_joined o top (go (lcm_descent_second o a b k) here)

      from_first : Joined n (Members lower) (subtract l a) down.first
      from_first = reach_joined o (walk_to to_first) down.from_first

      from_second : Joined n (Members lower) (subtract l b) down.second
      from_second = reach_joined o (walk_to to_second) down.from_second
