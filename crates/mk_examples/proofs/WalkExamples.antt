-- Small walks, and vectors between which there is none.
use Rattle.std.proofs.Common.{◌≡◌, ◌⊎◌, inl, inr, ℕ, zero, suc, List, [], ◌∷◌, map, None, ℤ, pos, negsuc, ◌≤ℤ◌, arith, refl, sym, subst, ⊎_elim}
use Rattle.std.proofs.lemmas.Int.{ints}
use Rattle.mk_model.specs.Vectors.{entry, combine, add, subtract, scale, IsPoint}
use Rattle.mk_model.specs.Lattices.{combination, InLattice}
use Rattle.mk_model.specs.Walks.{IsStep, Walk, Joined, Members}
use Rattle.mk_model.specs.Walks.Walk.{stay, step}
use Rattle.mk_model.specs.Bases.{IsMarkov, without, AreApart}
use Rattle.mk_examples.specs.Worked.{unit_move, unit_lattice, cubic_top, cubic_bottom, cubic_rows, cubic_outer, cubic_inner}
use Rattle.mk_model.proofs.WalkLaws.{walk_from, walk_stays}
use Rattle.mk_model.proofs.Lists.{Contains-none, Contains-cases}

pub natural : (x : List ℕ) (c : ℕ) → pos 0 ≤ℤ entry (map pos x) c
natural [] c = omega (arith, ints)
natural (a ∷ x) zero = omega (arith, ints)
natural (a ∷ x) (suc c) = natural x c

pub point_of_two : (a b : ℕ) → IsPoint 2 (pos a ∷ pos b ∷ [])
point_of_two a b = record { columns = refl; nonnegative = natural (a ∷ b ∷ []) }

pub point_of_four : (a b c d : ℕ) → IsPoint 4 (pos a ∷ pos b ∷ pos c ∷ pos d ∷ [])
point_of_four a b c d = record { columns = refl; nonnegative = natural (a ∷ b ∷ c ∷ d ∷ []) }

pub joined : Joined 2 (Members (unit_move ∷ [])) (pos 2 ∷ pos 0 ∷ []) (pos 0 ∷ pos 2 ∷ [])
unfolding subtract combine
joined =
    step (point_of_two 2 0) (unit_move, (0, omega arith, refl), inr refl)
    (step (point_of_two 1 1) (unit_move, (0, omega arith, refl), inr refl) (stay (point_of_two 0 2)))

pub apart : AreApart unit_lattice None (without 0 (unit_move ∷ [])) (pos 1 ∷ pos 0 ∷ []) (pos 0 ∷ pos 1 ∷ [])
unfolding combination subtract add combine scale
apart = record {
  from = record { point = point_of_two 1 0; light = tt };
  to = record { point = point_of_two 0 1; light = tt };
  same_fibre = ((λ i. pos 1), refl);
  not_joined = λ j. let e : (pos 1 ∷ pos 0 ∷ []) ≡ (pos 0 ∷ pos 1 ∷ []) = walk_stays Contains-none j in cc;
}

-- ---- the rows of the twisted cubic
-- a vector with the entry -1 or -2 in a column is not nonnegative
not_point : (y z : List ℤ) (c k : ℕ) → y ≡ z → entry z c ≡ negsuc k → IsPoint 4 y → ⊥
not_point y z c k e d p = let h : pos 0 ≤ℤ entry z c = subst (λ v. pos 0 ≤ℤ entry v c) e (p.nonnegative c) in omega (arith, ints, d)

no_step : (y : List ℤ) → IsStep (Members cubic_rows) cubic_outer y → IsPoint 4 y → ⊥
unfolding add subtract combine
no_step y (m, h, e) p = ⊎_elim (λ s. by_first s e) (λ k. ⊎_elim (λ s. by_second s e) (λ k. Contains-none m k)
    (Contains-cases cubic_bottom [] m k)) (Contains-cases cubic_top (cubic_bottom ∷ []) m h)
  where
    by_first : cubic_top ≡ m → (y ≡ add cubic_outer m) ⊎ (y ≡ subtract cubic_outer m) → ⊥
    by_first s (inl d) = not_point y (add cubic_outer cubic_top) 1 1 (subst (λ v. y ≡ add cubic_outer v) (sym s) d) refl p
    by_first s (inr d) = not_point y (subtract cubic_outer cubic_top) 2 0 (subst (λ v. y ≡ subtract cubic_outer v) (sym s) d) refl p

    by_second : cubic_bottom ≡ m → (y ≡ add cubic_outer m) ⊎ (y ≡ subtract cubic_outer m) → ⊥
    by_second s (inl d) = not_point y (add cubic_outer cubic_bottom) 2 1 (subst (λ v. y ≡ add cubic_outer v) (sym s) d) refl p
    by_second s (inr d) = not_point y (subtract cubic_outer cubic_bottom) 1 0 (subst (λ v. y ≡ subtract cubic_outer v) (sym s) d) refl p

-- cubic_outer a vector without a step a walk leads nowhere
without_step : {moves place : List ℤ → Type 0} {x z : List ℤ} → ((y : List ℤ) → IsStep moves x y → place y → ⊥) → Walk moves place x z →
    x ≡ z
without_step f (stay p) = refl
without_step f (step {y = y} p s r) = absurd (f y s (walk_from r))

pub not_joined : ¬ (Joined 4 (Members cubic_rows) cubic_outer cubic_inner)
not_joined j = let e : cubic_outer ≡ cubic_inner = without_step no_step j in cc

in_lattice : InLattice 4 cubic_rows (subtract cubic_outer cubic_inner)
unfolding combination subtract add combine scale
in_lattice = ((λ i. pos 1), refl)

pub not_markov : ¬ (IsMarkov 4 cubic_rows cubic_rows)
not_markov m = not_joined (m.joins cubic_outer cubic_inner (point_of_four 1 0 0 1) (point_of_four 0 1 1 0) in_lattice)
