-- A normal form on the twisted cubic, and the cheapest vectors of a fibre of three.
use Rattle.std.proofs.Common.{◌≡◌, ◌⊎◌, inl, inr, ℕ, List, [], ◌∷◌, length, ℤ, pos, negsuc, ◌≤ℤ◌, Contains, All, arith, refl}
use Rattle.std.proofs.lemmas.Int.{ints}
use Rattle.std.proofs.lemmas.List.Elements.{All-contains}
use Rattle.mk_model.specs.Vectors.{combine, add, subtract, negate, scale, positive_part, negative_part, weight, IsPoint}
use Rattle.mk_model.specs.Lattices.{combination, InLattice, ones}
use Rattle.mk_model.specs.Orders.{standard, IsBelow, lead}
use Rattle.mk_model.specs.Reductions.{Divides}
use Rattle.mk_model.specs.ReducedBases.{IsLeast}
use Rattle.mk_model.specs.Cheapest.{IsOfFibre, IsNormalForm, IsCheapest, IsLeastCheapest, WalksDown}
use Rattle.mk_model.proofs.LatticeLaws.{InLattice-weight}
use Rattle.mk_model.proofs.ReducedLaws.{least_or_divided}
use Rattle.mk_examples.specs.Worked.{cubic_first, cubic_second, cubic_third, cubic_rows, cubic_moves, like_rows, like_row, like_first}
use Rattle.mk_examples.proofs.LikeColumns.{sums}
use Rattle.mk_examples.proofs.SmallVectors.{three_entries, two_factors, all_three}
use Rattle.mk_examples.proofs.TwistedCubic.{cubic_graded, cubic_basis, cubic_member}
use Rattle.mk_examples.proofs.WalkExamples.{natural, point_of_four}

-- ---- the twisted cubic
abbrev from : List ℤ
from = pos 0 ∷ pos 3 ∷ pos 0 ∷ pos 0 ∷ []

abbrev to : List ℤ
to = pos 2 ∷ pos 0 ∷ pos 0 ∷ pos 1 ∷ []

undivided : (m : List ℤ) → Contains cubic_moves m → Divides (lead m) to → ⊥
unfolding positive_part
undivided m h = All-contains (λ m. Divides (lead m) to → ⊥) cubic_moves m
    (all_three (λ m. Divides (lead m) to → ⊥) cubic_second cubic_third cubic_first
    (λ d. omega (arith, ints, d.entries 2)) (λ d. omega (arith, ints, d.entries 1)) (λ d. omega (arith, ints, d.entries 1))) h

pub normal_form : IsNormalForm 4 cubic_rows from to
unfolding combination subtract add combine scale
normal_form = record {
  least = elim (least_or_divided cubic_graded cubic_basis to (point_of_four 2 0 0 1)) [ inl l ↦ l | inr d ↦ absurd (undivided d.0 d.1 d.2) ];
  same_fibre = (two_factors (pos 2) (pos 1), refl);
}

pub walk : WalksDown 4 cubic_rows from (record { times = pos 1; row = cubic_first } ∷ record { times = pos 1; row = cubic_third } ∷ []) to
unfolding subtract combine scale
walk = (
  point_of_four 0 3 0 0,
  (cubic_member cubic_first (2, omega arith, refl)).in_lattice,
  omega (arith, ints),
  (
    point_of_four 1 1 1 0,
    (cubic_member cubic_third (1, omega arith, refl)).in_lattice,
    omega (arith, ints),
    (point_of_four 2 0 0 1, refl),
  ),
)

-- ---- three like columns
abbrev prices : List ℤ
prices = pos 1 ∷ pos 0 ∷ pos 0 ∷ []

abbrev first : List ℤ
first = pos 1 ∷ pos 0 ∷ pos 0 ∷ []

abbrev second : List ℤ
second = pos 0 ∷ pos 1 ∷ pos 0 ∷ []

abbrev third : List ℤ
third = pos 0 ∷ pos 0 ∷ pos 1 ∷ []

point_of_three : (a b c : ℕ) → IsPoint 3 (pos a ∷ pos b ∷ pos c ∷ [])
point_of_three a b c = record { columns = refl; nonnegative = natural (a ∷ b ∷ c ∷ []) }

first_there : IsOfFibre 3 like_rows first first
unfolding combination subtract add combine scale
first_there = record { point = point_of_three 1 0 0; same_fibre = (two_factors (pos 0) (pos 0), refl) }

second_there : IsOfFibre 3 like_rows first second
unfolding combination subtract add combine scale
second_there = record { point = point_of_three 0 1 0; same_fibre = (two_factors (negsuc 0) (pos 0), refl) }

third_there : IsOfFibre 3 like_rows first third
unfolding combination subtract add combine scale
third_there = record { point = point_of_three 0 0 1; same_fibre = (two_factors (negsuc 0) (negsuc 0), refl) }

costs : (a b c : ℤ) → pos 0 ≤ℤ a → pos 0 ≤ℤ weight prices (a ∷ b ∷ c ∷ [])
unfolding weight
costs a b c h = omega (arith, ints, h)

none_negative : (z : List ℤ) → IsPoint 3 z → pos 0 ≤ℤ weight prices z
none_negative z p = let e = three_entries z p.columns in rw e (costs _ _ _ (p.nonnegative 0))

pub middle : IsCheapest 3 like_rows prices first second
unfolding weight
middle = record { of_fibre = second_there; none_cheaper = λ z h. none_negative z h.point }

pub last : IsCheapest 3 like_rows prices first third
unfolding weight
last = record { of_fibre = third_there; none_cheaper = λ z h. none_negative z h.point }

pub dearer : ¬ (IsCheapest 3 like_rows prices first first)
unfolding weight
dearer h = omega (arith, ints, h.none_cheaper second second_there)

-- of a sum of 1 no vector is below the last unit vector
none_below : (a b c : ℤ) → IsPoint 3 (a ∷ b ∷ c ∷ []) → InLattice 3 like_rows (subtract (a ∷ b ∷ c ∷ []) first) → ¬ (IsBelow (standard 3) (a ∷ b ∷ c ∷ []) third)
unfolding weight subtract combine
none_below a b c p h below =
    let sum = InLattice-weight (ones 3) 3 like_rows (subtract (a ∷ b ∷ c ∷ []) first) sums h in
    elim below [
      | inl i ↦ omega (arith, ints, sum, i, p.nonnegative 0, p.nonnegative 1)
      | inr (e, inl j) ↦ omega (arith, ints, sum, e, j, p.nonnegative 0)
      | inr (e, inr (f, inl k)) ↦ omega (arith, ints, sum, e, f, k)
      | inr (e, inr (f, inr g)) ↦ g.1
    ]

pub least : IsLeastCheapest 3 like_rows prices first third
least = record {
  cheapest = last;
  none_below = λ z h.
      let e = three_entries z h.of_fibre.point.columns in
      rw e (none_below _ _ _ (rw e at h.of_fibre.point) (rw e at h.of_fibre.same_fibre));
}
