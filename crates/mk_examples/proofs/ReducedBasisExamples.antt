-- The fibre of (1 0 0 1) and (0 1 1 0) on the twisted cubic.
use Rattle.std.proofs.Common.{◌≡◌, ℕ, List, [], ◌∷◌, ℤ, pos, All, Contains, arith, refl, sym, subst}
use Rattle.std.proofs.lemmas.Int.{ints}
use Rattle.mk_model.specs.Vectors.{negate, positive_part, negative_part, weight}
use Rattle.mk_model.specs.Lattices.{ones}
use Rattle.mk_model.specs.Walks.{Joined}
use Rattle.mk_model.specs.Orders.{standard, lead, tail}
use Rattle.mk_model.specs.ReducedBases.{IsLeast, IsReducedMove, LighterMoves, IsLeastOfComponent, IsStarMove}
use Rattle.mk_examples.specs.Worked.{cubic_rows, cubic_third, cubic_moves, cubic_lattice, cubic_outer, cubic_inner}
use Rattle.mk_model.proofs.OrderLaws.{IsOriented-lead_not_tail, IsBelow-not_same}
use Rattle.mk_model.proofs.WalkLaws.{walk_stays}
use Rattle.mk_model.proofs.AnswerLaws.{answer_members_essential}
use Rattle.mk_model.proofs.ReducedLaws.{reduced_ends, member_reduced}
use Rattle.mk_model.proofs.StarLaws.{essential_is_star}
use Rattle.mk_model.proofs.Components.{LighterMembers, ends_joined, lighter_by_members}
use Rattle.mk_examples.proofs.SmallVectors.{all_two}
use Rattle.mk_examples.proofs.TwistedCubic.{cubic_graded, cubic_basis, cubic_weights, of_twisted_cubic}
use Rattle.mk_examples.proofs.WalkExamples.{point_of_four}

third_member : Contains cubic_moves cubic_third
third_member = (1, omega arith, refl)

pub reduced : IsReducedMove 4 cubic_rows cubic_third
reduced = member_reduced cubic_graded cubic_basis cubic_third third_member

pub least : IsLeast 4 cubic_rows cubic_outer
unfolding negate positive_part negative_part
least =
    let reduced = member_reduced cubic_graded cubic_basis cubic_third third_member in
    subst (IsLeast 4 cubic_rows) ((reduced_ends cubic_graded reduced).1) reduced.least

pub none_lighter : (v : List ℤ) → ¬ (LighterMoves cubic_lattice (pos 2) v)
none_lighter v (a, l) = IsOriented-lead_not_tail (standard 4) v a.oriented
    (walk_stays no_member (lighter_by_members cubic_graded cubic_basis (pos 2) step))
  where
    no_member : (m : List ℤ) → LighterMembers (ones 4) cubic_moves (pos 2) m → ⊥
    no_member m (h, k) = omega (arith, ints, k, cubic_weights m h)

    step : Joined 4 (LighterMoves cubic_lattice (pos 2)) (lead v) (tail v)
    step = ends_joined cubic_graded a (a, l)

-- a point that no lighter move leaves is the least of its component
alone : (a b c d : ℕ) → weight (ones 4) (pos a ∷ pos b ∷ pos c ∷ pos d ∷ []) ≡ pos 2 →
    IsLeastOfComponent cubic_lattice (pos a ∷ pos b ∷ pos c ∷ pos d ∷ [])
alone a b c d e = record {
  point = point_of_four a b c d;
  none_below = λ y j b. IsBelow-not_same (standard 4) y x (sym (walk_stays none_lighter
      (subst (λ z. Joined 4 (LighterMoves cubic_lattice z) x y) e j))) b;
}
  where
    x : List ℤ
    x = pos a ∷ pos b ∷ pos c ∷ pos d ∷ []

pub components : All (IsLeastOfComponent cubic_lattice) (cubic_inner ∷ cubic_outer ∷ [])
unfolding weight
components = all_two (IsLeastOfComponent cubic_lattice) cubic_inner cubic_outer (alone 0 1 1 0 refl) (alone 1 0 0 1 refl)

pub star : IsStarMove cubic_lattice cubic_third
star = essential_is_star cubic_graded (answer_members_essential of_twisted_cubic.answer cubic_third third_member).essential
