-- The pairs of the twisted cubic, and its rows up to columns.
use Rattle.std.proofs.Common.{◌≡◌, ◌⊎◌, inl, inr, ℕ, zero, suc, ◌==◌, true, List, [], ◌∷◌, ℤ, pos, All, Contains, arith, refl, ⊎_elim}
use Rattle.std.proofs.lemmas.Int.{ints}
use Rattle.std.proofs.lemmas.Bool.{both_ways}
use Rattle.std.proofs.lemmas.List.Elements.{All-nil, All-cons}
use Rattle.std.proofs.lemmas.List.Kept.{AllPairs-cons}
use Rattle.mk_model.specs.Vectors.{entry, zeros, combine, add, subtract, negate, positive_part, weight}
use Rattle.mk_model.specs.Lattices.{InLattice}
use Rattle.mk_model.specs.Walks.Walk.{stay, step}
use Rattle.mk_model.specs.Orders.{standard, IsOriented, lead}
use Rattle.mk_model.specs.Reductions.{lcm}
use Rattle.mk_model.specs.Reductions.Reaches.{here}
use Rattle.mk_model.specs.Pairs.{AreOrientedMoves, IsPointBelow, AreDisjoint, JoinedBelow, EveryPairJoined}
use Rattle.mk_model.specs.CoreStates.{pair_of}
use Rattle.mk_model.specs.Overflows.{IsPairOfWeight}
use Rattle.mk_model.specs.Saturation.{IsSupported, every_column, JoinedUpTo, ConnectedUpTo, IsSignedRow}
use Rattle.mk_examples.specs.Worked.{cubic_first, cubic_second, cubic_third, cubic_top, cubic_bottom, cubic_rows, cubic_turned, cubic_moves, cubic_lattice, cubic_outer, cubic_inner, curve_first, curve_second, curve_third, curve_weights}
use Rattle.mk_model.proofs.OrderTests.{is_below, Decides-is_below}
use Rattle.mk_model.proofs.NormalForms.{All-from_contains}
use Rattle.mk_model.proofs.Reducts.{joined_by_member, joined_by_disjoint}
use Rattle.mk_model.proofs.RowConnections.{connected_by_rows}
use Rattle.mk_examples.proofs.SmallVectors.{all_two, all_three}
use Rattle.mk_model.proofs.VectorAlgebra.{entry-zeros}
use Rattle.mk_examples.proofs.TwistedCubic.{cubic_graded, cubic_member}
use Rattle.mk_examples.proofs.WalkExamples.{point_of_four}

all_oriented : AreOrientedMoves cubic_lattice (standard 4) cubic_moves
all_oriented = record {
  grading = cubic_graded;
  in_lattice = All-from_contains (InLattice 4 cubic_rows) cubic_moves (λ m h. (cubic_member m h).in_lattice);
  oriented = All-from_contains (IsOriented (standard 4)) cubic_moves (λ m h. (cubic_member m h).oriented);
}

pub oriented_moves : AreOrientedMoves cubic_lattice (standard 4) cubic_turned
oriented_moves = record {
  grading = cubic_graded;
  in_lattice = all_two (InLattice 4 cubic_rows) cubic_first cubic_second (cubic_member cubic_first first_member).in_lattice
      (cubic_member cubic_second second_member).in_lattice;
  oriented = all_two (IsOriented (standard 4)) cubic_first cubic_second (cubic_member cubic_first first_member).oriented
      (cubic_member cubic_second second_member).oriented;
}
  where
    first_member : Contains cubic_moves cubic_first
    first_member = (2, omega arith, refl)

    second_member : Contains cubic_moves cubic_second
    second_member = (0, omega arith, refl)

pub disjoint : AreDisjoint (lead cubic_first) (lead cubic_second)
unfolding positive_part
disjoint zero = inl refl
disjoint (suc zero) = inr refl
disjoint (suc (suc zero)) = inl refl
disjoint (suc (suc (suc zero))) = inl refl
disjoint (suc (suc (suc (suc c)))) = inl refl

other_way : (x y : List ℤ) → AreDisjoint x y → AreDisjoint y x
other_way x y d c = go (d c)
  where
    go : (entry x c ≡ pos 0) ⊎ (entry y c ≡ pos 0) → (entry y c ≡ pos 0) ⊎ (entry x c ≡ pos 0)
    go (inl e) = inr e
    go (inr e) = inl e

-- the walk (1 0 3 0), (1 1 1 1), (0 3 0 1), below (0 2 2 0)
below_top : (a b c d : ℕ) → is_below (standard 4) (pos a ∷ pos b ∷ pos c ∷ pos d ∷ []) (pos 0 ∷ pos 2 ∷ pos 2 ∷ pos 0 ∷ []) ≡ true →
    IsPointBelow 4 (standard 4) (pos 0 ∷ pos 2 ∷ pos 2 ∷ pos 0 ∷ []) (pos a ∷ pos b ∷ pos c ∷ pos d ∷ [])
below_top a b c d e = record {
  point = point_of_four a b c d;
  below = (Decides-is_below (standard 4) (pos a ∷ pos b ∷ pos c ∷ pos d ∷ [])
      (pos 0 ∷ pos 2 ∷ pos 2 ∷ pos 0 ∷ [])).0 e;
}

pub point_below : IsPointBelow 4 (standard 4) (pos 0 ∷ pos 2 ∷ pos 2 ∷ pos 0 ∷ []) (pos 1 ∷ pos 1 ∷ pos 1 ∷ pos 1 ∷ [])
point_below = below_top 1 1 1 1 refl

pub joined_below : JoinedBelow 4 (standard 4) cubic_turned cubic_first cubic_second
unfolding lcm combine add subtract positive_part
joined_below =
    step (below_top 1 0 3 0 refl) (cubic_second, (1, omega arith, refl), inr refl)
    (step (below_top 1 1 1 1 refl) (cubic_first, (0, omega arith, refl), inl refl) (stay (below_top 0 3 0 1 refl)))

pub every_pair : EveryPairJoined 4 (standard 4) cubic_moves
unfolding subtract combine negate
every_pair =
    AllPairs-cons R cubic_second (cubic_third ∷ cubic_first ∷ [])
    (all_two (R cubic_second) cubic_third cubic_first
    (joined_by_member all_oriented cubic_second cubic_third cubic_first (0, omega arith, refl) (1, omega arith, refl) here
    (inl (2, omega arith, refl)))
    (joined_by_disjoint all_oriented cubic_second cubic_first (0, omega arith, refl) (2, omega arith, refl)
    (other_way (lead cubic_first) (lead cubic_second) disjoint)))
    (AllPairs-cons R cubic_third (cubic_first ∷ [])
    (All-cons (R cubic_third) cubic_first []
    (joined_by_member all_oriented cubic_third cubic_first cubic_bottom (1, omega arith, refl) (2, omega arith, refl) here
    (inr (0, omega arith, refl)))
    (All-nil (R cubic_third))) (λ i j d h l. absurd (omega arith)))
  where
    R : List ℤ → List ℤ → Type 0
    R = JoinedBelow 4 (standard 4) cubic_moves

-- ---- on the curve of weights 1, 2, 3
pub of_weight : IsPairOfWeight curve_weights (curve_first ∷ curve_second ∷ curve_third ∷ []) (pair_of 0 1)
unfolding lcm combine positive_part weight
of_weight = record {
  of_list = record { ordered = omega arith; within = omega arith };
  overlap = λ d. ⊎_elim (λ e. omega (arith, ints, e)) (λ e. omega (arith, ints, e)) (d 0);
  move = curve_third;
  member = (2, omega arith, refl);
  same = refl;
}

-- ---- up to columns: the walk (1 1 0 1), (1 0 2 0), (0 2 1 0)
pub supported : IsSupported (λ c. c == 1) (pos 0 ∷ pos 1 ∷ pos 0 ∷ pos 0 ∷ [])
supported zero e = refl
supported (suc zero) e = absurd (both_ways (1 == 1) e refl)
supported (suc (suc zero)) e = refl
supported (suc (suc (suc zero))) e = refl
supported (suc (suc (suc (suc c)))) e = refl

pub joined_up_to : JoinedUpTo 4 (λ c. c == 1) cubic_rows cubic_outer cubic_inner
unfolding add subtract combine
joined_up_to = record {
  added = pos 0 ∷ pos 1 ∷ pos 0 ∷ pos 0 ∷ [];
  point = point_of_four 0 1 0 0;
  supported = supported;
  joined = step (point_of_four 1 1 0 1) (cubic_bottom, (1, omega arith, refl), inr refl)
      (step (point_of_four 1 0 2 0) (cubic_top, (0, omega arith, refl), inr refl) (stay (point_of_four 0 2 1 0)));
}

pub signed_rows : All (IsSignedRow cubic_turned) (zeros 4 ∷ cubic_top ∷ cubic_bottom ∷ [])
unfolding negate
signed_rows =
    all_three (IsSignedRow cubic_turned) (zeros 4) cubic_top cubic_bottom (inl (λ c. entry-zeros 4 c)) (inr (inr (0, omega arith, refl)))
    (inr (inr (1, omega arith, refl)))

pub connected_up_to : ConnectedUpTo 4 cubic_rows every_column cubic_rows
connected_up_to = connected_by_rows cubic_graded cubic_rows (λ row h. inr (inl h))
