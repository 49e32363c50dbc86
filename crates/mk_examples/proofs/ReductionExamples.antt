-- Small examples of reduction and of redundant moves, computed.
use Rattle.std.proofs.Common.{◌≡◌, inl, inr, List, [], ◌∷◌, ℤ, pos, negsuc, All, false, arith, refl}
use Rattle.std.proofs.lemmas.Int.{ints}
use Rattle.std.proofs.lemmas.Bool.{both_ways}
use Rattle.std.proofs.lemmas.List.Kept.{AllPairs-cons}
use Rattle.std.proofs.lemmas.List.Elements.{All-nil, All-cons}
use Rattle.mk_model.specs.Vectors.{zeros, combine, add, subtract, negate, scale, positive_part, negative_part}
use Rattle.mk_model.specs.Orders.{standard, IsOriented, lead}
use Rattle.mk_model.specs.Reductions.{Divides, Reaches, IsDescent, Meet, IsReduction, Reduct, TailReduct, IsIrreducible, IsNormal}
use Rattle.mk_model.specs.Reductions.Reaches.{here, go}
use Rattle.mk_model.specs.Saturation.{divides, drop_redundant, NoneRedundant}
use Rattle.mk_examples.specs.Worked.{cubic_top, unit_move, double_move, cubic_first, cubic_second, cubic_third, cubic_turned, cubic_moves, cubic_outer}
use Rattle.mk_model.proofs.Divisors.{divides_true, Decides-divides}
use Rattle.mk_model.proofs.Lists.{Contains-none}
use Rattle.mk_examples.proofs.SmallVectors.{all_two}
use Rattle.mk_examples.proofs.JournalExamples.{irreducible_more}

pub standard_oriented : All (IsOriented (standard 4)) cubic_turned
unfolding positive_part negative_part negate
standard_oriented =
    All-cons (IsOriented (standard 4)) cubic_first (cubic_second ∷ []) (inr (refl, inl (omega (arith, ints))))
    (All-cons (IsOriented (standard 4)) cubic_second [] (inl (omega (arith, ints))) (All-nil (IsOriented (standard 4))))

abbrev AreApart : List ℤ → List ℤ → Type 0
AreApart u v = (¬ (Divides (lead u) (lead v))) × (¬ (Divides (lead v) (lead u)))

not_divides : (x y : List ℤ) → divides x y ≡ false → ¬ (Divides x y)
not_divides x y e d = both_ways (divides x y) e ((Decides-divides x y).1 d)

pub reduces_to_zero : Reduct cubic_turned (pos 1 ∷ negsuc 2 ∷ pos 3 ∷ negsuc 0 ∷ []) (zeros 4)
unfolding divides subtract add combine scale positive_part negative_part negate
reduces_to_zero =
    go (record {
      move = cubic_second;
      member = (1, omega arith, refl);
      times = 1;
      some = omega arith;
      taken_off = inl (divides_true _ _ refl, refl);
    })
    (go (record {
      move = cubic_first;
      member = (0, omega arith, refl);
      times = 1;
      some = omega arith;
      taken_off = inr (divides_true _ _ refl, refl);
    }) here)

pub drops_two : drop_redundant (double_move ∷ unit_move ∷ unit_move ∷ []) ≡ unit_move ∷ []
unfolding divides subtract combine positive_part
drops_two = refl

-- steps down from (0 2 2 0)
pub descent : IsDescent cubic_turned (pos 0 ∷ pos 2 ∷ pos 2 ∷ pos 0 ∷ []) (pos 1 ∷ pos 0 ∷ pos 3 ∷ pos 0 ∷ [])
unfolding divides subtract combine positive_part
descent = record { move = cubic_first; member = (0, omega arith, refl); divides = divides_true _ _ refl; below = refl }

pub descents : Reaches (IsDescent cubic_turned) (pos 0 ∷ pos 2 ∷ pos 2 ∷ pos 0 ∷ []) (pos 1 ∷ pos 1 ∷ pos 1 ∷ pos 1 ∷ [])
unfolding divides subtract combine positive_part
descents = go descent (go (record { move = cubic_second; member = (1, omega arith, refl); divides = divides_true _ _ refl; below = refl })
    here)

pub reduction : IsReduction cubic_turned (pos 1 ∷ negsuc 2 ∷ pos 3 ∷ negsuc 0 ∷ []) cubic_top
unfolding divides subtract add combine scale positive_part negative_part negate
reduction = record {
  move = cubic_second;
  member = (1, omega arith, refl);
  times = 1;
  some = omega arith;
  taken_off = inl (divides_true _ _ refl, refl);
}

-- steps down that meet in (1 1 1 1)
pub meet : Meet cubic_turned (pos 1 ∷ pos 0 ∷ pos 3 ∷ pos 0 ∷ []) (pos 0 ∷ pos 3 ∷ pos 0 ∷ pos 1 ∷ [])
unfolding divides subtract combine positive_part
meet = record {
  common = pos 1 ∷ pos 1 ∷ pos 1 ∷ pos 1 ∷ [];
  from_first = go (record { move = cubic_second; member = (1, omega arith, refl); divides = divides_true _ _ refl; below = refl }) here;
  from_second = go (record { move = cubic_first; member = (0, omega arith, refl); divides = divides_true _ _ refl; below = refl }) here;
}

pub tail_reduct : TailReduct cubic_turned (pos 1 ∷ pos 1 ∷ negsuc 1 ∷ pos 0 ∷ []) (pos 1 ∷ pos 0 ∷ pos 0 ∷ negsuc 0 ∷ [])
unfolding divides subtract add combine scale positive_part negative_part negate
tail_reduct = go (record {
  move = cubic_second;
  member = (1, omega arith, refl);
  times = 1;
  some = omega arith;
  divides = divides_true _ _ refl;
  added = refl;
}) here

none_divides : (x : List ℤ) → divides (lead cubic_first) x ≡ false → divides (lead cubic_second) x ≡ false → IsIrreducible cubic_turned x
none_divides x e f = irreducible_more cubic_first (cubic_second ∷ []) x e
    (irreducible_more cubic_second [] x f (λ v h _. Contains-none v h))

pub irreducible : IsIrreducible cubic_turned cubic_outer
unfolding divides subtract combine positive_part
irreducible = none_divides cubic_outer refl refl

pub normal : IsNormal cubic_turned cubic_third
unfolding divides subtract combine positive_part negative_part negate
normal = record {
  not_zero = refl;
  positive = none_divides (positive_part cubic_third) refl refl;
  negative = none_divides (negative_part cubic_third) refl refl;
}

pub apart : NoneRedundant cubic_moves
unfolding divides subtract combine positive_part
apart =
    AllPairs-cons AreApart cubic_second (cubic_third ∷ cubic_first ∷ [])
    (all_two (AreApart cubic_second) cubic_third cubic_first (not_divides _ _ refl, not_divides _ _ refl)
    (not_divides _ _ refl, not_divides _ _ refl))
    (AllPairs-cons AreApart cubic_third (cubic_first ∷ [])
    (All-cons (AreApart cubic_third) cubic_first [] (not_divides _ _ refl, not_divides _ _ refl) (All-nil (AreApart cubic_third)))
    (λ i j d h l. absurd (omega arith)))

pub divides_top : Divides (lead cubic_first) (pos 0 ∷ pos 2 ∷ pos 2 ∷ pos 0 ∷ [])
unfolding divides subtract combine positive_part
divides_top = divides_true _ _ refl

pub no_divisor : ¬ (Divides (pos 1 ∷ pos 0 ∷ pos 0 ∷ pos 0 ∷ []) (pos 0 ∷ pos 2 ∷ pos 2 ∷ pos 0 ∷ []))
unfolding divides subtract combine
no_divisor = not_divides _ _ refl
