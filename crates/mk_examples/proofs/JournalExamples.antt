-- A journal that replays, and the same with its cubic_top two entries exchanged, which does not.
use Rattle.std.proofs.Common.{◌≡◌, inl, inr, zero, suc, List, [], ◌∷◌, ℤ, pos, negsuc, false, arith, ap, refl, sym, subst, ⊎_elim}
use Rattle.std.proofs.lemmas.Bool.{both_ways}
use Rattle.std.proofs.lemmas.Int.{ints}
use Rattle.mk_model.specs.Vectors.{entry, zeros, combine, add, subtract, negate, scale, positive_part, negative_part}
use Rattle.mk_model.specs.Orders.{lead}
use Rattle.mk_model.specs.Reductions.{Divides, Reduct, IsIrreducible}
use Rattle.mk_model.specs.Reductions.Reaches.{here, go}
use Rattle.mk_model.specs.Pairs.{AreDisjoint}
use Rattle.mk_model.specs.Saturation.{divides}
use Rattle.mk_model.specs.CoreStates.{Pair, pair_of, Settle, IsSettled}
use Rattle.mk_model.specs.Events.{HasNormalReduct, IsPlaced}
use Rattle.mk_model.specs.Legal.{IsNext, Replays}
use Rattle.mk_examples.specs.Worked.{cubic_top, cubic_second, placed_move, column_one, start_moves, completed_moves, placing, reducing, skipping}
use Rattle.mk_model.proofs.Lists.{Contains-none, Contains-cases}
use Rattle.mk_model.proofs.Divisors.{Decides-divides, divides_true}

pub irreducible_more : (m : List ℤ) (moves : List (List ℤ)) (x : List ℤ) → divides (lead m) x ≡ false → IsIrreducible moves x →
    IsIrreducible (m ∷ moves) x
irreducible_more m moves x e none v h d =
    ⊎_elim (λ s. both_ways (divides (lead m) x) e ((Decides-divides (lead m) x).1 (subst (λ u. Divides (lead u) x) (sym s) d)))
    (λ k. none v k d)
    (Contains-cases m moves v h)

pub unsettled_more : (entry : Settle) (journal : List Settle) (pair : Pair) → ¬ (entry.pair ≡ pair) → ¬ (IsSettled journal pair) →
    ¬ (IsSettled (entry ∷ journal) pair)
unsettled_more entry journal pair apart none (other, h, e) =
    ⊎_elim (λ s. apart (subst (λ (t : Settle). t.pair ≡ pair) (sym s) e)) (λ k. none (other, k, e)) (Contains-cases entry journal other h)

pub none_settled : (pair : Pair) → ¬ (IsSettled [] pair)
none_settled pair (entry, h, e) = Contains-none entry h

pub difference_is_normal : HasNormalReduct (start_moves) (pair_of 0 1)
unfolding divides subtract combine positive_part negative_part negate
difference_is_normal = record {
  remainder = negsuc 0 ∷ pos 1 ∷ pos 1 ∷ negsuc 0 ∷ [];
  reduct = here;
  normal = record {
    not_zero = refl;
    positive = irreducible_more cubic_top (cubic_second ∷ []) _ refl (irreducible_more cubic_second [] _ refl (λ v h _. Contains-none v h));
    negative = irreducible_more cubic_top (cubic_second ∷ []) _ refl (irreducible_more cubic_second [] _ refl (λ v h _. Contains-none v h));
  };
}

pub third_placed : IsPlaced column_one 3 (start_moves) (pair_of 0 1) 2 placed_move
unfolding negate positive_part negative_part difference_is_normal
third_placed = record {
  at_end = refl;
  room = omega arith;
  oriented = inl (omega (arith, ints));
  normal_reduct = difference_is_normal;
  sign = inr refl;
}

pub to_zero : Reduct (completed_moves) (subtract placed_move cubic_top) (zeros 4)
unfolding divides subtract add combine scale positive_part negative_part negate
to_zero = go (record {
  move = cubic_second;
  member = (1, omega arith, refl);
  times = 1;
  some = omega arith;
  taken_off = inr (divides_true _ _ refl, refl);
}) here

pub disjoint : AreDisjoint (lead cubic_second) (lead placed_move)
unfolding positive_part
disjoint zero = inl refl
disjoint (suc zero) = inl refl
disjoint (suc (suc zero)) = inr refl
disjoint (suc (suc (suc zero))) = inl refl
disjoint (suc (suc (suc (suc c)))) = inl refl

pub placing_next : IsNext 4 column_one 3 [] (start_moves) placing (completed_moves)
placing_next = record {
  of_moves = record { ordered = omega arith; within = omega arith };
  unsettled = none_settled (pair_of 0 1);
  settled = (placed_move, third_placed, refl);
}

pub reducing_next : IsNext 4 column_one 3 (placing ∷ []) (completed_moves) reducing (completed_moves)
reducing_next = record {
  of_moves = record { ordered = omega arith; within = omega arith };
  unsettled = unsettled_more placing [] (pair_of 0 2) (λ e. let f : 1 ≡ 2 = ap (λ (p : Pair). p.second) e in omega arith)
      (none_settled (pair_of 0 2));
  settled = (to_zero, refl);
}

pub skipping_next : IsNext 4 column_one 3 (placing ∷ reducing ∷ []) (completed_moves) skipping (completed_moves)
skipping_next = record {
  of_moves = record { ordered = omega arith; within = omega arith };
  unsettled = unsettled_more placing (reducing ∷ []) (pair_of 1 2) (λ e. let f : 0 ≡ 1 = ap (λ (p : Pair). p.first) e in omega arith)
      (unsettled_more reducing [] (pair_of 1 2) (λ e. let f : 0 ≡ 1 = ap (λ (p : Pair). p.first) e in omega arith)
      (none_settled (pair_of 1 2)));
  settled = (disjoint, refl);
}

pub in_order : Replays 4 column_one 3 [] (start_moves) (placing ∷ reducing ∷ skipping ∷ []) (completed_moves)
in_order = (completed_moves, placing_next, (completed_moves, reducing_next, (completed_moves, skipping_next, refl)))

pub exchanged : ¬ (Replays 4 column_one 3 [] (start_moves) (reducing ∷ placing ∷ skipping ∷ []) (completed_moves))
exchanged (after, next, rest) = let l = next.of_moves.within in omega arith
