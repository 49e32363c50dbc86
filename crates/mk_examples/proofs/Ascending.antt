-- A test of whether moves ascend, which computes, and the moves of 3 by 3 independence.
use Rattle.std.proofs.Common.{◌≡◌, ℕ, Bool, true, ◌||◌, ◌&&◌, List, [], ◌∷◌, ℤ, AllPairs, arith, refl}
use Rattle.std.specs.Bool.{Decides}
use Rattle.std.specs.List.{list_all}
use Rattle.std.specs.Ordering.{int_eq}
use Rattle.std.specs.Int.Signed.{lt_z}
use Rattle.std.specs.Cmp.Lexicographic.{pointwise}
use Rattle.std.proofs.lemmas.Bool.Decides.{Decides-and, Decides-or, Decides-by_and, Decides-int_eq}
use Rattle.std.proofs.lemmas.Slice.Eq.{slice_eq-Decides}
use Rattle.std.proofs.lemmas.List.Kept.{AllPairs-cons}
use Rattle.mk_model.specs.Vectors.{negate, positive_part, negative_part, weight}
use Rattle.mk_model.specs.Lattices.{ones}
use Rattle.mk_model.specs.Orders.{standard, lead, tail, ComesBefore}
use Rattle.mk_model.proofs.OrderTests.{is_below, Decides-lt_z, Decides-is_below}
use Rattle.mk_examples.specs.Worked.{nine_moves}

abbrev same_vector : List ℤ → List ℤ → Bool
same_vector x y = pointwise int_eq x y

abbrev comes_before : ℕ → List ℤ → List ℤ → List ℤ → Bool
comes_before n w m other =
    lt_z (weight w (lead m)) (weight w (lead other))
    || (int_eq (weight w (lead m)) (weight w (lead other)) && (is_below (standard n) (lead m) (lead other)
    || (same_vector (lead m) (lead other) && is_below (standard n) (tail m) (tail other))))

Decides-comes_before : (n : ℕ) (w m other : List ℤ) → Decides (comes_before n w m other) (ComesBefore n w m other)
Decides-comes_before n w m other =
    Decides-or _ _ (Decides-lt_z _ _) (Decides-and _ _ (Decides-int_eq _ _)
    (Decides-or _ _ (Decides-is_below (standard n) (lead m) (lead other))
    (Decides-and _ _ (slice_eq-Decides Decides-int_eq (lead m) (lead other) _ refl) (Decides-is_below (standard n) (tail m) (tail other)))))

abbrev pub ascends : ℕ → List ℤ → List (List ℤ) → Bool
ascends n w [] = true
ascends n w (m ∷ moves) = list_all (comes_before n w m) moves && ascends n w moves

pub ascends-true : (n : ℕ) (w : List ℤ) (moves : List (List ℤ)) → ascends n w moves ≡ true → AllPairs (ComesBefore n w) moves
ascends-true n w [] h = λ i j d a l. absurd (omega arith)
ascends-true n w (m ∷ moves) h =
    let (a, b) = (Decides-and (list_all (comes_before n w m) moves) (ascends n w moves) (λ e. e, λ e. e) (λ e. e, λ e. e)).0 h in
    AllPairs-cons (ComesBefore n w) m moves
    ((Decides-by_and (comes_before n w m) (ComesBefore n w m) (list_all (comes_before n w m)) (Decides-comes_before n w m) refl
    (λ _ _. refl) moves).0 a)
    (ascends-true n w moves b)

-- ---- the moves of 3 by 3 independence
pub nine_ascend : AllPairs (ComesBefore 9 (ones 9)) nine_moves
unfolding negate positive_part negative_part weight
nine_ascend = ascends-true 9 (ones 9) nine_moves refl
