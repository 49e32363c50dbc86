-- A pair that is settled by a chain, and not before the other two are.
use Rattle.std.proofs.Common.{◌≡◌, ◌⊎◌, inl, inr, [], ◌∷◌, arith, ap, refl}
use Rattle.mk_model.specs.Vectors.{combine, subtract, positive_part}
use Rattle.mk_model.specs.Reductions.{lcm}
use Rattle.mk_model.specs.Saturation.{divides}
use Rattle.mk_model.specs.CoreStates.{Pair, pair_of, Settle, settle, IsSettled}
use Rattle.mk_model.specs.CoreStates.Way.{Zero}
use Rattle.mk_model.specs.Events.{IsChain}
use Rattle.mk_examples.specs.Worked.{chain_moves}
use Rattle.mk_model.proofs.Divisors.{divides_true}
use Rattle.mk_examples.proofs.JournalExamples.{none_settled, unsettled_more}

pub chain : IsChain chain_moves (settle 0 (pair_of 0 2) Zero ∷ settle 1 (pair_of 1 2) Zero ∷ []) (pair_of 0 1) 2
unfolding divides subtract combine positive_part lcm
chain = record {
  within = omega arith;
  not_first = λ e. omega (arith, e);
  not_second = λ e. omega (arith, e);
  divides = divides_true _ _ refl;
  first_settled = inl (settle 0 (pair_of 0 2) Zero, (0, omega arith, refl), refl);
  second_settled = inl (settle 1 (pair_of 1 2) Zero, (1, omega arith, refl), refl);
}

abbrev early : Settle
early = settle 0 (pair_of 0 2) Zero

pub too_early : ¬ (IsChain chain_moves (early ∷ []) (pair_of 0 1) 2)
too_early c = go c.second_settled
  where
    go : IsSettled (early ∷ []) (pair_of 1 2) ⊎ IsSettled (early ∷ []) (pair_of 2 1) → ⊥
    go (inl s) = unsettled_more early [] (pair_of 1 2) (λ e. let f : 0 ≡ 1 = ap (λ (p : Pair). p.first) e in omega arith)
        (none_settled (pair_of 1 2)) s
    go (inr s) = unsettled_more early [] (pair_of 2 1) (λ e. let f : 0 ≡ 2 = ap (λ (p : Pair). p.first) e in omega arith)
        (none_settled (pair_of 2 1)) s
