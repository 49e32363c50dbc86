-- The events of a small completion, one after another, until it is ended.
use Rattle.std.proofs.Common.{◌≡◌, ◌⊎◌, inl, inr, ℕ, zero, suc, ◌≤◌, ◌<◌, List, [], ◌∷◌, get_or, Option, None, Some, ℤ, arith, ap, refl, sym, ◌∙◌}
use Rattle.std.proofs.lemmas.Bool.{cases_lt}
use Rattle.std.proofs.lemmas.Option.{none-some}
use Rattle.mk_model.specs.CoreStates.{Pair, pair_of, Settle, CoreState, new_state, IsPairOf, IsSettled, IsLesser}
use Rattle.mk_model.specs.CoreStates.Way.{Coprime, Zero, Place}
use Rattle.mk_model.specs.Events.{with_claim, with_entry, IsClaim, IsSettling, Event, Happens, HappenInTurn}
use Rattle.mk_model.specs.Events.Event.{Claims, Settles}
use Rattle.mk_model.specs.Legal.{IsEnded}
use Rattle.mk_examples.specs.Worked.{cubic_top, cubic_second, placed_move, column_one, completed_moves, placing, reducing, skipping, begun_state}
use Rattle.mk_examples.proofs.JournalExamples.{none_settled, unsettled_more, third_placed, to_zero, disjoint}

abbrev claimed : CoreState
claimed = with_claim begun_state 0 (pair_of 0 1)

abbrev one_settled : CoreState
one_settled = with_entry claimed 0 (pair_of 0 1) (Place 2) completed_moves

abbrev second_claimed : CoreState
second_claimed = with_claim one_settled 0 (pair_of 0 2)

abbrev two_settled : CoreState
two_settled = with_entry second_claimed 0 (pair_of 0 2) Zero completed_moves

abbrev third_claimed : CoreState
third_claimed = with_claim two_settled 0 (pair_of 1 2)

abbrev pub all_settled : CoreState
all_settled = with_entry third_claimed 0 (pair_of 1 2) Coprime completed_moves

abbrev two_without : List (Option Pair)
two_without = None ∷ None ∷ []

no_claims : (worker : ℕ) → get_or two_without worker None ≡ None
no_claims zero = refl
no_claims (suc zero) = refl
no_claims (suc (suc worker)) = refl

unclaimed : (worker : ℕ) (pair : Pair) → get_or two_without worker None ≡ Some pair → ⊥
unclaimed worker pair e = none-some pair (sym (no_claims worker) ∙ e)

same_pair : (pair : Pair) (i j : ℕ) → i ≡ pair.first → j ≡ pair.second → pair_of i j ≡ pair
same_pair pair i j e f = rw (e, f) refl

settled_first : (entry : Settle) (journal : List Settle) (pair : Pair) → entry.pair ≡ pair → IsSettled (entry ∷ journal) pair
settled_first entry journal pair e = (entry, (0, omega arith, refl), e)

settled_second : (before entry : Settle) (journal : List Settle) (pair : Pair) → entry.pair ≡ pair →
    IsSettled (before ∷ entry ∷ journal) pair
settled_second before entry journal pair e = (entry, (1, omega arith, refl), e)

settled_third : (before next entry : Settle) (journal : List Settle) (pair : Pair) → entry.pair ≡ pair →
    IsSettled (before ∷ next ∷ entry ∷ journal) pair
settled_third before next entry journal pair e = (entry, (2, omega arith, refl), e)

-- worker 0 claims the one pair of two moves
pub first_claim : (m v : List ℤ) (limit : ℕ) → IsClaim (new_state (m ∷ v ∷ []) 3 limit 2) 0
    (with_claim (new_state (m ∷ v ∷ []) 3 limit 2) 0 (pair_of 0 1))
first_claim m v limit = record {
  worker_within = omega arith;
  no_halt = refl;
  no_claim = refl;
  within_budget = omega arith;
  pair = pair_of 0 1;
  free = record {
    of_basis = record { ordered = omega arith; within = omega arith };
    unsettled = none_settled (pair_of 0 1);
    unclaimed = λ (worker, e). unclaimed worker (pair_of 0 1) e;
  };
  least = λ other free lesser. least other free.of_basis lesser;
  changed = refl;
}
  where
    least : (other : Pair) → IsPairOf (m ∷ v ∷ []) other → IsLesser other (pair_of 0 1) → ⊥
    least other h (inl l) = omega (arith, h.ordered)
    least other h (inr (e, l)) = omega (arith, h.ordered)

first_settling : IsSettling 4 column_one claimed 0 (Place 2) one_settled
first_settling = record {
  pair = pair_of 0 1;
  claimed = refl;
  moves = completed_moves;
  settled = (placed_move, third_placed, refl);
  changed = refl;
}

second_claim : IsClaim one_settled 0 second_claimed
second_claim = record {
  worker_within = omega arith;
  no_halt = refl;
  no_claim = refl;
  within_budget = omega arith;
  pair = pair_of 0 2;
  free = record {
    of_basis = record { ordered = omega arith; within = omega arith };
    unsettled = unsettled_more placing [] (pair_of 0 2) (λ e. let f : 1 ≡ 2 = ap (λ (p : Pair). p.second) e in omega arith)
        (none_settled (pair_of 0 2));
    unclaimed = λ (worker, e). unclaimed worker (pair_of 0 2) e;
  };
  least = λ other free lesser. least other free.of_basis free.unsettled lesser;
  changed = refl;
}
  where
    least : (other : Pair) → IsPairOf completed_moves other → ¬ (IsSettled (placing ∷ []) other) → IsLesser other (pair_of 0 2) → ⊥
    least other h none (inl l) = none (settled_first placing [] other
        (same_pair other 0 1 (omega (arith, h.ordered, l)) (omega (arith, h.ordered, l))))
    least other h none (inr (e, l)) = omega (arith, l)

second_settling : IsSettling 4 column_one second_claimed 0 Zero two_settled
second_settling = record { pair = pair_of 0 2; claimed = refl; moves = completed_moves; settled = (to_zero, refl); changed = refl }

third_claim : IsClaim two_settled 0 third_claimed
third_claim = record {
  worker_within = omega arith;
  no_halt = refl;
  no_claim = refl;
  within_budget = omega arith;
  pair = pair_of 1 2;
  free = record {
    of_basis = record { ordered = omega arith; within = omega arith };
    unsettled = unsettled_more placing (reducing ∷ []) (pair_of 1 2) (λ e. let f : 0 ≡ 1 = ap (λ (p : Pair). p.first) e in omega arith)
        (unsettled_more reducing [] (pair_of 1 2) (λ e. let f : 0 ≡ 1 = ap (λ (p : Pair). p.first) e in omega arith)
        (none_settled (pair_of 1 2)));
    unclaimed = λ (worker, e). unclaimed worker (pair_of 1 2) e;
  };
  least = λ other free lesser. least other free.of_basis free.unsettled lesser;
  changed = refl;
}
  where
    least : (other : Pair) → IsPairOf completed_moves other → ¬ (IsSettled (placing ∷ reducing ∷ []) other) → IsLesser other (pair_of 1 2) →
        ⊥
    least other h none (inl l) = none (settled_first placing (reducing ∷ []) other
        (same_pair other 0 1 (omega (arith, h.ordered, l)) (omega (arith, h.ordered, l))))
    least other h none (inr (e, l)) = none (settled_second placing reducing [] other
        (same_pair other 0 2 (omega (arith, l)) (omega (arith, e))))

third_settling : IsSettling 4 column_one third_claimed 0 Coprime all_settled
third_settling = record { pair = pair_of 1 2; claimed = refl; moves = completed_moves; settled = (disjoint, refl); changed = refl }

pub ended : IsEnded all_settled
ended = record { all_settled = λ pair h. which pair h (cases_lt pair.second 2) (cases_lt pair.first 1); none_claimed = no_claims }
  where
    which : (pair : Pair) → IsPairOf completed_moves pair → (pair.second < 2) ⊎ (2 ≤ pair.second) → (pair.first < 1) ⊎ (1 ≤ pair.first) →
        IsSettled (placing ∷ reducing ∷ skipping ∷ []) pair
    which pair h (inl l) k = settled_first placing (reducing ∷ skipping ∷ []) pair
        (same_pair pair 0 1 (omega (arith, h.ordered, l)) (omega (arith, h.ordered, l)))
    which pair h (inr l) (inl k) =
        settled_second placing reducing (skipping ∷ []) pair (same_pair pair 0 2 (omega (arith, k)) (omega (arith, h.within, l)))
    which pair h (inr l) (inr k) =
        settled_third placing reducing skipping [] pair (same_pair pair 1 2 (omega (arith, h.ordered, h.within, k, l))
        (omega (arith, h.within, l)))

abbrev pub completion_events : List Event
completion_events = Claims 0 ∷ Settles 0 (Place 2) ∷ Claims 0 ∷ Settles 0 Zero ∷ Claims 0 ∷ Settles 0 Coprime ∷ []

pub completion_happens : HappenInTurn 4 column_one begun_state completion_events all_settled
completion_happens = (
  claimed,
  first_claim cubic_top cubic_second 3,
  (
    one_settled,
    first_settling,
    (
      second_claimed,
      second_claim,
      (
        two_settled,
        second_settling,
        (third_claimed, third_claim, (all_settled, third_settling, refl)),
      ),
    ),
  ),
)

pub until_ended : (after : CoreState) × HappenInTurn 4 column_one begun_state
    (Claims 0 ∷ Settles 0 (Place 2) ∷ Claims 0 ∷ Settles 0 Zero ∷ Claims 0 ∷ Settles 0 Coprime ∷ []) after × IsEnded after
until_ended = (all_settled, completion_happens, ended)

-- with the one pair claimed there is none left to claim
pub none_left : (after : CoreState) → ¬ (Happens 4 column_one claimed (Claims 1) after)
none_left after h = h.free.unclaimed (0, ap Some (same_pair h.pair 0 1 (omega (arith, ordered, within)) (omega (arith, ordered, within))))
  where
    ordered : h.pair.first < h.pair.second
    ordered = h.free.of_basis.ordered

    within : h.pair.second < 2
    within = h.free.of_basis.within
