-- Claims that go through the pairs in the order of their numbers: which pair is the next, and what a claim of it leaves.
use Rattle.std.proofs.Common.{◌≡◌, ◌⊎◌, inl, inr, ℕ, zero, suc, ◌+◌, ◌-◌, ◌<◌, ◌≤◌, Bool, List, length, None, Some, ℤ, arith, refl, sym, ap, ◌∙◌, ⊎_elim}
use Rattle.std.proofs.lemmas.Bool.{cases_lt}
use Rattle.std.proofs.lemmas.Option.{none-some}
use Rattle.std.proofs.lemmas.List.{get_or-set_same, get_or-set_other}
use Rattle.mk_model.specs.CoreStates.{Pair, pair_of, CoreState, claim_of, IsPairOf, IsLesser, IsSettled, IsClaimed, IsFree}
use Rattle.mk_model.specs.Events.{IsClaim, with_claim}
use Rattle.mk_model.specs.Legal.{IsLegal, IsEnded}
use Rattle.mk_model.proofs.LegalEvents.{written}
use Rattle.mk_ledger.specs.PairFlags.{pairs_of, pair_number}
use Rattle.mk_ledger.specs.Ledgers.{number_of, AreFlagged, AreAllTaken, IsOneLeft, AreInOrder}
use Rattle.mk_ledger.specs.Claims.{IsNotYet, ClaimIsOverBudget}
use Rattle.mk_ledger.proofs.PairNumbers.{pairs_of_more, pairs_of_none, number_below, number_of_less, same_pair}

-- each number below the count of pairs is that of a pair
pub record HasNumber (moves number : ℕ) : Type 0 where
  pub first : ℕ
  pub second : ℕ
  pub ordered : first < second
  pub within : second < moves
  pub number_is : pair_number first second ≡ number

pub pair_of_number : (moves number : ℕ) → number < pairs_of moves → HasNumber moves number
pair_of_number zero number l = absurd (omega (arith, l, pairs_of_none))
pair_of_number (suc moves) number l = go (pair_of_number moves number) (cases_lt number (pairs_of moves))
  where
    more : pairs_of (suc moves) ≡ pairs_of moves + moves
    more = let e : suc moves ≡ moves + 1 = omega arith in ap pairs_of e ∙ pairs_of_more moves

    go : (number < pairs_of moves → HasNumber moves number) → (number < pairs_of moves) ⊎
        (pairs_of moves ≤ number) → HasNumber (suc moves) number
    go fewer (inl h) =
        let p : HasNumber moves number = fewer h in
        record { first = p.first; second = p.second; ordered = p.ordered; within = omega (arith, p.within); number_is = p.number_is }
    go fewer (inr h) = record {
      first = number - pairs_of moves;
      second = moves;
      ordered = omega (arith, l, h, more);
      within = omega arith;
      number_is = omega (arith, h);
    }

-- the lesser pair has the lesser number
pub lesser_number : (moves : List (List ℤ)) (p q : Pair) → IsPairOf moves p → IsPairOf moves q → IsLesser p q → number_of p < number_of q
lesser_number moves p q h k (inl l) = number_of_less p.first p.second q.first q.second h.ordered l
lesser_number moves p q h k (inr (e, l)) = omega (arith, l, ap pairs_of e)

-- ---- where no halt stands
module _ {state : CoreState} (order : AreInOrder state) where
  -- no pair from the number of claims made on is settled or claimed
  pub free_from : (pair : Pair) → IsPairOf state.basis pair → state.claims_made ≤ number_of pair → IsFree state pair
  free_from pair h l = record {
    of_basis = h;
    unsettled = λ s. omega (arith, l, order.settled pair s);
    unclaimed = λ c. omega (arith, l, order.claimed pair c);
  }

  -- none was given up where no halt stands, or where no claim was given up
  pub all_taken : state.first_halted ≡ None → AreAllTaken state
  all_taken e = ⊎_elim (λ t. t) (λ (left : IsOneLeft state). absurd (left.halted e)) order.before

  pub all_taken_by_count : state.claims_given_up ≡ 0 → AreAllTaken state
  all_taken_by_count e = ⊎_elim (λ t. t) (λ (left : IsOneLeft state). absurd (omega (arith, e, left.given_up))) order.before

  -- a pair of the basis before the number of claims made isn't free
  pub not_free_before : AreAllTaken state → (pair : Pair) → IsPairOf state.basis pair → number_of pair < state.claims_made →
      ¬ (IsFree state pair)
  not_free_before all pair h l free = ⊎_elim free.unsettled free.unclaimed (all.taken pair h l)

  -- the pair of the next number is the least free one
  pub next_is_least : AreAllTaken state → (pair : Pair) → IsPairOf state.basis pair → number_of pair ≡ state.claims_made →
      (other : Pair) → IsFree state other → ¬ (IsLesser other pair)
  next_is_least all pair h e other free l =
      not_free_before all other free.of_basis (omega (arith, e, lesser_number state.basis other pair free.of_basis h l)) free

  -- where all pairs were claimed, none is free
  pub none_free : AreAllTaken state → pairs_of (length state.basis) ≤ state.claims_made → (pair : Pair) → ¬ (IsFree state pair)
  none_free all l pair free =
      not_free_before all pair free.of_basis (omega (
        arith,
        l,
        number_below pair.first pair.second
            (length state.basis) free.of_basis.ordered free.of_basis.within,
      )) free

  -- where all pairs were claimed, a pair of the basis is settled or claimed
  pub all_of_basis : AreAllTaken state → pairs_of (length state.basis) ≤ state.claims_made → (pair : Pair) → IsPairOf state.basis pair →
      IsSettled state.journal pair ⊎ IsClaimed state pair
  all_of_basis all l pair h =
      all.taken pair h (omega (arith, l, number_below pair.first pair.second (length state.basis) h.ordered h.within))

  -- ---- the answers
  pub ended : AreAllTaken state → pairs_of (length state.basis) ≤ state.claims_made → ((worker : ℕ) → claim_of state worker ≡ None) →
      IsEnded state
  ended all l none = record {
    all_settled = λ pair h. ⊎_elim (λ s. s) (λ (w, e). absurd (none-some pair (sym (none w) ∙ e))) (all_of_basis all l pair h);
    none_claimed = none;
  }

  pub not_yet : {n : ℕ} {priority : List ℕ} → IsLegal n priority state → AreAllTaken state →
      pairs_of (length state.basis) ≤ state.claims_made →
      (holder : ℕ) (pair : Pair) → claim_of state holder ≡ Some pair →
      ((other : ℕ) (q : Pair) → claim_of state other ≡ Some q → ¬ (IsLesser q pair)) → IsNotYet state holder pair
  not_yet legal all l holder pair e least = record {
    of_basis = (legal.claims_unsettled holder pair e).0;
    unsettled = (legal.claims_unsettled holder pair e).1;
    held = e;
    all_claimed = none_free all l;
    least = λ other h s. ⊎_elim (λ t. absurd (s t)) (λ (w, f). least w other f) (all_of_basis all l other h);
  }

  pub over_budget : {n : ℕ} {priority : List ℕ} → IsLegal n priority state → state.first_halted ≡ None →
      state.claims_made < pairs_of (length state.basis) →
      state.budget ≤ state.claims_made → ClaimIsOverBudget state state.claims_made
  over_budget legal no_halt left l = record {
    all = refl;
    used_up = omega (arith, l, legal.claims_within);
    none_given_up = (all_taken no_halt).none_given_up;
    pair = pair_of next.first next.second;
    free = free_from (pair_of next.first next.second) (record {
      ordered = next.ordered;
      within = next.within;
    }) (omega (arith, next.number_is));
  }
    where
      next : HasNumber (length state.basis) state.claims_made
      next = pair_of_number (length state.basis) state.claims_made left

  pub is_claim : (worker : ℕ) (pair : Pair) → worker < state.workers → state.first_halted ≡ None → claim_of state worker ≡ None →
      state.claims_made < state.budget →
      IsPairOf state.basis pair → number_of pair ≡ state.claims_made → IsClaim state worker (with_claim state worker pair)
  is_claim worker pair within no_halt idle l h e = record {
    worker_within = within;
    no_halt = no_halt;
    no_claim = idle;
    within_budget = l;
    pair = pair;
    free = free_from pair h (omega (arith, e));
    least = next_is_least (all_taken no_halt) pair h e;
    changed = refl;
  }

  -- ---- a claim of the next pair keeps the order
  pub claim_in_order : (worker : ℕ) (pair : Pair) → worker < length state.claims → state.first_halted ≡ None →
      claim_of state worker ≡ None →
      IsPairOf state.basis pair → number_of pair ≡ state.claims_made → AreInOrder (with_claim state worker pair)
  claim_in_order worker pair within no_halt idle h e = record {
    made = omega (arith, e, number_below pair.first pair.second (length state.basis) h.ordered h.within);
    settled = λ q s. omega (arith, order.settled q s);
    claimed = λ q (w, f). claimed q w (written state.claims worker w pair q within f);
    before = inl (record { none_given_up = all.none_given_up; taken = λ q k l. taken q k (cases_lt (number_of q) state.claims_made) l });
  }
    where
      all : AreAllTaken state
      all = all_taken no_halt

      after : CoreState
      after = with_claim state worker pair

      claimed : (q : Pair) (w : ℕ) → ((w ≡ worker) × (pair ≡ q)) ⊎ ((w ≡ worker → ⊥) × (claim_of state w ≡ Some q)) →
          number_of q < after.claims_made
      claimed q w (inl (_, f)) = omega (arith, e, ap number_of f)
      claimed q w (inr (_, f)) = omega (arith, order.claimed q (w, f))

      still : (q : Pair) → IsClaimed state q → IsClaimed after q
      still q (w, f) = (
        w,
        get_or-set_other state.claims worker w (Some pair) None (λ g. none-some q (sym idle
            ∙ ap (λ k. claim_of state k) (sym g) ∙ f)) ∙ f,
      )

      here : (q : Pair) → pair ≡ q → IsClaimed after q
      here q f = (worker, get_or-set_same state.claims worker (Some pair) None within ∙ ap Some f)

      taken : (q : Pair) → IsPairOf state.basis q → (number_of q < state.claims_made) ⊎
          (state.claims_made ≤ number_of q) → number_of q < after.claims_made → IsSettled state.journal q ⊎ IsClaimed after q
      taken q k (inl f) l = ⊎_elim inl (λ c. inr (still q c)) (all.taken q k f)
      taken q k (inr f) l = inr (here q (same_pair pair q h.ordered k.ordered (omega (arith, e, f, l))))

-- flags tell the settled pairs whatever is claimed
pub claim_flagged : {state : CoreState} {flags : List Bool} (worker : ℕ) (pair : Pair) → AreFlagged state flags →
    AreFlagged (with_claim state worker pair) flags
claim_flagged worker pair f = record { count = f.count; each = f.each }

-- a state that is ended has all its claims made, and none given up
pub ended_counts : {state : CoreState} → AreInOrder state → IsEnded state → (state.claims_given_up ≡ 0) ×
    (pairs_of (length state.basis) ≤ state.claims_made)
ended_counts {state = state} order end = (
  ⊎_elim (λ (t : AreAllTaken state). t.none_given_up) (λ (left : IsOneLeft state). absurd
      (left.free.unsettled (end.all_settled left.pair left.free.of_basis))) order.before,
  ⊎_elim
      (λ l. absurd (open_pair (pair_of_number (length state.basis) state.claims_made l))) (λ l. l) (cases_lt state.claims_made
      (pairs_of (length state.basis))),
)
  where
    open_pair : HasNumber (length state.basis) state.claims_made → ⊥
    open_pair p =
        let pair : Pair = pair_of p.first p.second in
        omega (arith, p.number_is, order.settled pair (end.all_settled pair (record { ordered = p.ordered; within = p.within })))

pub not_ended : {state : CoreState} → AreInOrder state → state.claims_made < pairs_of (length state.basis) → ¬ (IsEnded state)
not_ended order l end = omega (arith, l, (ended_counts order end).1)
