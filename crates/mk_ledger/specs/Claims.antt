-- What a worker is answered that asks for a pair, and when. The answers exclude one another, and each has its cause.
use Rattle.std.specs.Prelude.{◌≡◌, ℕ, None, Some}
use Rattle.mk_model.specs.CoreStates.{Pair, pair_of, CoreState, claim_of, IsPairOf, IsLesser, IsSettled, IsFree}
use Rattle.mk_model.specs.Events.{IsClaim, with_claim}
use Rattle.mk_model.specs.Legal.{IsEnded}
use Rattle.mk_ledger.specs.declared.claims.Claim.{Claim}
use Rattle.mk_ledger.specs.declared.claims.Claim.TheVariants.{Claimed, NotYet, Ended, OverBudget, Stopped}

-- Each unsettled pair is claimed, and this is the least of them, of this worker.
pub record IsNotYet (state : CoreState) (holder : ℕ) (pair : Pair) : Type 0 where
  pub of_basis : IsPairOf state.basis pair
  pub unsettled : ¬ (IsSettled state.journal pair)
  pub held : claim_of state holder ≡ Some pair
  pub all_claimed : (other : Pair) → ¬ (IsFree state other)
  pub least : (other : Pair) → IsPairOf state.basis other → ¬ (IsSettled state.journal other) → ¬ (IsLesser other pair)

-- A pair is free, as many claims were made as the budget has, and none of them was given up.
pub record ClaimIsOverBudget (state : CoreState) (made : ℕ) : Type 0 where
  pub all : made ≡ state.claims_made
  pub used_up : state.claims_made ≡ state.budget
  pub none_given_up : state.claims_given_up ≡ 0
  pub pair : Pair
  pub free : IsFree state pair

-- the least free pair is the worker's from now on
pub record IsGiven (state : CoreState) (worker : ℕ) (pair : Pair) (after : CoreState) : Type 0 where
  pub claim : IsClaim state worker after
  pub changed : after ≡ with_claim state worker pair

-- the answer, and the state afterwards: it is another one only where a pair was claimed
abbrev pub AnswersClaim : CoreState → ℕ → Claim → CoreState → Type 0
AnswersClaim state worker (Stopped other) after = (state.first_halted ≡ Some other) × (after ≡ state)
AnswersClaim state worker Ended after = (state.first_halted ≡ None) × IsEnded state × (after ≡ state)
AnswersClaim state worker (NotYet other i j) after = (state.first_halted ≡ None) × IsNotYet state other (pair_of i j) × (after ≡ state)
AnswersClaim state worker (OverBudget made) after = (state.first_halted ≡ None) × ClaimIsOverBudget state made × (after ≡ state)
AnswersClaim state worker (Claimed i j) after = IsGiven state worker (pair_of i j) after
