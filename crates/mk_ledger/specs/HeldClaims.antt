-- When a worker may claim the next pair, and which of the held claims is the least.
use Rattle.std.specs.Prelude.{◌≡◌, ℕ, ◌<◌, List, length, get_or, Option, None, Some}
use Rattle.mk_model.specs.CoreStates.{Pair, CoreState, claim_of, IsLesser}
use Rattle.mk_ledger.specs.PairFlags.{pairs_of}

-- No halt stands, the worker has no claim, and fewer claims were made than the basis has pairs and than the budget has.
pub record MayClaim (state : CoreState) (worker : ℕ) : Type 0 where
  pub within : worker < state.workers
  pub idle : claim_of state worker ≡ None
  pub no_halt : state.first_halted ≡ None
  pub left : state.claims_made < pairs_of (length state.basis)
  pub budget : state.claims_made < state.budget

-- none of the first so many workers has a claim
abbrev pub NoneHeld : List (Option Pair) → ℕ → Type 0
NoneHeld claims count = (worker : ℕ) → worker < count → get_or claims worker None ≡ None

-- The worker has the pair as its claim, and no claim of the first so many is lesser.
pub record IsLeastHeld (claims : List (Option Pair)) (count worker : ℕ) (pair : Pair) : Type 0 where
  pub held : get_or claims worker None ≡ Some pair
  pub least : (other : ℕ) (q : Pair) → other < count → get_or claims other None ≡ Some q → ¬ (IsLesser q pair)

-- the least claim of the first so many with its worker, or none where none of them has a claim
abbrev pub IsLeastOf : List (Option Pair) → ℕ → Option (ℕ × Pair) → Type 0
IsLeastOf claims count None = NoneHeld claims count
IsLeastOf claims count (Some least) = IsLeastHeld claims count least.0 least.1
