-- The third moves through which a pair may be settled. (Sturmfels, chapter 1: the pairs that Buchberger's algorithm needn't
-- reduce)
use Rattle.std.specs.Prelude.{◌≢◌, ◌⊎◌, ℕ, ◌<◌, ◌≤◌, List, length, ℤ}
use Rattle.mk_model.specs.CoreStates.{Pair, Settle}
use Rattle.mk_model.specs.Events.{IsChain}
use Rattle.mk_move.specs.Chains.{DividesBetween}
use Rattle.mk_criteria.specs.declared.chains.TheConstants.{TRIES_MAX}

-- another move than the two of the pair, whose lead divides the least common multiple of their leads
pub record IsThirdMove (moves : List (List ℤ)) (pair : Pair) (third : ℕ) : Type 0 where
  pub within : third < length moves
  pub not_first : third ≢ pair.first
  pub not_second : third ≢ pair.second
  pub divides : DividesBetween moves pair.first pair.second third

-- the least of them from a place on
pub record IsLeastThirdMove (moves : List (List ℤ)) (pair : Pair) (from third : ℕ) : Type 0 where
  pub from_on : from ≤ third
  pub third_move : IsThirdMove moves pair third
  pub least : (other : ℕ) → from ≤ other → other < third → ¬ (IsThirdMove moves pair other)

-- the least of them from a place on, which stands before an end, where fewer were tried than are tried at most
pub record IsNextThird (moves : List (List ℤ)) (pair : Pair) (from end tried third : ℕ) : Type 0 where
  pub few : tried < TRIES_MAX
  pub before_end : third < end
  pub least_third : IsLeastThirdMove moves pair from third

-- as many were tried as are tried at most, or none stands between the two places
abbrev pub NoneIsNext : List (List ℤ) → Pair → ℕ → ℕ → ℕ → Type 0
NoneIsNext moves pair from end tried = (TRIES_MAX ≤ tried) ⊎ ((third : ℕ) → from ≤ third → third < end → ¬ (IsThirdMove moves pair third))

-- the least third move by which the pair is settled, where these pairs are settled
pub record IsLeastChain (moves : List (List ℤ)) (journal : List Settle) (pair : Pair) (third : ℕ) : Type 0 where
  pub chain : IsChain moves journal pair third
  pub least : (other : ℕ) → other < third → ¬ (IsChain moves journal pair other)
