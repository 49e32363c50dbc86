-- What changes the state of a completion: a worker claims a pair, settles its claim, or halts.
use Rattle.std.specs.Prelude.{◌≡◌, ◌⊎◌, ℕ, ◌+◌, ◌<◌, List, [], ◌∷◌, ◌++◌, length, set, Option, None, Some, ℤ}
use Rattle.mk_model.specs.Vectors.{zeros, negate}
use Rattle.mk_model.specs.Orders.{IsOriented, lead}
use Rattle.mk_model.specs.Reductions.{lcm, Divides, Reduct, IsNormal}
use Rattle.mk_model.specs.Pairs.{AreDisjoint}
use Rattle.mk_model.specs.CoreStates.{Pair, pair_of, Way, Settle, settle, OverflowStop, Halt, CoreState, claim_of, halt_of, move_at}
use Rattle.mk_model.specs.CoreStates.{difference, IsLesser, IsSettled, IsFree}
use Rattle.mk_model.specs.CoreStates.Way.{Coprime, Chain, Zero, Place}
use Rattle.mk_model.specs.CoreStates.Halt.{Overflow, Full, Memory}
use Rattle.mk_model.specs.Overflows.{IsGenuineOverflow}

-- the pair of two places is settled, in either order
abbrev pub AreSettled : List Settle → ℕ → ℕ → Type 0
AreSettled journal i j = IsSettled journal (pair_of i j) ⊎ IsSettled journal (pair_of j i)

-- The lead of a third move divides the least common multiple of the two leads, and its pairs with both are settled.
pub record IsChain (moves : List (List ℤ)) (journal : List Settle) (pair : Pair) (third : ℕ) : Type 0 where
  pub within : third < length moves
  pub not_first : ¬ (third ≡ pair.first)
  pub not_second : ¬ (third ≡ pair.second)
  pub divides : Divides (lead (move_at moves third)) (lcm (lead (move_at moves pair.first)) (lead (move_at moves pair.second)))
  pub first_settled : AreSettled journal pair.first third
  pub second_settled : AreSettled journal pair.second third

-- a reduct of the pair's difference that no lead divides
pub record HasNormalReduct (moves : List (List ℤ)) (pair : Pair) : Type 0 where
  pub remainder : List ℤ
  pub reduct : Reduct moves (difference moves pair) remainder
  pub normal : IsNormal moves remainder

-- An oriented move, which is such a reduct or its negative, goes to the place behind the last move, where there is room.
pub record IsPlaced (priority : List ℕ) (limit : ℕ) (moves : List (List ℤ)) (pair : Pair) (place : ℕ) (move : List ℤ) : Type 0 where
  pub at_end : place ≡ length moves
  pub room : length moves < limit
  pub oriented : IsOriented priority move
  pub normal_reduct : HasNormalReduct moves pair
  pub sign : (move ≡ normal_reduct.remainder) ⊎ (move ≡ negate normal_reduct.remainder)

-- the condition of each way to settle a pair, and the moves afterwards
abbrev pub IsSettledBy : ℕ → List ℕ → ℕ → List (List ℤ) → List Settle → Pair → Way → List (List ℤ) → Type 0
IsSettledBy n priority limit moves journal pair Coprime after =
    AreDisjoint (lead (move_at moves pair.first)) (lead (move_at moves pair.second)) × (after ≡ moves)
IsSettledBy n priority limit moves journal pair (Chain third) after = IsChain moves journal pair third × (after ≡ moves)
IsSettledBy n priority limit moves journal pair Zero after = Reduct moves (difference moves pair) (zeros n) × (after ≡ moves)
IsSettledBy n priority limit moves journal pair (Place place) after =
    (move : List ℤ) × IsPlaced priority limit moves pair place move × (after ≡ moves ++ move ∷ [])

-- the basis has its limit of moves, and a reduct of the pair's difference is normal
abbrev pub IsFull : CoreState → Pair → Type 0
IsFull state pair = (length state.basis ≡ state.limit) × HasNormalReduct state.basis pair

-- ---- events: a worker claims a pair, settles its claim, or halts
pub data Event : Type 0 where
  Claims : ℕ → Event
  Settles : ℕ → Way → Event
  Halts : ℕ → Halt → Event

-- the pair is the claim of the worker, and one claim more is made
abbrev pub with_claim : CoreState → ℕ → Pair → CoreState
with_claim state worker pair = record state { claims = set state.claims worker (Some pair); claims_made = state.claims_made + 1 }

-- No halt stands, and the claims made are fewer than the budget: the least free pair is the claim of a worker that had
-- none, and one claim more is made.
pub record IsClaim (state : CoreState) (worker : ℕ) (after : CoreState) : Type 0 where
  pub worker_within : worker < state.workers
  pub no_halt : state.first_halted ≡ None
  pub no_claim : claim_of state worker ≡ None
  pub within_budget : state.claims_made < state.budget
  pub pair : Pair
  pub free : IsFree state pair
  pub least : (other : Pair) → IsFree state other → ¬ (IsLesser other pair)
  pub changed : after ≡ with_claim state worker pair

-- an entry of the worker ends the journal, it has no claim, and the moves are these
abbrev pub with_entry : CoreState → ℕ → Pair → Way → List (List ℤ) → CoreState
with_entry state worker pair way moves =
    record state { basis = moves; journal = state.journal ++ settle worker pair way ∷ []; claims = set state.claims worker None }

-- A worker settles its claim: an entry for it ends the journal, and the worker has no claim.
pub record IsSettling (n : ℕ) (priority : List ℕ) (state : CoreState) (worker : ℕ) (way : Way) (after : CoreState) : Type 0 where
  pub pair : Pair
  pub claimed : claim_of state worker ≡ Some pair
  pub moves : List (List ℤ)
  pub settled : IsSettledBy n priority state.limit state.basis state.journal pair way moves
  pub changed : after ≡ with_entry state worker pair way moves

-- the leads of the pair have a column in common
abbrev pub HaveCommonColumn : List (List ℤ) → Pair → Type 0
HaveCommonColumn moves pair = ¬ (AreDisjoint (lead (move_at moves pair.first)) (lead (move_at moves pair.second)))

-- a genuine overflow at a pair that isn't settled by disjoint leads
abbrev pub IsPairOverflow : List (List ℤ) → OverflowStop → Type 0
IsPairOverflow moves stop = IsGenuineOverflow moves stop × HaveCommonColumn moves stop.pair

-- the cause of a halt
abbrev pub IsHaltCause : CoreState → ℕ → Halt → Type 0
IsHaltCause state worker (Overflow stop) = (claim_of state worker ≡ Some stop.pair) × IsPairOverflow state.basis stop
IsHaltCause state worker (Full pair) = (claim_of state worker ≡ Some pair) × IsFull state pair
IsHaltCause state worker Memory = Unit {0}

-- how many claims a worker gives up: one, or none where it has none
abbrev pub given_up : Option Pair → ℕ
given_up None = 0
given_up (Some pair) = 1

-- who halted first, once this worker halted
abbrev pub first_of : Option ℕ → ℕ → Option ℕ
first_of None worker = Some worker
first_of (Some earlier) worker = Some earlier

-- the claim of the worker is given up, and its halt is kept
abbrev pub with_halt : CoreState → ℕ → Halt → CoreState
with_halt state worker halt = record state {
  claims = set state.claims worker None;
  claims_given_up = state.claims_given_up + given_up (claim_of state worker);
  halts = set state.halts worker (Some halt);
  first_halted = first_of state.first_halted worker;
}

-- A worker without a halt halts: it gives up its claim, and its halt is kept, the first one if none stood.
pub record IsHalting (state : CoreState) (worker : ℕ) (halt : Halt) (after : CoreState) : Type 0 where
  pub worker_within : worker < state.workers
  pub no_halt : halt_of state worker ≡ None
  pub cause : IsHaltCause state worker halt
  pub changed : after ≡ with_halt state worker halt

-- the event is allowed in a state, and changes it to the other
abbrev pub Happens : ℕ → List ℕ → CoreState → Event → CoreState → Type 0
Happens n priority state (Claims worker) after = IsClaim state worker after
Happens n priority state (Settles worker way) after = IsSettling n priority state worker way after
Happens n priority state (Halts worker halt) after = IsHalting state worker halt after

-- the events happen one after another
abbrev pub HappenInTurn : ℕ → List ℕ → CoreState → List Event → CoreState → Type 0
HappenInTurn n priority state [] after = after ≡ state
HappenInTurn n priority state (event ∷ events) after =
    (middle : CoreState) × Happens n priority state event middle × HappenInTurn n priority middle events after
