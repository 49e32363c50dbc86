-- The state of a completion as plain data: the moves, the settled pairs in their order, and what each worker is at.
-- (Sturmfels, chapter 1: the pairs of Buchberger's algorithm. The journal and the workers are this project's own.)
use Rattle.std.specs.Prelude.{◌≡◌, ◌⊎◌, ℕ, ◌<◌, List, [], get_or, length, replicate, take, Option, None, Some, ℤ, Contains}
use Rattle.mk_model.specs.Vectors.{subtract}

-- two moves of a list by their places
pub record Pair : Type 0 where
  pub first : ℕ
  pub second : ℕ

-- the pair of two places
abbrev pub pair_of : ℕ → ℕ → Pair
pair_of i j = record { first = i; second = j }

-- How a pair is settled: its leads are disjoint; through a third move; its difference has the reduct 0; or by a move
-- that is placed.
pub data Way : Type 0 where
  Coprime : Way
  Chain : ℕ → Way
  Zero : Way
  Place : ℕ → Way

-- an entry of the journal: the pair, the worker who settled it, and how
pub record Settle : Type 0 where
  pub pair : Pair
  pub worker : ℕ
  pub way : Way

-- the entry of a worker for a pair
abbrev pub settle : ℕ → Pair → Way → Settle
settle worker pair way = record { pair = pair; worker = worker; way = way }

-- A column where an entry of `left - times * right` leaves the range: in the difference of the pair, or in a step of
-- reduction from the operand by a move.
pub record OverflowStop : Type 0 where
  pub pair : Pair
  pub by : Option ℕ
  pub operand : Option (List ℤ)
  pub column : ℕ
  pub left : ℤ
  pub times : ℤ
  pub right : ℤ

-- the stop with these numbers
abbrev pub stop_at : Pair → Option ℕ → Option (List ℤ) → ℕ → ℤ → ℤ → ℤ → OverflowStop
stop_at pair by operand column left times right = record {
  pair = pair;
  by = by;
  operand = operand;
  column = column;
  left = left;
  times = times;
  right = right;
}

-- why a worker halts: an entry out of range, a basis that has its limit of moves, or want of memory
pub data Halt : Type 0 where
  Overflow : OverflowStop → Halt
  Full : Pair → Halt
  Memory : Halt

-- The first `start_length` moves of the basis are the start. The claim and the halt of each worker stand at its number.
pub record CoreState : Type 0 where
  pub start_length : ℕ
  pub basis : List (List ℤ)
  pub journal : List Settle
  pub claims : List (Option Pair)
  pub claims_made : ℕ
  pub claims_given_up : ℕ
  pub halts : List (Option Halt)
  pub first_halted : Option ℕ
  pub budget : ℕ
  pub limit : ℕ
  pub workers : ℕ

-- the claim of a worker
abbrev pub claim_of : CoreState → ℕ → Option Pair
claim_of state worker = get_or state.claims worker None

-- the halt of a worker
abbrev pub halt_of : CoreState → ℕ → Option Halt
halt_of state worker = get_or state.halts worker None

-- the moves that the completion began with
abbrev pub start_of : CoreState → List (List ℤ)
start_of state = take state.start_length state.basis

-- a completion that begins: no pair is settled, and no worker has a claim or a halt
abbrev pub new_state : List (List ℤ) → ℕ → ℕ → ℕ → CoreState
new_state start budget limit workers = record {
  start_length = length start;
  basis = start;
  journal = [];
  claims = replicate workers None;
  claims_made = 0;
  claims_given_up = 0;
  halts = replicate workers None;
  first_halted = None;
  budget = budget;
  limit = limit;
  workers = workers;
}

-- a completion without workers: its moves and its journal alone
abbrev pub phase_state : ℕ → List (List ℤ) → List Settle → ℕ → ℕ → CoreState
phase_state start_length basis journal budget limit = record {
  start_length = start_length;
  basis = basis;
  journal = journal;
  claims = [];
  claims_made = length journal;
  claims_given_up = 0;
  halts = [];
  first_halted = None;
  budget = budget;
  limit = limit;
  workers = 0;
}

-- ---- pairs
-- the move of a place
abbrev pub move_at : List (List ℤ) → ℕ → List ℤ
move_at moves i = get_or moves i []

-- the second move of the pair minus the first
abbrev pub difference : List (List ℤ) → Pair → List ℤ
difference moves pair = subtract (move_at moves pair.second) (move_at moves pair.first)

-- two moves of the list, the lesser place first
pub record IsPairOf (moves : List (List ℤ)) (pair : Pair) : Type 0 where
  pub ordered : pair.first < pair.second
  pub within : pair.second < length moves

-- pairs are ordered by their second place, then by their first
abbrev pub IsLesser : Pair → Pair → Type 0
IsLesser p q = (p.second < q.second) ⊎ ((p.second ≡ q.second) × (p.first < q.first))

-- the journal has an entry for the pair
abbrev pub IsSettled : List Settle → Pair → Type 0
IsSettled journal pair = (entry : Settle) × Contains journal entry × (entry.pair ≡ pair)

-- a worker has the pair as its claim
abbrev pub IsClaimed : CoreState → Pair → Type 0
IsClaimed state pair = (worker : ℕ) × (claim_of state worker ≡ Some pair)

-- a pair of the basis that is neither settled nor claimed
pub record IsFree (state : CoreState) (pair : Pair) : Type 0 where
  pub of_basis : IsPairOf state.basis pair
  pub unsettled : ¬ (IsSettled state.journal pair)
  pub unclaimed : ¬ (IsClaimed state pair)
