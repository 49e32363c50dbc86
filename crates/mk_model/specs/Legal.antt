-- States of a completion that the events can bring about: the journal replays from the start, and the counts agree.
use Rattle.std.specs.Prelude.{◌≡◌, ◌⊎◌, ℕ, suc, ◌+◌, ◌≤◌, List, [], ◌∷◌, ◌++◌, length, Option, None, Some, ℤ}
use Rattle.mk_model.specs.CoreStates.{Pair, Settle, Halt, CoreState, claim_of, halt_of, start_of, IsPairOf, IsSettled, IsFree}
use Rattle.mk_model.specs.CoreStates.Halt.{Overflow, Full, Memory}
use Rattle.mk_model.specs.Events.{IsSettledBy, IsFull, IsPairOverflow}

-- An entry for a pair of the moves so far that none of the earlier entries names, whose condition holds; and the moves
-- afterwards.
pub record IsNext (n : ℕ) (priority : List ℕ) (limit : ℕ) (earlier : List Settle) (moves : List (List ℤ)) (entry : Settle)
    (after : List (List ℤ)) : Type 0 where
  pub of_moves : IsPairOf moves entry.pair
  pub unsettled : ¬ (IsSettled earlier entry.pair)
  pub settled : IsSettledBy n priority limit moves earlier entry.pair entry.way after

-- The entries lead from the moves so far to the basis, one after another.
abbrev pub Replays : ℕ → List ℕ → ℕ → List Settle → List (List ℤ) → List Settle → List (List ℤ) → Type 0
Replays n priority limit earlier moves [] basis = basis ≡ moves
Replays n priority limit earlier moves (entry ∷ entries) basis =
    (after : List (List ℤ)) × IsNext n priority limit earlier moves entry after
    × Replays n priority limit (earlier ++ entry ∷ []) after entries basis

-- how many workers have a claim
abbrev pub claims_held : List (Option Pair) → ℕ
claims_held [] = 0
claims_held (None ∷ claims) = claims_held claims
claims_held (Some pair ∷ claims) = suc (claims_held claims)

-- a kept halt has its cause, and its pair is free
abbrev pub IsHaltKept : CoreState → Halt → Type 0
IsHaltKept state (Overflow stop) = IsFree state stop.pair × IsPairOverflow state.basis stop
IsHaltKept state (Full pair) = IsFree state pair × IsFull state pair
IsHaltKept state Memory = Unit {0}

-- no worker has a halt, or the first is the halt of a worker
abbrev pub IsFirstHalted : CoreState → Type 0
IsFirstHalted state =
    ((state.first_halted ≡ None) × ((worker : ℕ) → halt_of state worker ≡ None))
    ⊎ ((worker : ℕ) × (halt : Halt) × (state.first_halted ≡ Some worker) × (halt_of state worker ≡ Some halt))

-- The journal replays from the start, claims are unsettled pairs and differ from one another, the counts agree, and
-- kept halts have their causes.
pub record IsLegal (n : ℕ) (priority : List ℕ) (state : CoreState) : Type 0 where
  pub start_within : state.start_length ≤ length state.basis
  pub replays : Replays n priority state.limit [] (start_of state) state.journal state.basis
  pub basis_within : length state.basis ≤ state.limit
  pub claims_by_workers : length state.claims ≡ state.workers
  pub claims_unsettled : (worker : ℕ) (pair : Pair) → claim_of state worker ≡ Some pair → IsPairOf state.basis pair
      × (¬ (IsSettled state.journal pair))
  pub claims_differ : (worker other : ℕ) (pair : Pair) → claim_of state worker ≡ Some pair → claim_of state other ≡ Some pair →
      worker ≡ other
  pub claims_counted : state.claims_made ≡ length state.journal + claims_held state.claims + state.claims_given_up
  pub claims_within : state.claims_made ≤ state.budget
  pub halts_by_workers : length state.halts ≡ state.workers
  pub halted_without_claim : (worker : ℕ) (halt : Halt) → halt_of state worker ≡ Some halt → claim_of state worker ≡ None
  pub halts_kept : (worker : ℕ) (halt : Halt) → halt_of state worker ≡ Some halt → IsHaltKept state halt
  pub first_halted : IsFirstHalted state

-- every pair of the basis is settled, and no worker has a claim
pub record IsEnded (state : CoreState) : Type 0 where
  pub all_settled : (pair : Pair) → IsPairOf state.basis pair → IsSettled state.journal pair
  pub none_claimed : (worker : ℕ) → claim_of state worker ≡ None
