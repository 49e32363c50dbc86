-- What a worker knows of its claim when it settles it or halts, and what placing a move is answered.
use Rattle.std.specs.Prelude.{◌≡◌, ◌≢◌, ◌⊎◌, ℕ, min, max, ◌+◌, ◌<◌, ◌≤◌, List, [], ◌∷◌, ◌++◌, false, length, take, replicate, Some, Result, Ok, Err, ℤ}
use Rattle.mk_model.specs.Vectors.{zeros, negate}
use Rattle.mk_model.specs.Reductions.{Reduct, IsNormal}
use Rattle.mk_model.specs.CoreStates.{Pair, pair_of, Way, Settle, Halt, CoreState, claim_of, move_at, difference}
use Rattle.mk_model.specs.CoreStates.Way.{Chain, Place}
use Rattle.mk_model.specs.CoreStates.Halt.{Overflow, Full, Memory}
use Rattle.mk_model.specs.Events.{AreSettled, IsSettledBy, IsSettling, IsFull, IsHalting}
use Rattle.mk_model.specs.Orders.{lead}
use Rattle.mk_model.specs.Pairs.{AreDisjoint}
use Rattle.mk_move.specs.Moves.{Weighed}
use Rattle.mk_move.specs.MoveLists.{BasisView}
use Rattle.mk_move.specs.Chains.{DividesBetween}
use Rattle.mk_ledger.specs.declared.ledger.ChainFault.{ChainFault}
use Rattle.mk_ledger.specs.declared.ledger.ChainFault.TheVariants as chain
use Rattle.mk_ledger.specs.declared.ledger.PlaceFault.{PlaceFault}
use Rattle.mk_ledger.specs.declared.ledger.PlaceFault.TheVariants as fault
use Rattle.mk_ledger.specs.PairFlags.{PairFlags, pairs_of}
use Rattle.mk_ledger.specs.Ledgers.{LedgerView}

-- the claim of the worker, whose difference has the reduct 0
pub record IsZeroClaim (n : ℕ) (state : CoreState) (worker : ℕ) : Type 0 where
  pub pair : Pair
  pub claimed : claim_of state worker ≡ Some pair
  pub reduct : Reduct state.basis (difference state.basis pair) (zeros n)

-- the claim of the worker, whose two leads are disjoint
pub record IsCoprimeClaim (state : CoreState) (worker : ℕ) : Type 0 where
  pub pair : Pair
  pub claimed : claim_of state worker ≡ Some pair
  pub disjoint : AreDisjoint (lead (move_at state.basis pair.first)) (lead (move_at state.basis pair.second))

-- The claim of the worker, and a third move whose lead divides the least common multiple of the two leads.
pub record IsChainClaim (state : CoreState) (worker third : ℕ) : Type 0 where
  pub pair : Pair
  pub claimed : claim_of state worker ≡ Some pair
  pub within : third < length state.basis
  pub not_first : third ≢ pair.first
  pub not_second : third ≢ pair.second
  pub divides : DividesBetween state.basis pair.first pair.second third

-- the claim of the worker, and the condition of this way to settle it by which no move is placed
pub record IsUnplacedClaim (n : ℕ) (priority : List ℕ) (state : CoreState) (worker : ℕ) (way : Way) : Type 0 where
  pub pair : Pair
  pub claimed : claim_of state worker ≡ Some pair
  pub settled : IsSettledBy n priority state.limit state.basis state.journal pair way state.basis

-- ---- settling through a third move
-- the pair of two different places
abbrev pub pair_between : ℕ → ℕ → Pair
pair_between i j = pair_of (min i j) (max i j)

-- The pair of the first place and the third is not settled, or else that of the second place and the third.
abbrev pub IsFirstUnsettled : List Settle → Pair → ℕ → Pair → Type 0
IsFirstUnsettled journal pair third unsettled =
    ((unsettled ≡ pair_between pair.first third) × (¬ (AreSettled journal pair.first third)))
    ⊎ ((unsettled ≡ pair_between pair.second third) × AreSettled journal pair.first third × (¬ (AreSettled journal pair.second third)))

-- the pairs of both places with the third are settled
abbrev pub AreBothSettled : List Settle → Pair → ℕ → Type 0
AreBothSettled journal pair third = AreSettled journal pair.first third × AreSettled journal pair.second third

-- the claim of a worker, as something is said of it
abbrev pub OfClaim : CoreState → ℕ → (Pair → Type 0) → Type 0
OfClaim state worker holds = (pair : Pair) × (claim_of state worker ≡ Some pair) × holds pair

-- The answer, and the ledger afterwards: the claim is settled where both pairs are settled, and there is memory.
abbrev pub AnswersChain : LedgerView → ℕ → ℕ → Result Unit ChainFault → LedgerView → Type 0
AnswersChain ledger worker third (Ok done) after =
    IsSettling (length ledger.basis.grading) ledger.basis.priority ledger.state worker (Chain third) after.state ×
    (after.basis ≡ ledger.basis)
AnswersChain ledger worker third (Err chain.Memory) after =
    OfClaim ledger.state worker (λ pair. AreBothSettled ledger.state.journal pair third) × (after ≡ ledger)
AnswersChain ledger worker third (Err (chain.Unsettled i j)) after =
    OfClaim ledger.state worker (λ pair. IsFirstUnsettled ledger.state.journal pair third (pair_of i j)) × (after ≡ ledger)

-- ---- settling by a move
-- The claim of the worker: the move or its negative is a reduct of its difference, normal for so many of the first moves.
pub record IsReductOfClaim (state : CoreState) (worker front : ℕ) (move : List ℤ) : Type 0 where
  pub pair : Pair
  pub claimed : claim_of state worker ≡ Some pair
  pub front_within : front ≤ length state.basis
  pub rest : List ℤ
  pub reduct : Reduct state.basis (difference state.basis pair) rest
  pub sign : (move ≡ rest) ⊎ (move ≡ negate rest)
  pub normal : IsNormal (take front state.basis) rest

-- the claim of the worker, for which the basis is full
pub record IsFullClaim (state : CoreState) (worker : ℕ) : Type 0 where
  pub pair : Pair
  pub claimed : claim_of state worker ≡ Some pair
  pub full : IsFull state pair

-- another halt than that of a full basis
abbrev pub NotFull : Halt → Type 0
NotFull (Overflow stop) = Unit {0}
NotFull (Full pair) = ⊥
NotFull Memory = Unit {0}

-- ---- placing a move
-- the moves with one more at the end
abbrev pub with_placed : BasisView → Weighed → BasisView
with_placed basis m = record basis { moves = basis.moves ++ m ∷ [] }

-- The move is at the end of the basis, and the claim is settled by it.
pub record IsPlacedLast (ledger : LedgerView) (worker front : ℕ) (m : Weighed) (place : ℕ) (after : LedgerView) : Type 0 where
  pub whole : front ≡ length ledger.basis.moves
  pub at_end : place ≡ length ledger.basis.moves
  pub settling : IsSettling (length ledger.basis.grading) ledger.basis.priority ledger.state worker (Place place) after.state
  pub pushed : after.basis ≡ with_placed ledger.basis m

-- the worker halts, since the basis is full for its claim
pub record HaltsFull (state : CoreState) (worker : ℕ) (after : CoreState) : Type 0 where
  pub pair : Pair
  pub claimed : claim_of state worker ≡ Some pair
  pub halting : IsHalting state worker (Full pair) after

-- The answer, and the ledger afterwards: a move that isn't placed is handed back, but where the basis is full.
abbrev pub IsPlacing : LedgerView → ℕ → ℕ → Weighed → Result ℕ PlaceFault → LedgerView → Type 0
IsPlacing ledger worker front m (Ok place) after = IsPlacedLast ledger worker front m place after
IsPlacing ledger worker front m (Err (fault.Memory given)) after =
    (front ≡ length ledger.basis.moves) × (length ledger.basis.moves < ledger.state.limit) × (given ≡ m) × (after ≡ ledger)
IsPlacing ledger worker front m (Err (fault.Behind count given)) after =
    (front < length ledger.basis.moves) × (count ≡ length ledger.basis.moves) × (given ≡ m) × (after ≡ ledger)
IsPlacing ledger worker front m (Err fault.BasisFull) after =
    (front ≡ length ledger.basis.moves) × (length ledger.basis.moves ≡ ledger.state.limit) × HaltsFull ledger.state worker after.state ×
    (after.basis ≡ ledger.basis)

-- ---- the parts of a ledger where a move is placed
-- places and a worker's number as small as an entry of a journal keeps them
pub record AreSmall (pair : Pair) (worker : ℕ) : Type 0 where
  pub first : pair.first < 65536
  pub second : pair.second < 65536
  pub worker_within : worker < 64

-- a flag for each pair of fewer than 65,536 moves
pub record AreFlagsOf (moves : List Weighed) (settled : PairFlags) : Type 0 where
  pub count : settled.moves ≡ length moves
  pub few : length moves < 65536
  pub each : length settled.flags ≡ pairs_of settled.moves

-- the move is at the end, and the flags of its pairs, which are clear, behind the others
pub record IsGrown (basis : BasisView) (settled : PairFlags) (m : Weighed) (basis_after : BasisView)
    (settled_after : PairFlags) : Type 0 where
  pub moves : basis_after ≡ with_placed basis m
  pub flags : settled_after ≡ record { moves = settled.moves + 1; flags = settled.flags ++ replicate settled.moves false }
