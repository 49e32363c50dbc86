-- A ledger: the basis with the core state of its completion, and how pairs are claimed in their order.
use Rattle.std.specs.Prelude.{◌≡◌, ◌≢◌, ◌⊎◌, ◌↔◌, ℕ, ◌<◌, ◌≤◌, Bool, true, false, List, length, get_or, None}
use Rattle.mk_model.specs.CoreStates.{Pair, CoreState, IsPairOf, IsSettled, IsClaimed, IsFree}
use Rattle.mk_model.specs.Legal.{IsLegal}
use Rattle.mk_move.specs.MoveLists.{BasisView, IsBasis, vectors_of}
use Rattle.mk_ledger.specs.PairFlags.{pairs_of, pair_number}

-- the moves with their weights, list and grading, and the core state over their vectors
pub record LedgerView : Type 0 where
  pub basis : BasisView
  pub state : CoreState

-- The basis's vectors are those of the state, which is legal, and the sizes are within their bounds.
pub record IsLedger (ledger : LedgerView) : Type 0 where
  pub basis : IsBasis ledger.basis
  pub moves : ledger.state.basis ≡ vectors_of ledger.basis.moves
  pub legal : IsLegal (length ledger.basis.grading) ledger.basis.priority ledger.state
  pub limit : ledger.state.limit ≤ 65536
  pub some : 1 ≤ ledger.state.workers
  pub workers : ledger.state.workers ≤ 64

-- the number of a pair
abbrev pub number_of : Pair → ℕ
number_of pair = pair_number pair.first pair.second

-- a flag for each pair of the basis tells whether it is settled
pub record AreFlagged (state : CoreState) (flags : List Bool) : Type 0 where
  pub count : length flags ≡ pairs_of (length state.basis)
  pub each : (pair : Pair) → IsPairOf state.basis pair → (get_or flags (number_of pair) false ≡ true) ↔ IsSettled state.journal pair

-- no claim was given up, and each pair that was claimed is settled or still claimed
pub record AreAllTaken (state : CoreState) : Type 0 where
  pub none_given_up : state.claims_given_up ≡ 0
  pub taken : (pair : Pair) → IsPairOf state.basis pair → number_of pair < state.claims_made → IsSettled state.journal pair ⊎
      IsClaimed state pair

-- a claim was given up by a halt, and a pair is left free
pub record IsOneLeft (state : CoreState) : Type 0 where
  pub given_up : 1 ≤ state.claims_given_up
  pub halted : state.first_halted ≢ None
  pub pair : Pair
  pub free : IsFree state pair

-- Claims go through the pairs in the order of their numbers: those settled or claimed come before the number of claims
-- made, and while none was given up, all of those before it are.
pub record AreInOrder (state : CoreState) : Type 0 where
  pub made : state.claims_made ≤ pairs_of (length state.basis)
  pub settled : (pair : Pair) → IsSettled state.journal pair → number_of pair < state.claims_made
  pub claimed : (pair : Pair) → IsClaimed state pair → number_of pair < state.claims_made
  pub before : AreAllTaken state ⊎ IsOneLeft state
