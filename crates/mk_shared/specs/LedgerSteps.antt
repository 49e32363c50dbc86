-- What is done to a ledger while one seat has the turn.
use Rattle.std.specs.Prelude.{◌≡◌, ℕ, length, Result, Ok, Err}
use Rattle.mk_model.specs.CoreStates.{pair_of, Way, CoreState, Halt}
use Rattle.mk_model.specs.CoreStates.Way.{Chain}
use Rattle.mk_model.specs.Events.{with_claim, with_halt, IsSettling, IsHalting}
use Rattle.mk_move.specs.Moves.{Weighed}
use Rattle.mk_ledger.specs.declared.claims.Claim.{Claim}
use Rattle.mk_ledger.specs.declared.claims.Claim.TheVariants.{Claimed}
use Rattle.mk_ledger.specs.declared.ledger.ChainFault.{ChainFault}
use Rattle.mk_ledger.specs.declared.ledger.ChainFault.TheVariants as chain
use Rattle.mk_ledger.specs.declared.ledger.PlaceFault.{PlaceFault}
use Rattle.mk_ledger.specs.Claims.{AnswersClaim}
use Rattle.mk_ledger.specs.Ledgers.{LedgerView, IsLedger}
use Rattle.mk_ledger.specs.Settlings.{OfClaim, IsFirstUnsettled, IsPlacing}
use Rattle.mk_turn.specs.Meanings.{Follows}
use Rattle.mk_shared.specs.LedgerTurns.{ledger_meaning}

-- the first ledger is legal, and the second is it, or comes from it by one event of the worker
abbrev pub FollowsLegal : ℕ → LedgerView → LedgerView → Type 0
FollowsLegal worker before after = IsLedger before × Follows ledger_meaning worker before after

-- the state after the answer to a claim
abbrev pub state_claimed : CoreState → ℕ → Claim → CoreState
state_claimed state worker (Claimed i j) = with_claim state worker (pair_of i j)
state_claimed state worker answer = state

-- the answer to a claim of the worker
pub record ClaimsInTurn (before : LedgerView) (worker : ℕ) (answer : Claim) (after : LedgerView) : Type 0 where
  pub follows : FollowsLegal worker before after
  pub answers : AnswersClaim before.state worker answer (state_claimed before.state worker answer)
  pub changed : after ≡ record before { state = state_claimed before.state worker answer }

-- the ledger is legal, and as before
abbrev pub StaysInTurn : LedgerView → LedgerView → Type 0
StaysInTurn before after = IsLedger before × (after ≡ before)

-- the claim of the worker is settled in a way by which no move is placed
pub record SettlesInTurn (before : LedgerView) (worker : ℕ) (way : Way) (after : LedgerView) : Type 0 where
  pub follows : FollowsLegal worker before after
  pub settling : IsSettling (length before.basis.grading) before.basis.priority before.state worker way after.state
  pub basis : after.basis ≡ before.basis

abbrev pub ChainsInTurn : LedgerView → ℕ → ℕ → Result Unit ChainFault → LedgerView → Type 0
ChainsInTurn before worker third (Ok done) after = SettlesInTurn before worker (Chain third) after
ChainsInTurn before worker third (Err chain.Memory) after = StaysInTurn before after
ChainsInTurn before worker third (Err (chain.Unsettled i j)) after =
    StaysInTurn before after × OfClaim before.state worker (λ pair. IsFirstUnsettled before.state.journal pair third (pair_of i j))

-- the worker has the halt
pub record HaltsInTurn (before : LedgerView) (worker : ℕ) (halt : Halt) (after : LedgerView) : Type 0 where
  pub follows : FollowsLegal worker before after
  pub halting : IsHalting before.state worker halt (with_halt before.state worker halt)
  pub changed : after ≡ record before { state = with_halt before.state worker halt }

-- a move is placed, or why not
abbrev pub PlacesInTurn : LedgerView → ℕ → ℕ → Weighed → Result ℕ PlaceFault → LedgerView → Type 0
PlacesInTurn before worker front m answer after = FollowsLegal worker before after × IsPlacing before worker front m answer after
