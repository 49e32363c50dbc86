-- What placing a copy of what is left of a claim is answered.
use Rattle.std.specs.Prelude.{◌≡◌, ℕ, length, Result, Ok, Err}
use Rattle.mk_move.specs.Moves.{Weighed, IsRowOriented}
use Rattle.mk_ledger.specs.Ledgers.{LedgerView}
use Rattle.mk_ledger.specs.Settlings.{IsPlacedLast, HaltsFull}
use Rattle.mk_shared.specs.declared.settling.Unplaced.{Unplaced}
use Rattle.mk_shared.specs.declared.settling.Unplaced.TheVariants.{Memory, Full}
use Rattle.mk_shared.specs.LedgerSteps.{FollowsLegal, StaysInTurn}

-- what is left, oriented, is at the end of the basis
pub record IsCopyPlaced (before : LedgerView) (worker : ℕ) (rest : Weighed) (place : ℕ) (after : LedgerView) : Type 0 where
  pub follows : FollowsLegal worker before after
  pub move : Weighed
  pub oriented : IsRowOriented rest.entries before.basis.priority move.entries
  pub weight : move.weight ≡ rest.weight
  pub placed : IsPlacedLast before worker (length before.basis.moves) move place after

-- the basis has its limit of moves, and the worker halts
pub record IsBasisFilled (before : LedgerView) (worker : ℕ) (after : LedgerView) : Type 0 where
  pub follows : FollowsLegal worker before after
  pub full : length before.basis.moves ≡ before.state.limit
  pub halts : HaltsFull before.state worker after.state
  pub basis : after.basis ≡ before.basis

abbrev pub PlacesCopy : LedgerView → ℕ → Weighed → Result ℕ Unplaced → LedgerView → Type 0
PlacesCopy before worker rest (Ok place) after = IsCopyPlaced before worker rest place after
PlacesCopy before worker rest (Err Memory) after = StaysInTurn before after
PlacesCopy before worker rest (Err Full) after = IsBasisFilled before worker after
