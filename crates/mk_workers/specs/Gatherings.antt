-- What the first seat of a shared completion is once the workers of the others are done.
use Rattle.std.specs.Prelude.{◌≡◌, ℕ, ◌<◌, ◌≤◌, None}
use Rattle.mk_turn.specs.Turns.{IsJoined}
use Rattle.mk_shared.specs.SharedSeats.{SeatView}

-- The first seat of the same completion, without a claim, to which each seat that was made since is joined.
pub record HasGathered (before after : SeatView) : Type 0 where
  pub table : after.table ≡ before.table
  pub number : after.sight.number ≡ before.sight.number
  pub fixed : after.sight.fixed ≡ before.sight.fixed
  pub idle : after.sight.claim ≡ None
  pub made : before.sight.made ≤ after.sight.made
  pub kept : (number : ℕ) → IsJoined before.sight number → IsJoined after.sight number
  pub joined : (number : ℕ) → before.sight.made ≤ number → number < after.sight.made → IsJoined after.sight number
