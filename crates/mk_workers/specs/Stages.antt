-- At what a worker of a shared completion is, what it knows there by its seat alone, and what a step leaves of the seat.
use Rattle.std.specs.Prelude.{◌≡◌, ◌<◌, ◌≤◌, true, ◌||◌, List, length, take, Option, None, Some, ℤ}
use Rattle.atomic_table.specs.Seated.{TableId}
use Rattle.mk_model.specs.CoreStates.{Pair}
use Rattle.mk_model.specs.Events.{HaveCommonColumn}
use Rattle.mk_move.specs.Moves.{Weighed}
use Rattle.mk_move.specs.MoveLists.{BasisView, vectors_of}
use Rattle.mk_reduce.specs.Leads.{leads_of}
use Rattle.mk_reduce.specs.Works.{TheWork, WorkOf}
use Rattle.mk_reduce.specs.declared.stop.Stop.{Stop}
use Rattle.mk_reduce.specs.declared.stop.Stop.TheVariants as stop
use Rattle.mk_ledger.specs.Halts.{halt_as}
use Rattle.mk_ledger.specs.declared.halt.Halt.{Halt}
use Rattle.mk_ledger.specs.declared.halt.Halt.TheVariants as kept
use Rattle.mk_shared.specs.SharedSeats.{SeatView, HasClaim, HasCoprimeClaim, HasWorkDone, IsStop}
use Rattle.mk_workers.specs.declared.stage.SeatStage.{SeatStage}
use Rattle.mk_workers.specs.declared.stage.SeatStage.TheVariants.{Idle, Fresh, Tests, Disjoint, Thirds, Ready, Reduced, Stale, Stopping, Gone}

-- ---- seats
-- the same seat later: of the same completion, with the same number, and no other seat was made or joined by it
pub record IsSameSeat (before after : SeatView) : Type 0 where
  pub table : after.table ≡ before.table
  pub number : after.sight.number ≡ before.sight.number
  pub fixed : after.sight.fixed ≡ before.sight.fixed
  pub seats : after.sight.seats ≡ before.sight.seats
  pub made : after.sight.made ≡ before.sight.made
  pub joined : after.sight.joined ≡ before.sight.joined

-- The seat has no claim, and nothing is left for it: it was answered so, or it halted.
pub record IsSeatDone (seat : SeatView) : Type 0 where
  pub idle : seat.sight.claim ≡ None
  pub done : (seat.nothing_left || seat.halted) ≡ true

-- the same seat, once its worker is done
pub record HasWorked (before after : SeatView) : Type 0 where
  pub same : IsSameSeat before after
  pub done : IsSeatDone after

-- ---- stages
-- its claim with work on it by its copy, the leads of whose pair have a column in common
pub record HasSeatWork (seat : SeatView) (work : TheWork) : Type 0 where
  pub claimed : seat.sight.claim ≡ Some work.pair
  pub common : HaveCommonColumn (vectors_of seat.copy.moves) work.pair
  pub done : WorkOf work seat.copy

-- what a worker knows at each stage
abbrev pub IsSeatAt : SeatView → SeatStage → Type 0
IsSeatAt seat Idle = seat.sight.claim ≡ None
IsSeatAt seat Fresh = (pair : Pair) × (seat.sight.claim ≡ Some pair) × (pair.first < pair.second)
IsSeatAt seat Tests = (pair : Pair) × HasClaim seat pair
IsSeatAt seat Disjoint = HasCoprimeClaim seat
IsSeatAt seat (Thirds from tried) = (pair : Pair) × HasClaim seat pair × HaveCommonColumn (vectors_of seat.copy.moves) pair
IsSeatAt seat Ready = (pair : Pair) × HasClaim seat pair × HaveCommonColumn (vectors_of seat.copy.moves) pair
IsSeatAt seat (Reduced work) = HasSeatWork seat work × HasWorkDone seat work
IsSeatAt seat (Stale work) = HasSeatWork seat work
IsSeatAt seat (Stopping halt) = ((pair : Pair) × (seat.sight.claim ≡ Some pair)) × IsStop seat (halt_as halt)
IsSeatAt seat Gone = IsSeatDone seat

-- the leads are those of the first moves of the basis, in their order
pub record AreFirstLeads (leads : List (List ℤ)) (basis : BasisView) : Type 0 where
  pub within : length leads ≤ length basis.moves
  pub first : leads ≡ leads_of (take (length leads) basis.moves)

-- A worker is at a stage: its seat is of the completion of the table, and its finder has the leads of the first moves of its copy.
pub record WorksAt (of_table : TableId) (seat : SeatView) (found : List (List ℤ)) (at : SeatStage) : Type 0 where
  pub table : seat.table ≡ of_table
  pub leads : AreFirstLeads found seat.copy
  pub stage : IsSeatAt seat at

-- A step of a worker leads to a stage. Its finder has the leads of the first moves of its copy.
pub record Steps (before after : SeatView) (leads : List (List ℤ)) (stage : SeatStage) : Type 0 where
  pub same : IsSameSeat before after
  pub first_leads : AreFirstLeads leads after.copy
  pub at : IsSeatAt after stage

-- the halt for a stop of the work on the pair, where so much was left
abbrev pub halt_for : Pair → Option Weighed → Stop → Halt
halt_for pair operand stop.Memory = kept.Memory
halt_for pair operand (stop.Overflow by at) = kept.Overflow (record { i = pair.first; j = pair.second; by = by; operand = operand; at = at })
