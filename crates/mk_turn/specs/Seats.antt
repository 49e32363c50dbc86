-- What clauses say of a seat and its table.
use Rattle.std.specs.Prelude.{◌≡◌}
use Rattle.mk_turn.specs.declared.state.TurnState.{Ghosts}
use Rattle.mk_turn.specs.declared.view.View.{View}
use Rattle.mk_turn.specs.declared.table.TurnSeat.{TurnSeat}
use Rattle.mk_turn.specs.declared.table.TurnTable.{TurnTable}

module _ {S C E G F N W : Type 0} {state : Ghosts S C E G F N W} where
  -- what the seat knows
  abbrev pub turn_view : TurnSeat S C E G F N W state → View S C E G F N W
  turn_view s = s.seat.me.0

  -- the seat is one of this table
  abbrev pub IsSeatOf : TurnTable S C E G F N W → TurnSeat S C E G F N W state → Type 0
  IsSeatOf t s = s.seat.table_id ≡ t.table.shared.table_id

  -- they are seats of one table
  abbrev pub IsSameTable : TurnSeat S C E G F N W state → TurnSeat S C E G F N W state → Type 0
  IsSameTable s t = t.seat.table_id ≡ s.seat.table_id
