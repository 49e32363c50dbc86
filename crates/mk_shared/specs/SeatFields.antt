-- The fields of a seat as what contracts see of it, and what they keep.
use Rattle.std.specs.Prelude.{◌≡◌, MatchOption, None, Some}
use Rattle.mk_model.specs.CoreStates.{pair_of}
use Rattle.mk_turn.specs.Seats.{turn_view}
use Rattle.mk_shared.specs.SharedSeats.{SeatView, IsSeat}
use Rattle.mk_shared.specs.declared.seat.Seat.TheInside.{Inside}

abbrev pub seat_of : Inside → SeatView
seat_of s = record {
  table = s.turn.seat.table_id;
  sight = turn_view s.turn;
  copy = s.copy;
  nothing_left = s.nothing_left;
  halted = s.halted;
}

-- the code's number, claim and counts are those that the seat knows
pub record AreSeatFields (s : Inside) : Type 0 where
  pub seat : IsSeat (seat_of s)
  pub number : s.number ≡ (turn_view s.turn).number
  pub claim : MatchOption s.claim ((turn_view s.turn).claim ≡ None) (λ places. (turn_view s.turn).claim ≡ Some (pair_of places.0 places.1))
  pub made : s.made ≡ (turn_view s.turn).made
  pub workers : s.workers ≡ (turn_view s.turn).seats
