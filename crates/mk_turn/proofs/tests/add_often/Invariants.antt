use Rattle.std.proofs.Common.{◌≡◌, ◌≤◌, None}
use Rattle.mk_turn.specs.Seats.{turn_view, IsSeatOf}
use Rattle.mk_turn.proofs.tests.add_often.Given as goal

abbrev pub invariant-loop : goal.invariant-loop
invariant-loop l = IsSeatOf l.table l.seat × ((turn_view l.seat).taken ≡ None) × (l.done ≤ l.counter)
