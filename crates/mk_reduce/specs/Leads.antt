-- The leads of moves, in their order.
use Rattle.std.specs.Prelude.{List, map, ℤ}
use Rattle.mk_model.specs.Orders.{lead}
use Rattle.mk_move.specs.Moves.{Weighed}

abbrev pub leads_of : List Weighed → List (List ℤ)
leads_of moves = map (λ m. lead m.entries) moves
