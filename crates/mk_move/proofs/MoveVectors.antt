-- The vectors of a list of moves, by their places.
use Rattle.std.proofs.Common.{◌≡◌, ℕ, List, [], length, Some, slice_get, ap, ◌∙◌}
use Rattle.std.specs.Option.{option_map}
use Rattle.std.proofs.lemmas.Option.{slice_get-map, get_or_from_slice_get}
use Rattle.std.proofs.lemmas.List.{length-map}
use Rattle.mk_model.specs.CoreStates.{move_at}
use Rattle.mk_move.specs.Moves.{Weighed}
use Rattle.mk_move.specs.MoveLists.{vectors_of}

pub vector_at : (moves : List Weighed) (k : ℕ) (m : Weighed) → slice_get moves k ≡ Some m → move_at (vectors_of moves) k ≡ m.entries
vector_at moves k m h =
    get_or_from_slice_get (vectors_of moves) k m.entries [] (slice_get-map (λ (m : Weighed). m.entries) moves k ∙ ap (option_map (λ (m : Weighed). m.entries)) h)

pub length-vectors_of : (moves : List Weighed) → length (vectors_of moves) ≡ length moves
length-vectors_of moves = length-map moves (λ m. m.entries)
