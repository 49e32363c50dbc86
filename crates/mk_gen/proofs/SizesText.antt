-- The text of the sizes, one after another.
use Rattle.std.proofs.Common.{◌≡◌, ℕ, zero, suc, ◌+◌, ◌<◌, List, ◌++◌, length, map, take, get_or, ap, sym, ◌∙◌, arith, decimal}
use Rattle.std.specs.List.{join_with_byte}
use Rattle.std.proofs.lemmas.List.{map_more, length-map, length-take-le}
use Rattle.mk_model.proofs.TextPieces.{join_more}
use Rattle.mk_gen.specs.Parts.{x_before}

-- the sizes so far
abbrev pub sizes_so_far : List ℕ → ℕ → List ℕ
sizes_so_far sizes place = join_with_byte 120 (map decimal (take place sizes))

pub one_size_more : (sizes : List ℕ) (place : ℕ) → place < length sizes → sizes_so_far sizes place ++ (x_before place ++ decimal (get_or sizes place 0)) ≡ sizes_so_far sizes (place + 1)
one_size_more sizes zero h =
    sym (ap (join_with_byte 120) (map_more decimal sizes 0 0 h))
one_size_more sizes (suc place) h =
    let many = map decimal (take (suc place) sizes) in
    let some : 0 < length many = omega (arith, length-map (take (suc place) sizes) decimal, length-take-le (suc place) sizes (omega arith)) in
    sym (ap (join_with_byte 120) (map_more decimal sizes (suc place) 0 h) ∙ join_more 120 many (decimal (get_or sizes (suc place) 0)) some)
