-- The line of a move, one entry after another, and the lines of moves.
use Rattle.std.proofs.Common.{◌≡◌, ℕ, zero, suc, ◌+◌, ◌<◌, List, [], ◌∷◌, ◌++◌, length, map, take, get_or, ap, sym, ◌∙◌, arith, ℤ, pos, Some, slice_get}
use Rattle.std.specs.Fmt.{signed_decimal}
use Rattle.std.specs.List.{flat_map, join_with_byte}
use Rattle.std.proofs.lemmas.List.{flat_map_more, map_more, length-map, length-take-le}
use Rattle.std.proofs.lemmas.Option.{get_or_from_slice_get}
use Rattle.mk_model.specs.Texts.{move_line}
use Rattle.mk_model.proofs.TextPieces.{join_more}
use Rattle.mk_move.specs.Moves.{Weighed}
use Rattle.mk_move.specs.MoveLists.{vectors_of}
use Rattle.mk_writer.specs.Lines.{space_before}

-- the entries so far
abbrev pub so_far : List ℤ → ℕ → List ℕ
so_far entries column = join_with_byte 32 (map signed_decimal (take column entries))

pub one_entry_more : (entries : List ℤ) (column : ℕ) → column < length entries → so_far entries column ++ (space_before column ++ signed_decimal (get_or entries column (pos 0))) ≡ so_far entries (column + 1)
one_entry_more entries zero h =
    sym (ap (join_with_byte 32) (map_more signed_decimal entries 0 (pos 0) h))
one_entry_more entries (suc column) h =
    let many = map signed_decimal (take (suc column) entries) in
    let some : 0 < length many = omega (arith, length-map (take (suc column) entries) signed_decimal, length-take-le (suc column) entries (omega arith)) in
    sym (ap (join_with_byte 32) (map_more signed_decimal entries (suc column) (pos 0) h) ∙ join_more 32 many (signed_decimal (get_or entries (suc column) (pos 0))) some)

-- the lines of the next move, behind those of the moves so far
pub one_move_more : (front : List ℕ) (moves : List Weighed) (place : ℕ) (m : Weighed) → place < length moves → slice_get moves place ≡ Some m
    → (front ++ flat_map move_line (vectors_of (take place moves))) ++ move_line m.entries ≡ front ++ flat_map move_line (vectors_of (take (place + 1) moves))
one_move_more front moves place m h here =
    flat_map_more move_line front (vectors_of (take place moves)) m.entries
    ∙ ap (λ (ms : List (List ℤ)). front ++ flat_map move_line ms)
    (ap (λ (x : Weighed). vectors_of (take place moves) ++ x.entries ∷ []) (sym (get_or_from_slice_get moves place m m here)) ∙ sym (map_more (λ (x : Weighed). x.entries) moves place m h))
