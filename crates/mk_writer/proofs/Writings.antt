-- How far a list of moves is written, and what a piece more adds.
use Rattle.std.proofs.Common.{◌≡◌, ℕ, ◌+◌, ◌<◌, List, [], ◌++◌, length, take, drop, ap, sym, ◌∙◌, append_assoc, slice_get, Some, Err, Result, Ok, IsErr}
use Rattle.std.specs.List.{flat_map}
use Rattle.std.proofs.Math.Seq.{take-append_seam}
use Rattle.std.proofs.lemmas.List.{append-nil, take-append-drop, map-append, length-map}
use Rattle.std.proofs.lemmas.Grind.{flat_map-append}
use Rattle.mk_model.specs.Texts.{header_line, move_line}
use Rattle.mk_move.specs.Moves.{Weighed}
use Rattle.mk_move.specs.MoveLists.{MoveListView, vectors_of}
use Rattle.mk_desk.specs.Folders.{Desk}
use Rattle.mk_desk.specs.Transfers.{PutsAll}
use Rattle.mk_desk.specs.declared.folder.DeskFault.{DeskFault}
use Rattle.mk_writer.specs.Writing.{text_of}
use Rattle.mk_writer.proofs.MoveLines.{one_move_more}

-- the header line of a list
abbrev pub header_of : MoveListView → List ℕ
header_of list = header_line (length (vectors_of list.moves)) list.columns

-- the header line and the lines of so many moves
abbrev pub lines_so_far : MoveListView → ℕ → List ℕ
lines_so_far list place = header_of list ++ flat_map move_line (vectors_of (take place list.moves))

-- the lines of the moves that are left
abbrev pub lines_left : MoveListView → ℕ → List ℕ
lines_left list place = flat_map move_line (vectors_of (drop place list.moves))

-- the lines so far and those left are the text
pub the_text : (list : MoveListView) (place : ℕ) → lines_so_far list place ++ lines_left list place ≡ text_of list
the_text list place =
    append_assoc (header_of list) _ _
    ∙ ap (λ (t : List ℕ). header_of list ++ t)
    (sym (flat_map-append move_line (vectors_of (take place list.moves)) (vectors_of (drop place list.moves)))
    ∙ ap (λ ms. flat_map move_line ms) (sym (map-append (λ (m : Weighed). m.entries) (take place list.moves) (drop place list.moves)))
    ∙ ap (λ (ms : List Weighed). flat_map move_line (vectors_of ms)) (take-append-drop place list.moves))

-- a front of a piece, behind what is there, is a front of the whole
front_of : (front piece rest text : List ℕ) (n : ℕ) → (front ++ piece) ++ rest ≡ text → front ++ take n piece ≡ take (length (front ++ take n piece)) text
front_of front piece rest text n e =
    let split : (front ++ take n piece) ++ (drop n piece ++ rest) ≡ text =
    append_assoc front _ _ ∙ ap (λ (t : List ℕ). front ++ t) (sym (append_assoc (take n piece) (drop n piece) rest) ∙ ap (λ (t : List ℕ). t ++ rest) (take-append-drop n piece))
    ∙ sym (append_assoc front piece rest) ∙ e in
    sym (take-append_seam (front ++ take n piece) (drop n piece ++ rest)) ∙ ap (λ (t : List ℕ). take (length (front ++ take n piece)) t) split

-- a piece more
pub put_more : (front piece : List ℕ) (x y z : Desk) → y ≡ record x { made = x.made ++ front } → z ≡ record y { made = y.made ++ piece }
    → z ≡ record x { made = x.made ++ (front ++ piece) }
put_more front piece x y z p q =
    q ∙ ap (λ (w : Desk). record w { made = w.made ++ piece }) p ∙ ap (λ bytes. record x { made = bytes }) (append_assoc x.made front piece)

-- nothing is put at first
none_put : (x : Desk) → x ≡ record x { made = x.made ++ [] }
none_put x = ap (λ bytes. record x { made = bytes }) (sym (append-nil x.made))

-- a piece that was refused leaves a front of the text
pub put_front : (front piece rest text : List ℕ) (fault : DeskFault) (result : Result Unit DeskFault) → IsErr result → (front ++ piece) ++ rest ≡ text → (x y z : Desk)
    → y ≡ record x { made = x.made ++ front } → PutsAll piece (Err fault) y z → PutsAll text result x z
put_front front piece rest text fault (Ok done) err e x y z p q = cc
put_front front piece rest text fault (Err other) err e x y z p q =
    (_, put_more front (take q.0 piece) x y z p q.1 ∙ ap (λ bytes. record x { made = x.made ++ bytes }) (front_of front piece rest text q.0 e))

pub put_first_front : (piece rest text : List ℕ) (fault : DeskFault) (result : Result Unit DeskFault) → IsErr result → piece ++ rest ≡ text → (x z : Desk)
    → PutsAll piece (Err fault) x z → PutsAll text result x z
put_first_front piece rest text fault result err e x z q = put_front [] piece rest text fault result err e x x z (none_put x) q

-- the header line, as it is put
pub the_header : (list : MoveListView) (piece bytes : List ℕ) (count columns : ℕ) → piece ≡ bytes → bytes ≡ header_line count columns
    → count ≡ length list.moves → columns ≡ list.columns → piece ≡ header_of list
the_header list piece bytes count columns same line many wide =
    same ∙ line ∙ ap (λ n. header_line n columns) (many ∙ sym (length-map list.moves _)) ∙ ap (header_line _) wide

-- a move's line more
pub line_more : (list : MoveListView) (place : ℕ) (m : Weighed) (bytes : List ℕ) → bytes ≡ move_line m.entries → place < length list.moves → slice_get list.moves place ≡ Some m
    → lines_so_far list place ++ bytes ≡ lines_so_far list (place + 1)
line_more list place m bytes e within here =
    ap (λ (t : List ℕ). lines_so_far list place ++ t) e ∙ one_move_more (header_of list) list.moves place m within here
