-- What the writing of a list of moves does to a folder.
use Rattle.std.specs.Prelude.{ℕ, List, Result}
use Rattle.mk_model.specs.Texts.{move_text}
use Rattle.mk_move.specs.MoveLists.{MoveListView, vectors_of}
use Rattle.mk_desk.specs.Folders.{Desk}
use Rattle.mk_desk.specs.Transfers.{PutsAll}
use Rattle.mk_desk.specs.declared.folder.DeskFault.{DeskFault}

-- the text of a list of moves
abbrev pub text_of : MoveListView → List ℕ
text_of list = move_text list.columns (vectors_of list.moves)

-- The whole text is appended to the file being made, or a prefix of it where the writing stopped.
abbrev pub WritesMoves : MoveListView → Result Unit DeskFault → Desk → Desk → Type 0
WritesMoves list result before after = PutsAll (text_of list) result before after
