use Rattle.std.proofs.Common.{◌≡◌, ◌+◌, ◌*◌, ◌≤◌, ◌++◌, vec_capacity}
use Rattle.mk_desk.specs.Folders.{WhereTold}
use Rattle.mk_writer.specs.declared.line.TheConstants.{HEADER_ROOM, ENTRY_ROOM}
use Rattle.mk_writer.proofs.Writings.{lines_so_far}
use Rattle.mk_writer.proofs.writing.write_lines.Given as goal

abbrev pub invariant-loop-place : goal.invariant-loop-place
invariant-loop-place g l =
    let state = g.F.Folder.state in
    let told = g.F.Folder.told in
    let list = g.L.MoveList.list l.list in
    record {
      room : HEADER_ROOM + ENTRY_ROOM * list.columns ≤ vec_capacity l.line;
      same : state l.folder ≡ state l.fn.folder;
      told : WhereTold (told l.fn.folder) (told l.folder) (λ before after. after ≡ record before { made = before.made ++ lines_so_far list l.place });
    }
