use Rattle.std.proofs.Common.{◌≡◌, ◌*◌, ◌≤◌, vec_len, vec_capacity}
use Rattle.mk_writer.specs.declared.line.TheConstants.{ENTRY_ROOM}
use Rattle.mk_writer.proofs.MoveLines.{so_far}
use Rattle.mk_writer.proofs.line.set_move.Given as goal

abbrev pub invariant-loop-column : goal.invariant-loop-column
invariant-loop-column l = record {
  text : l.line.items ≡ so_far l.next.entries l.column;
  len : vec_len l.line ≤ ENTRY_ROOM * l.column;
  room : vec_capacity l.fn.line ≤ vec_capacity l.line;
}
