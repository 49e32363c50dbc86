use Rattle.std.proofs.Common.{◌≡◌, length}
use Rattle.mk_files.specs.Reading.{EntriesRead}
use Rattle.mk_files.proofs.reading.read_entries.Given as goal

abbrev pub invariant-loop-found : goal.invariant-loop-found
invariant-loop-found l = record {
  count : length l.entries.items ≡ l.found;
  so_far : EntriesRead l.bytes l.bounds (record { rows = l.rows; columns = l.columns; entries = l.entries.items }) l.end;
}
