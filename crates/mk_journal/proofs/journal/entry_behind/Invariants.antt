use Rattle.std.proofs.Common.{◌≡◌, ◌+◌, ◌<◌, length, take}
use Rattle.mk_journal.specs.JournalRuns.{entries_of}
use Rattle.mk_journal.proofs.journal.entry_behind.Given as goal

abbrev pub invariant-loop-left : goal.invariant-loop-left
invariant-loop-left l = (l.place < length l.runs) × (l.left + length (entries_of (take l.place l.runs)) ≡ l.n)

abbrev pub decreases-loop-left : goal.decreases-loop-left
decreases-loop-left l = l.left
