-- The entries of a journal, in runs: a run of pairs with disjoint leads is kept as its first entry and a number.
use Rattle.std.specs.Prelude.{◌≡◌, ℕ, ◌+◌, ◌*◌, ◌<◌, ◌≤◌, List, length, map, take, get_or, All}
use Rattle.std.specs.List.{flat_map, range_with_len}
use Rattle.mk_journal.specs.declared.journal.Kind.{Kind}
use Rattle.mk_journal.specs.declared.journal.Kind.TheVariants as kind
use Rattle.mk_journal.specs.declared.journal.JournalEntry.{JournalEntry}
use Rattle.mk_journal.specs.declared.journal.Run.{Run}
use Rattle.mk_journal.specs.Entries.{HaveTheirThirds}

-- how many entries follow the first, by the kind and the number of a run
abbrev pub more_of : Kind → ℕ → ℕ
more_of kind.Coprime number = number
more_of kind.Chain number = 0
more_of kind.Zero number = 0
more_of kind.Place number = 0

-- the third of the entries, by the kind and the number of a run
abbrev pub third_in : Kind → ℕ → ℕ
third_in kind.Coprime number = 0
third_in kind.Chain number = number
third_in kind.Zero number = number
third_in kind.Place number = number

-- the entry of a run that so many others come before
abbrev pub entry_in : Run → ℕ → JournalEntry
entry_in run before =
    record { i = run.i + before; j = run.j; third = third_in run.kind run.number; worker = run.worker; kind = run.kind }

-- the entries of a run, whose first places follow one after another
unfoldable pub entries_in : Run → List JournalEntry
entries_in run = map (entry_in run) (range_with_len 0 (more_of run.kind run.number + 1))

-- the entries of runs, one run after another
abbrev pub entries_of : List Run → List JournalEntry
entries_of runs = flat_map entries_in runs

-- the last first place of a run has 16 bits
abbrev pub IsRun : Run → Type 0
IsRun run = run.i + more_of run.kind run.number < 65536

-- The pair of the entry is the next of the run: its leads are disjoint, its second place and worker are those of the run,
-- and its first place follows the last one.
pub record IsContinuedBy (run : Run) (entry : JournalEntry) : Type 0 where
  pub run_kind : run.kind ≡ kind.Coprime
  pub entry_kind : entry.kind ≡ kind.Coprime
  pub worker : run.worker ≡ entry.worker
  pub second : run.j ≡ entry.j
  pub next : run.i + run.number + 1 ≡ entry.i

-- For each 16th run there is a start, the number of the entries before it. There may be more starts, which say nothing.
pub record AreStarts (starts : List ℕ) (runs : List Run) : Type 0 where
  pub room : length runs ≤ 16 * length starts
  pub each : (k : ℕ) → 16 * k < length runs → get_or starts k 0 ≡ length (entries_of (take (16 * k) runs))

-- Runs with their starts and the number of their entries, each of which has its third.
pub record AreKept (runs : List Run) (starts : List ℕ) (count : ℕ) : Type 0 where
  pub thirds : HaveTheirThirds (entries_of runs)
  pub within : All IsRun runs
  pub started : AreStarts starts runs
  pub counted : count ≡ length (entries_of runs)
