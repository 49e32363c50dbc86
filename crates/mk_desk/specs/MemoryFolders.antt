-- What a folder in memory holds, some of whose calls fail, and how its calls go.
use Rattle.std.specs.Prelude.{◌≡◌, ◌↔◌, ℕ, ◌+◌, min, List, Result, IsErrOf}
use Rattle.std.specs.List.{Contains}
use Rattle.mk_desk.specs.Folders.{Desk, State, last_count}
use Rattle.mk_desk.specs.SureFolders.{sure_desk, sure_state}
use Rattle.mk_desk.specs.declared.folder.DeskFault.{DeskFault}
use Rattle.mk_desk.specs.declared.folder.DeskFault.TheVariants.{Failed}
use Rattle.mk_desk.specs.declared.memory_folder.MemoryFolder.{MemoryFolder}

-- what it holds
abbrev pub memory_desk : MemoryFolder → Desk
memory_desk folder = sure_desk folder.kept

-- It counts the calls that failed.
abbrev pub memory_state : MemoryFolder → State
memory_state folder = record (sure_state folder.kept) { faults = folder.calls.faults.count }

-- how many calls there were
abbrev pub call_count : MemoryFolder → ℕ
call_count folder = folder.calls.count

-- the numbers of the calls that fail
abbrev pub failing_calls : MemoryFolder → List ℕ
failing_calls folder = folder.calls.failing.items

-- how many bytes a call moves at most
abbrev pub chunk_of : MemoryFolder → ℕ
chunk_of folder = folder.chunk

-- One call more. It failed exactly where the list of failing calls names it.
pub record IsNextCall {T : Type 0} (before after : MemoryFolder) (result : Result T DeskFault) : Type 0 where
  pub count : call_count after ≡ min (call_count before + 1) last_count
  pub failed : IsErrOf result Failed ↔ Contains (failing_calls before) (call_count after)
  pub failing : failing_calls after ≡ failing_calls before
  pub chunk : chunk_of after ≡ chunk_of before
