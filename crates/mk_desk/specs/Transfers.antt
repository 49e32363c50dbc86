-- What the loops over a folder do: a whole file read, a whole piece put or said.
use Rattle.std.specs.Prelude.{◌≡◌, ℕ, ◌<◌, ◌≤◌, List, ◌++◌, length, take, Option, Some, None, Result, Ok, Err, Vec, IsSomeAnd}
use Rattle.std.specs.declared.alloc.Global.{Global}
use Rattle.std.specs.FinMap.{get}
use Rattle.mk_desk.specs.Folders.{Desk, said}
use Rattle.mk_desk.specs.declared.folder.DeskFault.{DeskFault}
use Rattle.mk_desk.specs.declared.folder.DeskFault.TheVariants as desk
use Rattle.mk_desk.specs.declared.folder.Channel.{Channel}
use Rattle.mk_desk.specs.declared.transfer.LoadFault.{LoadFault}
use Rattle.mk_desk.specs.declared.transfer.LoadFault.TheVariants.{Memory, Failed, FileSize}

-- a folder's fault, as a load passes it on
abbrev pub passed_on : DeskFault → LoadFault
passed_on desk.Memory = Memory
passed_on desk.Failed = Failed

-- The bytes are those of the file, and no more than the limit; a file that is too long has more.
abbrev pub IsFileWithin : ℕ → Result (Vec ℕ Global) LoadFault → List ℕ → Type 0
IsFileWithin limit (Ok bytes) file = (file ≡ bytes.items) × (length bytes.items ≤ limit)
IsFileWithin limit (Err (FileSize read)) file = limit < length file
IsFileWithin limit (Err Memory) file = Unit {0}
IsFileWithin limit (Err Failed) file = Unit {0}

-- The answer is so of what was left of the file. Nothing else changes.
abbrev pub ReadsRest : ℕ → Result (Vec ℕ Global) LoadFault → Desk → Desk → Type 0
ReadsRest limit result before after = IsFileWithin limit result before.rest × (after ≡ record before { rest = after.rest })

-- The answer is so of the file of that name, which is there unless the answer is None or a fault. Only what is left of
-- the file being read changes.
abbrev pub Loads : List ℕ → ℕ → Result (Option (Vec ℕ Global)) LoadFault → Desk → Desk → Type 0
Loads name limit (Ok (Some bytes)) before after =
    (get before.files name ≡ Some bytes.items) × (length bytes.items ≤ limit) × (after ≡ record before { rest = after.rest })
Loads name limit (Ok None) before after =
    (get before.files name ≡ None) × (after ≡ record before { rest = after.rest })
Loads name limit (Err (FileSize read)) before after =
    IsSomeAnd (get before.files name) (λ file. limit < length file) × (after ≡ record before { rest = after.rest })
Loads name limit (Err Memory) before after = after ≡ record before { rest = after.rest }
Loads name limit (Err Failed) before after = after ≡ record before { rest = after.rest }

-- The whole piece is appended to the file being made, or a prefix of it where a write was refused.
abbrev pub PutsAll : List ℕ → Result Unit DeskFault → Desk → Desk → Type 0
PutsAll piece (Ok done) before after = after ≡ record before { made = before.made ++ piece }
PutsAll piece (Err fault) before after = (n : ℕ) × (after ≡ record before { made = before.made ++ take n piece })

-- The whole piece is said on that channel alone, or a prefix of it where the folder refused.
abbrev pub SaysAll : Channel → List ℕ → Result Unit DeskFault → Desk → Desk → Type 0
SaysAll channel piece (Ok done) before after = after ≡ said channel piece before
SaysAll channel piece (Err fault) before after = (n : ℕ) × (after ≡ said channel (take n piece) before)
