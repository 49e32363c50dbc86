-- What a folder means. Every folder has its `State`; one that tells has a `Desk` too.
use Rattle.std.specs.Prelude.{◌≡◌, ◌⊎◌, ℕ, ◌+◌, ◌-◌, ◌^◌, ◌<◌, ◌≤◌, min, Bool, List, [], ◌++◌, take, Option, Some, None, Result, Ok, Err, IsErrOf}
use Rattle.std.specs.FinMap.{FinMap, get, insert}
use Rattle.std.specs.Cmp.Lexicographic.{slice_cmp}
use Rattle.std.specs.Ordering.{nat_cmp}
use Rattle.mk_desk.specs.declared.folder.DeskFault.{DeskFault}
use Rattle.mk_desk.specs.declared.folder.Found.{Found}
use Rattle.mk_desk.specs.declared.folder.Found.TheVariants.{Here, Absent}
use Rattle.mk_desk.specs.declared.folder.Channel.{Channel}
use Rattle.mk_desk.specs.declared.folder.Channel.TheVariants.{Out, Err as OnErrors}

-- files by their names, both as bytes
abbrev pub Files : Type 0
Files = FinMap (slice_cmp nat_cmp) (List ℕ)

-- What a folder that tells shows: its files; what is left of the file being read; the name and the bytes of the file
-- being made; what was said on each channel.
pub record Desk : Type 0 where
  pub files : Files
  pub rest : List ℕ
  pub made_name : List ℕ
  pub made : List ℕ
  pub out : List ℕ
  pub errors : List ℕ

-- What every folder has: whether a file is being made; what the last `start_read` answered, None where it failed; how
-- many bytes `read` gave since then, a count that stands still at its end; how many faults there were.
pub record State : Type 0 where
  pub making : Bool
  pub found : Option Found
  pub given : ℕ
  pub faults : ℕ

-- the last value of a count of 64 bits
abbrev pub last_count : ℕ
last_count = 2 ^ 64 - 1

-- a count of faults rose, or stands at its last value
abbrev pub Rose : ℕ → ℕ → Type 0
Rose before after = (before < after) ⊎ (after ≡ last_count)

-- The count of faults doesn't fall. It rose where this failure is answered, and stands where it stood at every other answer.
pub record HasCause {T E : Type 0} (failure : E) (before after : State) (result : Result T E) : Type 0 where
  pub later : before.faults ≤ after.faults
  pub failed : IsErrOf result failure → Rose before.faults after.faults
  pub quiet : (IsErrOf result failure → ⊥) → after.faults ≡ before.faults

-- a kind of folder each of which counts no fault, ever
abbrev pub CountsNoFault : {F : Type 0} → (F → State) → Type 0
CountsNoFault {F} state = (folder : F) → (state folder).faults ≡ 0

-- All but the count of faults is as before.
abbrev pub OnlyFaultsRose : State → State → Type 0
OnlyFaultsRose before after = after ≡ record before { faults = after.faults }

-- All but the count of faults and what reading showed is as before.
abbrev pub OnlyReadingMoved : State → State → Type 0
OnlyReadingMoved before after = after ≡ record before { found = after.found; given = after.given; faults = after.faults }

-- A folder tells after a call exactly where it told before it, and then the change is such.
abbrev pub WhereTold : Option Desk → Option Desk → (Desk → Desk → Type 0) → Type 0
WhereTold None None Change = Unit {0}
WhereTold None (Some after) Change = ⊥
WhereTold (Some before) None Change = ⊥
WhereTold (Some before) (Some after) Change = Change before after

-- Absent exactly where no file has the name, else the rest is the file's bytes. Nothing else changes.
abbrev pub StartsReading : List ℕ → Result Found DeskFault → Desk → Desk → Type 0
StartsReading name (Ok Here) before after =
    (get before.files name ≡ Some after.rest) × (after ≡ record before { rest = after.rest })
StartsReading name (Ok Absent) before after =
    (get before.files name ≡ None) × (after ≡ record before { rest = after.rest })
StartsReading name (Err fault) before after = after ≡ record before { rest = after.rest }

-- The bytes given are a prefix of the rest and taken from it; none are given only at the end.
abbrev pub Reads : List ℕ → Result ℕ DeskFault → Desk → Desk → Type 0
Reads into (Ok n) before after =
    (take n into ++ after.rest ≡ before.rest) × (n ≡ 0 → before.rest ≡ []) × (after ≡ record before { rest = after.rest })
Reads into (Err fault) before after = after ≡ before

-- The named file is being made, and is empty. A refused start changes nothing.
abbrev pub StartsWriting : List ℕ → Result Unit DeskFault → Desk → Desk → Type 0
StartsWriting name (Ok done) before after = after ≡ record before { made_name = name; made = [] }
StartsWriting name (Err fault) before after = after ≡ before

-- a prefix of the piece is appended to the file being made, or nothing
abbrev pub Writes : List ℕ → Result ℕ DeskFault → Desk → Desk → Type 0
Writes piece (Ok n) before after = after ≡ record before { made = before.made ++ take n piece }
Writes piece (Err fault) before after = after ≡ before

-- the made bytes are a file now, under their name
abbrev pub EndsWriting : Result Unit DeskFault → Desk → Desk → Type 0
EndsWriting (Ok done) before after = after ≡ record before { files = insert before.files before.made_name before.made }
EndsWriting (Err fault) before after = after ≡ before

-- what was said on a channel
abbrev pub said_on : Channel → Desk → List ℕ
said_on Out desk = desk.out
said_on OnErrors desk = desk.errors

-- the desk after these bytes were said on a channel
abbrev pub said : Channel → List ℕ → Desk → Desk
said Out bytes desk = record desk { out = desk.out ++ bytes }
said OnErrors bytes desk = record desk { errors = desk.errors ++ bytes }

-- a prefix of the piece is said, on that channel alone, or nothing
abbrev pub Says : Channel → List ℕ → Result ℕ DeskFault → Desk → Desk → Type 0
Says channel piece (Ok n) before after = after ≡ said channel (take n piece) before
Says channel piece (Err fault) before after = after ≡ before

-- how many bytes were given after a read
abbrev pub given_after : ℕ → Result ℕ DeskFault → ℕ
given_after given (Ok n) = min (given + n) last_count
given_after given (Err fault) = given
