-- What a folder in memory holds.
use Rattle.std.specs.Prelude.{ℕ, map, drop, String, string_bytes, Vec}
use Rattle.std.specs.declared.alloc.Global.{Global}
use Rattle.std.specs.BTreeMap.{BTreeMap}
use Rattle.std.specs.FinMap.{from_entries}
use Rattle.mk_desk.specs.Folders.{Files, Desk, State}
use Rattle.mk_desk.specs.declared.sure_folder.SureFolder.{SureFolder}

-- the files of a map, by the bytes of their names
unfoldable pub files_of : BTreeMap (String Global) (Vec ℕ Global) → Files
files_of files = from_entries (map (λ e. (string_bytes e.0, e.1.items)) files.entries)

-- what it holds
abbrev pub sure_desk : SureFolder → Desk
sure_desk folder = record {
  files = files_of folder.files;
  rest = drop folder.position folder.reading.items;
  made_name = string_bytes folder.made_name;
  made = folder.made.items;
  out = folder.out.items;
  errors = folder.errors.items;
}

-- It counts no fault.
abbrev pub sure_state : SureFolder → State
sure_state folder = record { making = folder.making; found = folder.found; given = folder.given; faults = 0 }
