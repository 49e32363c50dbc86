-- Places in a text.
use Rattle.std.specs.Prelude.{ℕ, List}
use Rattle.mk_model.specs.TableFaults.{line_of}
use Rattle.mk_files.specs.declared.fault.Place.{Place}

abbrev pub place_at : List ℕ → ℕ → Place
place_at bytes byte = record { line = line_of bytes byte; byte = byte }
