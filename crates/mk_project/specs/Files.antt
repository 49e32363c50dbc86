-- The files of a project: their names, and what they may have.
use Rattle.std.specs.Prelude.{ℕ, List, ◌++◌, ℤ, neg_ℤ, codes}
use Rattle.mk_model.specs.declared.TheConstants.{ENTRY_MAX}
use Rattle.mk_model.specs.Tables.{Limits}
use Rattle.mk_files.specs.Bounds.{limits_of}
use Rattle.mk_files.specs.declared.bounds.Bounds.{Bounds}
use Rattle.mk_files.specs.declared.bounds.TheConstants.{MAX_ROWS, MAX_COLUMNS}
use Rattle.mk_project.specs.declared.file.TheConstants.{SMALL_MAX}
use Rattle.mk_project.specs.declared.file.InputFile.{InputFile}
use Rattle.mk_project.specs.declared.file.InputFile.TheVariants.{Lat, Mat, Grade}

-- the ending of a file's name
abbrev pub ending_of : InputFile → List ℕ
ending_of Lat = codes ".lat"
ending_of Mat = codes ".mat"
ending_of Grade = codes ".grade"

-- a file's name: the project, and the file's ending
abbrev pub name_of : InputFile → List ℕ → List ℕ
name_of file project = project ++ ending_of file

-- what a table of entries up to this one in absolute value may have
abbrev pub bounds_up_to : ℤ → Bounds
bounds_up_to most = record { rows = MAX_ROWS; columns = MAX_COLUMNS; least = neg_ℤ most; most = most }

-- what a file may have as a table
abbrev pub bounds_of : InputFile → Bounds
bounds_of Lat = bounds_up_to ENTRY_MAX
bounds_of Mat = bounds_up_to SMALL_MAX
bounds_of Grade = bounds_up_to SMALL_MAX

-- the same in the words of the grammar
abbrev pub limits_for : InputFile → Limits
limits_for file = limits_of (bounds_of file)
