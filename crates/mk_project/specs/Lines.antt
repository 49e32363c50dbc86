-- The one line on the error channel for each fault of the input. Rows, columns and lines of a file are said counting from 1.
use Rattle.std.specs.Prelude.{ℕ, suc, List, [], ◌++◌, codes, decimal}
use Rattle.std.specs.Fmt.{signed_decimal}
use Rattle.mk_files.specs.declared.fault.Place.{Place}
use Rattle.mk_files.specs.declared.fault.TableFault.{TableFault}
use Rattle.mk_files.specs.declared.fault.TableFault.TheVariants as table
use Rattle.mk_grading.specs.declared.fault.GradeFault.{GradeFault}
use Rattle.mk_grading.specs.declared.fault.GradeFault.TheVariants as grade
use Rattle.mk_files.specs.declared.bounds.TheConstants.{MAX_ROWS, MAX_COLUMNS}
use Rattle.mk_project.specs.declared.file.TheConstants.{FILE_LIMIT}
use Rattle.mk_project.specs.declared.fault.InputFault.{InputFault}
use Rattle.mk_project.specs.declared.fault.InputFault.TheVariants.{NoLattice, FileSize, Table, Grade as NoGrade}
use Rattle.mk_project.specs.Files.{ending_of}

-- where a table is at fault
abbrev pub place_text : Place → List ℕ
place_text place = codes ": line " ++ decimal place.line ++ codes ", byte " ++ decimal place.byte

-- what is wrong with a table, behind its file's name. Want of memory has no such line.
abbrev pub table_complaint : TableFault → List ℕ
table_complaint table.Memory = []
table_complaint (table.NoHeader place found) = place_text place ++ codes ": " ++ decimal found ++ codes " of 2 header numbers\n"
table_complaint (table.BadNumber place) = place_text place ++ codes ": not a number\n"
table_complaint (table.Rows place) = place_text place ++ codes ": more than " ++ decimal MAX_ROWS ++ codes " rows\n"
table_complaint (table.Columns place) = place_text place ++ codes ": more than " ++ decimal MAX_COLUMNS ++ codes " columns\n"
table_complaint (table.EntryRange place) = place_text place ++ codes ": number out of range\n"
table_complaint (table.Missing place found wanted) = place_text place ++ codes ": " ++ decimal found ++ codes " of " ++ decimal wanted ++ codes " entries\n"
table_complaint (table.Trailing place) = place_text place ++ codes ": text after the last entry\n"

-- why a project has no grading, behind the project's name. Want of memory has no such line.
abbrev pub grade_complaint : List ℕ → GradeFault → List ℕ
grade_complaint project grade.Memory = []
grade_complaint project (grade.MatColumns found wanted) =
    codes ".mat: " ++ decimal found ++ codes " columns, " ++ project ++ codes ".lat has " ++ decimal wanted ++ codes "\n"
grade_complaint project (grade.MatMismatch mat_row lat_row value) =
    codes ".mat: row " ++ decimal (suc mat_row) ++ codes " times " ++ project ++ codes ".lat row " ++ decimal (suc lat_row) ++ codes " is "
    ++ signed_decimal value ++ codes "\n"
grade_complaint project (grade.GradeShape rows columns wanted) =
    codes ".grade: " ++ decimal rows ++ codes " rows and " ++ decimal columns ++ codes " columns, 1 and " ++ decimal wanted ++ codes " wanted\n"
grade_complaint project (grade.GradeNotPositive column value) =
    codes ".grade: column " ++ decimal (suc column) ++ codes " is " ++ signed_decimal value ++ codes "\n"
grade_complaint project (grade.GradeMismatch lat_row value) =
    codes ".grade: product with " ++ project ++ codes ".lat row " ++ decimal (suc lat_row) ++ codes " is " ++ signed_decimal value ++ codes "\n"
grade_complaint project grade.NoGrading = codes ": no positive grading found\n"

-- what a line says behind the project's name
abbrev pub complaint : List ℕ → InputFault → List ℕ
complaint project NoLattice = codes ".lat: not there\n"
complaint project (FileSize file read) = ending_of file ++ codes ": more than " ++ decimal FILE_LIMIT ++ codes " bytes\n"
complaint project (Table file fault) = ending_of file ++ table_complaint fault
complaint project (NoGrade fault) = grade_complaint project fault

-- the line of a program for a fault of a project's input
abbrev pub input_line : List ℕ → List ℕ → InputFault → List ℕ
input_line program project fault = program ++ codes ": " ++ project ++ complaint project fault
