-- What a project's files are: the lattice's table and the grading that is chosen for it, or what is wrong first.
use Rattle.std.specs.Prelude.{◌≡◌, ℕ, ◌+◌, ◌<◌, ◌≤◌, List, length, Option, Some, None, IsSomeAnd, ℤ}
use Rattle.std.specs.FinMap.{get}
use Rattle.mk_model.specs.ChosenGradings.{IsGradingOf, IsGradeOf}
use Rattle.mk_model.specs.Tables.{Grid, Limits, ReadsTable}
use Rattle.mk_files.specs.Reading.{IsFaultOf}
use Rattle.mk_files.specs.declared.fault.TableFault.{TableFault}
use Rattle.mk_desk.specs.Folders.{Files}
use Rattle.mk_grading.specs.Choices.{IsGradeFault}
use Rattle.mk_project.specs.Files.{name_of, limits_for}
use Rattle.mk_project.specs.declared.file.TheConstants.{FILE_LIMIT}
use Rattle.mk_project.specs.declared.file.InputFile.{InputFile}
use Rattle.mk_project.specs.declared.file.InputFile.TheVariants.{Lat, Mat, Grade}
use Rattle.mk_project.specs.declared.fault.InputFault.{InputFault}
use Rattle.mk_project.specs.declared.fault.InputFault.TheVariants.{NoLattice, FileSize, Table, Grade as NoGrade}

-- the bytes of a project's files, where they are there
pub record ProjectFiles : Type 0 where
  pub lat : Option (List ℕ)
  pub mat : Option (List ℕ)
  pub grade : Option (List ℕ)

abbrev pub project_files : Files → List ℕ → ProjectFiles
project_files files project = record { lat = get files (name_of Lat project); mat = get files (name_of Mat project); grade = get files (name_of Grade project) }

-- the one of them that is this file
abbrev pub file_of : InputFile → ProjectFiles → Option (List ℕ)
file_of Lat files = files.lat
file_of Mat files = files.mat
file_of Grade files = files.grade

-- the file is there, is no longer than the limit, and is this table, to its end
pub record HasTable (limits : Limits) (file : Option (List ℕ)) (grid : Grid) : Type 0 where
  pub bytes : List ℕ
  pub there : file ≡ Some bytes
  pub short : length bytes ≤ FILE_LIMIT
  pub read : ReadsTable bytes limits grid

-- the file is not there, or is this table
abbrev pub MayHaveTable : Limits → Option (List ℕ) → Option Grid → Type 0
MayHaveTable limits file None = file ≡ None
MayHaveTable limits file (Some grid) = HasTable limits file grid

-- the tables of a project's files
pub record HasTables (files : ProjectFiles) (lat : Grid) (mat grade : Option Grid) : Type 0 where
  pub lattice : HasTable (limits_for Lat) files.lat lat
  pub matrix : MayHaveTable (limits_for Mat) files.mat mat
  pub grade_table : MayHaveTable (limits_for Grade) files.grade grade

-- The files are the tables of a lattice, and of a matrix and a grade where they are there; the grading is the one that is chosen
-- for them.
pub record IsProblem (files : ProjectFiles) (lat : Grid) (grading : List ℤ) : Type 0 where
  pub mat : Option Grid
  pub grade : Option Grid
  pub tables : HasTables files lat mat grade
  pub chosen : IsGradeOf lat mat grade grading
  pub positive : IsGradingOf lat grading

-- the file is there and longer than the limit, of which so much is read
abbrev pub IsTooLong : Option (List ℕ) → ℕ → Type 0
IsTooLong file read = IsSomeAnd file (λ bytes. FILE_LIMIT < length bytes) × (read ≡ FILE_LIMIT + 1)

-- the file is there, is no longer than the limit, and has this fault as a table
abbrev pub IsNoTable : Limits → Option (List ℕ) → TableFault → Type 0
IsNoTable limits file fault = IsSomeAnd file (λ bytes. (length bytes ≤ FILE_LIMIT) × IsFaultOf bytes limits fault)

-- the fault is one of this file, which is there and too long or no table
abbrev pub IsFileFault : InputFile → Option (List ℕ) → InputFault → Type 0
IsFileFault file bytes (FileSize named read) = (named ≡ file) × IsTooLong bytes read
IsFileFault file bytes (Table named fault) = (named ≡ file) × IsNoTable (limits_for file) bytes fault
IsFileFault file bytes NoLattice = ⊥
IsFileFault file bytes (NoGrade fault) = ⊥

-- the lattice file is a table; the matrix file is one too, or not there
abbrev pub IsLatticeRead : ProjectFiles → Type 0
IsLatticeRead files = (lat : Grid) × HasTable (limits_for Lat) files.lat lat

abbrev pub IsMatrixRead : ProjectFiles → Type 0
IsMatrixRead files = IsLatticeRead files × ((mat : Option Grid) × MayHaveTable (limits_for Mat) files.mat mat)

-- The cause of each fault of the input: the files are looked at one after another, and then the grading is chosen.
abbrev pub IsFaulty : ProjectFiles → InputFault → Type 0
IsFaulty files NoLattice = files.lat ≡ None
IsFaulty files (FileSize Lat read) = IsTooLong files.lat read
IsFaulty files (FileSize Mat read) = IsLatticeRead files × IsTooLong files.mat read
IsFaulty files (FileSize Grade read) = IsMatrixRead files × IsTooLong files.grade read
IsFaulty files (Table Lat fault) = IsNoTable (limits_for Lat) files.lat fault
IsFaulty files (Table Mat fault) = IsLatticeRead files × IsNoTable (limits_for Mat) files.mat fault
IsFaulty files (Table Grade fault) = IsMatrixRead files × IsNoTable (limits_for Grade) files.grade fault
IsFaulty files (NoGrade fault) = (lat : Grid) × (mat : Option Grid) × (grade : Option Grid) × HasTables files lat mat grade × IsGradeFault lat mat grade fault
