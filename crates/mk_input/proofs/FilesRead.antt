-- The files of a project, read one after another.
use Rattle.std.proofs.Common.{◌≡◌, ◌⊎◌, ℕ, List, Option, Some, Result, Ok, Err, IsErrAnd, refl, ap, sym, subst, ◌∙◌, inl, inr}
use Rattle.std.specs.FinMap.{get}
use Rattle.mk_model.specs.Tables.{Grid, Limits}
use Rattle.mk_files.specs.Reading.{IsFaultOf}
use Rattle.mk_files.specs.declared.fault.TableFault.{TableFault}
use Rattle.mk_files.specs.declared.fault.TableFault.TheVariants.{Memory as TableMemory}
use Rattle.mk_desk.specs.Folders.{Files, Desk}
use Rattle.mk_desk.proofs.Loading.{the_error}
use Rattle.mk_grading.specs.Choices.{IsGradeFault}
use Rattle.mk_grading.specs.declared.fault.GradeFault.{GradeFault}
use Rattle.mk_grading.specs.declared.fault.GradeFault.TheVariants.{Memory as ChoiceMemory}
use Rattle.mk_project.specs.declared.file.InputFile.{InputFile}
use Rattle.mk_project.specs.declared.file.InputFile.TheVariants.{Lat, Mat, Grade}
use Rattle.mk_project.specs.declared.fault.InputFault.TheVariants.{Table, Grade as NoGrade}
use Rattle.mk_project.specs.Files.{name_of, limits_for}
use Rattle.mk_input.specs.Projects.{project_files, HasTable, MayHaveTable, HasTables}
use Rattle.mk_input.specs.Readings.{OnlyRead, ReadsFile, ReadsProject, table_refused, choice_refused}
use Rattle.mk_input.specs.declared.problem.Problem.{Problem}
use Rattle.mk_input.specs.declared.fault.ReadFault.{ReadFault}
use Rattle.mk_input.specs.declared.fault.ReadFault.TheVariants.{Input}

-- a table's fault that has a cause is one of the input
pub table_fault : (file : InputFile) (bytes : List ℕ) (limits : Limits) (fault : TableFault) → IsFaultOf bytes limits fault → table_refused file fault ≡ Input (Table file fault)
table_fault file bytes limits TableMemory cause = absurd cause
table_fault file bytes limits fault cause = refl

-- the files are as they were
files_kept : (x y : Desk) → OnlyRead x y → y.files ≡ x.files
files_kept x y only = ap (λ (d : Desk). d.files) only

only_read_then : (x y z : Desk) → OnlyRead x y → OnlyRead y z → OnlyRead x z
only_read_then x y z first then = then ∙ ap (λ (d : Desk). record d { rest = z.rest }) first

-- the tables of a lattice and of a matrix were read
abbrev pub ReadsTwo : List ℕ → Grid → Option Grid → Desk → Desk → Type 0
ReadsTwo project lat mat x z =
    HasTable (limits_for Lat) (get x.files (name_of Lat project)) lat × MayHaveTable (limits_for Mat) (get x.files (name_of Mat project)) mat × OnlyRead x z

-- all three were read
abbrev pub ReadsThree : List ℕ → Grid → Option Grid → Option Grid → Desk → Desk → Type 0
ReadsThree project lat mat grade x w = HasTables (project_files x.files project) lat mat grade × OnlyRead x w

pub two_read : (project : List ℕ) (lat : Grid) (mat : Option Grid) (x y z : Desk) → ReadsFile Lat project (Ok (Some lat)) x y
    → ReadsFile Mat project (Ok mat) y z → ReadsTwo project lat mat x z
two_read project lat mat x y z first then = (
  first.0,
  subst (λ (files : Files). MayHaveTable (limits_for Mat) (get files (name_of Mat project)) mat) (files_kept x y first.1) then.0,
  only_read_then x y z first.1 then.1,
)

pub three_read : (project : List ℕ) (lat : Grid) (mat grade : Option Grid) (x z w : Desk) → ReadsTwo project lat mat x z
    → ReadsFile Grade project (Ok grade) z w → ReadsThree project lat mat grade x w
three_read project lat mat grade x z w two then = (
  record {
    lattice = two.0;
    matrix = two.1;
    grade_table = subst (λ (files : Files). MayHaveTable (limits_for Grade) (get files (name_of Grade project)) grade) (files_kept x z two.2) then.0;
  },
  only_read_then x z w two.2 then.1,
)

-- a fault of the choice that has a cause is one of the input
choice_fault : (lat : Grid) (mat grade : Option Grid) (fault : GradeFault) → IsGradeFault lat mat grade fault → choice_refused fault ≡ Input (NoGrade fault)
choice_fault lat mat grade ChoiceMemory cause = absurd cause
choice_fault lat mat grade fault cause = refl

-- no grading is chosen for the tables that were read
pub none_chosen : (project : List ℕ) (lat : Grid) (mat grade : Option Grid) (fault : GradeFault) (result : Result Problem ReadFault)
    → IsErrAnd result (λ e. e ≡ choice_refused fault)
    → (fault ≡ ChoiceMemory) ⊎ IsGradeFault lat mat grade fault
    → (x w : Desk) → ReadsThree project lat mat grade x w → ReadsProject project result x w
none_chosen project lat mat grade fault result is cause x w three =
    subst (λ (r : Result Problem ReadFault). ReadsProject project r x w) (sym (the_error result (choice_refused fault) is))
    (elim cause [
      | inl none ↦ subst (λ (f : GradeFault). ReadsProject project (Err (choice_refused f)) x w) (sym none) three.1
      | inr found ↦ subst (λ (f : ReadFault). ReadsProject project (Err f) x w) (sym (choice_fault lat mat grade fault found)) ((lat, mat, grade, three.0, found), three.1)
    ])
