-- What a run is asked for: a lattice with its grading, by the files of a project or by the sizes of a made table.
use Rattle.std.specs.Prelude.{◌≡◌, ℕ, List, map, ℤ}
use Rattle.mk_model.specs.ChosenGradings.{IsGradingOf}
use Rattle.mk_model.specs.Lattices.{Lattice, ones}
use Rattle.mk_model.specs.Orders.{lead}
use Rattle.mk_model.specs.Tables.{Grid, lattice_of_table}
use Rattle.mk_model.specs.Vectors.{weight}
use Rattle.mk_desk.specs.Folders.{Files}
use Rattle.mk_gen.specs.Models.{cells, model_grid}
use Rattle.mk_gen.specs.Summaries.{summary_text}
use Rattle.mk_project.specs.declared.fault.InputFault.{InputFault}
use Rattle.mk_input.specs.Projects.{project_files, IsProblem, IsFaulty}
use Rattle.mk_words.specs.declared.request.Task.{Task}
use Rattle.mk_words.specs.declared.request.Task.TheVariants.{Project, Model}

-- a project is asked for, and no made table
abbrev pub IsOfProject : Task → Type 0
IsOfProject (Project name) = Unit {0}
IsOfProject (Model sizes) = ⊥

-- the table is the one that the sizes make, and the grading is all ones
abbrev pub IsModel : List ℕ → Grid → List ℤ → Type 0
IsModel sizes lat grading = (lat ≡ model_grid sizes) × (grading ≡ ones (cells sizes))

-- the lattice of a made table, with its grading
abbrev pub model_lattice : List ℕ → Lattice
model_lattice sizes = lattice_of_table (model_grid sizes) (ones (cells sizes))

-- the summary of a made table with these moves, each of the weight of its lead
abbrev pub model_summary : List ℕ → List (List ℤ) → List ℕ
model_summary sizes moves =
    summary_text sizes (model_grid sizes).rows (model_grid sizes).columns (map (λ m. weight (ones (cells sizes)) (lead m)) moves)

-- the table and the grading are what is asked for: those of the project's files, or the made ones
abbrev pub IsAsked : Task → Files → Grid → List ℤ → Type 0
IsAsked (Project name) files lat grading = IsProblem (project_files files name) lat grading
IsAsked (Model sizes) files lat grading = IsModel sizes lat grading

-- the project's files have this fault; a made table has none
abbrev pub HasInputFault : Task → Files → InputFault → Type 0
HasInputFault (Project name) files fault = IsFaulty (project_files files name) fault
HasInputFault (Model sizes) files fault = ⊥

-- so it is for the lattice that is asked for, with its grading
pub record ForLatticeOf (task : Task) (files : Files) (Fact : Lattice → Type 0) : Type 0 where
  pub lat : Grid
  pub grading : List ℤ
  pub asked : IsAsked task files lat grading
  pub positive : IsGradingOf lat grading
  pub fact : Fact (lattice_of_table lat grading)

-- where a made table is asked for, the table and the grading are that one
abbrev pub IsModelIfAsked : Task → Grid → List ℤ → Type 0
IsModelIfAsked (Project name) lat grading = Unit {0}
IsModelIfAsked (Model sizes) lat grading = IsModel sizes lat grading

-- so it is for the lattice of some table, with a grading; and of the made table, where that is asked for
pub record ForSomeLattice (task : Task) (Fact : Lattice → Type 0) : Type 0 where
  pub lat : Grid
  pub grading : List ℤ
  pub positive : IsGradingOf lat grading
  pub made : IsModelIfAsked task lat grading
  pub fact : Fact (lattice_of_table lat grading)
