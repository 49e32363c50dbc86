-- A project's files have one reading: the lattice's table with its grading, or one fault.
use Rattle.std.proofs.Common.{◌≡◌, inl, inr, ℕ, ◌+◌, ◌<◌, ◌≤◌, List, length, Option, Some, None, Result, Ok, Err, IsSomeAnd, refl, ap, sym, subst, ◌∙◌, arith, ℤ}
use Rattle.mk_model.specs.Tables.{Grid, Limits, ReadsTable}
use Rattle.mk_model.proofs.TableFaultLaws.{one_table}
use Rattle.mk_files.specs.Reading.{IsFaultOf}
use Rattle.mk_files.specs.declared.fault.TableFault.{TableFault}
use Rattle.mk_files.specs.declared.fault.TableFault.TheVariants.{Memory as TableMemory}
use Rattle.mk_files.proofs.FaultsFound.{gives_fault}
use Rattle.mk_grading.specs.declared.fault.GradeFault.{GradeFault}
use Rattle.mk_grading.proofs.OneChoice.{IsChoice, only_choice}
use Rattle.mk_project.specs.declared.file.InputFile.{InputFile}
use Rattle.mk_project.specs.declared.file.InputFile.TheVariants.{Lat, Mat, Grade}
use Rattle.mk_project.specs.declared.fault.InputFault.{InputFault}
use Rattle.mk_project.specs.declared.fault.InputFault.TheVariants.{NoLattice, FileSize, Table, Grade as NoGrade}
use Rattle.mk_project.specs.Files.{limits_for}
use Rattle.mk_project.specs.declared.file.TheConstants.{FILE_LIMIT}
use Rattle.mk_input.specs.Projects.{ProjectFiles, HasTable, MayHaveTable, IsNoTable, IsProblem, IsFaulty}

-- ---- one text
no_fault_of : (bytes : List ℕ) (limits : Limits) (grid : Grid) (fault : TableFault) → ReadsTable bytes limits grid → IsFaultOf bytes limits fault → ⊥
no_fault_of bytes limits grid fault read is =
    elim (gives_fault bytes limits (Ok grid) read tt fault is) [ inl e ↦ cc | inr e ↦ cc ]

one_fault_of : (bytes : List ℕ) (limits : Limits) (fault other : TableFault) → IsFaultOf bytes limits fault → IsFaultOf bytes limits other → fault ≡ other
one_fault_of bytes limits fault other is so =
    elim (gives_fault bytes limits (Err fault) tt (inr is) other so) [
      | inl e ↦ cc
      | inr e ↦ let memory : fault ≡ TableMemory = cc in absurd (subst (IsFaultOf bytes limits) memory is)
    ]

-- ---- one file
-- a file is a table or not there, is too long, or has a fault as a table
data Outcome : Type 0 where
  Read : Option Grid → Outcome
  TooLong : Outcome
  NoTable : TableFault → Outcome

abbrev IsOutcome : Limits → Option (List ℕ) → Outcome → Type 0
IsOutcome limits file (Read grid) = MayHaveTable limits file grid
IsOutcome limits file TooLong = IsSomeAnd file (λ bytes. FILE_LIMIT < length bytes)
IsOutcome limits file (NoTable fault) = IsNoTable limits file fault

-- the table of a file that is there
its_table : (limits : Limits) (bytes : List ℕ) (grid : Grid) → HasTable limits (Some bytes) grid → (length bytes ≤ FILE_LIMIT) × ReadsTable bytes limits grid
its_table limits bytes grid h =
    let same : h.bytes ≡ bytes = let there = h.there in cc in
    (subst (λ (b : List ℕ). length b ≤ FILE_LIMIT) same h.short, subst (λ (b : List ℕ). ReadsTable b limits grid) same h.read)

one_outcome : (limits : Limits) (file : Option (List ℕ)) (a b : Outcome) → IsOutcome limits file a → IsOutcome limits file b → a ≡ b
one_outcome limits None (Read None) (Read None) h k = refl
one_outcome limits None (Read (Some grid)) b h k = let there = h.there in absurd (cc)
one_outcome limits None a (Read (Some grid)) h k = let there = k.there in absurd (cc)
one_outcome limits None TooLong b h k = absurd h
one_outcome limits None (NoTable fault) b h k = absurd h
one_outcome limits None a TooLong h k = absurd k
one_outcome limits None a (NoTable fault) h k = absurd k
one_outcome limits (Some bytes) (Read None) b h k = absurd (cc)
one_outcome limits (Some bytes) a (Read None) h k = absurd (cc)
one_outcome limits (Some bytes) (Read (Some grid)) (Read (Some other)) h k =
    ap (λ g. Read (Some g)) (one_table bytes limits grid other (its_table limits bytes grid h).1 (its_table limits bytes other k).1)
one_outcome limits (Some bytes) (Read (Some grid)) TooLong h k = let short = (its_table limits bytes grid h).0 in absurd (omega arith)
one_outcome limits (Some bytes) (Read (Some grid)) (NoTable fault) h k = absurd (no_fault_of bytes limits grid fault (its_table limits bytes grid h).1 k.1)
one_outcome limits (Some bytes) TooLong (Read (Some grid)) h k = let short = (its_table limits bytes grid k).0 in absurd (omega arith)
one_outcome limits (Some bytes) TooLong TooLong h k = refl
one_outcome limits (Some bytes) TooLong (NoTable fault) h k = let short = k.0 in absurd (omega arith)
one_outcome limits (Some bytes) (NoTable fault) (Read (Some grid)) h k = absurd (no_fault_of bytes limits grid fault (its_table limits bytes grid k).1 h.1)
one_outcome limits (Some bytes) (NoTable fault) TooLong h k = let short = h.0 in absurd (omega arith)
one_outcome limits (Some bytes) (NoTable fault) (NoTable other) h k = ap NoTable (one_fault_of bytes limits fault other h.1 k.1)

-- ---- one file after another
-- a reading: a lattice and its grading, or the fault
abbrev Reading : Type 0
Reading = Result (Grid × List ℤ) InputFault

-- the fault of the file, or what is read after it
abbrev After : InputFile → (Option Grid → Reading → Type 0) → Outcome → Reading → Type 0
After file Next (Read grid) r = Next grid r
After file Next TooLong r = r ≡ Err (FileSize file (FILE_LIMIT + 1))
After file Next (NoTable fault) r = r ≡ Err (Table file fault)

abbrev Reads : InputFile → Option (List ℕ) → (Option Grid → Reading → Type 0) → Reading → Type 0
Reads file bytes Next r = (o : Outcome) × IsOutcome (limits_for file) bytes o × After file Next o r

one_after : (file : InputFile) (Next : Option Grid → Reading → Type 0) → ((grid : Option Grid) (r s : Reading) → Next grid r → Next grid s → r ≡ s)
    → (o : Outcome) (r s : Reading) → After file Next o r → After file Next o s → r ≡ s
one_after file Next one (Read grid) r s h k = one grid r s h k
one_after file Next one TooLong r s h k = h ∙ sym k
one_after file Next one (NoTable fault) r s h k = h ∙ sym k

one_read : (file : InputFile) (bytes : Option (List ℕ)) (Next : Option Grid → Reading → Type 0) → ((grid : Option Grid) (r s : Reading) → Next grid r → Next grid s → r ≡ s)
    → (r s : Reading) → Reads file bytes Next r → Reads file bytes Next s → r ≡ s
one_read file bytes Next one r s h k =
    one_after file Next one k.0 r s (subst (λ (o : Outcome). After file Next o r) (one_outcome (limits_for file) bytes h.0 k.0 h.1 k.1) h.2) k.2

-- the choice for the three tables
abbrev chosen : Grid → Result (List ℤ) GradeFault → Reading
chosen lat (Ok w) = Ok (lat, w)
chosen lat (Err fault) = Err (NoGrade fault)

abbrev Chooses : Grid → Option Grid → Option Grid → Reading → Type 0
Chooses lat mat grade r = (choice : Result (List ℤ) GradeFault) × IsChoice lat mat grade choice × (r ≡ chosen lat choice)

one_chosen : (lat : Grid) (mat grade : Option Grid) (r s : Reading) → Chooses lat mat grade r → Chooses lat mat grade s → r ≡ s
one_chosen lat mat grade r s h k = h.2 ∙ ap (chosen lat) (only_choice lat mat grade h.0 k.0 h.1 k.1) ∙ sym k.2

module _ (files : ProjectFiles) where
  abbrev ReadsGrade : Grid → Option Grid → Reading → Type 0
  ReadsGrade lat mat = Reads Grade files.grade (Chooses lat mat)

  abbrev ReadsMatrix : Option Grid → Reading → Type 0
  ReadsMatrix None r = r ≡ Err NoLattice
  ReadsMatrix (Some lat) r = Reads Mat files.mat (ReadsGrade lat) r

  one_grade : (lat : Grid) (mat : Option Grid) (r s : Reading) → ReadsGrade lat mat r → ReadsGrade lat mat s → r ≡ s
  one_grade lat mat = one_read Grade files.grade (Chooses lat mat) (one_chosen lat mat)

  one_matrix : (lat : Option Grid) (r s : Reading) → ReadsMatrix lat r → ReadsMatrix lat s → r ≡ s
  one_matrix None r s h k = h ∙ sym k
  one_matrix (Some lat) r s h k = one_read Mat files.mat (ReadsGrade lat) (one_grade lat) r s h k

  -- the problem, or the fault
  abbrev IsReading : Reading → Type 0
  IsReading (Ok problem) = IsProblem files problem.0 problem.1
  IsReading (Err fault) = IsFaulty files fault

  too_long : (file : InputFile) (read : ℕ) → read ≡ FILE_LIMIT + 1 → ◌≡◌ {A = Reading} (Err (FileSize file read)) (Err (FileSize file (FILE_LIMIT + 1)))
  too_long file read e = ap (λ n. Err (FileSize file n)) e

  in_turn : (r : Reading) → IsReading r → Reads Lat files.lat ReadsMatrix r
  in_turn (Ok problem) h = (
    Read (Some problem.0),
    h.tables.lattice,
    (
      Read h.mat,
      h.tables.matrix,
      (
        Read h.grade,
        h.tables.grade_table,
        (Ok problem.1, h.chosen, refl),
      ),
    ),
  )
  in_turn (Err NoLattice) h = (Read None, h, refl)
  in_turn (Err (FileSize Lat read)) h = (TooLong, h.0, too_long Lat read h.1)
  in_turn (Err (FileSize Mat read)) h = (Read (Some h.0.0), h.0.1, (TooLong, h.1.0, too_long Mat read h.1.1))
  in_turn (Err (FileSize Grade read)) h =
      (Read (Some h.0.0.0), h.0.0.1, (Read h.0.1.0, h.0.1.1, (TooLong, h.1.0, too_long Grade read h.1.1)))
  in_turn (Err (Table Lat fault)) h = (NoTable fault, h, refl)
  in_turn (Err (Table Mat fault)) h = (Read (Some h.0.0), h.0.1, (NoTable fault, h.1, refl))
  in_turn (Err (Table Grade fault)) h = (Read (Some h.0.0.0), h.0.0.1, (Read h.0.1.0, h.0.1.1, (NoTable fault, h.1, refl)))
  in_turn (Err (NoGrade fault)) h =
      (Read (Some h.0), h.3.lattice, (Read h.1, h.3.matrix, (Read h.2, h.3.grade_table, (Err fault, h.4, refl))))

  one_reading : (r s : Reading) → IsReading r → IsReading s → r ≡ s
  one_reading r s h k = one_read Lat files.lat ReadsMatrix one_matrix r s (in_turn r h) (in_turn s k)

  -- ---- the laws
  pub one_fault : (fault other : InputFault) → IsFaulty files fault → IsFaulty files other → fault ≡ other
  one_fault fault other h k = let same = one_reading (Err fault) (Err other) h k in cc

  pub not_both : (lat : Grid) (w : List ℤ) (fault : InputFault) → IsProblem files lat w → ¬ (IsFaulty files fault)
  not_both lat w fault h k = let same = one_reading (Ok (lat, w)) (Err fault) h k in cc

  pub one_problem : (lat other : Grid) (w u : List ℤ) → IsProblem files lat w → IsProblem files other u → (lat ≡ other) × (w ≡ u)
  one_problem lat other w u h k =
      let same = one_reading (Ok (lat, w)) (Ok (other, u)) h k in
      let pair : ◌≡◌ {A = Grid × List ℤ} (lat, w) (other, u) = cc in
      (ap (λ (p : Grid × List ℤ). p.0) pair, ap (λ (p : Grid × List ℤ). p.1) pair)
