-- What is decided of a run by what is asked for, by how it ends.
use Rattle.std.proofs.Common.{◌≡◌, ◌≤◌, List, length, Some, ap, refl, sym, subst, ◌∙◌, inl, inr, ℤ}
use Rattle.mk_model.specs.Lattices.{nonzero_rows}
use Rattle.mk_model.specs.Tables.{Grid, rows_of, lattice_of_table}
use Rattle.mk_model.proofs.OneRowStops.{no_stop}
use Rattle.mk_desk.specs.Folders.{Desk, Files, State, Rose}
use Rattle.mk_project.specs.declared.fault.InputFault.{InputFault}
use Rattle.mk_input.specs.Projects.{project_files}
use Rattle.mk_input.proofs.OneReading.{one_fault, not_both, one_problem}
use Rattle.mk_solve.specs.Books.{Book, book_as, stop_as}
use Rattle.mk_words.specs.declared.request.Request.{Request}
use Rattle.mk_words.specs.declared.request.Task.{Task}
use Rattle.mk_words.specs.declared.request.Task.TheVariants.{Project, Model}
use Rattle.mk_run.specs.Asked.{IsAsked, HasInputFault}
use Rattle.mk_run.specs.Runs.{HasStopOf, HasCauseOf, BooksProblem, IsStopped, Ends, IsDecided}
use Rattle.mk_run.specs.declared.status.Status.{Status}
use Rattle.mk_run.specs.declared.status.Status.TheVariants.{Done, Usage, Input, Folder, Overflow, Budget, Memory, Full}

-- what is asked for is one lattice, or has one fault
same_fault : (task : Task) (files : Files) (fault other : InputFault) → HasInputFault task files fault → HasInputFault task files other → fault ≡ other
same_fault (Project name) files fault other h k = one_fault (project_files files name) fault other h k
same_fault (Model sizes) files fault other h k = absurd h

no_fault_asked : (task : Task) (files : Files) (lat : Grid) (w : List ℤ) (fault : InputFault) → IsAsked task files lat w → HasInputFault task files fault → ⊥
no_fault_asked (Project name) files lat w fault h k = not_both (project_files files name) lat w fault h k
no_fault_asked (Model sizes) files lat w fault h k = k

same_table : (task : Task) (files : Files) (lat other : Grid) (w v : List ℤ) → IsAsked task files lat w → IsAsked task files other v → lat ≡ other
same_table (Project name) files lat other w v h k = (one_problem (project_files files name) lat other w v h k).0
same_table (Model sizes) files lat other w v h k = h.0 ∙ sym k.0

module _ (request : Request) (book : Book) (before after : State) where
  abbrev rose : Type 0
  rose = Rose before.faults after.faults

  abbrev Decided : Status → Desk → Desk → Type 0
  Decided status x z = IsDecided request book rose status x z

  stopped_decided : (status : Status) → HasStopOf request status book → (x z : Desk) → IsStopped request book status rose x z → Decided status x z
  stopped_decided status stop x z h = record {
    faulty = λ fault has. absurd (no_fault_asked request.task x.files h.cause.lat h.cause.grading fault h.cause.asked has);
    solvable = λ lat w asked. inl (inr stop);
    one_row = λ lat w asked few.
        let same = same_table request.task x.files lat h.cause.lat w h.cause.grading asked h.cause.asked in
        absurd (no_stop (lattice_of_table h.cause.lat h.cause.grading) h.cause.positive (subst (λ (g : Grid). length (nonzero_rows (rows_of g)) ≤ 1) same few)
        request.budget (book_as book) (stop_as h.stop) h.cause.fact.cause);
  }

  pub done_decided : (x z : Desk) → BooksProblem request.task x.files book → Decided Done x z
  done_decided x z h = record {
    faulty = λ fault has. absurd (no_fault_asked request.task x.files h.lat h.grading fault h.asked has);
    solvable = λ lat w asked. inl (inl refl);
    one_row = λ lat w asked few. inl refl;
  }

  pub decided : (status : Status) → HasCauseOf request book before after status → (x z : Desk) → Ends request book rose status x z → Decided status x z
  decided Done cause x z h = done_decided x z h.1
  decided Usage cause x z h = absurd h
  decided Input cause x z h = record {
    faulty = λ fault has. inl (refl, h.kept ∙ ap Some (same_fault request.task x.files h.fault fault h.faulty has));
    solvable = λ lat w asked. absurd (no_fault_asked request.task x.files lat w h.fault asked h.faulty);
    one_row = λ lat w asked few. absurd (no_fault_asked request.task x.files lat w h.fault asked h.faulty);
  }
  decided Folder cause x z h = record {
    faulty = λ fault has. inr (inl cause.1);
    solvable = λ lat w asked. inr (inl cause.1);
    one_row = λ lat w asked few. inr (inl cause.1);
  }
  decided Overflow cause x z h = stopped_decided Overflow cause.0 x z h
  decided Budget cause x z h = stopped_decided Budget cause.0 x z h
  decided Full cause x z h = stopped_decided Full cause.0 x z h
  decided Memory cause x z h = record {
    faulty = λ fault has. inr (inr refl);
    solvable = λ lat w asked. inr (inr refl);
    one_row = λ lat w asked few. inr (inr refl);
  }

-- where memory ran out nothing is decided
pub unread_decided : (request : Request) (book : Book) (risen : Type 0) (status : Status) → status ≡ Memory → (x y : Desk) → IsDecided request book risen status x y
unread_decided request book risen status memory x y = record {
  faulty = λ fault has. inr (inr memory);
  solvable = λ lat w asked. inr (inr memory);
  one_row = λ lat w asked few. inr (inr memory);
}
