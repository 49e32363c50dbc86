-- What a folder shows where a problem is found, or not, and where its answer is given.
use Rattle.std.proofs.Common.{◌≡◌, ◌+◌, Result, Ok, Err, IsErrOf, false, refl, ap, sym, subst, ◌∙◌, inl, inr}
use Rattle.mk_desk.specs.Folders.{Desk, State, OnlyFaultsRose}
use Rattle.mk_desk.specs.declared.folder.DeskFault.{DeskFault}
use Rattle.mk_desk.specs.declared.folder.DeskFault.TheVariants as desk
use Rattle.mk_project.specs.declared.file.TheConstants.{FILE_LIMIT}
use Rattle.mk_project.specs.declared.fault.InputFault.{InputFault}
use Rattle.mk_project.specs.declared.fault.InputFault.TheVariants.{FileSize}
use Rattle.mk_input.specs.Readings.{IsShown}
use Rattle.mk_input.specs.declared.fault.ReadFault.{ReadFault}
use Rattle.mk_input.specs.declared.fault.ReadFault.TheVariants as read
use Rattle.mk_input.specs.declared.problem.Problem.{Problem}
use Rattle.mk_solve.specs.Books.{Book}
use Rattle.mk_solve.specs.declared.solving.RunStop.{RunStop}
use Rattle.mk_solve.specs.declared.solving.RunStop.TheVariants as solve
use Rattle.mk_words.specs.declared.request.Request.{Request}
use Rattle.mk_words.specs.declared.request.Task.{Task}
use Rattle.mk_words.specs.declared.request.Task.TheVariants.{Project, Model}
use Rattle.mk_run.specs.Asked.{IsOfProject}
use Rattle.mk_run.specs.Runs.{HasCompleteBook, IsShownFor}
use Rattle.mk_run.specs.Stages.{Answers, FindsProblem, GivesState, HasBook, IsFoundFor, IsNotMaking, IsRunShown, IsRunShownFor, read_refused, stop_refused, write_refused}
use Rattle.mk_run.specs.declared.fault.RunFault.{RunFault}
use Rattle.mk_run.specs.declared.fault.RunFault.TheVariants as run
use Rattle.mk_run.specs.declared.status.Status.TheVariants.{Done}
use Rattle.mk_run.proofs.Refusals.{read_alone, rose_twice}

-- ---- whether a file is being made
-- none is, where a problem was looked for
pub found_idle : (task : Task) (before after : State) (result : Result Problem ReadFault) → before.making ≡ false → IsFoundFor task before after result → after.making ≡ false
found_idle (Project name) before after result idle found = ap (λ (s : State). s.making) found.0 ∙ idle
found_idle (Model sizes) before after result idle found = ap (λ (s : State). s.making) found.0 ∙ idle

-- none is, where the answer was given
pub given_idle : (task : Task) (before after : State) → before.making ≡ false → GivesState task before after (Ok tt) → after.making ≡ false
given_idle (Project name) before after idle given = given.1
given_idle (Model sizes) before after idle given = ap (λ (s : State). s.making) given ∙ idle

pub idle_after : (after : State) (result : Result Unit RunFault) → after.making ≡ false → IsNotMaking after result
idle_after after (Ok done) idle = idle
idle_after after (Err run.Memory) idle = tt
idle_after after (Err run.Failed) idle = tt
idle_after after (Err (run.Input fault)) idle = idle
idle_after after (Err run.Stopped) idle = idle

pub ungiven_idle : (after : State) (fault : DeskFault) → IsNotMaking after (Err (write_refused fault))
ungiven_idle after desk.Memory = tt
ungiven_idle after desk.Failed = tt

-- ---- what was shown
unmoved : (before after : State) → after ≡ before → OnlyFaultsRose before after
unmoved before after same = subst (λ (s : State). OnlyFaultsRose before s) (sym same) refl

-- a problem that was found, and a result that is no fault of the input
no_error : (T : Type 0) (x : T) (E : Type 0) (e : E) → IsErrOf (Ok x) e → ⊥
no_error T x E e h = cc

found_not_too_long : (after : State) (problem : Problem) → IsShown after (Ok problem) → after.given ≡ FILE_LIMIT + 1 → ⊥
found_not_too_long after problem shown many = elim (shown.too_long many) [
  | inl long ↦ no_error Problem problem ReadFault (read.Input (FileSize long.0 (FILE_LIMIT + 1))) long.1
  | inr wanting ↦ no_error Problem problem ReadFault read.Memory wanting
]

pub found_shown : (task : Task) (before after : State) (problem : Problem) (result : Result Unit RunFault) → IsFoundFor task before after (Ok problem) → ((fault : InputFault) → IsErrOf result (run.Input fault) → ⊥) →
    IsRunShownFor task before after result
found_shown (Project name) before after problem result found none = record {
  faulty = λ fault e. absurd (none fault e);
  too_long = λ many. absurd (found_not_too_long after problem found.1 many);
}
found_shown (Model sizes) before after problem result found none = unmoved before after found.0

pub given_shown : (task : Task) (before between after : State) (problem : Problem) (given : Result Unit DeskFault) (result : Result Unit RunFault) → IsFoundFor task before between (Ok problem) → GivesState task between after given →
    ((fault : InputFault) → IsErrOf result (run.Input fault) → ⊥) → IsRunShownFor task before after result
given_shown (Project name) before between after problem given result found state none = record {
  faulty = λ fault e. absurd (none fault e);
  too_long = λ many. absurd (found_not_too_long between problem found.1 (sym (ap (λ (s : State). s.given) state.0) ∙ many));
}
given_shown (Model sizes) before between after problem given result found state none = rose_twice before between after (unmoved before between found.0) state

-- a problem that wasn't found
read_shown : (after : State) (fault : ReadFault) → IsShown {T = Problem} after (Err fault) → IsRunShown {T = Unit {0}} after (Err (read_refused fault))
read_shown after read.Memory shown = record {
  faulty = λ input e. absurd (cc);
  too_long = λ many. inr refl;
}
read_shown after read.Failed shown = record {
  faulty = λ input e. absurd (cc);
  too_long = λ many. elim (shown.too_long many) [ inl long ↦ absurd (let e = long.1 in cc) | inr e ↦ absurd (cc) ];
}
read_shown after (read.Input fault) shown = record {
  faulty = λ input e. shown.faulty input (ap (λ f. Err (read.Input f)) (let same : fault ≡ input = cc in same));
  too_long = λ many. elim (shown.too_long many) [
    | inl long ↦ inl (long.0, ap (λ f. Err (run.Input f)) (let e = long.1 in let same : fault ≡ FileSize long.0 (FILE_LIMIT + 1) = cc in same))
    | inr e ↦ absurd (cc)
  ];
}

pub unfound_shown : (task : Task) (before after : State) (fault : ReadFault) → IsFoundFor task before after (Err fault) → IsRunShownFor task before after (Err (read_refused fault))
unfound_shown (Project name) before after fault found = read_shown after fault found.1
unfound_shown (Model sizes) before after fault found = unmoved before after found.0

pub stop_is_no_input : (fault : RunStop) (input : InputFault) → IsErrOf {T = Unit {0}} (Err (stop_refused fault)) (run.Input input) → ⊥
stop_is_no_input solve.Memory input e = cc
stop_is_no_input solve.Stopped input e = cc

pub write_is_no_input : (fault : DeskFault) (input : InputFault) → IsErrOf {T = Unit {0}} (Err (write_refused fault)) (run.Input input) → ⊥
write_is_no_input desk.Memory input e = cc
write_is_no_input desk.Failed input e = cc

-- a run that is done
pub done_shown : (task : Task) (book : Book) (before after : State) → HasCompleteBook task book → IsRunShownFor task before after (Ok tt) → IsShownFor task book.input before after Done
done_shown (Project name) book before after done shown = record {
  faulty = λ fault kept. absurd (let none = done.0.0 in cc);
  too_long = λ many. elim (shown.too_long many) [ inl long ↦ absurd (let e = long.1 in cc) | inr e ↦ absurd (cc) ];
}
done_shown (Model sizes) book before after done shown = shown

-- ---- what was said and left
pub finding_refused : (request : Request) (book : Book) (fault : ReadFault) (x y : Desk) → FindsProblem request.task (Err fault) x y → Answers request book (Err (read_refused fault)) x y
finding_refused request book read.Memory x y read = read_alone request book x y read
finding_refused request book read.Failed x y read = read_alone request book x y read
finding_refused request book (read.Input fault) x y read = read

-- a fault of the input is one of a project
pub input_of_project : (request : Request) (book : Book) (after : State) (fault : RunFault) → HasBook request book after (Err fault) → (input : InputFault) → fault ≡ run.Input input → IsOfProject request.task
input_of_project request book after fault h input e = (subst (λ (f : RunFault). HasBook request book after (Err f)) e h).0

pub no_input : (input : InputFault) → IsErrOf {T = Unit {0}} (Ok tt) (run.Input input) → ⊥
no_input input e = cc
