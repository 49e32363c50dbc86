-- What the book has where a problem is found, solved and its answer given, or not.
use Rattle.std.proofs.Common.{◌≡◌, ◌++◌, ℤ, List, ℕ, take, Option, Result, Ok, Err, ap, refl, inl, inr, sym, subst, ◌∙◌}
use Rattle.mk_model.specs.Bases.{IsMinimalMarkovBasis}
use Rattle.mk_model.specs.ChosenGradings.{IsGradingOf}
use Rattle.mk_model.specs.Lattices.{Lattice}
use Rattle.mk_model.specs.Tables.{Grid, lattice_of_table}
use Rattle.mk_model.specs.Texts.{move_text}
use Rattle.mk_move.specs.MoveLists.{MoveListView, vectors_of}
use Rattle.std.specs.FinMap.{insert}
use Rattle.mk_desk.specs.Folders.{Desk, State}
use Rattle.mk_desk.specs.declared.folder.DeskFault.{DeskFault}
use Rattle.mk_desk.specs.declared.folder.DeskFault.TheVariants as desk
use Rattle.mk_input.specs.Readings.{OnlyRead}
use Rattle.mk_input.specs.declared.problem.Problem.{Problem}
use Rattle.mk_input.specs.declared.fault.ReadFault.{ReadFault}
use Rattle.mk_input.specs.declared.fault.ReadFault.TheVariants as read
use Rattle.mk_solve.specs.Books.{Book, empty_book}
use Rattle.mk_solve.specs.Solutions.{BookCompletes, Solves, StopsByBudget}
use Rattle.mk_solve.specs.declared.solving.RunStop.{RunStop}
use Rattle.mk_solve.specs.declared.solving.RunStop.TheVariants as solve
use Rattle.mk_words.specs.declared.request.Request.{Request}
use Rattle.mk_words.specs.declared.request.Task.{Task}
use Rattle.mk_words.specs.declared.request.Task.TheVariants.{Project, Model}
use Rattle.mk_writer.specs.Writing.{text_of}
use Rattle.mk_run.specs.Asked.{IsModelIfAsked}
use Rattle.mk_run.specs.Runs.{mar_name, HasCompleteBook, LeavesAnswer, GivesMarkovBasis}
use Rattle.mk_run.specs.Stages.{Answers, FindsProblem, GivesAnswer, HasBook, IsFoundFor, LeavesBegun, IsStoppedByBudget, read_refused, stop_refused, summary_of, write_refused}
use Rattle.mk_run.specs.declared.fault.RunFault.{RunFault}
use Rattle.mk_run.proofs.Models.{model_same, summary_same}
use Rattle.mk_run.proofs.Refusals.{begun_of_done, read_alone}

-- a lattice that is solved leaves the book done
pub solved_is_done : (request : Request) (lat : Grid) (w : List ℤ) (list : MoveListView) (book : Book) → IsGradingOf lat w → IsModelIfAsked request.task lat w →
    Solves (lattice_of_table lat w) request.budget request.upto (Ok list) book → HasCompleteBook request.task book
solved_is_done request lat w list book positive made h =
    ((h.input, h.ends.0), record { lat = lat; grading = w; positive = positive; made = made; fact = record { bases = h.bases; complete = h.ends.1.done } })

-- a problem that isn't found leaves it empty
unfound : (request : Request) (task : Task) (fault : ReadFault) (book : Book) (before after : State) → request.task ≡ task → book ≡ empty_book → IsFoundFor task before after (Err fault) → HasBook request book after (Err (read_refused fault))
unfound request (Project name) read.Memory book before after e none found = inl none
unfound request (Project name) read.Failed book before after e none found = inl (rw e tt, none, found.1.failed refl)
unfound request (Project name) (read.Input fault) book before after e none found = (rw e tt, none)
unfound request (Model sizes) read.Memory book before after e none found = inl none
unfound request (Model sizes) read.Failed book before after e none found = absurd (let same = found.1 read.Failed refl in cc)
unfound request (Model sizes) (read.Input fault) book before after e none found = absurd (let same = found.1 (read.Input fault) refl in cc)

pub unfound_book : (request : Request) (fault : ReadFault) (book : Book) (before after : State) → book ≡ empty_book → IsFoundFor request.task before after (Err fault) → HasBook request book after (Err (read_refused fault))
unfound_book request fault book before after none found = unfound request request.task fault book before after refl none found

-- a lattice that isn't solved, and the stop
pub unsolved_book : (request : Request) (lat : Grid) (w : List ℤ) (fault : RunStop) (book : Book) (after : State) → IsGradingOf lat w → IsModelIfAsked request.task lat w →
    Solves (lattice_of_table lat w) request.budget request.upto (Err fault) book → HasBook request book after (Err (stop_refused fault))
unsolved_book request lat w solve.Memory book after positive made h =
    inr ((h.input, h.ends.0), record { lat = lat; grading = w; positive = positive; made = made; fact = record { bases = h.bases; under_way = h.ends.1 } })
unsolved_book request lat w solve.Stopped book after positive made h =
    (h.ends.0, (h.input, h.ends.1, record { lat = lat; grading = w; positive = positive; made = made; fact = record { bases = h.bases; cause = h.ends.2 } }))

-- an answer that isn't given
pub ungiven_book : (request : Request) (fault : DeskFault) (book : Book) (after : State) → HasCompleteBook request.task book → HasBook request book after (Err (write_refused fault))
ungiven_book request desk.Memory book after done = inr (begun_of_done request.task book done)
ungiven_book request desk.Failed book after done = inr done

-- the budget, where a lattice is solved, and where it isn't
pub solved_stops : (budget : ℕ) {list : MoveListView} (book : Book) (result : Result Unit RunFault) → StopsByBudget budget (Ok list) book → IsStoppedByBudget budget book result
solved_stops budget book result stops = λ used other. absurd (let e = (stops used other).0 in cc)

pub unsolved_stops : (budget : ℕ) (fault : RunStop) (book : Book) → StopsByBudget budget (Err fault) book → IsStoppedByBudget budget book (Err (stop_refused fault))
unsolved_stops budget solve.Memory book stops = λ used other. absurd (let e = (stops used other).0 in cc)
unsolved_stops budget solve.Stopped book stops = λ used other. (refl, (stops used other).1)

-- the lattice was found, and solving it stopped, or memory ran out
pub solving_refused : (request : Request) (problem : Problem) (book : Book) (fault : RunStop) → IsGradingOf problem.lat problem.grading →
    Solves (lattice_of_table problem.lat problem.grading) request.budget request.upto (Err fault) book →
    (x y : Desk) → FindsProblem request.task (Ok problem) x y → Answers request book (Err (stop_refused fault)) x y
solving_refused request problem book solve.Memory positive h x y r = read_alone request book x y r.1
solving_refused request problem book solve.Stopped positive h x y r =
    ((h.ends.0, h.ends.1, record { lat = problem.lat; grading = problem.grading; asked = r.0; positive = positive; fact = record { bases = h.bases; cause = h.ends.2 } }), r.1)

-- a text that was said on the out channel after a file was read
said_after_read : (text : List ℕ) (x y z : Desk) → OnlyRead x y → z ≡ record y { out = y.out ++ text } → z ≡ record x { rest = z.rest; out = x.out ++ text }
said_after_read text x y z read q =
    let said : z ≡ record x { rest = y.rest; out = x.out ++ text } = q ∙ ap (λ (d : Desk). record d { out = d.out ++ text }) read in
    said ∙ ap (λ rest. record x { rest = rest; out = x.out ++ text }) (sym (ap (λ (d : Desk). d.rest) said))

-- the lattice was found and solved, and its answer is given, or not
module _ (upto : Option ℕ) (budget : ℕ) (problem : Problem) (list : MoveListView) (book : Book) (h : Solves (lattice_of_table problem.lat problem.grading) budget upto (Ok list) book) where
  text_is : text_of list ≡ move_text problem.lat.columns (vectors_of list.moves)
  text_is = ap (λ n. move_text n (vectors_of list.moves)) h.ends.1.columns

  completes : BookCompletes book (lattice_of_table problem.lat problem.grading)
  completes = record { bases = h.bases; complete = h.ends.1.done }

  given : (task : Task) (x y z : Desk) → FindsProblem task (Ok problem) x y → GivesAnswer task problem.lat list (Ok tt) y z → GivesMarkovBasis task upto x z
  given (Project project) x y z r q = record {
    lat = problem.lat;
    grading = problem.grading;
    problem = r.0;
    moves = vectors_of list.moves;
    basis = h.ends.1.answer;
    files =
        ap (λ (d : Desk). d.files) q ∙ ap (λ (d : Desk). insert d.files (mar_name project) (text_of list)) r.1
        ∙ ap (λ text. insert x.files (mar_name project) text) text_is;
    out = ap (λ (d : Desk). d.out) q ∙ ap (λ (d : Desk). d.out) r.1;
    errors = ap (λ (d : Desk). d.errors) q ∙ ap (λ (d : Desk). d.errors) r.1;
  }
  given (Model sizes) x y z r q = record {
    moves = vectors_of list.moves;
    basis = subst (λ (l : Lattice). IsMinimalMarkovBasis l upto (vectors_of list.moves)) (model_same sizes problem.lat problem.grading r.0) h.ends.1.answer;
    change =
        (let said = said_after_read (summary_of sizes problem.lat list) x y z r.1 q in
        said ∙ ap (λ text. record x { rest = z.rest; out = x.out ++ text }) (summary_same sizes problem.lat problem.grading list r.0 h.ends.1.graded));
  }

  left_ungiven : (task : Task) (fault : DeskFault) (x y z : Desk) → FindsProblem task (Ok problem) x y → GivesAnswer task problem.lat list (Err fault) y z → LeavesAnswer task upto book x z
  left_ungiven (Project project) fault x y z r (inl e) =
      let same : z ≡ record x { rest = z.rest } = subst (λ (d : Desk). d ≡ record x { rest = d.rest }) (sym e) r.1 in
      (ap (λ (d : Desk). d.out) same, inl (ap (λ (d : Desk). d.made_name) same, ap (λ (d : Desk). d.made) same))
  left_ungiven (Project project) fault x y z r (inr (count, q)) = (
    ap (λ (d : Desk). d.out) q ∙ ap (λ (d : Desk). d.out) r.1,
    inr (record {
      lat = problem.lat;
      grading = problem.grading;
      problem = r.0;
      complete = completes;
      moves = vectors_of list.moves;
      basis = h.ends.1.answer;
      name = ap (λ (d : Desk). d.made_name) q;
      count = count;
      made = ap (λ (d : Desk). d.made) q ∙ ap (take count) text_is;
    }),
  )
  left_ungiven (Model sizes) fault x y z r (count, q) =
      let said = said_after_read (take count (summary_of sizes problem.lat list)) x y z r.1 q in (
        (ap (λ (d : Desk). d.made_name) said, ap (λ (d : Desk). d.made) said),
        inr (record {
          complete = subst (BookCompletes book) (model_same sizes problem.lat problem.grading r.0) completes;
          moves = vectors_of list.moves;
          basis = subst (λ (l : Lattice). IsMinimalMarkovBasis l upto (vectors_of list.moves)) (model_same sizes problem.lat problem.grading r.0) h.ends.1.answer;
          count = count;
          out = ap (λ (d : Desk). d.out) said ∙ ap (λ text. x.out ++ take count text) (summary_same sizes problem.lat problem.grading list r.0 h.ends.1.graded);
        }),
      )

  files_ungiven : (task : Task) (fault : DeskFault) (x y z : Desk) → FindsProblem task (Ok problem) x y → GivesAnswer task problem.lat list (Err fault) y z → (z.files ≡ x.files) × (z.errors ≡ x.errors)
  files_ungiven (Project project) fault x y z r (inl e) =
      let same : z ≡ record x { rest = z.rest } = subst (λ (d : Desk). d ≡ record x { rest = d.rest }) (sym e) r.1 in
      (ap (λ (d : Desk). d.files) same, ap (λ (d : Desk). d.errors) same)
  files_ungiven (Project project) fault x y z r (inr (count, q)) =
      (ap (λ (d : Desk). d.files) q ∙ ap (λ (d : Desk). d.files) r.1, ap (λ (d : Desk). d.errors) q ∙ ap (λ (d : Desk). d.errors) r.1)
  files_ungiven (Model sizes) fault x y z r (count, q) =
      let said = said_after_read (take count (summary_of sizes problem.lat list)) x y z r.1 q in
      (ap (λ (d : Desk). d.files) said, ap (λ (d : Desk). d.errors) said)

module _ (request : Request) (problem : Problem) (list : MoveListView) (book : Book) (positive : IsGradingOf problem.lat problem.grading) (h : Solves (lattice_of_table problem.lat problem.grading) request.budget request.upto (Ok list) book) where
  pub answer_given : (x y z : Desk) → FindsProblem request.task (Ok problem) x y → GivesAnswer request.task problem.lat list (Ok tt) y z → Answers request book (Ok tt) x z
  answer_given x y z r q = (
    given request.upto request.budget problem list book h request.task x y z r q,
    record { lat = problem.lat; grading = problem.grading; asked = r.0; positive = positive; fact = record { bases = h.bases; complete = h.ends.1.done } },
  )

  left : (fault : DeskFault) (x y z : Desk) → FindsProblem request.task (Ok problem) x y → GivesAnswer request.task problem.lat list (Err fault) y z → LeavesBegun request book x z
  left fault x y z r q =
      let same = files_ungiven request.upto request.budget problem list book h request.task fault x y z r q in
      record { files = same.0; errors = same.1; answer = left_ungiven request.upto request.budget problem list book h request.task fault x y z r q }

  pub answer_ungiven : (fault : DeskFault) (x y z : Desk) → FindsProblem request.task (Ok problem) x y → GivesAnswer request.task problem.lat list (Err fault) y z → Answers request book (Err (write_refused fault)) x z
  answer_ungiven desk.Memory x y z r q = left desk.Memory x y z r q
  answer_ungiven desk.Failed x y z r q = left desk.Failed x y z r q
