-- How a run ends that is refused: what the book has then, and what was said and left.
use Rattle.std.proofs.Common.{◌≡◌, ◌⊎◌, ◌+◌, ℕ, ◌≤◌, List, [], ◌∷◌, ◌++◌, take, Option, Result, Some, None, IfSome, Err, IsErrOf, false, refl, ap, sym, subst, ◌∙◌, inl, inr, arith}
use Rattle.std.proofs.Math.Nat.{eq-or-lt_of_le}
use Rattle.mk_desk.specs.Folders.{Desk, State, Rose, HasCause, OnlyFaultsRose}
use Rattle.mk_model.specs.Books.{PlainPhase, settled_in}
use Rattle.mk_project.specs.declared.file.InputFile.{InputFile}
use Rattle.mk_project.specs.declared.file.TheConstants.{FILE_LIMIT}
use Rattle.mk_project.specs.declared.fault.InputFault.{InputFault}
use Rattle.mk_project.specs.declared.fault.InputFault.TheVariants.{NoLattice, FileSize, Table, Grade}
use Rattle.mk_input.specs.Readings.{OnlyRead, IsShownBy}
use Rattle.mk_solve.specs.Books.{Book, empty_book, book_as, settled_of}
use Rattle.mk_solve.specs.declared.book.BookStop.{BookStop}
use Rattle.mk_solve.specs.declared.book.BookStop.TheVariants as why
use Rattle.mk_words.specs.declared.request.Request.{Request}
use Rattle.mk_words.specs.declared.request.Task.{Task}
use Rattle.mk_words.specs.declared.request.Task.TheVariants.{Project, Model}
use Rattle.mk_run.specs.Asked.{HasInputFault}
use Rattle.mk_run.specs.Lines.{IsLine, folder_line, memory_line, stop_line, text_of_line}
use Rattle.mk_run.specs.Runs.{HasCompleteBook, IsUnderWay, HasItsStop, EndsByBudget, HasLeftBook, HasFailedBook, HasCauseOf, InputIsShown, IsShownFor, LeavesAnswer, SaysLine, HasStop, IsStopped, Leaves, RunsOut, Ends}
use Rattle.mk_run.specs.Stages.{HasBook, IsStoppedByBudget, IsNotMaking, IsRunRefusal, IsRunShown, IsRunShownFor, LeavesBegun, Answers, book_with}
use Rattle.mk_run.specs.Statuses.{status_of}
use Rattle.mk_run.specs.declared.fault.RunFault.{RunFault}
use Rattle.mk_run.specs.declared.fault.RunFault.TheVariants as run
use Rattle.mk_run.specs.declared.refusal.Refused.{Refused}
use Rattle.mk_run.specs.declared.status.Status.{Status}
use Rattle.mk_run.specs.declared.status.Status.TheVariants.{Budget, Memory}

-- ---- the book
-- a book that is empty has few pairs
pub empty_is_few : (budget : ℕ) (book : Book) → book ≡ empty_book → settled_of book.phases ≤ budget
unfolding settled_in
empty_is_few budget book e = subst (λ (b : Book). settled_of b.phases ≤ budget) (sym e) (omega arith)

pub same_pairs : (book : Book) (fault : RunFault) → (book_with book fault).phases ≡ book.phases
same_pairs book run.Memory = refl
same_pairs book run.Failed = refl
same_pairs book (run.Input fault) = refl
same_pairs book run.Stopped = refl

-- where it has its stop, another that it has is that one
its_stop : (request : Request) (book : Book) (stop kept : BookStop) → book.stop ≡ Some kept → HasItsStop request book stop → HasItsStop request book kept
its_stop request book stop kept e h = subst (HasItsStop request book) (let both = sym h.1 ∙ e in cc) h

-- a book that is complete is under way
pub begun_of_done : (task : Task) (book : Book) → HasCompleteBook task book → IsUnderWay task book
begun_of_done task book done = (
  done.0,
  record {
    lat = done.1.lat;
    grading = done.1.grading;
    positive = done.1.positive;
    made = done.1.made;
    fact = record {
      bases = done.1.fact.bases;
      under_way = record { rest = done.1.fact.complete.rest; left = []; phases = done.1.fact.complete.phases; reduced = inr done.1.fact.complete };
    };
  },
)

-- what the book has, once a fault of the input is kept, and memory ran out
pub left_book : (request : Request) (book : Book) (fault : RunFault) (after : State) → HasBook request book after (Err fault) → HasLeftBook request (book_with book fault)
left_book request book run.Memory after h = elim h [ inl e ↦ inl e | inr begun ↦ inr (inr (inl begun)) ]
left_book request book run.Failed after h = elim h [ inl e ↦ inl e.1 | inr d ↦ inr (inr (inl (begun_of_done request.task book d))) ]
left_book request book (run.Input fault) after h = inr (inl (h.0, (fault, ap (λ (b : Book). record b { input = Some fault }) h.1)))
left_book request book run.Stopped after h = inr (inr (inr h))

-- ---- the causes
pub rose_earlier : (a b c : ℕ) → a ≤ b → Rose b c → Rose a c
rose_earlier a b c h r = elim r [ inl up ↦ inl (omega arith) | inr full ↦ inr full ]

rose_later : (a b c : ℕ) → a ≤ b → b ≤ c → Rose a b → Rose a c
rose_later a b c h k r = elim r [ inl up ↦ inl (omega arith) | inr full ↦ elim (eq-or-lt_of_le k) [ inl e ↦ inr (sym e ∙ full) | inr more ↦ inl (omega arith) ] ]

stop_cause : (request : Request) (book : Book) (stop : BookStop) (before after : State) → HasItsStop request book stop → after.making ≡ before.making → HasCauseOf request book before after (status_of stop)
stop_cause request book (why.Overflow place stop) before after h making = ((why.Overflow place stop, h, refl), making)
stop_cause request book (why.Budget settled) before after h making = ((why.Budget settled, h, refl), making)
stop_cause request book (why.BasisFull phase i j) before after h making = ((why.BasisFull phase i j, h, refl), making)

module _ (request : Request) (book : Book) (before between after : State) (idle : before.making ≡ false) (only : OnlyFaultsRose between after) (later : between.faults ≤ after.faults) where
  found : after.found ≡ between.found
  found = ap (λ (s : State). s.found) only

  making : between.making ≡ false → after.making ≡ before.making
  making h = ap (λ (s : State). s.making) only ∙ h ∙ sym idle

  -- what the status of the refusal is caused by
  status_cause : (fault : RunFault) (refusal : Refused) → IsRunRefusal request.task (book_with book fault) fault refusal → HasBook request book between (Err fault) → IsNotMaking between (Err fault) →
      HasCause {T = Unit {0}} run.Failed before between (Err fault) → HasCauseOf request (book_with book fault) before after refusal.status
  status_cause run.Memory refusal r h m cause = subst (HasCauseOf request book before after) (sym r.0) (left_book request book run.Memory between h)
  status_cause run.Failed refusal r h m cause = subst (HasCauseOf request book before after) (sym r.0) (
    elim h [ inl e ↦ inl (e.0, e.1, λ absent. e.2 (sym found ∙ absent)) | inr d ↦ inr d ],
    rose_later before.faults between.faults after.faults cause.later later (cause.failed refl),
  )
  status_cause (run.Input fault) refusal r h m cause =
      subst (HasCauseOf request (book_with book (run.Input fault)) before after) (sym r.0) ((h.0, (fault, ap (λ (b : Book). record b { input = Some fault }) h.1)), making m)
  status_cause run.Stopped refusal r h m cause =
      subst (HasCauseOf request book before after) (sym r.2) (stop_cause request book r.0 before after (its_stop request book h.0 r.0 r.1 h.1) (making m))

  pub refused_cause : (fault : RunFault) (refusal : Refused) (status : Status) → (status ≡ refusal.status) ⊎ (status ≡ Memory) → IsRunRefusal request.task (book_with book fault) fault refusal →
      HasBook request book between (Err fault) → IsNotMaking between (Err fault) → HasCause {T = Unit {0}} run.Failed before between (Err fault) → HasCauseOf request (book_with book fault) before after status
  refused_cause fault refusal status which r h m cause =
      elim which [
        | inl e ↦ subst (HasCauseOf request (book_with book fault) before after) (sym e) (status_cause fault refusal r h m cause)
        | inr e ↦ subst (HasCauseOf request (book_with book fault) before after) (sym e) (left_book request book fault between h)
      ]

-- want of memory is told as such
pub memory_told : (task : Task) (book : Book) (fault : RunFault) (refusal : Refused) (status : Status) → (status ≡ refusal.status) ⊎ (status ≡ Memory) → IsRunRefusal task book fault refusal → fault ≡ run.Memory → status ≡ Memory
memory_told task book fault refusal status which r e =
    elim which [ inl same ↦ same ∙ (subst (λ (f : RunFault). IsRunRefusal task book f refusal) e r).0 | inr memory ↦ memory ]

-- ---- the budget
-- a stop of the budget is the one that the book has
budget_status : (book : Book) (stop : BookStop) (settled : ℕ) → book.stop ≡ Some (why.Budget settled) → book.stop ≡ Some stop → status_of stop ≡ Budget
budget_status book stop settled e f =
    let same : stop ≡ why.Budget settled = (let both = sym f ∙ e in cc) in
    ap status_of same

pub ends_by_budget : (task : Task) (budget : ℕ) (book : Book) (fault : RunFault) (refusal : Refused) (status : Status) → (status ≡ refusal.status) ⊎ (status ≡ Memory) → IsRunRefusal task (book_with book fault) fault refusal →
    IsStoppedByBudget budget book (Err fault) → EndsByBudget budget (book_with book fault) status
ends_by_budget task budget book run.Stopped refusal status which r stops = λ used other.
    elim which [ inl e ↦ inl (e ∙ r.2 ∙ budget_status book r.0 budget (stops used other).1 r.1) | inr memory ↦ inr memory ]
ends_by_budget task budget book run.Memory refusal status which r stops = λ used other. absurd (let e = (stops used other).0 in cc)
ends_by_budget task budget book run.Failed refusal status which r stops = λ used other. absurd (let e = (stops used other).0 in cc)
ends_by_budget task budget book (run.Input fault) refusal status which r stops = λ used other. absurd (let e = (stops used other).0 in cc)

-- an empty book has no phase of which a pair is left
nothing_used : (earlier : List PlainPhase) (phase : PlainPhase) → [] ≡ earlier ++ phase ∷ [] → ⊥
nothing_used [] phase e = cc
nothing_used (first ∷ earlier) phase e = cc

pub empty_ends : (budget : ℕ) (book : Book) (status : Status) → book ≡ empty_book → EndsByBudget budget book status
empty_ends budget book status e = λ used other. absurd (nothing_used used.earlier used.phase (sym (ap (λ (b : Book). (book_as b).phases) e) ∙ used.last))

pub empty_stops : (budget : ℕ) (book : Book) (result : Result Unit RunFault) → book ≡ empty_book → IsStoppedByBudget budget book result
empty_stops budget book result e = λ used other. absurd (nothing_used used.earlier used.phase (sym (ap (λ (b : Book). (book_as b).phases) e) ∙ used.last))

-- ---- what the folder showed
-- a book that waits has neither a fault nor a stop
waiting_input : (task : Task) (book : Book) → (book ≡ empty_book) ⊎ IsUnderWay task book → book.input ≡ None
waiting_input task book h = elim h [ inl e ↦ ap (λ (b : Book). b.input) e | inr begun ↦ begun.0.0 ]

waiting_stop : (task : Task) (book : Book) → (book ≡ empty_book) ⊎ IsUnderWay task book → book.stop ≡ None
waiting_stop task book h = elim h [ inl e ↦ ap (λ (b : Book). b.stop) e | inr begun ↦ begun.0.1 ]

shown_later : (before after : State) → OnlyFaultsRose before after → (fault : InputFault) → IsShownBy before fault → IsShownBy after fault
shown_later before after only NoLattice h = ap (λ (s : State). s.found) only ∙ h
shown_later before after only (FileSize file read) h = (ap (λ (s : State). s.found) only ∙ h.0, h.1, ap (λ (s : State). s.given) only ∙ h.2)
shown_later before after only (Table file fault) h = (ap (λ (s : State). s.found) only ∙ h.0, subst (λ n. n ≤ FILE_LIMIT) (sym (ap (λ (s : State). s.given) only)) h.1)
shown_later before after only (Grade fault) h = subst (λ n. n ≤ FILE_LIMIT) (sym (ap (λ (s : State). s.given) only)) h

no_input : (request : Request) (book : Book) (fault : RunFault) (other : InputFault) (after : State) → HasBook request book after (Err fault) → (book_with book fault).input ≡ Some other → fault ≡ run.Input other
no_input request book run.Memory other after h e = let none = waiting_input request.task book h in cc
no_input request book run.Failed other after h e = elim h [ inl c ↦ (let none = ap (λ (b : Book). b.input) c.1 in cc) | inr d ↦ (let none = d.0.0 in cc) ]
no_input request book (run.Input fault) other after h e = cc
no_input request book run.Stopped other after h e = let none = h.1.0 in cc

kept_input : (book : Book) (fault : RunFault) (other : InputFault) → fault ≡ run.Input other → (book_with book fault).input ≡ Some other
kept_input book fault other e = subst (λ (f : RunFault). (book_with book f).input ≡ Some other) (sym e) refl

input_shown : (request : Request) (book : Book) (fault : RunFault) (status : Status) → (fault ≡ run.Memory → status ≡ Memory) → (before after : State) → OnlyFaultsRose before after → HasBook request book before (Err fault) →
    IsRunShown {T = Unit {0}} before (Err fault) → InputIsShown (book_with book fault).input after status
input_shown request book fault status ends before after only h shown = record {
  faulty = λ other e. shown_later before after only other (shown.faulty other (ap (λ f. Err f) (no_input request book fault other before h e)));
  too_long = λ e. go (shown.too_long (sym (ap (λ (s : State). s.given) only) ∙ e));
}
  where
    go : ((file : InputFile) × IsErrOf {T = Unit {0}} (Err fault) (run.Input (FileSize file (FILE_LIMIT + 1)))) ⊎ IsErrOf {T = Unit {0}} (Err fault) run.Memory →
        ((file : InputFile) × ((book_with book fault).input ≡ Some (FileSize file (FILE_LIMIT + 1)))) ⊎ (status ≡ Memory)
    go (inl (file, e)) = inl (file, kept_input book fault (FileSize file (FILE_LIMIT + 1)) (cc))
    go (inr e) = inr (ends (cc))

-- two changes in which only the faults rose
pub rose_twice : (a b c : State) → OnlyFaultsRose a b → OnlyFaultsRose b c → OnlyFaultsRose a c
rose_twice a b c p q = q ∙ ap (λ (s : State). record s { faults = c.faults }) p

pub shown_so : (request : Request) (task : Task) (book : Book) (fault : RunFault) (status : Status) → (fault ≡ run.Memory → status ≡ Memory) → (start before after : State) → OnlyFaultsRose before after →
    HasBook request book before (Err fault) → IsRunShownFor task start before (Err fault) → IsShownFor task (book_with book fault).input start after status
shown_so request (Project name) book fault status ends start before after only h shown = input_shown request book fault status ends before after only h shown
shown_so request (Model sizes) book fault status ends start before after only h shown = rose_twice start before after shown only

-- ---- what was said and left
-- a line that was said after a file was read
said_after : (line : List ℕ) (reason rose : Type 0) → (reason → rose) → (x y z : Desk) → OnlyRead x y → SaysLine line reason y z → SaysLine line rose x z
said_after line reason rose why x y z read said = record {
  count = said.count;
  whole = elim said.whole [ inl all ↦ inl all | inr cut ↦ inr (why cut) ];
  change =
      said.change
      ∙ ap (λ (d : Desk). record d { rest = z.rest; errors = d.errors ++ take said.count line }) read;
}

-- only a file was read, so nothing of the answer is left
unbegun : (task : Task) (upto : Option ℕ) (book : Book) (x y : Desk) → OnlyRead x y → LeavesAnswer task upto book x y
unbegun (Project name) upto book x y read = (ap (λ (d : Desk). d.out) read, inl (ap (λ (d : Desk). d.made_name) read, ap (λ (d : Desk). d.made) read))
unbegun (Model sizes) upto book x y read = ((ap (λ (d : Desk). d.made_name) read, ap (λ (d : Desk). d.made) read), inl (ap (λ (d : Desk). d.out) read))

pub read_alone : (request : Request) (book : Book) (x y : Desk) → OnlyRead x y → LeavesBegun request book x y
read_alone request book x y read = record {
  files = ap (λ (d : Desk). d.files) read;
  errors = ap (λ (d : Desk). d.errors) read;
  answer = unbegun request.task request.upto book x y read;
}

-- what is left of the answer stays so where nothing of it changes
left_on : (task : Task) (upto : Option ℕ) (book : Book) (x y z : Desk) → z.out ≡ y.out → z.made_name ≡ y.made_name → z.made ≡ y.made → LeavesAnswer task upto book x y → LeavesAnswer task upto book x z
left_on (Project project) upto book x y z out name made (same, inl as_before) = (out ∙ same, inl (name ∙ as_before.0, made ∙ as_before.1))
left_on (Project project) upto book x y z out name made (same, inr begun) = (
  out ∙ same,
  inr (record { lat = begun.lat; grading = begun.grading; problem = begun.problem; complete = begun.complete; moves = begun.moves; basis = begun.basis; name = name ∙ begun.name; count = begun.count; made = made ∙ begun.made }),
)
left_on (Model sizes) upto book x y z out name made (as_before, inl same) = ((name ∙ as_before.0, made ∙ as_before.1), inl (out ∙ same))
left_on (Model sizes) upto book x y z out name made (as_before, inr half) = (
  (name ∙ as_before.0, made ∙ as_before.1),
  inr (record { complete = half.complete; moves = half.moves; basis = half.basis; count = half.count; out = out ∙ half.out }),
)

module _ (request : Request) (book : Book) where
  -- what was begun, seen from before the run, after a line was said
  left_and_said : (line : List ℕ) (IsOne : List ℕ → Type 0) (rose : Type 0) → IsOne line → (x y z : Desk) → LeavesBegun request book x y → SaysLine line rose y z → Leaves request book IsOne x z
  left_and_said line IsOne rose one x y z left said = record {
    files = ap (λ (d : Desk). d.files) said.change ∙ left.files;
    answer = left_on request.task request.upto book x y z (ap (λ (d : Desk). d.out) said.change) (ap (λ (d : Desk). d.made_name) said.change) (ap (λ (d : Desk). d.made) said.change) left.answer;
    line = line;
    one = one;
    count = said.count;
    errors = ap (λ (d : Desk). d.errors) said.change ∙ ap (λ e. e ++ take said.count line) left.errors;
  }

  -- nothing was said
  abbrev HasSomeStop : Desk → Type 0
  HasSomeStop x = (kept : BookStop) × (book.stop ≡ Some kept) × HasStop request x.files book kept

  same_stop : (stop : BookStop) (x : Desk) → book.stop ≡ Some stop → HasSomeStop x → HasStop request x.files book stop
  same_stop stop x kept h = subst (HasStop request x.files book) (let e = sym h.1 ∙ kept in cc) h.2

  no_fault_kept : book.input ≡ None → (x : Desk) → IfSome book.input (HasInputFault request.task x.files)
  no_fault_kept none x = subst (λ input. IfSome input (HasInputFault request.task x.files)) (sym none) tt

  no_stop_kept : book.stop ≡ None → (x : Desk) → IfSome book.stop (HasStop request x.files book)
  no_stop_kept none x = subst (λ stop. IfSome stop (HasStop request x.files book)) (sym none) tt

-- a book that failed has neither a fault nor a stop
failed_input : (task : Task) (book : Book) (after : State) → HasFailedBook task book after → book.input ≡ None
failed_input task book after h = elim h [ inl e ↦ ap (λ (b : Book). b.input) e.1 | inr d ↦ d.0.0 ]

failed_stop : (task : Task) (book : Book) (after : State) → HasFailedBook task book after → book.stop ≡ None
failed_stop task book after h = elim h [ inl e ↦ ap (λ (b : Book). b.stop) e.1 | inr d ↦ d.0.1 ]

module _ (request : Request) (book : Book) (between : State) where
  leaves : (fault : RunFault) (x y : Desk) → Answers request book (Err fault) x y → LeavesBegun request (book_with book fault) x y
  leaves run.Memory x y a = a
  leaves run.Failed x y a = a
  leaves (run.Input fault) x y a = read_alone request _ x y a.1
  leaves run.Stopped x y a = read_alone request book x y a.1

  faulty_kept : (fault : RunFault) (x y : Desk) → HasBook request book between (Err fault) → Answers request book (Err fault) x y → IfSome (book_with book fault).input (HasInputFault request.task x.files)
  faulty_kept run.Memory x y h a = no_fault_kept request book (waiting_input request.task book h) x
  faulty_kept run.Failed x y h a = no_fault_kept request book (failed_input request.task book between h) x
  faulty_kept (run.Input fault) x y h a = a.0
  faulty_kept run.Stopped x y h a = no_fault_kept request book h.1.0 x

  stop_kept : (fault : RunFault) (x y : Desk) → HasBook request book between (Err fault) → Answers request book (Err fault) x y → IfSome (book_with book fault).stop (HasStop request x.files (book_with book fault))
  stop_kept run.Memory x y h a = no_stop_kept request book (waiting_stop request.task book h) x
  stop_kept run.Failed x y h a = no_stop_kept request book (failed_stop request.task book between h) x
  stop_kept (run.Input fault) x y h a = no_stop_kept request (book_with book (run.Input fault)) (ap (λ (b : Book). b.stop) h.1) x
  stop_kept run.Stopped x y h a = subst (λ s. IfSome s (HasStop request x.files book)) (sym a.0.1) a.0.2

  -- memory ran out, and a line was said or not
  runs_out : (fault : RunFault) (line : List ℕ) (reason : Type 0) → IsLine request.task (book_with book fault) line → HasBook request book between (Err fault) → (x y z : Desk) → Answers request book (Err fault) x y → SaysLine line reason y z → RunsOut request (book_with book fault) x z
  runs_out fault line reason one h x y z a said = record {
    faulty = faulty_kept fault x y h a;
    stopped = stop_kept fault x y h a;
    left = left_and_said request (book_with book fault) line (IsLine request.task (book_with book fault)) reason one x y z (leaves fault x y a) said;
  }

  -- the line of a refusal is one that a run may say
  is_line : (fault : RunFault) (refusal : Refused) → IsRunRefusal request.task (book_with book fault) fault refusal → IsLine request.task (book_with book fault) (text_of_line refusal.line)
  is_line run.Memory refusal r = inr (inl r.1)
  is_line run.Failed refusal r = inl r.1
  is_line (run.Input fault) refusal r = inr (inr (inl (fault, refl, r.1)))
  is_line run.Stopped refusal r = inr (inr (inr (r.0, r.1, r.3)))

  no_want_of_memory : (stop : BookStop) → status_of stop ≡ Memory → ⊥
  no_want_of_memory (why.Overflow place at) e = cc
  no_want_of_memory (why.Budget settled) e = cc
  no_want_of_memory (why.BasisFull phase i j) e = cc

  stop_ends : (stop : BookStop) (rose : Type 0) (x z : Desk) → IsStopped request book (status_of stop) rose x z → Ends request book rose (status_of stop) x z
  stop_ends (why.Overflow place at) rose x z h = h
  stop_ends (why.Budget settled) rose x z h = h
  stop_ends (why.BasisFull phase i j) rose x z h = h

  -- the run ended with the status of its refusal
  ends_so : (rose reason : Type 0) (fault : RunFault) (refusal : Refused) → IsRunRefusal request.task (book_with book fault) fault refusal → HasBook request book between (Err fault) → (reason → rose ⊎ (refusal.status ≡ Memory)) →
      (x y z : Desk) → Answers request book (Err fault) x y → SaysLine (text_of_line refusal.line) reason y z → Ends request (book_with book fault) rose refusal.status x z
  ends_so rose reason run.Memory refusal r h up x y z a said =
      subst (λ (s : Status). Ends request book rose s x z) (sym r.0) (runs_out run.Memory (text_of_line refusal.line) reason (is_line run.Memory refusal r) h x y z a said)
  ends_so rose reason run.Failed refusal r h up x y z a said =
      subst (λ (s : Status). Ends request book rose s x z) (sym r.0) (left_and_said request book (text_of_line refusal.line) (λ line. line ≡ folder_line) reason r.1 x y z a said)
  ends_so rose reason (run.Input fault) refusal r h up x y z a said =
      subst (λ (s : Status). Ends request (book_with book (run.Input fault)) rose s x z) (sym r.0) (record {
        fault = fault;
        kept = refl;
        faulty = a.0;
        line = text_of_line refusal.line;
        named = r.1;
        said = said_after (text_of_line refusal.line) reason rose (λ w. elim (up w) [ inl u ↦ u | inr m ↦ absurd (let both = sym r.0 ∙ m in cc) ]) x y z a.1 said;
      })
  ends_so rose reason run.Stopped refusal r h up x y z a said =
      subst (λ (s : Status). Ends request book rose s x z) (sym r.2) (stop_ends r.0 rose x z (record {
        stop = r.0;
        kept = r.1;
        named = refl;
        cause = same_stop request book r.0 x r.1 a.0;
        line = said_after (stop_line r.0) reason rose (λ w. elim (up w) [ inl u ↦ u | inr m ↦ absurd (no_want_of_memory r.0 (sym r.2 ∙ m)) ]) x y z a.1 (subst (λ (l : List ℕ). SaysLine l reason y z) r.3 said);
      }))

  -- a refusal, and its line said
  pub refused_ends : (rose risen : Type 0) (fault : RunFault) (refusal : Refused) (status : Status) → (status ≡ refusal.status) ⊎ (status ≡ Memory) → (risen → rose) → IsRunRefusal request.task (book_with book fault) fault refusal →
      HasBook request book between (Err fault) → (x y z : Desk) → Answers request book (Err fault) x y → SaysLine (text_of_line refusal.line) (risen ⊎ (status ≡ Memory)) y z → Ends request (book_with book fault) rose status x z
  refused_ends rose risen fault refusal status which up r h x y z a said =
      elim which [
        | inl e ↦ subst (λ (s : Status). Ends request (book_with book fault) rose s x z) (sym e) (ends_so rose (risen ⊎ (status ≡ Memory)) fault refusal r h (λ w. elim w [ inl u ↦ inl (up u) | inr m ↦ inr (sym e ∙ m) ]) x y z a said)
        | inr e ↦ subst (λ (s : Status). Ends request (book_with book fault) rose s x z) (sym e) (runs_out fault (text_of_line refusal.line) (risen ⊎ (status ≡ Memory)) (is_line fault refusal r) h x y z a said)
      ]

  -- no memory was found for the line, and nothing was said
  pub unsaid_ends : (rose : Type 0) (fault : RunFault) → HasBook request book between (Err fault) → (x y : Desk) → Answers request book (Err fault) x y → SaysLine memory_line (Unit {0}) y y → Ends request (book_with book fault) rose Memory x y
  unsaid_ends rose fault h x y a said = runs_out fault memory_line (Unit {0}) (inr (inl refl)) h x y y a said

  -- no memory was found for the words
  pub unread_ends : (rose reason : Type 0) → book ≡ empty_book → (x y : Desk) → SaysLine memory_line reason x y → Ends request book rose Memory x y
  unread_ends rose reason e x y said = runs_out run.Memory memory_line reason (inr (inl refl)) (inl e) x x y (read_alone request book x x refl) said
