use Rattle.std.proofs.Common.{◌≡◌, ◌⊎◌, ◌≤◌, List, ℕ, Err, refl, sym, subst}
use Rattle.mk_desk.specs.Folders.{WhereTold, Rose}
use Rattle.mk_desk.proofs.Telling.{where_told_then, where_told_weaker}
use Rattle.mk_solve.specs.Books.{Book, settled_of}
use Rattle.mk_run.specs.Lines.{memory_line, text_of_line}
use Rattle.mk_run.specs.Runs.{Ends, EndsByBudget, HasCauseOf, HasLeftBook, IsShownFor, SaysLine}
use Rattle.mk_run.specs.Stages.{Answers, IsRunRefusal, book_with}
use Rattle.mk_run.specs.declared.status.Status.TheVariants.{Memory}
use Rattle.mk_run.proofs.Endings.{nothing_said}
use Rattle.mk_run.proofs.Found.{done_shown}
use Rattle.mk_run.proofs.Refusals.{ends_by_budget, left_book, memory_told, refused_cause, refused_ends, rose_earlier, same_pairs, shown_so, unsaid_ends}
use Rattle.mk_run.proofs.run.run.Goals as goal
use Rattle.mk_run.proofs.run.run.Goals.{Joined-refusal-2}
use Rattle.mk_run.proofs.run.run.Given.{Over}

-- ---- the answer
pub returns-in_default-clause-budget : goal.returns-in_default-clause-budget
returns-in_default-clause-budget g c = λ used other. absurd (let e = (c.in_default.ensures.budget used other).0 in cc)

pub returns-in_default-clause-shown : goal.returns-in_default-clause-shown
returns-in_default-clause-shown g c =
    done_shown c.args.request.now.task c.answer.new.book (g.F.Folder.state c.args.folder.now) (g.F.Folder.state c.answer.new.folder) c.in_default.ensures.book c.in_default.ensures.shown

-- ---- a refusal whose line was to be said
refusal_so : (g : Over) (c : Joined-refusal-2 g) → IsRunRefusal c.args.request.now.task (book_with c.answer.new.book c.in-Err.fault) c.in-Err.fault c.in-Ok.refusal
refusal_so g c = subst (λ (b : Book). IsRunRefusal c.args.request.now.task b c.in-Err.fault c.in-Ok.refusal) c.keep_fault.ensures c.in-Ok.ensures

pub returns-in-Ok-clause-settled : goal.returns-in-Ok-clause-settled
returns-in-Ok-clause-settled g c =
    let request = c.args.request.now in
    let book = c.answer.new.book in
    subst (λ (b : Book). settled_of b.phases ≤ request.budget) (sym c.keep_fault.ensures) (subst (λ phases. settled_of phases ≤ request.budget) (sym (same_pairs book c.in-Err.fault)) c.in-Err.ensures.settled)

pub returns-in-Ok-clause-cause : goal.returns-in-Ok-clause-cause
returns-in-Ok-clause-cause g c =
    let request = c.args.request.now in
    let before = g.F.Folder.state c.args.folder.now in
    let between = g.F.Folder.state c.answer.new.folder in
    let after = g.F.Folder.state c.say.new.folder in
    subst (λ (b : Book). HasCauseOf request b before after c.say.result) (sym c.keep_fault.ensures)
    (refused_cause request c.answer.new.book before between after c.requires.making c.say.ensures.state c.say.ensures.later c.in-Err.fault c.in-Ok.refusal c.say.result c.say.ensures.status
    (refusal_so g (goal.at.returns-in-Ok-clause-cause g c).Joined-refusal-2) c.in-Err.ensures.book c.in-Err.ensures.making c.in-Err.ensures.cause)

pub returns-in-Ok-clause-told : goal.returns-in-Ok-clause-told
returns-in-Ok-clause-told g c =
    let request = c.args.request.now in
    let before = (g.F.Folder.state c.args.folder.now).faults in
    let between = g.F.Folder.state c.answer.new.folder in
    let after = (g.F.Folder.state c.say.new.folder).faults in
    let start = g.F.Folder.told c.args.folder.now in
    let middle = g.F.Folder.told c.answer.new.folder in
    let end = g.F.Folder.told c.say.new.folder in
    let fault = c.in-Err.fault in
    let refusal = c.in-Ok.refusal in
    let status = c.say.result in
    let book = c.answer.new.book in
    let said = subst (λ (line : List ℕ). WhereTold middle end (SaysLine line (Rose between.faults after ⊎ (status ≡ Memory)))) c.as_str.ensures c.say.ensures.told in
    subst (λ (b : Book). WhereTold start end (Ends request b (Rose before after) status)) (sym c.keep_fault.ensures)
    (where_told_then start middle end (Answers request book (Err fault)) (SaysLine (text_of_line refusal.line) (Rose between.faults after ⊎ (status ≡ Memory))) (Ends request (book_with book fault) (Rose before after) status) c.in-Err.ensures.told said
    (refused_ends request book between (Rose before after) (Rose between.faults after) fault refusal status c.say.ensures.status (rose_earlier before between.faults after c.in-Err.ensures.cause.later)
    (refusal_so g (goal.at.returns-in-Ok-clause-told g c).Joined-refusal-2) c.in-Err.ensures.book))

pub returns-in-Ok-clause-budget : goal.returns-in-Ok-clause-budget
returns-in-Ok-clause-budget g c =
    let request = c.args.request.now in
    subst (λ (b : Book). EndsByBudget request.budget b c.say.result) (sym c.keep_fault.ensures)
    (ends_by_budget request.task request.budget c.answer.new.book c.in-Err.fault c.in-Ok.refusal c.say.result c.say.ensures.status (refusal_so g (goal.at.returns-in-Ok-clause-budget g c).Joined-refusal-2) c.in-Err.ensures.budget)

pub returns-in-Ok-clause-shown : goal.returns-in-Ok-clause-shown
returns-in-Ok-clause-shown g c =
    let request = c.args.request.now in
    let start = g.F.Folder.state c.args.folder.now in
    let between = g.F.Folder.state c.answer.new.folder in
    let after = g.F.Folder.state c.say.new.folder in
    let book = c.answer.new.book in
    let fault = c.in-Err.fault in
    let status = c.say.result in
    subst (λ (b : Book). IsShownFor request.task b.input start after status) (sym c.keep_fault.ensures)
    (shown_so request request.task book fault status (memory_told request.task (book_with book fault) fault c.in-Ok.refusal status c.say.ensures.status (refusal_so g (goal.at.returns-in-Ok-clause-shown g c).Joined-refusal-2))
    start between after c.say.ensures.state c.in-Err.ensures.book c.in-Err.ensures.shown)

-- ---- a refusal for whose line there was no memory
pub returns-in-Err-refusal-clause-settled : goal.returns-in-Err-refusal-clause-settled
returns-in-Err-refusal-clause-settled g c =
    let request = c.args.request.now in
    let book = c.answer.new.book in
    subst (λ (b : Book). settled_of b.phases ≤ request.budget) (sym c.keep_fault.ensures) (subst (λ phases. settled_of phases ≤ request.budget) (sym (same_pairs book c.in-Err.fault)) c.in-Err.ensures.settled)

pub returns-in-Err-refusal-clause-cause : goal.returns-in-Err-refusal-clause-cause
returns-in-Err-refusal-clause-cause g c =
    subst (HasLeftBook c.args.request.now) (sym c.keep_fault.ensures) (left_book c.args.request.now c.answer.new.book c.in-Err.fault (g.F.Folder.state c.answer.new.folder) c.in-Err.ensures.book)

pub returns-in-Err-refusal-clause-shown : goal.returns-in-Err-refusal-clause-shown
returns-in-Err-refusal-clause-shown g c =
    let request = c.args.request.now in
    let start = g.F.Folder.state c.args.folder.now in
    let after = g.F.Folder.state c.answer.new.folder in
    subst (λ (b : Book). IsShownFor request.task b.input start after Memory) (sym c.keep_fault.ensures)
    (shown_so request request.task c.answer.new.book c.in-Err.fault Memory (λ e. refl) start after after refl c.in-Err.ensures.book c.in-Err.ensures.shown)

pub returns-in-Err-refusal-clause-told : goal.returns-in-Err-refusal-clause-told
returns-in-Err-refusal-clause-told g c =
    let request = c.args.request.now in
    let rose = Rose (g.F.Folder.state c.args.folder.now).faults (g.F.Folder.state c.answer.new.folder).faults in
    let start = g.F.Folder.told c.args.folder.now in
    let end = g.F.Folder.told c.answer.new.folder in
    let fault = c.in-Err.fault in
    let book = c.answer.new.book in
    subst (λ (b : Book). WhereTold start end (Ends request b rose Memory)) (sym c.keep_fault.ensures)
    (where_told_weaker start end (Answers request book (Err fault)) (Ends request (book_with book fault) rose Memory) c.in-Err.ensures.told
    (λ x y a. unsaid_ends request book (g.F.Folder.state c.answer.new.folder) rose fault c.in-Err.ensures.book x y a (nothing_said memory_line (Unit {0}) tt y)))
