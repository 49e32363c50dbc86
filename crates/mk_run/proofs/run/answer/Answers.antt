use Rattle.std.proofs.Common.{◌≡◌, Ok, Err, Result, false, sym, subst}
use Rattle.mk_desk.specs.Folders.{WhereTold}
use Rattle.mk_desk.proofs.Loading.{the_error}
use Rattle.mk_desk.proofs.Telling.{where_told_then, where_told_weaker}
use Rattle.mk_run.specs.Stages.{Answers, FindsProblem, GivesAnswer, HasBook, IsNotMaking, IsRunShownFor, IsStoppedByBudget, read_refused, stop_refused, write_refused}
use Rattle.mk_run.specs.declared.fault.RunFault.{RunFault}
use Rattle.mk_run.proofs.Found.{finding_refused, found_idle, found_shown, given_idle, given_shown, idle_after, no_input, stop_is_no_input, unfound_shown, ungiven_idle, write_is_no_input}
use Rattle.mk_run.proofs.Refusals.{empty_is_few, empty_stops}
use Rattle.mk_run.proofs.Solved.{answer_given, answer_ungiven, solved_is_done, solved_stops, solving_refused, unfound_book, ungiven_book, unsolved_book, unsolved_stops}
use Rattle.mk_run.proofs.run.answer.Goals as goal
use Rattle.mk_run.proofs.run.answer.Goals.{In_ok-problem}
use Rattle.mk_run.proofs.run.answer.Given.{Over}

idle : (g : Over) (c : In_ok-problem g) → (g.F.Folder.state c.problem_of.new.folder).making ≡ false
idle g c = found_idle c.args.request.now.task (g.F.Folder.state c.args.folder.now) (g.F.Folder.state c.problem_of.new.folder) (Ok c.in_ok-problem.problem) c.requires.making c.in_ok-problem.ensures.found

pub give-requires : goal.give-requires
give-requires g c = idle g (goal.at.give-requires g c).In_ok-problem

-- ---- no problem
pub returns-in_err-problem-clause-book : goal.returns-in_err-problem-clause-book
returns-in_err-problem-clause-book g c =
    let fault = c.in_err-problem.field-0.0 in
    let before = g.F.Folder.state c.args.folder.now in
    let after = g.F.Folder.state c.problem_of.new.folder in
    subst (λ (result : Result Unit RunFault). HasBook c.args.request.now c.args.book.now after result) (sym (the_error c.from_residual.result (read_refused fault) c.from_residual.ensures.1))
    (unfound_book c.args.request.now fault c.args.book.now before after c.requires.book c.in_err-problem.ensures.found)

pub returns-in_err-problem-clause-settled : goal.returns-in_err-problem-clause-settled
returns-in_err-problem-clause-settled g c = empty_is_few c.args.request.now.budget c.args.book.now c.requires.book

pub returns-in_err-problem-clause-budget : goal.returns-in_err-problem-clause-budget
returns-in_err-problem-clause-budget g c = empty_stops c.args.request.now.budget c.args.book.now c.from_residual.result c.requires.book

pub returns-in_err-problem-clause-making : goal.returns-in_err-problem-clause-making
returns-in_err-problem-clause-making g c =
    let after = g.F.Folder.state c.problem_of.new.folder in
    idle_after after c.from_residual.result (found_idle c.args.request.now.task (g.F.Folder.state c.args.folder.now) after (Err c.in_err-problem.field-0.0) c.requires.making c.in_err-problem.ensures.found)

pub returns-in_err-problem-clause-shown : goal.returns-in_err-problem-clause-shown
returns-in_err-problem-clause-shown g c =
    let fault = c.in_err-problem.field-0.0 in
    let before = g.F.Folder.state c.args.folder.now in
    let after = g.F.Folder.state c.problem_of.new.folder in
    let task = c.args.request.now.task in
    subst (λ (result : Result Unit RunFault). IsRunShownFor task before after result) (sym (the_error c.from_residual.result (read_refused fault) c.from_residual.ensures.1))
    (unfound_shown task before after fault c.in_err-problem.ensures.found)

pub returns-in_err-problem-clause-told : goal.returns-in_err-problem-clause-told
returns-in_err-problem-clause-told g c =
    let fault = c.in_err-problem.field-0.0 in
    let request = c.args.request.now in
    let book = c.args.book.now in
    let start = g.F.Folder.told c.args.folder.now in
    let end = g.F.Folder.told c.problem_of.new.folder in
    subst (λ (result : Result Unit RunFault). WhereTold start end (Answers request book result)) (sym (the_error c.from_residual.result (read_refused fault) c.from_residual.ensures.1))
    (where_told_weaker start end (FindsProblem request.task (Err fault)) (Answers request book (Err (read_refused fault))) c.in_err-problem.ensures.told (finding_refused request book fault))

-- ---- not solved
pub returns-in_err-list-clause-book : goal.returns-in_err-list-clause-book
returns-in_err-list-clause-book g c =
    let fault = c.in_err-list.field-0.0 in
    let request = c.args.request.now in
    let problem = c.in_ok-problem.problem in
    let after = g.F.Folder.state c.problem_of.new.folder in
    let book = c.solve.new.book in
    subst (λ (result : Result Unit RunFault). HasBook request book after result) (sym (the_error c.from_residual-in_err-list.result (stop_refused fault) c.from_residual-in_err-list.ensures.1))
    (unsolved_book request problem.lat problem.grading fault book after c.in_ok-problem.ensures.positive c.in_ok-problem.ensures.made c.in_err-list.ensures.solved)

pub returns-in_err-list-clause-budget : goal.returns-in_err-list-clause-budget
returns-in_err-list-clause-budget g c =
    let fault = c.in_err-list.field-0.0 in
    let budget = c.args.request.now.budget in
    let book = c.solve.new.book in
    subst (λ (result : Result Unit RunFault). IsStoppedByBudget budget book result) (sym (the_error c.from_residual-in_err-list.result (stop_refused fault) c.from_residual-in_err-list.ensures.1))
    (unsolved_stops budget fault book c.in_err-list.ensures.budget)

pub returns-in_err-list-clause-making : goal.returns-in_err-list-clause-making
returns-in_err-list-clause-making g c = idle_after (g.F.Folder.state c.problem_of.new.folder) c.from_residual-in_err-list.result (idle g (goal.at.returns-in_err-list-clause-making g c).In_ok-problem)

pub returns-in_err-list-clause-shown : goal.returns-in_err-list-clause-shown
returns-in_err-list-clause-shown g c =
    let fault = c.in_err-list.field-0.0 in
    let before = g.F.Folder.state c.args.folder.now in
    let after = g.F.Folder.state c.problem_of.new.folder in
    let task = c.args.request.now.task in
    subst (λ (result : Result Unit RunFault). IsRunShownFor task before after result) (sym (the_error c.from_residual-in_err-list.result (stop_refused fault) c.from_residual-in_err-list.ensures.1))
    (found_shown task before after c.in_ok-problem.problem (Err (stop_refused fault)) c.in_ok-problem.ensures.found (stop_is_no_input fault))

pub returns-in_err-list-clause-told : goal.returns-in_err-list-clause-told
returns-in_err-list-clause-told g c =
    let fault = c.in_err-list.field-0.0 in
    let request = c.args.request.now in
    let problem = c.in_ok-problem.problem in
    let book = c.solve.new.book in
    let start = g.F.Folder.told c.args.folder.now in
    let end = g.F.Folder.told c.problem_of.new.folder in
    subst (λ (result : Result Unit RunFault). WhereTold start end (Answers request book result)) (sym (the_error c.from_residual-in_err-list.result (stop_refused fault) c.from_residual-in_err-list.ensures.1))
    (where_told_weaker start end (FindsProblem request.task (Ok problem)) (Answers request book (Err (stop_refused fault))) c.in_ok-problem.ensures.told
    (solving_refused request problem book fault c.in_ok-problem.ensures.positive c.in_err-list.ensures.solved))

-- ---- not given
pub returns-in_err-give-clause-book : goal.returns-in_err-give-clause-book
returns-in_err-give-clause-book g c =
    let fault = c.in_err-give.field-0.0 in
    let request = c.args.request.now in
    let problem = c.in_ok-problem.problem in
    let book = c.solve.new.book in
    let after = g.F.Folder.state c.give.new.folder in
    subst (λ (result : Result Unit RunFault). HasBook request book after result) (sym (the_error c.from_residual-in_err-give.result (write_refused fault) c.from_residual-in_err-give.ensures.1))
    (ungiven_book request fault book after (solved_is_done request problem.lat problem.grading c.in_ok-list.list book c.in_ok-problem.ensures.positive c.in_ok-problem.ensures.made c.in_ok-list.ensures.solved))

pub returns-in_err-give-clause-budget : goal.returns-in_err-give-clause-budget
returns-in_err-give-clause-budget g c = solved_stops c.args.request.now.budget c.solve.new.book c.from_residual-in_err-give.result c.in_ok-list.ensures.budget

pub returns-in_err-give-clause-making : goal.returns-in_err-give-clause-making
returns-in_err-give-clause-making g c =
    let fault = c.in_err-give.field-0.0 in
    let after = g.F.Folder.state c.give.new.folder in
    subst (λ (result : Result Unit RunFault). IsNotMaking after result) (sym (the_error c.from_residual-in_err-give.result (write_refused fault) c.from_residual-in_err-give.ensures.1)) (ungiven_idle after fault)

pub returns-in_err-give-clause-shown : goal.returns-in_err-give-clause-shown
returns-in_err-give-clause-shown g c =
    let fault = c.in_err-give.field-0.0 in
    let before = g.F.Folder.state c.args.folder.now in
    let between = g.F.Folder.state c.problem_of.new.folder in
    let after = g.F.Folder.state c.give.new.folder in
    let task = c.args.request.now.task in
    subst (λ (result : Result Unit RunFault). IsRunShownFor task before after result) (sym (the_error c.from_residual-in_err-give.result (write_refused fault) c.from_residual-in_err-give.ensures.1))
    (given_shown task before between after c.in_ok-problem.problem (Err fault) (Err (write_refused fault)) c.in_ok-problem.ensures.found c.in_err-give.ensures.state (write_is_no_input fault))

pub returns-in_err-give-clause-told : goal.returns-in_err-give-clause-told
returns-in_err-give-clause-told g c =
    let fault = c.in_err-give.field-0.0 in
    let request = c.args.request.now in
    let problem = c.in_ok-problem.problem in
    let list = c.in_ok-list.list in
    let book = c.solve.new.book in
    let start = g.F.Folder.told c.args.folder.now in
    let middle = g.F.Folder.told c.problem_of.new.folder in
    let end = g.F.Folder.told c.give.new.folder in
    subst (λ (result : Result Unit RunFault). WhereTold start end (Answers request book result)) (sym (the_error c.from_residual-in_err-give.result (write_refused fault) c.from_residual-in_err-give.ensures.1))
    (where_told_then start middle end (FindsProblem request.task (Ok problem)) (GivesAnswer request.task problem.lat list (Err fault)) (Answers request book (Err (write_refused fault))) c.in_ok-problem.ensures.told c.in_err-give.ensures.told
    (answer_ungiven request problem list book c.in_ok-problem.ensures.positive c.in_ok-list.ensures.solved fault))

-- ---- the answer
pub returns-clause-book : goal.returns-clause-book
returns-clause-book g c =
    let problem = c.in_ok-problem.problem in
    solved_is_done c.args.request.now problem.lat problem.grading c.in_ok-list.list c.solve.new.book c.in_ok-problem.ensures.positive c.in_ok-problem.ensures.made c.in_ok-list.ensures.solved

pub returns-clause-budget : goal.returns-clause-budget
returns-clause-budget g c = solved_stops c.args.request.now.budget c.solve.new.book (Ok tt) c.in_ok-list.ensures.budget

pub returns-clause-making : goal.returns-clause-making
returns-clause-making g c =
    given_idle c.args.request.now.task (g.F.Folder.state c.problem_of.new.folder) (g.F.Folder.state c.give.new.folder) (idle g (goal.at.returns-clause-making g c).In_ok-problem) c.in_ok-give.ensures.state

pub returns-clause-shown : goal.returns-clause-shown
returns-clause-shown g c =
    let before = g.F.Folder.state c.args.folder.now in
    let between = g.F.Folder.state c.problem_of.new.folder in
    let after = g.F.Folder.state c.give.new.folder in
    given_shown c.args.request.now.task before between after c.in_ok-problem.problem (Ok tt) (Ok tt) c.in_ok-problem.ensures.found c.in_ok-give.ensures.state no_input

pub returns-clause-told : goal.returns-clause-told
returns-clause-told g c =
    let request = c.args.request.now in
    let problem = c.in_ok-problem.problem in
    let list = c.in_ok-list.list in
    let book = c.solve.new.book in
    let start = g.F.Folder.told c.args.folder.now in
    let middle = g.F.Folder.told c.problem_of.new.folder in
    let end = g.F.Folder.told c.give.new.folder in
    where_told_then start middle end (FindsProblem request.task (Ok problem)) (GivesAnswer request.task problem.lat list (Ok tt)) (Answers request book (Ok tt)) c.in_ok-problem.ensures.told c.in_ok-give.ensures.told
    (answer_given request problem list book c.in_ok-problem.ensures.positive c.in_ok-list.ensures.solved)
