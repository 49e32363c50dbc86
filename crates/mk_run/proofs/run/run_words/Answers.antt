use Rattle.std.proofs.Common.{◌≡◌, ◌⊎◌, ◌≤◌, Err, ap, sym, subst, inl, inr, ◌∙◌, map, string_bytes}
use Rattle.mk_desk.specs.Folders.{WhereTold, Rose}
use Rattle.mk_desk.proofs.Telling.{where_told_weaker}
use Rattle.mk_solve.specs.Books.{settled_of}
use Rattle.mk_words.specs.Requests.{AreWrong, IsRequest}
use Rattle.mk_words.specs.declared.request.Request.{Request}
use Rattle.mk_run.specs.Lines.{usage_line, memory_line}
use Rattle.mk_run.specs.Runs.{BooksProblem, Ends, EndsByBudget, EndsUnasked, GivesMarkovBasis, HasCauseOf, IsDecided, IsShownFor, SaysLine}
use Rattle.mk_run.specs.declared.status.Status.{Status}
use Rattle.mk_run.specs.declared.status.Status.TheVariants.{Memory}
use Rattle.mk_run.proofs.Decided.{decided, unread_decided}
use Rattle.mk_run.proofs.Refusals.{empty_is_few, unread_ends}
use Rattle.mk_run.proofs.Unread.{done_books, done_gives, memory_ends, no_folder, unread_no_folder, unread_shown, usage_ends, workers_within}
use Rattle.mk_run.proofs.run.run_words.Goals as goal
use Rattle.mk_run.proofs.run.run_words.Goals.{Joined-request, In-Err-Words}
use Rattle.mk_run.proofs.run.run_words.Given.{Over}

-- ---- words that were read as a request, which is the only one
for_each : (g : Over) (c : Joined-request g) (P : Request → Type 0) → P c.in-Ok.request → (request : Request) →
    IsRequest (map string_bytes c.args.words.now) request → P request
for_each g c P h request asked = subst P (sym (c.in-Ok.ensures.only request asked)) h

pub with_workers-crew-requires-clause-some_workers : goal.with_workers-crew-requires-clause-some_workers
with_workers-crew-requires-clause-some_workers g c = (workers_within (map string_bytes c.args.words.now) c.in-Ok.request c.in-Ok.ensures.ok).0

pub with_workers-crew-requires-clause-few_workers : goal.with_workers-crew-requires-clause-few_workers
with_workers-crew-requires-clause-few_workers g c = (workers_within (map string_bytes c.args.words.now) c.in-Ok.request c.in-Ok.ensures.ok).1

pub returns-in-Ok-clause-answered : goal.returns-in-Ok-clause-answered
returns-in-Ok-clause-answered g c = λ done.
    let start = g.F.Folder.told c.args.folder.now in
    let end = g.F.Folder.told c.run.new.folder in
    let rose = Rose (g.F.Folder.state c.args.folder.now).faults (g.F.Folder.state c.run.new.folder).faults in
    for_each g c (λ request. WhereTold start end (GivesMarkovBasis request.task request.upto))
    (done_gives c.in-Ok.request c.run.new.book rose c.run.result start end done c.run.ensures.told)

pub returns-in-Ok-clause-run : goal.returns-in-Ok-clause-run
returns-in-Ok-clause-run g c =
    let asked = c.in-Ok.request in
    let before = g.F.Folder.state c.args.folder.now in
    let after = g.F.Folder.state c.run.new.folder in
    let start = g.F.Folder.told c.args.folder.now in
    let end = g.F.Folder.told c.run.new.folder in
    let rose = Rose before.faults after.faults in
    let book = c.run.new.book in
    let status = c.run.result in
    record {
      booked = λ done. for_each g c (λ request. WhereTold start end (λ old new. BooksProblem request.task old.files book))
          (done_books asked book rose status start end done c.run.ensures.told);
      usage = λ wrong. absurd (wrong asked c.in-Ok.ensures.ok);
      named = λ usage. absurd (subst (HasCauseOf asked book before after) usage c.run.ensures.cause);
      unread = inl (asked, c.in-Ok.ensures.ok);
      cause = for_each g c (λ request. HasCauseOf request book before after status) c.run.ensures.cause;
      settled = for_each g c (λ request. settled_of book.phases ≤ request.budget) c.run.ensures.settled;
      budget = for_each g c (λ request. EndsByBudget request.budget book status) c.run.ensures.budget;
      shown = for_each g c (λ request. IsShownFor request.task book.input before after status) c.run.ensures.shown;
      told = for_each g c (λ request. WhereTold start end (Ends request book rose status)) c.run.ensures.told;
      told_unasked = λ wrong. absurd (wrong asked c.in-Ok.ensures.ok);
      decided =
          for_each g c (λ request. WhereTold start end (IsDecided request book rose status))
          (where_told_weaker start end (Ends asked book rose status) (IsDecided asked book rose status) c.run.ensures.told
          (decided asked book before after status c.run.ensures.cause));
      sure = λ none. no_folder asked book before after status (none c.run.new.folder) c.run.ensures.cause;
    }

-- ---- words that are not in the language
wrong_words : (g : Over) (c : In-Err-Words g) → AreWrong (map string_bytes c.args.words.now)
wrong_words g c = c.read_words.ensures.words (c.in-Err-Words.is ∙ ap Err c.in-Err-Words.field-0-is)

pub returns-in-Err-Words-clause-answered : goal.returns-in-Err-Words-clause-answered
returns-in-Err-Words-clause-answered g c = λ done request asked. absurd
    (wrong_words g (goal.at.returns-in-Err-Words-clause-answered g c).In-Err-Words request asked)

pub returns-in-Err-Words-clause-run : goal.returns-in-Err-Words-clause-run
returns-in-Err-Words-clause-run g c =
    let wrong = wrong_words g (goal.at.returns-in-Err-Words-clause-run g c).In-Err-Words in
    let rose = Rose (g.F.Folder.state c.args.folder.now).faults (g.F.Folder.state c.say.new.folder).faults in
    let status = c.say.result in
    record {
      booked = λ done request asked. absurd (wrong request asked);
      usage = λ none. c.say.ensures.status;
      named = λ usage. wrong;
      unread = inr (record { empty = c.requires.book; untouched = c.say.ensures.state; ended = c.say.ensures.status });
      cause = λ request asked. absurd (wrong request asked);
      settled = λ request asked. absurd (wrong request asked);
      budget = λ request asked. absurd (wrong request asked);
      shown = λ request asked. absurd (wrong request asked);
      told = λ request asked. absurd (wrong request asked);
      told_unasked = λ none. where_told_weaker _ _ (SaysLine usage_line (rose ⊎ (status ≡ Memory)))
          (EndsUnasked rose status) c.say.ensures.told (usage_ends rose status c.say.ensures.status);
      decided = λ request asked. absurd (wrong request asked);
      sure = λ none. unread_no_folder status c.say.ensures.status;
    }

-- ---- words for which there was no memory
is_memory : (status : Status) → (status ≡ Memory) ⊎ (status ≡ Memory) → status ≡ Memory
is_memory status which = elim which [ inl e ↦ e | inr e ↦ e ]

pub returns-clause-answered : goal.returns-clause-answered
returns-clause-answered g c = λ done. absurd (let memory = is_memory c.say-in-Err-Memory.result c.say-in-Err-Memory.ensures.status in cc)

pub returns-clause-run : goal.returns-clause-run
returns-clause-run g c =
    let before = g.F.Folder.state c.args.folder.now in
    let after = g.F.Folder.state c.say-in-Err-Memory.new.folder in
    let start = g.F.Folder.told c.args.folder.now in
    let end = g.F.Folder.told c.say-in-Err-Memory.new.folder in
    let rose = Rose before.faults after.faults in
    let book = c.args.book.now in
    let status = c.say-in-Err-Memory.result in
    let memory = is_memory status c.say-in-Err-Memory.ensures.status in
    let said = c.say-in-Err-Memory.ensures.told in
    record {
      booked = λ done. absurd (let e = memory in cc);
      usage = λ wrong. inr memory;
      named = λ usage. absurd (let e = memory in cc);
      unread = inr (record { empty = c.requires.book; untouched = c.say-in-Err-Memory.ensures.state; ended = inr memory });
      cause = λ request asked. subst (HasCauseOf request book before after) (sym memory) (inl c.requires.book);
      settled = λ request asked. empty_is_few request.budget book c.requires.book;
      budget = λ request asked used other. inr memory;
      shown = λ request asked. unread_shown request.task book before after status c.requires.book c.say-in-Err-Memory.ensures.state memory;
      told = λ request asked.
          subst (λ (s : Status). WhereTold start end (Ends request book rose s)) (sym memory)
          (where_told_weaker start end (SaysLine memory_line (rose ⊎ (status ≡ Memory))) (Ends request book rose Memory) said
          (unread_ends request book before rose (rose ⊎ (status ≡ Memory)) c.requires.book));
      told_unasked = λ none.
          where_told_weaker _ _ (SaysLine memory_line (rose ⊎ (status ≡ Memory))) (EndsUnasked rose status) said
          (memory_ends rose status memory (rose ⊎ (status ≡ Memory)));
      decided = λ request asked.
          where_told_weaker _ _ (SaysLine memory_line (rose ⊎ (status ≡ Memory))) (IsDecided request book rose status) said
          (λ x y line. unread_decided request book rose status memory x y);
      sure = λ none. unread_no_folder status (inr memory);
    }
