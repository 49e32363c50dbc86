-- How a run ends that has read no request, and one that is done.
use Rattle.std.proofs.Common.{◌≡◌, ◌⊎◌, ◌≤◌, List, [], ◌∷◌, ℕ, Option, ap, arith, inl, inr, sym, subst, ◌∙◌}
use Rattle.mk_desk.specs.Folders.{Desk, State, OnlyFaultsRose, WhereTold}
use Rattle.mk_desk.proofs.Telling.{none_rose, where_told_weaker}
use Rattle.mk_solve.specs.Books.{Book, empty_book}
use Rattle.mk_words.specs.Requests.{IsChosen, IsRequest}
use Rattle.mk_words.specs.Words.{Word}
use Rattle.mk_words.specs.declared.request.Request.{Request}
use Rattle.mk_words.specs.declared.request.Task.{Task}
use Rattle.mk_words.specs.declared.request.Task.TheVariants.{Project, Model}
use Rattle.mk_run.specs.Lines.{usage_line, memory_line}
use Rattle.mk_run.specs.Runs.{BooksProblem, Ends, EndsUnasked, GivesMarkovBasis, HasCauseOf, IsShownFor, SaysLine}
use Rattle.mk_run.specs.declared.status.Status.{Status}
use Rattle.mk_run.specs.declared.status.Status.TheVariants.{Done, Usage, Folder, Memory}

-- a line of which nothing is known but that it was said or not
said_in_part : (line : List ℕ) (reason : Type 0) (x y : Desk) → SaysLine line reason x y → SaysLine line (Unit {0}) x y
said_in_part line reason x y said = record { count = said.count; whole = inr tt; change = said.change }

-- words that are not in the language, and the line said about them
pub usage_ends : (rose : Type 0) (status : Status) → (status ≡ Usage) ⊎ (status ≡ Memory) → (x y : Desk) → SaysLine usage_line (rose ⊎ (status ≡ Memory)) x y → EndsUnasked rose status x y
usage_ends rose status which x y said =
    elim which [
      | inl e ↦ subst (λ (s : Status). EndsUnasked rose s x y) (sym e) (record {
        count = said.count;
        whole = elim said.whole [ inl all ↦ inl all | inr r ↦ elim r [ inl u ↦ inr u | inr m ↦ absurd (let both = sym e ∙ m in cc) ] ];
        change = said.change;
      })
      | inr e ↦ subst (λ (s : Status). EndsUnasked rose s x y) (sym e) (inl (said_in_part usage_line (rose ⊎ (status ≡ Memory)) x y said))
    ]

-- no memory was found for the words
pub memory_ends : (rose : Type 0) (status : Status) → status ≡ Memory → (reason : Type 0) (x y : Desk) → SaysLine memory_line reason x y → EndsUnasked rose status x y
memory_ends rose status e reason x y said = subst (λ (s : Status). EndsUnasked rose s x y) (sym e) (inr (said_in_part memory_line reason x y said))

pub unread_shown : (task : Task) (book : Book) (before after : State) (status : Status) → book ≡ empty_book → OnlyFaultsRose before after → status ≡ Memory → IsShownFor task book.input before after status
unread_shown (Project name) book before after status none only memory = record {
  faulty = λ fault kept. absurd (let empty = ap (λ (b : Book). b.input) none in cc);
  too_long = λ many. inr memory;
}
unread_shown (Model sizes) book before after status none only memory = only

-- a run that is done has given the answer, and its book shows it
pub done_gives : (request : Request) (book : Book) (rose : Type 0) (status : Status) (a b : Option Desk) → status ≡ Done → WhereTold a b (Ends request book rose status) → WhereTold a b (GivesMarkovBasis request.task request.upto)
done_gives request book rose status a b e told =
    where_told_weaker a b (Ends request book rose Done) (GivesMarkovBasis request.task request.upto) (subst (λ (s : Status). WhereTold a b (Ends request book rose s)) e told) (λ x y h. h.0)

pub done_books : (request : Request) (book : Book) (rose : Type 0) (status : Status) (a b : Option Desk) → status ≡ Done → WhereTold a b (Ends request book rose status) → WhereTold a b (λ before after. BooksProblem request.task before.files book)
done_books request book rose status a b e told =
    where_told_weaker a b (Ends request book rose Done) (λ before after. BooksProblem request.task before.files book) (subst (λ (s : Status). WhereTold a b (Ends request book rose s)) e told) (λ x y h. h.1)

-- ---- how many workers are asked for
chosen_within : (least most default : ℕ) (values : List Word) (n : ℕ) → least ≤ default → default ≤ most → IsChosen least most default values n → (least ≤ n) × (n ≤ most)
chosen_within least most default [] n l m e = (omega (arith, l, e), omega (arith, m, e))
chosen_within least most default (v ∷ []) n l m h = (h.above, h.below)
chosen_within least most default (v ∷ u ∷ more) n l m h = absurd h

pub workers_within : (words : List Word) (request : Request) → IsRequest words request → (1 ≤ request.workers) × (request.workers ≤ 64)
workers_within words request h = chosen_within 1 64 4 _ request.workers (omega arith) (omega arith) h.asked.workers

-- ---- a folder that counts no fault
pub no_folder : (request : Request) (book : Book) (before after : State) (status : Status) → after.faults ≡ 0 → HasCauseOf request book before after status → status ≡ Folder → ⊥
no_folder request book before after status none cause e = none_rose before.faults after.faults none (subst (HasCauseOf request book before after) e cause).1

pub unread_no_folder : (status : Status) → (status ≡ Usage) ⊎ (status ≡ Memory) → status ≡ Folder → ⊥
unread_no_folder status (inl e) f = let same = sym e ∙ f in cc
unread_no_folder status (inr e) f = let same = sym e ∙ f in cc
