-- What a run on some words owes, whoever works. The headline, from the words to the bytes of the answer, is a clause of its own.
use Rattle.std.specs.Prelude.{◌≡◌, ◌⊎◌, ◌≤◌, List, Option}
use Rattle.mk_desk.specs.Folders.{CountsNoFault, Desk, Rose, State, WhereTold}
use Rattle.mk_solve.specs.Books.{Book, settled_of}
use Rattle.mk_words.specs.Requests.{AreWrong, IsRequest}
use Rattle.mk_words.specs.Words.{Word}
use Rattle.mk_words.specs.declared.request.Request.{Request}
use Rattle.mk_run.specs.Runs.{BooksProblem, Ends, EndsByBudget, EndsUnasked, HasCauseOf, IsDecided, IsShownFor, IsUnread}
use Rattle.mk_run.specs.declared.status.Status.{Status}
use Rattle.mk_run.specs.declared.status.Status.TheVariants.{Done, Usage, Folder, Memory}

-- A run on these words, over a folder of a kind that may tell a desk and has a state, from the folder before to the folder after, ended
-- with this book and this status.
pub record IsRunOnWords {F : Type 0} (desk_of : F → Option Desk) (state_of : F → State) (words : List Word) (before after : F)
    (book : Book) (result : Status) : Type 0 where
  -- The book shows how the answer was found.
  pub booked : result ≡ Done → (request : Request) → IsRequest words request
      → WhereTold (desk_of before) (desk_of after) (λ old new. BooksProblem request.task old.files book)
  -- Usage where the words are not in the language, unless memory ran out; and no other words do. The words are read as a request, or
  -- nothing is touched.
  pub usage : AreWrong words → (result ≡ Usage) ⊎ (result ≡ Memory)
  pub named : result ≡ Usage → AreWrong words
  pub unread : ((request : Request) × IsRequest words request) ⊎ IsUnread book (state_of before) (state_of after) result
  -- Each status has its cause. The book has a fault exactly where the input was refused, and a stop exactly where the
  -- run stopped, unless memory ran out. It has no more pairs than asked for, and where it has so many and a pair is left
  -- the status says so.
  pub cause : (request : Request) → IsRequest words request → HasCauseOf request book (state_of before) (state_of after) result
  pub settled : (request : Request) → IsRequest words request → settled_of book.phases ≤ request.budget
  pub budget : (request : Request) → IsRequest words request → EndsByBudget request.budget book result
  pub shown : (request : Request) → IsRequest words request
      → IsShownFor request.task book.input (state_of before) (state_of after) result
  -- What each ending but the answer says and leaves, and what is decided by what is asked for, where the folder tells.
  pub told : (request : Request) → IsRequest words request
      → WhereTold (desk_of before) (desk_of after)
      (Ends request book (Rose (state_of before).faults (state_of after).faults) result)
  pub told_unasked : AreWrong words
      → WhereTold (desk_of before) (desk_of after)
      (EndsUnasked (Rose (state_of before).faults (state_of after).faults) result)
  pub decided : (request : Request) → IsRequest words request
      → WhereTold (desk_of before) (desk_of after)
      (IsDecided request book (Rose (state_of before).faults (state_of after).faults) result)
  -- Over a folder that counts no fault, none is answered.
  pub sure : CountsNoFault state_of → result ≡ Folder → ⊥
