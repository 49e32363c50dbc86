-- How solving a table ends, from how solving its rows does; and a run whose budget is used while a pair is left has stopped by it.
use Rattle.std.proofs.Common.{◌≡◌, ℕ, List, length, ℤ, Some, Option, Result, Ok, Err, ap, sym, ◌∙◌, subst, refl}
use Rattle.std.specs.Option.{option_map}
use Rattle.mk_model.specs.Books.{IsNoOtherStop, HasStopped}
use Rattle.mk_model.specs.Lattices.{Lattice, lattice_of}
use Rattle.mk_model.specs.Tables.{Grid, rows_of, lattice_of_table}
use Rattle.mk_model.proofs.BookLaws.{ended_not_used}
use Rattle.mk_move.specs.MoveLists.{MoveListView}
use Rattle.mk_solve.specs.Books.{Book, book_as, stop_as}
use Rattle.mk_solve.specs.Solutions.{Solves, StopsByBudget}
use Rattle.mk_solve.specs.declared.book.BookStop.{BookStop}
use Rattle.mk_solve.specs.declared.book.BookStop.TheVariants.{Overflow, Budget, BasisFull}
use Rattle.mk_solve.specs.declared.solving.RunStop.{RunStop}
use Rattle.mk_solve.specs.declared.solving.RunStop.TheVariants.{Memory, Stopped}
use Rattle.mk_solve.proofs.Reached.{lattice_with}

by_budget : (lattice : Lattice) (budget : ℕ) (book : Book) (stop : BookStop) → book.stop ≡ Some stop → HasStopped lattice budget (book_as book) (stop_as stop) →
    IsNoOtherStop (Some (stop_as stop)) → book.stop ≡ Some (Budget budget)
by_budget lattice budget book (Overflow place stop) e h none = absurd none
by_budget lattice budget book (Budget settled) e (s, b, h) none = e ∙ ap (λ n. Some (Budget n)) b
by_budget lattice budget book (BasisFull phase i j) e h none = absurd none

pub solves_by_budget : (lattice : Lattice) (budget : ℕ) (upto : Option ℕ) (result : Result MoveListView RunStop) (book : Book) → Solves lattice budget upto result book → StopsByBudget budget result book
solves_by_budget lattice budget upto (Ok list) book s used none = absurd (ended_not_used lattice budget (book_as book) _ _ s.ends.1.done.phases used)
solves_by_budget lattice budget upto (Err Memory) book s used none = absurd (ended_not_used lattice budget (book_as book) _ _ s.ends.1.phases used)
solves_by_budget lattice budget upto (Err Stopped) book s used none =
    let (stop, e, h) = s.ends in
    (refl, by_budget lattice budget book stop e h (subst (λ (kept : Option BookStop). IsNoOtherStop (option_map stop_as kept)) e none))

-- ---- the lattice of a table
pub table_solves : (grid : Grid) (w : List ℤ) (budget : ℕ) (upto : Option ℕ) (result : Result MoveListView RunStop) (book : Book) → length w ≡ grid.columns →
    Solves (lattice_with (rows_of grid) w) budget upto result book → Solves (lattice_of_table grid w) budget upto result book
table_solves grid w budget upto result book e = subst (λ n. Solves (lattice_of n (rows_of grid) w) budget upto result book) e

pub table_refused : (grid : Grid) (w : List ℤ) (budget : ℕ) (upto : Option ℕ) (result : Result MoveListView RunStop) (fault : RunStop) (book : Book) → length w ≡ grid.columns → result ≡ Err fault →
    Solves (lattice_with (rows_of grid) w) budget upto (Err fault) book → Solves (lattice_of_table grid w) budget upto result book
table_refused grid w budget upto result fault book e f s =
    subst (λ (result : Result MoveListView RunStop). Solves (lattice_of_table grid w) budget upto result book) (sym f) (table_solves grid w budget upto (Err fault) book e s)
