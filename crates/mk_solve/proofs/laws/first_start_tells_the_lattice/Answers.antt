use Rattle.std.proofs.Common.{◌≡◌, ◌⊎◌, inl, inr, ℕ, List, [], ◌∷◌, length, All, ap, refl, sym, ◌∙◌, subst}
use Rattle.std.proofs.lemmas.List.Elements.{All-head}
use Rattle.mk_model.specs.Lattices.{Lattice, HasGrading, lattice_of}
use Rattle.mk_core.specs.declared.phase.Phase.{Phase}
use Rattle.mk_solve.specs.Books.{Book, book_as, phase_as, phases_as, stop_as}
use Rattle.mk_solve.specs.FirstStarts.{IsKnownByStart, lattice_of_start, moves_of_start}
use Rattle.mk_solve.specs.declared.book.BookStop.{BookStop}
use Rattle.mk_solve.specs.Solutions.{BookBegins, BookCompletes, BookStops, IsPhaseKept, KeepsBases}
use Rattle.mk_solve.proofs.FirstStarts.{BeginsLattice, again, complete_again, complete_begins, graded_again, none_complete, none_stops, spanned_again, stop_again, stop_begins, under_way_again, under_way_begins}
use Rattle.mk_solve.proofs.laws.first_start_tells_the_lattice.Goals as goal

module _ (lattice : Lattice) (book : Book) (g : HasGrading lattice) (bases : KeepsBases lattice.grading book) (first : Phase)
    (later : List Phase) (e : book.phases ≡ first ∷ later) where
  same_grading : lattice.grading ≡ first.basis.grading
  same_grading = sym (All-head (IsPhaseKept lattice.grading) first later
      (subst (λ phases. All (IsPhaseKept lattice.grading) phases) e bases.phases)).grading

  same_start : again lattice (phase_as first) ≡ lattice_of_start first
  same_start =
      ap (λ n. lattice_of n (moves_of_start first) lattice.grading) (sym g.columns)
      ∙ ap (λ w. lattice_of (length w) (moves_of_start first) w) same_grading

  known : (Fact : Lattice → Type 0) → BeginsLattice lattice (phase_as first) → Fact (again lattice (phase_as first)) →
      IsKnownByStart book lattice Fact
  known Fact b fact = record {
    first = first;
    later = later;
    begins = e;
    spanned = spanned_again lattice g (phase_as first) b;
    grading = same_grading;
    graded = subst HasGrading same_start (graded_again lattice g (phase_as first) b);
    fact = subst Fact same_start fact;
  }

  plain : (book_as book).phases ≡ phase_as first ∷ phases_as later
  plain = ap phases_as e

pub returns-clause-complete : goal.returns-clause-complete
returns-clause-complete c = λ lattice book g h. go lattice book g h book.phases refl
  where
    go : (lattice : Lattice) (book : Book) → HasGrading lattice → BookCompletes book lattice → (phases : List Phase) →
        book.phases ≡ phases → IsKnownByStart book lattice (BookCompletes book)
    go lattice book g h [] e = absurd (none_complete lattice (book_as book).phases h.complete.rest (ap phases_as e) h.complete.phases)
    go lattice book g h (first ∷ later) e =
        let p = plain lattice book g h.bases first later e in
        known lattice book g h.bases first later e (BookCompletes book)
        (complete_begins lattice g (phase_as first) (book_as book) (phases_as later) p h.complete)
        (record { bases = h.bases; complete = complete_again lattice g (phase_as first) (book_as book) (phases_as later) p h.complete })

pub returns-clause-under_way : goal.returns-clause-under_way
returns-clause-under_way c = λ lattice book g h. go lattice book g h book.phases refl
  where
    go : (lattice : Lattice) (book : Book) → HasGrading lattice → BookBegins book lattice → (phases : List Phase) → book.phases ≡ phases →
        (book.phases ≡ []) ⊎ IsKnownByStart book lattice (BookBegins book)
    go lattice book g h [] e = inl e
    go lattice book g h (first ∷ later) e =
        let p = plain lattice book g h.bases first later e in
        inr (known lattice book g h.bases first later e (BookBegins book)
        (under_way_begins lattice g (phase_as first) (book_as book) (phases_as later) p h.under_way)
        (record { bases = h.bases; under_way = under_way_again lattice g (phase_as first) (book_as book) (phases_as later) p h.under_way }))

pub returns-clause-stopped : goal.returns-clause-stopped
returns-clause-stopped c = λ lattice budget book stop g h. go lattice budget book stop g h book.phases refl
  where
    go : (lattice : Lattice) (budget : ℕ) (book : Book) (stop : BookStop) → HasGrading lattice → BookStops budget book stop lattice →
        (phases : List Phase) → book.phases ≡ phases → IsKnownByStart book lattice (BookStops budget book stop)
    go lattice budget book stop g h [] e = absurd (none_stops lattice budget (book_as book) (stop_as stop) (ap phases_as e) h.cause)
    go lattice budget book stop g h (first ∷ later) e =
        let p = plain lattice book g h.bases first later e in
        known lattice book g h.bases first later e (BookStops budget book stop)
        (stop_begins lattice g (phase_as first) (book_as book) (phases_as later) p budget (stop_as stop) h.cause)
        (record {
          bases = h.bases;
          cause = stop_again lattice g (phase_as first) (book_as book) (phases_as later) p budget
              (stop_as stop) h.cause;
        })
