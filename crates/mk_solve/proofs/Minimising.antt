-- The essential moves of a run, and why there are none.
use Rattle.std.proofs.Common.{◌≡◌, ℕ, List, [], length, All, Ok, Result, Err, Option, Some, ℤ, inr, ap, sym, ◌∙◌, subst, refl}
use Rattle.mk_model.specs.Bases.{IsMinimalMarkovBasis}
use Rattle.mk_model.specs.Lattices.{lattice_of, HasGrading}
use Rattle.mk_model.specs.Overflows.{IsPairOfWeight}
use Rattle.mk_model.proofs.TheAnswer.{the_answer}
use Rattle.mk_move.specs.Moves.{IsGraded}
use Rattle.mk_move.specs.MoveLists.{lattice_spanned, MoveListView, BasisView, vectors_of}
use Rattle.mk_ledger.specs.Halts.{stop_of}
use Rattle.mk_inter.specs.Tails.{IsReducedList}
use Rattle.mk_inter.proofs.Bases.{grading_of}
use Rattle.mk_inter.proofs.SameLattices.{SameLattice-back}
use Rattle.mk_solve.specs.Books.{Book}
use Rattle.mk_solve.specs.Solutions.{KeepsBases, Solves}
use Rattle.mk_solve.specs.Steps.{IsReducedOf, IsMinimalOf, KeepsWeightStop, Minimises}
use Rattle.mk_solve.specs.declared.book.BookStop.TheVariants.{Overflow}
use Rattle.mk_solve.specs.declared.book.OverflowPlace.TheVariants.{Degree}
use Rattle.mk_solve.specs.declared.solving.RunStop.{RunStop}
use Rattle.mk_solve.specs.declared.solving.RunStop.TheVariants.{Memory, Stopped}
use Rattle.mk_solve.proofs.Reached.{lattice_with, IsReached}
use Rattle.mk_solve.proofs.SameAnswers.{the_answer_of_others}
use Rattle.mk_solve.proofs.Tails.{lattice_of_reduced, done_with}

-- the grading of a reduced basis grades its moves
list_grading : (basis : BasisView) → IsReducedList basis → HasGrading (lattice_spanned basis)
list_grading basis r = grading_of basis.priority basis.grading basis.moves r.kept.grading r.kept.columns r.kept.moves

module _ (rows : List (List ℤ)) (w : List ℤ) (budget : ℕ) (saturated : BasisView) (book : Book) (h : IsReached rows w budget (vectors_of saturated.moves) saturated book [])
    (basis : BasisView) (r : IsReducedOf saturated basis) where
  same : basis.grading ≡ w
  same = r.grading ∙ h.grading

  answer_of_rows : {upto : Option ℕ} (list : MoveListView) → IsMinimalOf basis upto list → IsMinimalMarkovBasis (lattice_with rows w) upto (vectors_of list.moves)
  answer_of_rows {upto} list m =
      the_answer_of_others (SameLattice-back (lattice_of_reduced rows w budget saturated book h basis r))
      (subst (λ (v : List ℤ). IsMinimalMarkovBasis (lattice_of (length v) (vectors_of basis.moves) v) upto (vectors_of list.moves)) same
      (the_answer (list_grading basis r.kept) m.answer))

  -- the book that keeps the reduced basis
  abbrev reduced_book : Book
  reduced_book = record book { reduced = Some basis }

  bases : KeepsBases w reduced_book
  bases = record { phases = h.kept; reduced = (r.kept, same) }

  solved : {upto : Option ℕ} (list : MoveListView) (after : Book) → IsMinimalOf basis upto list → after ≡ reduced_book → Solves (lattice_with rows w) budget upto (Ok list) after
  solved {upto} list after m e = subst (λ (b : Book). Solves (lattice_with rows w) budget upto (Ok list) b) (sym e) (record {
    input = h.input;
    settled = h.within;
    bases = bases;
    ends = (
      h.stop,
      record {
        done = done_with rows w budget saturated book h basis r reduced_book refl refl;
        columns = m.columns ∙ ap (λ (v : List ℤ). length v) same;
        graded = subst (λ v. All (IsGraded v) list.moves) same m.graded;
        answer = answer_of_rows list m;
      },
    );
  })

  weight_stopped : {upto : Option ℕ} (after : Book) → KeepsWeightStop basis book after → Solves (lattice_with rows w) budget upto (Err Stopped) after
  unfolding done_with
  weight_stopped {upto} after k = subst (λ (b : Book). Solves (lattice_with rows w) budget upto (Err Stopped) b) (sym k.kept) (record {
    input = h.input;
    settled = h.within;
    bases = record { phases = h.kept; reduced = (r.kept, same) };
    ends = (
      Overflow Degree k.stop,
      refl,
      record {
        done = done_with rows w budget saturated book h basis r (record book { reduced = Some basis; stop = Some (Overflow Degree k.stop) }) refl refl;
        of_weight = subst (λ (v : List ℤ). IsPairOfWeight v (vectors_of basis.moves) (stop_of k.stop).pair) same k.of_weight;
        genuine = k.genuine;
      },
    );
  })

  without_memory : {upto : Option ℕ} (after : Book) → after ≡ reduced_book → Solves (lattice_with rows w) budget upto (Err Memory) after
  without_memory {upto} after e = subst (λ (b : Book). Solves (lattice_with rows w) budget upto (Err Memory) b) (sym e) (record {
    input = h.input;
    settled = h.within;
    bases = bases;
    ends = (
      h.stop,
      record {
        rest = vectors_of saturated.moves;
        left = [];
        phases = h.phases;
        reduced = inr (done_with rows w budget saturated book h basis r reduced_book refl refl);
      },
    );
  })

  pub minimising_solves : {upto : Option ℕ} (result : Result MoveListView RunStop) (after : Book) → Minimises basis upto book result after → Solves (lattice_with rows w) budget upto result after
  minimising_solves (Ok list) after (m, e) = solved list after m e
  minimising_solves (Err Memory) after e = without_memory after e
  minimising_solves (Err Stopped) after k = weight_stopped after k
