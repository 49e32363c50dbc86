-- The reduced basis of a run, and why there is none.
use Rattle.std.proofs.Common.{◌≡◌, ℕ, List, [], length, Option, Err, Some, ℤ, ap, sym, subst, refl}
use Rattle.std.specs.Option.{option_map}
use Rattle.mk_model.specs.Books.{BookIsComplete}
use Rattle.mk_model.specs.Lattices.{lattice_of, SameLattice}
use Rattle.mk_model.specs.ReducedBases.{IsReducedBasis}
use Rattle.mk_move.specs.MoveLists.{BasisView, vectors_of}
use Rattle.mk_inter.proofs.SameLattices.{SameLattice-back, basis_of_others}
use Rattle.mk_saturate.proofs.Spans.{SameLattice-transitive}
use Rattle.mk_solve.specs.Books.{Book, book_as}
use Rattle.mk_solve.specs.Solutions.{Solves}
use Rattle.mk_solve.specs.Steps.{IsReducedOf, KeepsTailStop, Reduces}
use Rattle.mk_solve.specs.declared.book.BookStop.TheVariants.{Overflow}
use Rattle.mk_solve.specs.declared.book.OverflowPlace.TheVariants.{Tail}
use Rattle.mk_solve.specs.declared.solving.RunStop.{RunStop}
use Rattle.mk_solve.specs.declared.solving.RunStop.TheVariants.{Memory, Stopped}
use Rattle.mk_solve.proofs.Reached.{lattice_with, IsReached, bases_kept, reached_solves}

module _ (rows : List (List ℤ)) (w : List ℤ) (budget : ℕ) (saturated : BasisView) (book : Book) (h : IsReached rows w budget (vectors_of saturated.moves) saturated book []) where
  pub reduced_of_rows : (basis : BasisView) → IsReducedOf saturated basis → IsReducedBasis (lattice_with rows w) (vectors_of basis.moves)
  reduced_of_rows basis r =
      basis_of_others (SameLattice-back h.lattice)
      (subst (λ (v : List ℤ). IsReducedBasis (lattice_of (length v) (vectors_of saturated.moves) v) (vectors_of basis.moves)) h.grading r.reduced)

  -- the lattice of the rows is that of the reduced basis
  pub lattice_of_reduced : (basis : BasisView) → IsReducedOf saturated basis → SameLattice (length w) rows (vectors_of basis.moves)
  lattice_of_reduced basis r =
      SameLattice-transitive (length w) rows (vectors_of saturated.moves) (vectors_of basis.moves) h.lattice
      (subst (λ (v : List ℤ). SameLattice (length v) (vectors_of saturated.moves) (vectors_of basis.moves)) h.grading r.lattice)

  -- a book that keeps the reduced basis beside the phases is done
  unfoldable pub done_with : (basis : BasisView) → IsReducedOf saturated basis → (after : Book) → after.phases ≡ book.phases → after.reduced ≡ Some basis → BookIsComplete (lattice_with rows w) (book_as after)
  done_with basis r after phases made = record {
    rest = vectors_of saturated.moves;
    phases = rw phases h.phases;
    basis = vectors_of basis.moves;
    made = ap (option_map (λ (basis : BasisView). vectors_of basis.moves)) made;
    reduced = reduced_of_rows basis r;
  }

  tail_stopped : {upto : Option ℕ} (after : Book) → KeepsTailStop saturated book after → Solves (lattice_with rows w) budget upto (Err Stopped) after
  tail_stopped {upto} after k = subst (λ (b : Book). Solves (lattice_with rows w) budget upto (Err Stopped) b) (sym k.kept) (record {
    input = h.input;
    settled = h.within;
    bases = bases_kept w (record book { stop = Some (Overflow (Tail k.index) k.stop) }) h.kept h.reduced;
    ends = (
      Overflow (Tail k.index) k.stop,
      refl,
      record {
        rest = vectors_of saturated.moves;
        phases = h.phases;
        genuine = k.genuine;
        not_reduced = ap (option_map (λ (basis : BasisView). vectors_of basis.moves)) h.reduced;
      },
    );
  })

  -- no reduced basis
  pub reduction_refused : {upto : Option ℕ} (fault : RunStop) (after : Book) → Reduces saturated book (Err fault) after → Solves (lattice_with rows w) budget upto (Err fault) after
  reduction_refused {upto} Memory after e =
      subst (λ (b : Book). Solves (lattice_with rows w) budget upto (Err Memory) b) (sym e) (reached_solves rows w budget (vectors_of saturated.moves) saturated book [] h)
  reduction_refused Stopped after k = tail_stopped after k
