-- The lattice that a book speaks of, as the start of its first phase tells it: over a folder that doesn't tell, too.
use Rattle.std.specs.Prelude.{◌≡◌, List, ◌∷◌, length, take, ℤ}
use Rattle.mk_model.specs.Lattices.{Lattice, HasGrading, SameLattice, lattice_of}
use Rattle.mk_move.specs.MoveLists.{vectors_of}
use Rattle.mk_core.specs.declared.phase.Phase.{Phase}
use Rattle.mk_solve.specs.Books.{Book}

-- the moves with which a phase began
abbrev pub moves_of_start : Phase → List (List ℤ)
moves_of_start phase = take phase.start_len (vectors_of phase.basis.moves)

-- the lattice that they span, with the grading of the phase
abbrev pub lattice_of_start : Phase → Lattice
lattice_of_start phase = lattice_of (length phase.basis.grading) (moves_of_start phase) phase.basis.grading

-- The moves with which the book's first phase began span the lattice, the phase has its grading, and so it is for these moves with this
-- grading.
pub record IsKnownByStart (book : Book) (lattice : Lattice) (Fact : Lattice → Type 0) : Type 0 where
  pub first : Phase
  pub later : List Phase
  pub begins : book.phases ≡ first ∷ later
  pub spanned : SameLattice lattice.columns lattice.rows (moves_of_start first)
  pub grading : lattice.grading ≡ first.basis.grading
  pub graded : HasGrading (lattice_of_start first)
  pub fact : Fact (lattice_of_start first)
