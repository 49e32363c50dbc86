-- The books of two lattices.
use Rattle.std.proofs.Common.{◌≡◌, inl, inr, ℕ, List, [], ◌∷◌, None, ℤ, pos, ◌<ℤ◌, All, Contains, arith, refl}
use Rattle.std.proofs.lemmas.Int.{ints}
use Rattle.std.proofs.lemmas.Option.{none-some}
use Rattle.std.proofs.lemmas.List.Elements.{All-nil, All-cons, All-contains}
use Rattle.mk_model.specs.Vectors.{combine, add, subtract, negate, scale, positive_part, negative_part, weight, IsPoint}
use Rattle.mk_model.specs.Lattices.{combination, InLattice, HasGrading, ones}
use Rattle.mk_model.specs.Orders.{standard, IsRowTurned}
use Rattle.mk_model.specs.Bases.{IsMove}
use Rattle.mk_model.specs.Reductions.{IsIrreducible}
use Rattle.mk_model.specs.ReducedBases.{IsReducedBasis}
use Rattle.mk_model.specs.Saturation.{divides}
use Rattle.mk_model.specs.FreeColumns.{bound_columns, is_within, without_support}
use Rattle.mk_model.specs.CoreStates.{pair_of}
use Rattle.mk_model.specs.Books.{settled_in, IsPhaseAlong, IsPhaseEnded, BookIsComplete, BookIsUnderWay, HasStopped}
use Rattle.mk_model.specs.Books.PlainStop.{Budget}
use Rattle.mk_examples.specs.Worked.{unit_move, unit_lattice, lone_phase, unit_book, cubic_first, cubic_second, cubic_rows, cubic_turned, cubic_lattice, starved_book}
use Rattle.mk_model.proofs.LatticeLaws.{InLattice-weight}
use Rattle.mk_examples.proofs.Ascending.{ascends-true}
use Rattle.mk_model.proofs.LegalEvents.{new_is_legal}
use Rattle.mk_examples.proofs.JournalExamples.{none_settled}
use Rattle.mk_examples.proofs.AnswerExamples.{row_graded}
use Rattle.mk_examples.proofs.SmallVectors.{two_entries, same_two, Divides-nil, Divides-cons, less, oriented_by_test}
use Rattle.mk_examples.proofs.UndividedBases.{reduced_from_undivided}

-- ---- the reduced basis of (1 -1)
sums : All (λ row. weight (ones 2) row ≡ pos 0) (unit_move ∷ [])
unfolding weight
sums = All-cons (λ row. weight (ones 2) row ≡ pos 0) unit_move [] refl (All-nil (λ row. weight (ones 2) row ≡ pos 0))

graded : HasGrading unit_lattice
unfolding weight
graded = row_graded 2 unit_move refl refl

member : (m : List ℤ) → Contains (unit_move ∷ []) m → IsMove 2 (unit_move ∷ []) m
unfolding combination add combine scale positive_part negative_part negate
member m h =
    All-contains (IsMove 2 (unit_move ∷ [])) (unit_move ∷ []) m
    (All-cons (IsMove 2 (unit_move ∷ [])) unit_move [] (record {
      in_lattice = ((λ i. pos 1), refl);
      oriented = oriented_by_test (standard 2) unit_move refl;
    }) (All-nil (IsMove 2 (unit_move ∷ [])))) h

undivided : (a b : ℤ) → IsPoint 2 (a ∷ b ∷ []) → IsIrreducible (unit_move ∷ []) (a ∷ b ∷ []) → a <ℤ pos 1
unfolding positive_part
undivided a b p none = less a (pos 1) (λ l. none unit_move (0, omega arith, refl)
    (Divides-cons l (Divides-cons (p.nonnegative 1) Divides-nil)))

one_undivided : (a b c d : ℤ) → IsPoint 2 (a ∷ b ∷ []) → IsPoint 2 (c ∷ d ∷ []) →
    InLattice 2 (unit_move ∷ []) (subtract (a ∷ b ∷ []) (c ∷ d ∷ [])) →
    IsIrreducible (unit_move ∷ []) (a ∷ b ∷ []) → IsIrreducible (unit_move ∷ []) (c ∷ d ∷ []) → (a ∷ b ∷ []) ≡ c ∷ d ∷ []
unfolding weight subtract combine
one_undivided a b c d p q h none other =
    let sum = InLattice-weight (ones 2) 2 (unit_move ∷ []) (subtract (a ∷ b ∷ []) (c ∷ d ∷ [])) sums h in
    let first : a ≡ c = omega (arith, ints, undivided a b p none, undivided c d q other, p.nonnegative 0, q.nonnegative 0) in
    same_two a b c d first (omega (arith, ints, sum, first))

one : (x y : List ℤ) → IsPoint 2 x → IsPoint 2 y → InLattice 2 (unit_move ∷ []) (subtract x y) → IsIrreducible (unit_move ∷ []) x →
    IsIrreducible (unit_move ∷ []) y → x ≡ y
one x y p q h none other =
    let e = two_entries x p.columns in
    let f = two_entries y q.columns in
    rw (e, f) (one_undivided _ _ _ _ (rw e at p) (rw f at q) (rw (e, f) at h) (rw e at none) (rw f at other))

unit_basis : IsReducedBasis unit_lattice (unit_move ∷ [])
unfolding divides subtract combine positive_part negative_part negate weight
unit_basis = reduced_from_undivided graded (unit_move ∷ []) member one refl refl (ascends-true 2 (ones 2) (unit_move ∷ []) refl)

-- ---- phases of one move have no pair
lone_along : (list : List ℕ) (row move : List ℤ) → IsRowTurned list row move → IsPhaseAlong 2 (row ∷ []) list (lone_phase list move)
lone_along list row move turned = record {
  priority = refl;
  begun = (turned, tt);
  legal = new_is_legal 2 list (move ∷ []) 0 65536 0 (omega arith);
}

lone_ended : (list : List ℕ) (move : List ℤ) → IsPhaseEnded (lone_phase list move)
lone_ended list move = record { all_settled = λ pair h. absurd (omega (arith, h.ordered, h.within)); none_claimed = λ worker. refl }

pub complete : BookIsComplete unit_lattice unit_book
unfolding negate positive_part negative_part bound_columns is_within without_support
complete = record {
  rest = unit_move ∷ [];
  phases = (
    lone_along (1 ∷ 0 ∷ []) unit_move unit_move (record { either = inl refl; oriented = oriented_by_test (1 ∷ 0 ∷ []) unit_move refl }),
    lone_ended (1 ∷ 0 ∷ []) unit_move,
    (
      lone_along (1 ∷ 0 ∷ []) unit_move unit_move (record { either = inl refl; oriented = oriented_by_test (1 ∷ 0 ∷ []) unit_move refl }),
      lone_ended (1 ∷ 0 ∷ []) unit_move,
      (refl, refl),
    ),
  );
  basis = unit_move ∷ [];
  made = refl;
  reduced = unit_basis;
}

pub begun : BookIsUnderWay cubic_lattice (record { phases = []; reduced = None })
begun = record { rest = cubic_rows; left = _; phases = (refl, refl); reduced = inl refl }

-- ---- no budget
pub stopped : HasStopped cubic_lattice 0 starved_book (Budget 0)
unfolding negate positive_part negative_part settled_in bound_columns is_within without_support
stopped = (
  refl,
  refl,
  (
    0,
    record { priority = 0 ∷ 3 ∷ 2 ∷ 1 ∷ []; start_length = 2; basis = cubic_turned; journal = [] },
    record {
      earlier = [];
      all = refl;
      counted = refl;
      moves = cubic_rows;
      list = 0 ∷ 3 ∷ 2 ∷ 1 ∷ [];
      left = _;
      before = (refl, refl);
      along = record {
        priority = refl;
        begun = (
          record { either = inr refl; oriented = oriented_by_test (0 ∷ 3 ∷ 2 ∷ 1 ∷ []) cubic_first refl },
          (record { either = inr refl; oriented = oriented_by_test (0 ∷ 3 ∷ 2 ∷ 1 ∷ []) cubic_second refl }, tt),
        );
        legal = new_is_legal 4 (0 ∷ 3 ∷ 2 ∷ 1 ∷ []) cubic_turned 0 65536 0 (omega arith);
      };
      not_reduced = refl;
    },
    (
      pair_of 0 1,
      record {
        of_basis = record { ordered = omega arith; within = omega arith };
        unsettled = none_settled (pair_of 0 1);
        unclaimed = λ (worker, e). none-some (pair_of 0 1) e;
      },
    ),
  ),
)
