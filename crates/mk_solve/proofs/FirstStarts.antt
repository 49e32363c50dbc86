-- The start of a book's first phase spans the lattice that the book speaks of, and what the book says it says of this start too.
use Rattle.std.proofs.Common.{◌≡◌, ◌⊎◌, inl, inr, ℕ, Bool, true, false, not, List, [], ◌∷◌, ◌++◌, length, replicate, ℤ, pos, ap, refl, sym, ◌∙◌, subst, ⊎_elim}
use Rattle.std.specs.List.{AllZip}
use Rattle.std.proofs.lemmas.List.Elements.{All-head, All-tail, All-filter}
use Rattle.mk_model.specs.Books.{PlainPhase, PlainBook, PlainStop, IsPhaseAlong, Saturate, SaturateLattice, BookIsComplete, BookIsUnderWay, StandsAt, HasStopped, lists_for, state_in}
use Rattle.mk_model.specs.Books.PlainPlace.{AtPair, AtTail, AtWeight}
use Rattle.mk_model.specs.Books.PlainStop.{Overflow, Budget, Full}
use Rattle.mk_model.specs.CoreStates.{start_of}
use Rattle.mk_model.specs.FreeColumns.{bound_columns, columns_left, freed_by, freed_by_row, freed_by_rows}
use Rattle.mk_model.specs.Lattices.{Lattice, HasGrading, SameLattice, lattice_of, is_zero, nonzero_rows}
use Rattle.mk_model.specs.Orders.{standard, IsBelow, IsOriented, IsRowTurned, oriented_by}
use Rattle.mk_model.specs.Vectors.{negate, positive_part, negative_part, weight}
use Rattle.mk_model.proofs.FreeColumns.{oriented_turned}
use Rattle.mk_model.proofs.LatticeLaws.{AllColumns, is_zero-entries, nonzero_rows-keep}
use Rattle.mk_model.proofs.OrderLaws.{IsBelow-total_standard, IsOriented-lead_not_tail, IsOriented-not_zero}
use Rattle.mk_model.proofs.VectorAlgebra.{length-positive_part, length-negative_part, positive_part-negate, negative_part-negate, negate-negate}
use Rattle.mk_saturate.proofs.Spans.{SameLattice-transitive, nonzero_columns, nonzero_lattice}
use Rattle.mk_saturate.proofs.Turned.{turned_columns, turned_weights, turned_lattice}
use Rattle.mk_inter.proofs.SameLattices.{basis_of_others}

-- the lattice of the moves with which a phase began, with the grading of another
abbrev pub again : Lattice → PlainPhase → Lattice
again lattice first = lattice_of lattice.columns (start_of (state_in first)) lattice.grading

-- ---- rows free the columns that they free as another list turns them
module _ (n : ℕ) (list : List ℕ) (row move : List ℤ) (t : IsRowTurned list row move) (columns : length move ≡ n) where
  same_orientation : oriented_by (standard n) row ≡ oriented_by (standard n) move
  same_orientation =
      go (IsBelow-total_standard n (negative_part move) (positive_part move) (length-negative_part move ∙ columns)
      (length-positive_part move ∙ columns))
    where
      go : (IsBelow (standard n) (negative_part move) (positive_part move) ⊎ IsBelow (standard n) (positive_part move) (negative_part move))
          ⊎ (negative_part move ≡ positive_part move) → oriented_by (standard n) row ≡ oriented_by (standard n) move
      go (inl (inl below)) =
          oriented_turned (standard n) row move (record { either = t.either; oriented = below })
          ∙ sym (oriented_turned (standard n) move move (record { either = inl refl; oriented = below }))
      go (inl (inr below)) =
          oriented_turned (standard n) row (negate move) (record { either = turned_other; oriented = turned })
          ∙ sym (oriented_turned (standard n) move (negate move) (record { either = inr refl; oriented = turned }))
        where
          turned : IsOriented (standard n) (negate move)
          turned =
              subst (λ x. IsBelow (standard n) x (positive_part (negate move))) (sym (negative_part-negate move))
              (subst (λ x. IsBelow (standard n) (positive_part move) x) (sym (positive_part-negate move)) below)

          turned_other : (negate move ≡ row) ⊎ (negate move ≡ negate row)
          turned_other = ⊎_elim (λ e. inr (ap negate e)) (λ e. inl (ap negate e ∙ negate-negate row)) t.either
      go (inr same) = absurd (IsOriented-lead_not_tail list move t.oriented (sym same))

freed_alike : (n : ℕ) (list : List ℕ) (rows moves : List (List ℤ)) (left : List Bool) → AllZip (IsRowTurned list) rows moves →
    AllColumns n moves → freed_by_rows (standard n) rows left ≡ freed_by_rows (standard n) moves left
freed_alike n list [] [] left z a = refl
freed_alike n list [] (m ∷ moves) left z a = absurd z
freed_alike n list (row ∷ rows) [] left z a = absurd z
freed_alike n list (row ∷ rows) (m ∷ moves) left (t, z) a =
    freed_alike n list rows moves (freed_by_row (standard n) row left) z (All-tail (λ x. length x ≡ n) m moves a)
    ∙ ap (λ u. freed_by_rows (standard n) moves (freed_by (negate u) (freed_by u left)))
    (same_orientation n list row m t (All-head (λ x. length x ≡ n) m moves a))

-- ---- oriented moves are turned, and none is zero
turned_themselves : (list : List ℕ) (rows moves : List (List ℤ)) → AllZip (IsRowTurned list) rows moves →
    AllZip (IsRowTurned list) moves moves
turned_themselves list [] [] z = tt
turned_themselves list [] (m ∷ moves) z = absurd z
turned_themselves list (row ∷ rows) [] z = absurd z
turned_themselves list (row ∷ rows) (m ∷ moves) (t, z) =
    (record { either = inl refl; oriented = t.oriented }, turned_themselves list rows moves z)

none_is_zero : (list : List ℕ) (rows moves : List (List ℤ)) → AllZip (IsRowTurned list) rows moves → nonzero_rows moves ≡ moves
none_is_zero list [] [] z = refl
none_is_zero list [] (m ∷ moves) z = absurd z
none_is_zero list (row ∷ rows) [] z = absurd z
none_is_zero list (row ∷ rows) (m ∷ moves) (t, z) = go (is_zero m) refl (none_is_zero list rows moves z)
  where
    go : (b : Bool) → is_zero m ≡ b → nonzero_rows moves ≡ moves → nonzero_rows (m ∷ moves) ≡ m ∷ moves
    go true e rest = absurd (IsOriented-not_zero list m (is_zero-entries m e) t.oriented)
    go false e rest = nonzero_rows-keep m moves e ∙ ap (λ ms. m ∷ ms) rest

-- ---- the first phase of a lattice
-- the phase begins with the rows that are not zero, each turned by some list
pub record BeginsLattice (lattice : Lattice) (first : PlainPhase) : Type 0 where
  pub list : List ℕ
  pub turned : AllZip (IsRowTurned list) (nonzero_rows lattice.rows) (start_of (state_in first))

-- the phases before one that isn't ended, and the moves and the list with which this one begins
pub record IsBefore (lattice : Lattice) (earlier : List PlainPhase) (phase : PlainPhase) : Type 0 where
  pub moves_then : List (List ℤ)
  pub list : List ℕ
  pub left : List (List ℕ)
  pub before : SaturateLattice lattice earlier moves_then (list ∷ left)
  pub along : IsPhaseAlong lattice.columns moves_then list phase

module _ (lattice : Lattice) (g : HasGrading lattice) (first : PlainPhase) where
  abbrev moves : List (List ℤ)
  moves = start_of (state_in first)

  abbrev n : ℕ
  n = lattice.columns

  module _ (b : BeginsLattice lattice first) where
    columns : AllColumns n moves
    columns = turned_columns b.list n (nonzero_rows lattice.rows) moves b.turned (nonzero_columns n lattice.rows g.rows_columns)

    pub spanned_again : SameLattice n lattice.rows moves
    spanned_again =
        SameLattice-transitive n lattice.rows (nonzero_rows lattice.rows) moves (nonzero_lattice n lattice.rows g.rows_columns)
        (turned_lattice b.list n (nonzero_rows lattice.rows) moves b.turned (nonzero_columns n lattice.rows g.rows_columns))

    pub graded_again : HasGrading (again lattice first)
    graded_again = record {
      columns = g.columns;
      positive = g.positive;
      rows_columns = columns;
      rows_weight = turned_weights b.list n (nonzero_rows lattice.rows) moves b.turned lattice.grading
          (All-filter (λ row. not (is_zero row)) (λ row. weight lattice.grading row ≡ pos 0) lattice.rows g.rows_weight);
    }

    same_rows : nonzero_rows moves ≡ moves
    same_rows = none_is_zero b.list (nonzero_rows lattice.rows) moves b.turned

    same_bound : bound_columns n lattice.rows ≡ bound_columns n moves
    unfolding bound_columns
    same_bound =
        ap columns_left (freed_alike n b.list (nonzero_rows lattice.rows) moves (replicate n true) b.turned columns)
        ∙ ap (λ rows. columns_left (freed_by_rows (standard n) rows (replicate n true))) (sym same_rows)

    same_lists : lists_for n (bound_columns n lattice.rows) ≡ lists_for n (bound_columns n moves)
    same_lists = ap (lists_for n) same_bound

  along_again : (list : List ℕ) → IsPhaseAlong n (nonzero_rows lattice.rows) list first → IsPhaseAlong n (nonzero_rows moves) list first
  along_again list along = record {
    priority = along.priority;
    begun = subst (λ rows. AllZip (IsRowTurned list) rows moves) (sym (none_is_zero list (nonzero_rows lattice.rows) moves along.begun))
        (turned_themselves list (nonzero_rows lattice.rows) moves along.begun);
    legal = along.legal;
  }

  begins_along : (lists : List (List ℕ)) (later : List PlainPhase) (rest : List (List ℤ)) (left : List (List ℕ)) →
      Saturate n (nonzero_rows lattice.rows) lists (first ∷ later) rest left → BeginsLattice lattice first
  begins_along [] later rest left h = absurd h
  begins_along (list ∷ lists) later rest left h = record { list = list; turned = h.0.begun }

  saturate_along : (lists : List (List ℕ)) (later : List PlainPhase) (rest : List (List ℤ)) (left : List (List ℕ)) →
      Saturate n (nonzero_rows lattice.rows) lists (first ∷ later) rest left →
      Saturate n (nonzero_rows moves) lists (first ∷ later) rest left
  saturate_along [] later rest left h = absurd h
  saturate_along (list ∷ lists) later rest left h = (along_again list h.0, h.1, h.2)

  module _ (phases later : List PlainPhase) (e : phases ≡ first ∷ later) (rest : List (List ℤ)) (left : List (List ℕ))
      (h : SaturateLattice lattice phases rest left) where
    from_first : SaturateLattice lattice (first ∷ later) rest left
    from_first = subst (λ phases. SaturateLattice lattice phases rest left) e h

    pub saturate_begins : BeginsLattice lattice first
    saturate_begins = begins_along (lists_for n (bound_columns n lattice.rows)) later rest left from_first

    pub saturate_again : SaturateLattice (again lattice first) phases rest left
    saturate_again =
        subst (λ phases. SaturateLattice (again lattice first) phases rest left) (sym e)
        (subst (λ lists. Saturate n (nonzero_rows moves) lists (first ∷ later) rest left) (same_lists saturate_begins)
        (saturate_along (lists_for n (bound_columns n lattice.rows)) later rest left from_first))

  -- ---- what a book with this first phase says
  module _ (book : PlainBook) (later : List PlainPhase) (e : book.phases ≡ first ∷ later) where
    pub complete_begins : BookIsComplete lattice book → BeginsLattice lattice first
    complete_begins c = saturate_begins book.phases later e c.rest [] c.phases

    pub complete_again : BookIsComplete lattice book → BookIsComplete (again lattice first) book
    complete_again c = record {
      rest = c.rest;
      phases = saturate_again book.phases later e c.rest [] c.phases;
      basis = c.basis;
      made = c.made;
      reduced = basis_of_others (spanned_again (complete_begins c)) c.reduced;
    }

    pub under_way_begins : BookIsUnderWay lattice book → BeginsLattice lattice first
    under_way_begins u = saturate_begins book.phases later e u.rest u.left u.phases

    pub under_way_again : BookIsUnderWay lattice book → BookIsUnderWay (again lattice first) book
    under_way_again u = record {
      rest = u.rest;
      left = u.left;
      phases = saturate_again book.phases later e u.rest u.left u.phases;
      reduced = ⊎_elim inl (λ c. inr (complete_again c)) u.reduced;
    }

    before_begins : (earlier : List PlainPhase) (phase : PlainPhase) → earlier ++ phase ∷ [] ≡ first ∷ later →
        IsBefore lattice earlier phase → BeginsLattice lattice first
    before_begins [] phase same b =
        let is_first : phase ≡ first = cc in
        subst (BeginsLattice lattice) is_first
        (record {
          list = b.list;
          turned =
              subst (λ rows. AllZip (IsRowTurned b.list) rows (start_of (state_in phase))) b.before.0 b.along.begun;
        })
    before_begins (x ∷ xs) phase same b =
        let is_first : x ≡ first = cc in
        saturate_begins (x ∷ xs) xs (ap (λ p. p ∷ xs) is_first) b.moves_then (b.list ∷ b.left) b.before

    before_again : (earlier : List PlainPhase) (phase : PlainPhase) → earlier ++ phase ∷ [] ≡ first ∷ later →
        IsBefore lattice earlier phase → IsBefore (again lattice first) earlier phase
    before_again [] phase same b =
        let is_first : phase ≡ first = cc in
        record {
          moves_then = nonzero_rows moves;
          list = b.list;
          left = b.left;
          before = (refl, b.before.1 ∙ same_lists (before_begins [] phase same b));
          along =
              subst (λ p. IsPhaseAlong n (nonzero_rows moves) b.list p) (sym is_first)
              (along_again b.list (subst (λ p. IsPhaseAlong n (nonzero_rows lattice.rows) b.list p) is_first
              (subst (λ rows. IsPhaseAlong n rows b.list phase) b.before.0 b.along)));
        }
    before_again (x ∷ xs) phase same b =
        let is_first : x ≡ first = cc in
        record {
          moves_then = b.moves_then;
          list = b.list;
          left = b.left;
          before = saturate_again (x ∷ xs) xs (ap (λ p. p ∷ xs) is_first) b.moves_then (b.list ∷ b.left) b.before;
          along = b.along;
        }

    before_of : (number : ℕ) (phase : PlainPhase) (s : StandsAt lattice book number phase) → IsBefore lattice s.earlier phase
    before_of number phase s = record { moves_then = s.moves; list = s.list; left = s.left; before = s.before; along = s.along }

    stands_begins : (number : ℕ) (phase : PlainPhase) → StandsAt lattice book number phase → BeginsLattice lattice first
    stands_begins number phase s = before_begins s.earlier phase (sym s.all ∙ e) (before_of number phase s)

    stands_again : (number : ℕ) (phase : PlainPhase) → StandsAt lattice book number phase → StandsAt (again lattice first) book number phase
    stands_again number phase s =
        let b = before_again s.earlier phase (sym s.all ∙ e) (before_of number phase s) in
        record {
          earlier = s.earlier;
          all = s.all;
          counted = s.counted;
          moves = b.moves_then;
          list = b.list;
          left = b.left;
          before = b.before;
          along = b.along;
          not_reduced = s.not_reduced;
        }

    pub stop_begins : (budget : ℕ) (stop : PlainStop) → HasStopped lattice budget book stop → BeginsLattice lattice first
    stop_begins budget (Overflow (AtPair number) stop) h = stands_begins number h.0 h.1
    stop_begins budget (Overflow (AtTail index) stop) h = saturate_begins book.phases later e h.rest [] h.phases
    stop_begins budget (Overflow AtWeight stop) h = complete_begins h.done
    stop_begins budget (Budget settled) h = stands_begins h.2.0 h.2.1 h.2.2
    stop_begins budget (Full number pair) h = stands_begins number h.0 h.1

    pub stop_again : (budget : ℕ) (stop : PlainStop) → HasStopped lattice budget book stop →
        HasStopped (again lattice first) budget book stop
    unfolding complete_again
    stop_again budget (Overflow (AtPair number) stop) h = (h.0, stands_again number h.0 h.1, h.2, h.3, h.4)
    stop_again budget (Overflow (AtTail index) stop) h = record {
      rest = h.rest;
      phases = saturate_again book.phases later e h.rest [] h.phases;
      genuine = h.genuine;
      not_reduced = h.not_reduced;
    }
    stop_again budget (Overflow AtWeight stop) h = record { done = complete_again h.done; of_weight = h.of_weight; genuine = h.genuine }
    stop_again budget (Budget settled) h = (h.0, h.1, (h.2.0, h.2.1, stands_again h.2.0 h.2.1 h.2.2, h.2.3))
    stop_again budget (Full number pair) h = (h.0, stands_again number h.0 h.1, h.2, h.3, h.4)

-- ---- a book without a phase
lists_there : (n : ℕ) (columns : List ℕ) → [] ≡ lists_for n columns → ⊥
lists_there n [] e = absurd cc
lists_there n (column ∷ columns) e = absurd cc

pub none_complete : (lattice : Lattice) (phases : List PlainPhase) (rest : List (List ℤ)) → phases ≡ [] →
    SaturateLattice lattice phases rest [] → ⊥
none_complete lattice phases rest e h =
    lists_there lattice.columns (bound_columns lattice.columns lattice.rows)
    (subst (λ phases. SaturateLattice lattice phases rest []) e h).1

none_stands : (lattice : Lattice) (book : PlainBook) (number : ℕ) (phase : PlainPhase) → book.phases ≡ [] →
    StandsAt lattice book number phase → ⊥
none_stands lattice book number phase e s = go s.earlier (sym e ∙ s.all)
  where
    go : (earlier : List PlainPhase) → [] ≡ earlier ++ phase ∷ [] → ⊥
    go [] f = absurd cc
    go (x ∷ xs) f = absurd cc

pub none_stops : (lattice : Lattice) (budget : ℕ) (book : PlainBook) (stop : PlainStop) → book.phases ≡ [] →
    HasStopped lattice budget book stop → ⊥
none_stops lattice budget book (Overflow (AtPair number) stop) e h = none_stands lattice book number h.0 e h.1
none_stops lattice budget book (Overflow (AtTail index) stop) e h = none_complete lattice book.phases h.rest e h.phases
none_stops lattice budget book (Overflow AtWeight stop) e h = none_complete lattice book.phases h.done.rest e h.done.phases
none_stops lattice budget book (Budget settled) e h = none_stands lattice book h.2.0 h.2.1 e h.2.2
none_stops lattice budget book (Full number pair) e h = none_stands lattice book number h.0 e h.1
