-- What a completed phase leaves, as the next saturation and as the saturated basis.
use Rattle.std.proofs.Common.{◌≡◌, ◌⊎◌, inl, inr, ℕ, ◌≤◌, ◌<◌, Bool, true, false, ◌&&◌, ◌==◌, not, List, [], ◌∷◌, ◌++◌, length, set, take, drop, ℤ, arith, ap, refl, sym, ◌∙◌, subst, length-set}
use Rattle.std.proofs.lemmas.Bool.{cases_eq, cases_lt, both_ways}
use Rattle.std.proofs.lemmas.Bool.Decides.{Decides-eqb}
use Rattle.std.proofs.lemmas.List.{get_or-set_other, get_or_past, append-nil, take_all, drop_all}
use Rattle.mk_model.specs.Bases.{IsMarkov}
use Rattle.mk_model.specs.CoreStates.{CoreState}
use Rattle.mk_model.specs.Lattices.{lattice_of, HasGrading, SameLattice}
use Rattle.mk_model.specs.Legal.{IsLegal}
use Rattle.mk_model.specs.Orders.{standard}
use Rattle.mk_model.specs.Pairs.{EveryPairJoined}
use Rattle.mk_model.specs.FreeColumns.{is_left}
use Rattle.mk_model.specs.Saturation.{without_column, ConnectedUpTo, drop_redundant, NoneRedundant}
use Rattle.mk_model.proofs.Connections.{connected_in_columns}
use Rattle.mk_model.proofs.Dropping.{drop_redundant_apart}
use Rattle.mk_move.specs.MoveLists.{BasisView, IsBasis, vectors_of}
use Rattle.mk_move.proofs.MoveVectors.{length-vectors_of}
use Rattle.mk_core.specs.Phases.{state_of}
use Rattle.mk_core.specs.SaturatedBases.{IsSaturated}
use Rattle.mk_core.specs.declared.phase.Phase.{Phase}
use Rattle.mk_saturate.specs.Saturations.{SaturationView, IsSaturation, NoneLeft, IsPhaseFromBasis, IsNeeded, IsDropped}
use Rattle.mk_saturate.proofs.Beginnings.{basis_graded}
use Rattle.mk_saturate.proofs.Dropped.{drop_redundant_short, kept_lattice, kept_pairs, kept_markov, column_saturated}

-- ---- columns that are left
pub left_within : (left : List Bool) (column : ℕ) → is_left left column ≡ true → column < length left
left_within left column e = go (cases_lt column (length left))
  where
    go : (column < length left) ⊎ (length left ≤ column) → column < length left
    go (inl l) = l
    go (inr l) = absurd (both_ways (is_left left column) (get_or_past left column false l) e)

and_false : (a b : Bool) → b ≡ false → (a && b) ≡ false
and_false true b e = e
and_false false b e = refl

-- the columns without one, as flags and as a set
without_left : (left : List Bool) (column c : ℕ) → is_left (set left column false) c ≡ false → without_column (is_left left) column c ≡ false
without_left left column c e = go (cases_eq c column)
  where
    go : (c ≡ column) ⊎ (c ≡ column → ⊥) → without_column (is_left left) column c ≡ false
    go (inl same) = and_false (is_left left c) (not (c == column)) (ap not ((Decides-eqb c column).1 same))
    go (inr other) = let f : is_left left c ≡ false = sym (get_or-set_other left column c false false other) ∙ e in rw f refl

-- a slice of the same length, written back over the whole list
pub written_back : (items new now : List Bool) (column len : ℕ) → len ≡ length items → items ≡ now → new ≡ set now column false → take len (new ++ drop (length new) items) ≡ set now column false
written_back items new now column len l same e = ap (take len) (ap (λ rest. new ++ rest) none ∙ append-nil new) ∙ take_all len new (omega (arith, size)) ∙ e
  where
    size : length new ≡ length items
    size = ap length e ∙ length-set now column false ∙ sym (ap length same)

    none : drop (length new) items ≡ []
    none = drop_all (length new) items (omega (arith, size))

-- ---- a completed phase that begins with the moves of a basis
module _ (before : BasisView) (p : List ℕ) (phase : Phase) (after : BasisView) (kept : IsBasis before) (h : IsPhaseFromBasis before p phase) (needed : IsNeeded phase after) where
  abbrev n : ℕ
  n = length before.grading

  abbrev rows : List (List ℤ)
  rows = vectors_of before.moves

  abbrev state : CoreState
  state = state_of phase (length phase.journal) 65536

  graded : HasGrading (lattice_of n rows before.grading)
  graded = basis_graded before kept

  legal : IsLegal n p state
  legal = subst (λ (l : List ℕ). IsLegal n l state) h.priority (subst (λ (w : List ℤ). IsLegal (length w) phase.basis.priority state) h.grading needed.completed.legal)

  same_grading : after.grading ≡ before.grading
  same_grading = needed.grading ∙ h.grading

  -- what is said of the kept moves of the phase is said of the moves afterwards
  after_has : (P : ℕ → List (List ℤ) → Type 0) → P n (drop_redundant state.basis) → P (length after.grading) (vectors_of after.moves)
  after_has P x = subst (λ (w : List ℤ). P (length w) (vectors_of after.moves)) (sym same_grading) (subst (P n) (sym needed.moves) x)

  pub leaves : IsDropped before phase after
  leaves = record {
    priority = needed.priority;
    grading = same_grading;
    moves = needed.moves;
    lattice = subst (SameLattice n rows) (sym needed.moves) (kept_lattice n rows before.grading p graded state legal needed.completed.ended h.begun);
  }

  leaves_few : length after.moves ≤ 65536
  leaves_few = omega (arith, length-vectors_of after.moves, ap length needed.moves, drop_redundant_short state.basis, legal.basis_within)

-- the column that the list names first is saturated
pub column_taken : (saturation : SaturationView) (column : ℕ) (p : List ℕ) (phase : Phase) (after : BasisView) (left : List Bool) → IsSaturation saturation → IsPhaseFromBasis saturation.basis (column ∷ p) phase → IsNeeded phase after → left ≡ set saturation.left column false → IsSaturation (record { basis = after; left = left })
column_taken saturation column p phase after left s h needed e = record {
  kept = needed.kept;
  columns = ap length e ∙ length-set saturation.left column false ∙ s.columns ∙ sym (ap length (same_grading before list phase after s.kept h needed));
  few = leaves_few before list phase after s.kept h needed;
  connected = after_has before list phase after s.kept h needed (λ n moves. ConnectedUpTo n moves (is_left left) moves) connected;
}
  where
    before : BasisView
    before = saturation.basis

    list : List ℕ
    list = column ∷ p

    n : ℕ
    n = length before.grading

    moves : List (List ℤ)
    moves = drop_redundant (vectors_of phase.basis.moves)

    without : ConnectedUpTo n moves (without_column (is_left saturation.left) column) moves
    without =
        column_saturated n (vectors_of before.moves) before.grading column p (basis_graded before s.kept) (state_of phase (length phase.journal) 65536) (legal before list phase after s.kept h needed)
        needed.completed.ended h.begun (is_left saturation.left) s.connected

    connected : ConnectedUpTo n moves (is_left left) moves
    connected = connected_in_columns n moves moves (without_column (is_left saturation.left) column) (is_left left)
        (λ c l f. without_left saturation.left column c (ap (λ (flags : List Bool). is_left flags c) (sym e) ∙ f)) without

-- along the standard list, with no column left, it leaves the saturated basis
pub saturated : (saturation : SaturationView) (phase : Phase) (after : BasisView) → IsSaturation saturation → NoneLeft saturation.left → IsPhaseFromBasis saturation.basis (standard (length saturation.basis.grading)) phase → IsNeeded phase after → IsSaturated after
saturated saturation phase after s none h needed = record {
  kept = needed.kept;
  standard_list = needed.priority ∙ h.priority ∙ ap (λ (w : List ℤ). standard (length w)) (sym (same_grading before list phase after s.kept h needed));
  none_redundant = subst NoneRedundant (sym needed.moves) (drop_redundant_apart (vectors_of phase.basis.moves));
  joined = after_has before list phase after s.kept h needed (λ n moves. EveryPairJoined n after.priority moves)
      (subst (λ (l : List ℕ). EveryPairJoined n l moves) (sym (needed.priority ∙ h.priority)) (kept_pairs n (vectors_of before.moves) before.grading list (basis_graded before s.kept) state of_state needed.completed.ended h.begun));
  markov = after_has before list phase after s.kept h needed (λ n moves. IsMarkov n moves moves)
      (kept_markov n (vectors_of before.moves) before.grading list (basis_graded before s.kept) state of_state needed.completed.ended h.begun (is_left saturation.left) none s.connected);
}
  where
    before : BasisView
    before = saturation.basis

    list : List ℕ
    list = standard (length before.grading)

    n : ℕ
    n = length before.grading

    moves : List (List ℤ)
    moves = drop_redundant (vectors_of phase.basis.moves)

    state : CoreState
    state = state_of phase (length phase.journal) 65536

    of_state : IsLegal n list state
    of_state = legal before list phase after s.kept h needed
