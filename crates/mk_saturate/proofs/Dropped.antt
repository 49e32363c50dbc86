-- Completed lists of moves: what they join, and what is left once the redundant moves are dropped.
use Rattle.std.proofs.Common.{◌≡◌, ◌⊎◌, inl, inr, ℕ, zero, suc, ◌≤◌, ◌<◌, Bool, true, false, List, [], ◌∷◌, ◌++◌, length, take, ℤ, pos, Contains, arith, ap, refl, sym, ◌∙◌, subst, ⊎_elim}
use Rattle.std.specs.List.{AllZip}
use Rattle.std.proofs.lemmas.Int.{ints}
use Rattle.std.proofs.lemmas.Bool.{cases_lt}
use Rattle.std.proofs.lemmas.List.{get_or_past}
use Rattle.std.proofs.lemmas.List.Elements.{All-contains}
use Rattle.mk_model.specs.Vectors.{entry, zeros, add, subtract, negate, IsPoint}
use Rattle.mk_model.specs.Lattices.{lattice_of, InLattice, HasGrading, SameLattice}
use Rattle.mk_model.specs.Orders.{lead, tail, IsRowTurned}
use Rattle.mk_model.specs.Bases.{IsMarkov}
use Rattle.mk_model.specs.Pairs.{AreOrientedMoves, EveryPairJoined}
use Rattle.mk_model.specs.CoreStates.{CoreState, start_of}
use Rattle.mk_model.specs.Legal.{IsLegal, IsEnded}
use Rattle.mk_model.specs.Walks.{IsStep, Members, Joined}
use Rattle.mk_model.specs.Walks.Walk.{stay, step}
use Rattle.mk_model.specs.Saturation.{without_column, JoinedUpTo, ConnectedUpTo, is_redundant, needed, drop_redundant}
use Rattle.mk_model.proofs.Lists.{Contains-none, Contains-here, Contains-there, Contains-cases}
use Rattle.mk_model.proofs.VectorAlgebra.{lengths, columns, same_vectors, parts, IsPoint-positive_part, IsPoint-negative_part}
use Rattle.mk_model.proofs.WalkLaws.{one_step, walk_from, walk_to}
use Rattle.mk_model.proofs.LatticeLaws.{AllColumns, InLattice-zeros, InLattice-add, InLattice-negate, InLattice-row, InLattice-columns}
use Rattle.mk_model.proofs.MarkovLaws.{tail_from_lead}
use Rattle.mk_model.proofs.NormalForms.{All-from_contains, part_joined, part_pairs}
use Rattle.mk_model.proofs.Dropping.{drop_redundant_part, drop_redundant_covers}
use Rattle.mk_model.proofs.Connections.{connected_by_others, column_leaves, markov_from_connected}
use Rattle.mk_model.proofs.EndedStates.{legal_sound, ended_joined}
use Rattle.mk_saturate.proofs.Spans.{SameLattice-from_members}
use Rattle.mk_saturate.proofs.Turned.{move_of, turned_moves, turned_from_lattice, joined_turned}

-- ---- the ends of a walk differ by the lattice of its moves
subtract_itself : (n : ℕ) (x : List ℤ) → length x ≡ n → subtract x x ≡ zeros n
subtract_itself n x l = same_vectors _ _ (omega (arith, lengths, l)) (λ c. omega (arith, ints, columns))

subtract_through : (n : ℕ) (x y z : List ℤ) → length x ≡ n → length y ≡ n → length z ≡ n → add (subtract x y) (subtract y z) ≡ subtract x z
subtract_through n x y z k l m = same_vectors _ _ (omega (arith, lengths)) (λ c. omega (arith, ints, columns))

less_sum : (x m : List ℤ) → length x ≡ length m → subtract x (add x m) ≡ negate m
less_sum x m l = same_vectors _ _ (omega (arith, lengths)) (λ c. omega (arith, ints, columns))

less_difference : (x m : List ℤ) → length x ≡ length m → subtract x (subtract x m) ≡ m
less_difference x m l = same_vectors _ _ (omega (arith, lengths)) (λ c. omega (arith, ints, columns))

module _ (n : ℕ) (moves : List (List ℤ)) (a : AllColumns n moves) where
  step_in_lattice : (x y : List ℤ) → IsPoint n x → IsStep (Members moves) x y → InLattice n moves (subtract x y)
  step_in_lattice x y q (m, h, s) = go s
    where
      same : length x ≡ length m
      same = q.columns ∙ sym (All-contains (λ row. length row ≡ n) moves m a h)

      member : InLattice n moves m
      member = InLattice-row n moves m a h

      go : (y ≡ add x m) ⊎ (y ≡ subtract x m) → InLattice n moves (subtract x y)
      go (inl e) = subst (InLattice n moves) (sym (ap (subtract x) e ∙ less_sum x m same)) (InLattice-negate n moves m member)
      go (inr e) = subst (InLattice n moves) (sym (ap (subtract x) e ∙ less_difference x m same)) member

  pub walk_in_lattice : {x y : List ℤ} → Joined n (Members moves) x y → InLattice n moves (subtract x y)
  walk_in_lattice (stay {x = x} q) = subst (InLattice n moves) (sym (subtract_itself n x q.columns)) (InLattice-zeros n moves a)
  walk_in_lattice (step {x = x} {y = y} {z = z} q s rest) =
      subst (InLattice n moves) (subtract_through n x y z q.columns ((walk_from rest).columns) ((walk_to rest).columns))
      (InLattice-add n moves (subtract x y) (subtract y z) (step_in_lattice x y q s) (walk_in_lattice rest))

-- ---- columns and lattices of a connection
pub connected_in_lattice : (n : ℕ) (rows others moves : List (List ℤ)) (unsaturated : ℕ → Bool) → SameLattice n rows others → ConnectedUpTo n rows unsaturated moves → ConnectedUpTo n others unsaturated moves
connected_in_lattice n rows others moves unsaturated same connected x y q r h = connected x y q r (same.back (subtract x y) h)

-- ---- dropping makes no list longer
needed_short : (before behind : List (List ℤ)) → length (needed before behind) ≤ length behind
needed_short before [] = omega arith
needed_short before (m ∷ behind) = go (is_redundant before m behind) refl (needed_short (before ++ m ∷ []) behind)
  where
    go : (t : Bool) → is_redundant before m behind ≡ t → length (needed (before ++ m ∷ []) behind) ≤ length behind → length (needed before (m ∷ behind)) ≤ length (m ∷ behind)
    go true e l = rw e (omega arith)
    go false e l = rw e (omega arith)

pub drop_redundant_short : (moves : List (List ℤ)) → length (drop_redundant moves) ≤ length moves
drop_redundant_short moves = needed_short [] moves

-- a move of the front stands in the list
in_front : (k : ℕ) (xs : List (List ℤ)) (x : List ℤ) → Contains (take k xs) x → Contains xs x
in_front zero xs x h = absurd (Contains-none x h)
in_front (suc k) [] x h = h
in_front (suc k) (y ∷ xs) x h = ⊎_elim (λ e. subst (Contains (y ∷ xs)) e (Contains-here y xs)) (λ c. Contains-there y xs x (in_front k xs x c)) (Contains-cases y (take k xs) x h)

-- ---- a completed list that begins with the rows, turned
module _ (n : ℕ) (rows : List (List ℤ)) (w : List ℤ) (p : List ℕ) (g : HasGrading (lattice_of n rows w)) (state : CoreState) (legal : IsLegal n p state) (ended : IsEnded state) (begun : AllZip (IsRowTurned p) rows (start_of state)) where
  start_moves : AreOrientedMoves (lattice_of n rows w) p (start_of state)
  start_moves = turned_moves p n rows (start_of state) begun w g

  pub all_moves : AreOrientedMoves (lattice_of n rows w) p state.basis
  all_moves = (legal_sound n rows w p state legal start_moves).oriented

  pub all_pairs : EveryPairJoined n p state.basis
  all_pairs = ended_joined n rows w p state legal start_moves ended

  -- each row stands in the basis, turned
  turned_in : (row : List ℤ) → Contains rows row → (move : List ℤ) × Contains state.basis move × IsRowTurned p row move
  turned_in row h = let (move, c, t) = move_of p rows (start_of state) begun row h in (move, in_front state.start_length state.basis move c, t)

  basis_connected : (unsaturated : ℕ → Bool) → ConnectedUpTo n rows unsaturated rows → ConnectedUpTo n rows unsaturated state.basis
  basis_connected unsaturated connected = connected_by_others n rows unsaturated rows state.basis (λ x y j. joined_turned p n rows state.basis turned_in j) connected

  -- ---- the moves that are not redundant
  abbrev kept : List (List ℤ)
  kept = drop_redundant state.basis

  kept_columns : AllColumns n kept
  kept_columns = All-from_contains (λ row. length row ≡ n) kept
      (λ v h. InLattice-columns n rows v g.rows_columns (All-contains (InLattice n rows) state.basis v all_moves.in_lattice (drop_redundant_part state.basis v h)))

  kept_joins : (x y : List ℤ) → Joined n (Members state.basis) x y → Joined n (Members kept) x y
  kept_joins x y j = part_joined all_moves kept (drop_redundant_part state.basis) (drop_redundant_covers state.basis) all_pairs x y (walk_from j) (walk_to j) j

  pub kept_pairs : EveryPairJoined n p kept
  kept_pairs = part_pairs all_moves kept (drop_redundant_part state.basis) (drop_redundant_covers state.basis) all_pairs

  -- a move of the basis is the difference of two vectors that are joined
  basis_spanned : (move : List ℤ) → Contains state.basis move → InLattice n kept move
  basis_spanned move h = subst (InLattice n kept) (parts move) (walk_in_lattice n kept kept_columns (kept_joins (lead move) (tail move) ends))
    where
      l : length move ≡ n
      l = InLattice-columns n rows move g.rows_columns (All-contains (InLattice n rows) state.basis move all_moves.in_lattice h)

      ends : Joined n (Members state.basis) (lead move) (tail move)
      ends = one_step (IsPoint-positive_part move l) (IsPoint-negative_part move l) (move, h, inr (tail_from_lead move))

  pub kept_lattice : SameLattice n rows kept
  kept_lattice = SameLattice-from_members n rows kept g.rows_columns kept_columns
      (λ row h. let (move, c, t) = turned_in row h in turned_from_lattice n kept t (basis_spanned move c))
      (λ v h. All-contains (InLattice n rows) state.basis v all_moves.in_lattice (drop_redundant_part state.basis v h))

  pub kept_connected : (unsaturated : ℕ → Bool) → ConnectedUpTo n rows unsaturated state.basis → ConnectedUpTo n kept unsaturated kept
  kept_connected unsaturated connected =
      connected_in_lattice n rows kept kept unsaturated kept_lattice (connected_by_others n rows unsaturated state.basis kept kept_joins connected)

  pub kept_markov : (unsaturated : ℕ → Bool) → ((c : ℕ) → unsaturated c ≡ false) → ConnectedUpTo n rows unsaturated rows → IsMarkov n kept kept
  kept_markov unsaturated none connected =
      markov_from_connected n kept unsaturated kept (λ c l. none c) (All-from_contains (InLattice n kept) kept (λ v h. InLattice-row n kept v kept_columns h))
      (kept_connected unsaturated (basis_connected unsaturated connected))

-- the first column of the list is saturated
pub column_saturated : (n : ℕ) (rows : List (List ℤ)) (w : List ℤ) (column : ℕ) (p : List ℕ) → HasGrading (lattice_of n rows w) → (state : CoreState) → IsLegal n (column ∷ p) state → IsEnded state → AllZip (IsRowTurned (column ∷ p)) rows (start_of state) →
    (unsaturated : ℕ → Bool) → ConnectedUpTo n rows unsaturated rows → ConnectedUpTo n (drop_redundant state.basis) (without_column unsaturated column) (drop_redundant state.basis)
column_saturated n rows w column p g state legal ended begun unsaturated connected =
    kept_connected n rows w (column ∷ p) g state legal ended begun (without_column unsaturated column)
    (column_leaves (all_moves n rows w (column ∷ p) g state legal ended begun) (all_pairs n rows w (column ∷ p) g state legal ended begun) unsaturated
    (basis_connected n rows w (column ∷ p) g state legal ended begun unsaturated connected))
