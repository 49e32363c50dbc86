-- Lists whose moves are the rows of another, each turned.
use Rattle.std.proofs.Common.{◌≡◌, ◌⊎◌, inl, inr, ℕ, List, [], ◌∷◌, length, ℤ, pos, neg_ℤ, All, Contains, arith, ap, sym, ◌∙◌, subst, ⊎_elim}
use Rattle.std.specs.List.{AllZip}
use Rattle.std.proofs.lemmas.List.Elements.{All-contains}
use Rattle.mk_model.specs.Vectors.{add, subtract, negate, weight}
use Rattle.mk_model.specs.Lattices.{lattice_of, InLattice, HasGrading, SameLattice}
use Rattle.mk_model.specs.Orders.{IsOriented, IsRowTurned}
use Rattle.mk_model.specs.Pairs.{AreOrientedMoves}
use Rattle.mk_model.specs.Walks.{IsStep, Members, Joined}
use Rattle.mk_model.specs.Walks.Walk.{stay, step}
use Rattle.std.proofs.lemmas.Int.{ints}
use Rattle.mk_model.proofs.VectorAlgebra.{lengths, columns, same_vectors, negate-negate, weight-negate, add-negate}
use Rattle.mk_model.proofs.Lists.{Contains-none, Contains-here, Contains-there, Contains-cases}
use Rattle.mk_model.proofs.LatticeLaws.{AllColumns, InLattice-negate, InLattice-row}
use Rattle.mk_model.proofs.NormalForms.{All-from_contains}
use Rattle.mk_saturate.proofs.Spans.{SameLattice-from_members}

-- ---- one row
turned_length : {p : List ℕ} {row move : List ℤ} → IsRowTurned p row move → length move ≡ length row
turned_length {p} {row} {move} h = ⊎_elim (λ e. ap length e) (λ e. omega (arith, lengths, ap length e)) h.either

turned_weight : {p : List ℕ} {row move : List ℤ} (w : List ℤ) → IsRowTurned p row move → weight w row ≡ pos 0 → weight w move ≡ pos 0
turned_weight {p} {row} {move} w h z = ⊎_elim (λ e. ap (weight w) e ∙ z) (λ e. ap (weight w) e ∙ weight-negate w row ∙ ap neg_ℤ z) h.either

turned_back : {p : List ℕ} {row move : List ℤ} → IsRowTurned p row move → (row ≡ move) ⊎ (row ≡ negate move)
turned_back {p} {row} {move} h = ⊎_elim (λ e. inl (sym e)) (λ e. inr (sym (ap negate e ∙ negate-negate row))) h.either

-- the row or its negative in a lattice, the other too
pub turned_in_lattice : {p : List ℕ} {row move : List ℤ} (n : ℕ) (rows : List (List ℤ)) → IsRowTurned p row move → InLattice n rows row → InLattice n rows move
turned_in_lattice {p} {row} {move} n rows h i =
    ⊎_elim (λ e. subst (InLattice n rows) (sym e) i) (λ e. subst (InLattice n rows) (sym e) (InLattice-negate n rows row i)) h.either

pub turned_from_lattice : {p : List ℕ} {row move : List ℤ} (n : ℕ) (rows : List (List ℤ)) → IsRowTurned p row move → InLattice n rows move → InLattice n rows row
turned_from_lattice {p} {row} {move} n rows h i =
    ⊎_elim (λ e. subst (InLattice n rows) (sym e) i) (λ e. subst (InLattice n rows) (sym e) (InLattice-negate n rows move i)) (turned_back h)

-- ---- a list of them
-- the row of a move, and the move of a row
pub row_of : (p : List ℕ) (rows moves : List (List ℤ)) → AllZip (IsRowTurned p) rows moves → (move : List ℤ) → Contains moves move → (row : List ℤ) × Contains rows row × IsRowTurned p row move
row_of p [] [] z move h = absurd (Contains-none move h)
row_of p [] (m ∷ moves) z move h = absurd z
row_of p (r ∷ rows) [] z move h = absurd z
row_of p (r ∷ rows) (m ∷ moves) (t, z) move h = go (Contains-cases m moves move h) (λ k. row_of p rows moves z move k)
  where
    go : (m ≡ move) ⊎ Contains moves move → (Contains moves move → (row : List ℤ) × Contains rows row × IsRowTurned p row move) → (row : List ℤ) × Contains (r ∷ rows) row × IsRowTurned p row move
    go (inl e) rest = (r, Contains-here r rows, subst (IsRowTurned p r) e t)
    go (inr k) rest = let (row, c, u) = rest k in (row, Contains-there r rows row c, u)

pub move_of : (p : List ℕ) (rows moves : List (List ℤ)) → AllZip (IsRowTurned p) rows moves → (row : List ℤ) → Contains rows row → (move : List ℤ) × Contains moves move × IsRowTurned p row move
move_of p [] moves z row h = absurd (Contains-none row h)
move_of p (r ∷ rows) [] z row h = absurd z
move_of p (r ∷ rows) (m ∷ moves) (t, z) row h = go (Contains-cases r rows row h) (λ k. move_of p rows moves z row k)
  where
    go : (r ≡ row) ⊎ Contains rows row → (Contains rows row → (move : List ℤ) × Contains moves move × IsRowTurned p row move) → (move : List ℤ) × Contains (m ∷ moves) move × IsRowTurned p row move
    go (inl e) rest = (m, Contains-here m moves, subst (λ row. IsRowTurned p row m) e t)
    go (inr k) rest = let (move, c, u) = rest k in (move, Contains-there m moves move c, u)

module _ (p : List ℕ) (n : ℕ) (rows moves : List (List ℤ)) (z : AllZip (IsRowTurned p) rows moves) where
  pub turned_columns : AllColumns n rows → AllColumns n moves
  turned_columns a = All-from_contains (λ move. length move ≡ n) moves
      (λ move h. let (row, c, t) = row_of p rows moves z move h in turned_length t ∙ All-contains (λ row. length row ≡ n) rows row a c)

  pub turned_weights : (w : List ℤ) → All (λ row. weight w row ≡ pos 0) rows → All (λ move. weight w move ≡ pos 0) moves
  turned_weights w a = All-from_contains (λ move. weight w move ≡ pos 0) moves
      (λ move h. let (row, c, t) = row_of p rows moves z move h in turned_weight w t (All-contains (λ row. weight w row ≡ pos 0) rows row a c))

  pub turned_oriented : All (IsOriented p) moves
  turned_oriented = All-from_contains (IsOriented p) moves (λ move h. let (row, c, t) = row_of p rows moves z move h in t.oriented)

  pub turned_moves : (w : List ℤ) → HasGrading (lattice_of n rows w) → AreOrientedMoves (lattice_of n rows w) p moves
  turned_moves w g = record {
    grading = g;
    in_lattice = All-from_contains (InLattice n rows) moves
        (λ move h. let (row, c, t) = row_of p rows moves z move h in turned_in_lattice n rows t (InLattice-row n rows row g.rows_columns c));
    oriented = turned_oriented;
  }

  pub turned_lattice : AllColumns n rows → SameLattice n rows moves
  turned_lattice a = SameLattice-from_members n rows moves a (turned_columns a)
      (λ row h. let (move, c, t) = move_of p rows moves z row h in turned_from_lattice n moves t (InLattice-row n moves move (turned_columns a) c))
      (λ move h. let (row, c, t) = row_of p rows moves z move h in turned_in_lattice n rows t (InLattice-row n rows row a c))

-- ---- walks
less_negative : (x m : List ℤ) → subtract x (negate m) ≡ add x m
less_negative x m = same_vectors _ _ (omega (arith, lengths)) (λ c. omega (arith, ints, columns))

-- a step by a row is a step by the row turned
step_turned : {p : List ℕ} {row move : List ℤ} (moves : List ℤ → Type 0) → moves move → IsRowTurned p row move → (x y : List ℤ) → (y ≡ add x row) ⊎ (y ≡ subtract x row) → IsStep moves x y
step_turned {p} {row} {move} moves h t x y s = (move, h, go (turned_back t) s)
  where
    go : (row ≡ move) ⊎ (row ≡ negate move) → (y ≡ add x row) ⊎ (y ≡ subtract x row) → (y ≡ add x move) ⊎ (y ≡ subtract x move)
    go (inl e) (inl f) = inl (f ∙ ap (add x) e)
    go (inl e) (inr f) = inr (f ∙ ap (subtract x) e)
    go (inr e) (inl f) = inr (f ∙ ap (add x) e ∙ add-negate x move)
    go (inr e) (inr f) = inl (f ∙ ap (subtract x) e ∙ less_negative x move)

-- what rows join, moves join among which each row stands turned
pub joined_turned : (p : List ℕ) (n : ℕ) (rows moves : List (List ℤ)) → ((row : List ℤ) → Contains rows row → (move : List ℤ) × Contains moves move × IsRowTurned p row move) → {x y : List ℤ} → Joined n (Members rows) x y → Joined n (Members moves) x y
joined_turned p n rows moves f (stay q) = stay q
joined_turned p n rows moves f (step {x = x} {y = y} q (row, c, s) rest) =
    let (move, d, t) = f row c in step q (step_turned (Members moves) d t x y s) (joined_turned p n rows moves f rest)
