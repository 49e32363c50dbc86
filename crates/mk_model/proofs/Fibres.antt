-- Points of one fibre: what they share, and the moves that lead from one to the other.
use Rattle.std.proofs.Common.{◌≡◌, ◌⊎◌, inl, inr, ℕ, ◌≤◌, min, List, [], ◌∷◌, length, ℤ, pos, negsuc, ◌≤ℤ◌, ◌<ℤ◌, arith, ap, sym, ◌∙◌}
use Rattle.std.proofs.Common.{subst, ⊎_elim}
use Rattle.std.proofs.lemmas.Int.{ints, by_lt_z}
use borrow.Author.Differences.{up, down}
use Rattle.mk_model.specs.Vectors.{entry, zeros, add, subtract, positive_part, negative_part, weight, IsPoint}
use Rattle.mk_model.specs.Lattices.{lattice_of, InLattice, HasGrading}
use Rattle.mk_model.specs.Orders.{IsBelow, IsOriented, standard, lead, tail}
use Rattle.mk_model.specs.Walks.{IsStep, Joined}
use Rattle.mk_model.specs.Walks.Walk.{stay, step}
use Rattle.mk_model.specs.Bases.{IsMove}
use Rattle.mk_model.proofs.VectorAlgebra.{lengths, columns, same_vectors, weight-subtract, negate-subtract, weight-add, only_zeros}
use Rattle.mk_model.proofs.VectorAlgebra.{add-zeros}
use Rattle.mk_model.proofs.OrderLaws.{IsBelow-total_standard}
use Rattle.mk_model.proofs.WalkLaws.{walk_append, walk_back, one_step, walk_from, walk_to}
use Rattle.mk_model.proofs.LatticeLaws.{InLattice-zeros, InLattice-add, InLattice-negate, InLattice-columns, InLattice-weight}
use Rattle.mk_model.proofs.Translation.{joined_translate}
use Rattle.mk_model.proofs.Ranks.{down_of_nonnegative, IsBounded-weight}
use Rattle.mk_model.proofs.MoveRanks.{weight_down}

pub parts_apart : (z : ℤ) → min (up z) (down z) ≡ 0
parts_apart (pos k) = omega arith
parts_apart (negsuc k) = omega arith

-- ---- what lies over the difference of two points
pub shared : List ℤ → List ℤ → List ℤ
shared x y = subtract x (positive_part (subtract x y))

pub IsPoint-shared : {n : ℕ} {x y : List ℤ} → IsPoint n x → IsPoint n y → IsPoint n (shared x y)
unfolding shared
IsPoint-shared {x = x} {y = y} p q = record {
  columns = omega (arith, lengths, p.columns, q.columns);
  nonnegative = λ c. omega (arith, ints, columns, p.nonnegative c, q.nonnegative c, parts_apart (entry (subtract x y) c));
}

pub positive_and_shared : (x y : List ℤ) → length x ≡ length y → add (positive_part (subtract x y)) (shared x y) ≡ x
unfolding shared
positive_and_shared x y l = same_vectors _ _ (omega (arith, lengths)) (λ c. omega (arith, ints, columns))

pub negative_and_shared : (x y : List ℤ) → length x ≡ length y → add (negative_part (subtract x y)) (shared x y) ≡ y
unfolding shared
negative_and_shared x y l = same_vectors _ _ (omega (arith, lengths)) (λ c. omega (arith, ints, columns))

-- the ends of the difference joined, the points are joined
pub joined_by_parts : {moves : List ℤ → Type 0} {n : ℕ} {x y : List ℤ} → IsPoint n x → IsPoint n y →
    Joined n moves (positive_part (subtract x y)) (negative_part (subtract x y)) → Joined n moves x y
joined_by_parts {moves} {n} {x} {y} p q j =
    let l : length x ≡ length y = p.columns ∙ sym q.columns in
    rw (positive_and_shared x y l, negative_and_shared x y l) at (joined_translate {moves = moves} (shared x y) (IsPoint-shared p q) j)

-- each step replaced by a walk
pub walk_replace : {moves others : List ℤ → Type 0} {n : ℕ} → ((x y : List ℤ) → IsPoint n x → IsPoint n y → IsStep moves x y →
    Joined n others x y) →
    {x y : List ℤ} → Joined n moves x y → Joined n others x y
walk_replace f (stay p) = stay p
walk_replace f (step {x = x} {y = y} p s r) = walk_append (f x y p (walk_from r) s) (walk_replace f r)

pub plus_less : (x m : List ℤ) → length x ≤ length m → subtract (add x m) x ≡ m
plus_less x m l = same_vectors _ _ (omega (arith, lengths)) (λ c. omega (arith, ints, columns))

pub less_less : (x m : List ℤ) → length x ≤ length m → subtract x (subtract x m) ≡ m
less_less x m l = same_vectors _ _ (omega (arith, lengths)) (λ c. omega (arith, ints, columns))

-- a step by a move whose ends are joined
pub step_by_parts : {moves : List ℤ → Type 0} {n : ℕ} {x y : List ℤ} (m : List ℤ) → length m ≡ n → IsPoint n x → IsPoint n y →
    (y ≡ add x m) ⊎ (y ≡ subtract x m) → Joined n moves (positive_part m) (negative_part m) → Joined n moves x y
step_by_parts {moves} {n} {x} {y} m l p q (inl e) j =
    let d : subtract y x ≡ m = ap (λ v. subtract v x) e ∙ plus_less x m (omega (arith, p.columns)) in
    walk_back (joined_by_parts q p (rw d j))
step_by_parts {moves} {n} {x} {y} m l p q (inr e) j =
    let d : subtract x y ≡ m = ap (subtract x) e ∙ less_less x m (omega (arith, p.columns)) in
    joined_by_parts p q (rw d j)

-- the difference of two vectors is oriented if the second is below the first
pub IsOriented-difference : (p : List ℕ) (x y : List ℤ) → IsBelow p y x → IsOriented p (subtract x y)
IsOriented-difference [] x y h = h
IsOriented-difference (c ∷ p) x y (inl h) = inl (omega (arith, ints, columns))
IsOriented-difference (c ∷ p) x y (inr (e, h)) = inr (omega (arith, ints, columns), IsOriented-difference p x y h)

-- x and y are the ends of the move, in either order
abbrev pub AreEnds : List ℤ → List ℤ → List ℤ → Type 0
AreEnds m x y = ((x ≡ lead m) × (y ≡ tail m)) ⊎ ((x ≡ tail m) × (y ≡ lead m))

module _ {n : ℕ} {rows : List (List ℤ)} {w : List ℤ} (g : HasGrading (lattice_of n rows w)) where
  pub point_of_no_weight : (x : List ℤ) → IsPoint n x → weight w x ≤ℤ pos 0 → x ≡ zeros n
  point_of_no_weight x p h =
      only_zeros x (λ c. omega (
        arith,
        ints,
        h,
        (IsBounded-weight g p).within c,
        p.nonnegative c,
        down_of_nonnegative (entry x c) (p.nonnegative c),
        weight_down g x p,
      )) ∙ ap zeros p.columns

  -- the lead of the difference of two points is lighter than the first, or they are its ends
  pub lead_of_difference : (x y : List ℤ) → IsPoint n x → IsPoint n y →
      (weight w (lead (subtract x y)) <ℤ weight w x) ⊎ ((x ≡ lead (subtract x y)) × (y ≡ tail (subtract x y)))
  lead_of_difference x y p q = by_lt_z (weight w (lead (subtract x y))) (weight w x) inl (λ h. inr (ends (nothing_shared h)))
    where
      l : length x ≡ length y
      l = p.columns ∙ sym q.columns

      nothing_shared : weight w x ≤ℤ weight w (lead (subtract x y)) → shared x y ≡ zeros n
      nothing_shared h =
          point_of_no_weight (shared x y) (IsPoint-shared p q)
          (omega (arith, ints, h, ap (weight w) (positive_and_shared x y l), weight-add w (positive_part (subtract x y)) (shared x y)))

      ends : shared x y ≡ zeros n → (x ≡ lead (subtract x y)) × (y ≡ tail (subtract x y))
      ends e = (
        sym (positive_and_shared x y l) ∙ ap (add (lead (subtract x y))) e
            ∙ add-zeros (lead (subtract x y)) n (omega (arith, lengths, p.columns, q.columns)),
        sym (negative_and_shared x y l) ∙ ap (add (tail (subtract x y))) e
            ∙ add-zeros (tail (subtract x y)) n (omega (arith, lengths, p.columns, q.columns)),
      )

  pub step_weight : (x y v : List ℤ) → IsPoint n x → InLattice n rows v → (y ≡ add x v) ⊎ (y ≡ subtract x v) → weight w y ≡ weight w x
  step_weight x y v p h (inl e) = omega (arith, ints, ap (weight w) e, weight-add w x v, InLattice-weight w n rows v g.rows_weight h)
  step_weight x y v p h (inr e) =
      omega (
        arith,
        ints,
        ap (weight w) e,
        weight-subtract w x v (omega (arith, p.columns, InLattice-columns n rows v g.rows_columns h)),
        InLattice-weight w n rows v g.rows_weight h,
      )

  -- a step by a move that is lighter, or from one end of the move to the other
  pub ends_of_step : (x y v : List ℤ) → IsPoint n x → IsPoint n y → InLattice n rows v → (y ≡ add x v) ⊎ (y ≡ subtract x v) →
      (weight w (lead v) <ℤ weight w x) ⊎ AreEnds v x y
  ends_of_step x y v p q h (inl e) =
      let d : subtract y x ≡ v = ap (λ u. subtract u x) e ∙ plus_less x v
      (omega (arith, p.columns, InLattice-columns n rows v g.rows_columns h)) in
      ⊎_elim (λ k. inl (omega (arith, ints, k, step_weight x y v p h (inl e))))
      (λ (a, b). inr (inr (b, a)))
      (rw d at (lead_of_difference y x q p))
  ends_of_step x y v p q h (inr e) =
      let d : subtract x y ≡ v = ap (subtract x) e ∙ less_less x v (omega (arith, p.columns, InLattice-columns n rows v g.rows_columns h))
      in
      ⊎_elim inl (λ (a, b). inr (inl (a, b))) (rw d at (lead_of_difference x y p q))

  -- ---- the fibre of a point
  pub same_fibre_back : (x y : List ℤ) → InLattice n rows (subtract x y) → InLattice n rows (subtract y x)
  same_fibre_back x y h = subst (InLattice n rows) (negate-subtract x y) (InLattice-negate n rows (subtract x y) h)

  pub same_fibre_append : (x y z : List ℤ) → IsPoint n x → IsPoint n y → IsPoint n z → InLattice n rows (subtract x y) →
      InLattice n rows (subtract y z) → InLattice n rows (subtract x z)
  same_fibre_append x y z p q r h k =
      let e : add (subtract x y) (subtract y z) ≡ subtract x z = same_vectors _ _ (omega (arith, lengths, p.columns, q.columns, r.columns))
      (λ c. omega (arith, ints, columns)) in
      subst (InLattice n rows) e (InLattice-add n rows (subtract x y) (subtract y z) h k)

  pub same_fibre_weight : (x y : List ℤ) → IsPoint n x → IsPoint n y → InLattice n rows (subtract x y) → weight w x ≡ weight w y
  same_fibre_weight x y p q h = omega (
    arith,
    ints,
    weight-subtract w x y (omega (arith, p.columns, q.columns)),
    InLattice-weight w n rows (subtract x y) g.rows_weight h,
  )

  -- the greater of two points of a fibre less the other is a move
  pub move_of_difference : (x y : List ℤ) → InLattice n rows (subtract x y) → IsBelow (standard n) y x → IsMove n rows (subtract x y)
  move_of_difference x y h b = record { in_lattice = h; oriented = IsOriented-difference (standard n) x y b }

  -- and it leads from the one to the other
  pub difference_step : {moves : List ℤ → Type 0} (x y : List ℤ) → IsPoint n x → IsPoint n y → moves (subtract x y) → Joined n moves x y
  difference_step x y p q a = one_step p q (subtract x y, a, inr (sym (less_less x y (omega (arith, p.columns, q.columns)))))

  pub total_points : (x y : List ℤ) → IsPoint n x → IsPoint n y → (IsBelow (standard n) x y ⊎ IsBelow (standard n) y x) ⊎ (x ≡ y)
  total_points x y p q = IsBelow-total_standard n x y p.columns q.columns

  pub same_fibre_stay : (x : List ℤ) → IsPoint n x → InLattice n rows (subtract x x)
  same_fibre_stay x p =
      let e : zeros n ≡ subtract x x = same_vectors _ _ (omega (arith, lengths, p.columns)) (λ c. omega (arith, ints, columns)) in
      subst (InLattice n rows) e (InLattice-zeros n rows g.rows_columns)

  pub same_fibre_step : {moves : List ℤ → Type 0} → ((v : List ℤ) → moves v → InLattice n rows v) → (x y : List ℤ) → IsPoint n x →
      IsStep moves x y → InLattice n rows (subtract x y)
  same_fibre_step inside x y p (v, a, inl e) =
      let d : subtract y x ≡ v = ap (λ u. subtract u x) e ∙ plus_less x v
      (omega (arith, p.columns, InLattice-columns n rows v g.rows_columns (inside v a))) in
      same_fibre_back y x (subst (InLattice n rows) (sym d) (inside v a))
  same_fibre_step inside x y p (v, a, inr e) =
      let d : subtract x y ≡ v = ap (subtract x) e ∙ less_less x v (omega
      (arith, p.columns, InLattice-columns n rows v g.rows_columns (inside v a))) in
      subst (InLattice n rows) (sym d) (inside v a)

  pub same_fibre_of_walk : {moves : List ℤ → Type 0} → ((v : List ℤ) → moves v → InLattice n rows v) → {x y : List ℤ} → Joined n moves x y →
      InLattice n rows (subtract x y)
  same_fibre_of_walk {moves} inside (stay {x = x} p) = same_fibre_stay x p
  same_fibre_of_walk {moves} inside (step {x = x} {y = y} {z = z} p s r) =
      same_fibre_append x y z p (walk_from r) (walk_to r) (same_fibre_step {moves = moves} inside x y p s)
      (same_fibre_of_walk {moves = moves} inside r)
