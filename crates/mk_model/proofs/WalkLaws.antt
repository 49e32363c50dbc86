-- Walks: put together, turned round, along a line, by fewer moves.
use Rattle.std.proofs.Common.{◌≡◌, inl, inr, ℕ, zero, suc, ◌≤◌, List, length, ℤ, pos, negsuc, arith, ap, refl, sym, ◌∙◌}
use Rattle.std.proofs.lemmas.Int.{ints}
use Rattle.mk_model.specs.Vectors.{add, subtract, negate, scale, IsPoint}
use Rattle.mk_model.specs.Walks.{IsStep, Walk, Joined}
use Rattle.mk_model.specs.Walks.Walk.{stay, step}
use Rattle.mk_model.proofs.VectorAlgebra.{lengths, columns, same_vectors, add_difference, subtract-add, add-subtract, negate-scale}
use Rattle.mk_model.proofs.VectorAlgebra.{negate-subtract, IsPoint-between}

pub walk_from : {moves place : List ℤ → Type 0} {x y : List ℤ} → Walk moves place x y → place x
walk_from (stay p) = p
walk_from (step p s r) = p

pub walk_to : {moves place : List ℤ → Type 0} {x y : List ℤ} → Walk moves place x y → place y
walk_to (stay p) = p
walk_to (step p s r) = walk_to r

pub walk_append : {moves place : List ℤ → Type 0} {x y z : List ℤ} → Walk moves place x y → Walk moves place y z → Walk moves place x z
walk_append (stay p) v = v
walk_append (step p s r) v = step p s (walk_append r v)

-- the walk by other moves and through another place
pub walk_weaker : {moves others place room : List ℤ → Type 0} → ((m : List ℤ) → moves m → others m) → ((x : List ℤ) → place x → room x) →
    {x y : List ℤ} → Walk moves place x y → Walk others room x y
walk_weaker f g (stay {x = x} p) = stay (g x p)
walk_weaker f g (step {x = x} p (m, a, e) r) = step (g x p) (m, f m a, e) (walk_weaker f g r)

-- by no moves a walk leads nowhere
pub walk_stays : {moves place : List ℤ → Type 0} → ((m : List ℤ) → moves m → ⊥) → {x y : List ℤ} → Walk moves place x y → x ≡ y
walk_stays f (stay p) = refl
walk_stays f (step p (m, a, e) r) = absurd (f m a)

pub one_step : {moves place : List ℤ → Type 0} {x y : List ℤ} → place x → place y → IsStep moves x y → Walk moves place x y
one_step p q s = step p s (stay q)

-- a step between points, the other way
pub step_back : {moves : List ℤ → Type 0} {n : ℕ} {x y : List ℤ} → IsPoint n x → IsPoint n y → IsStep moves x y → IsStep moves y x
step_back {x = x} {y = y} p q (m, a, inl e) = (
  m,
  a,
  inr (sym (rw e
      (subtract-add x m (omega (arith, lengths, ap length e, p.columns, q.columns))))),
)
step_back {x = x} {y = y} p q (m, a, inr e) = (
  m,
  a,
  inl (sym (rw e
      (add-subtract x m (omega (arith, lengths, ap length e, p.columns, q.columns))))),
)

pub walk_back : {moves : List ℤ → Type 0} {n : ℕ} {x y : List ℤ} → Joined n moves x y → Joined n moves y x
walk_back (stay p) = stay p
walk_back (step p s r) = walk_append (walk_back r) (one_step (walk_from r) p (step_back p (walk_from r) s))

-- k steps by one move, down to x
pub walk_down : {moves : List ℤ → Type 0} {n : ℕ} (m : List ℤ) → moves m → (k : ℕ) (x : List ℤ) → IsPoint n x →
    IsPoint n (add x (scale (pos k) m)) → length m ≤ n → Joined n moves (add x (scale (pos k) m)) x
walk_down m a zero x p q l =
    let e : add x (scale (pos 0) m) ≡ x = same_vectors _ _ (omega (arith, lengths, p.columns)) (λ c. omega (arith, ints, columns)) in
    rw e (stay p)
walk_down m a (suc k) x p q l =
    let e : add x (scale (pos k) m) ≡ subtract (add x (scale (pos (suc k)) m)) m = same_vectors _ _ (omega (arith, lengths, p.columns))
    (λ c. omega (arith, ints, columns)) in
    step q (m, a, inr e) (walk_down m a k x p (IsPoint-between k m p q) l)

-- two points that differ by a multiple of a move are joined by it
pub walk_along : {moves : List ℤ → Type 0} {n : ℕ} (m : List ℤ) → moves m → (k : ℤ) (x y : List ℤ) → IsPoint n x → IsPoint n y →
    length m ≤ n → subtract x y ≡ scale k m → Joined n moves x y
walk_along {moves = moves} m a (pos k) x y p q l e =
    let d : add y (scale (pos k) m) ≡ x = ap (add y) (sym e) ∙ add_difference x y (p.columns ∙ sym q.columns) in
    rw d at (walk_down {moves = moves} m a k y q (rw d p) l)
walk_along {moves = moves} m a (negsuc k) x y p q l e =
    let f : subtract y x ≡ scale (pos (suc k)) m = sym (negate-subtract x y) ∙ ap negate e ∙ negate-scale (negsuc k) m in
    let d : add x (scale (pos (suc k)) m) ≡ y = ap (add x) (sym f) ∙ add_difference y x (q.columns ∙ sym p.columns) in
    walk_back (rw d at (walk_down {moves = moves} m a (suc k) x p (rw d q) l))
