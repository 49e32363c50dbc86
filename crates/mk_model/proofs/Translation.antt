-- Walks with a vector added to each vertex, turned round, and kept in one fibre.
use Rattle.std.proofs.Common.{◌≡◌, inl, inr, ℕ, List, ℤ, arith, ap, ◌∙◌}
use Rattle.std.proofs.lemmas.Int.{ints}
use Rattle.mk_model.specs.Vectors.{add, subtract, IsPoint}
use Rattle.mk_model.specs.Walks.{IsStep, Walk, Joined}
use Rattle.mk_model.specs.Walks.Walk.{stay, step}
use Rattle.mk_model.proofs.VectorAlgebra.{lengths, columns, same_vectors, IsPoint-add}
use Rattle.mk_model.proofs.WalkLaws.{walk_from, walk_append, one_step, step_back}

pub add-exchange_last : (x m t : List ℤ) → add (add x m) t ≡ add (add x t) m
add-exchange_last x m t = same_vectors _ _ (omega (arith, lengths)) (λ c. omega (arith, ints, columns))

pub subtract-exchange_last : (x m t : List ℤ) → add (subtract x m) t ≡ subtract (add x t) m
subtract-exchange_last x m t = same_vectors _ _ (omega (arith, lengths)) (λ c. omega (arith, ints, columns))

pub step_translate : {moves : List ℤ → Type 0} (t x y : List ℤ) → IsStep moves x y → IsStep moves (add x t) (add y t)
step_translate t x y (m, a, inl e) = (m, a, inl (ap (λ v. add v t) e ∙ add-exchange_last x m t))
step_translate t x y (m, a, inr e) = (m, a, inr (ap (λ v. add v t) e ∙ subtract-exchange_last x m t))

pub walk_translate : {moves place room : List ℤ → Type 0} (t : List ℤ) → ((x : List ℤ) → place x → room (add x t)) → {x y : List ℤ} →
    Walk moves place x y → Walk moves room (add x t) (add y t)
walk_translate t f (stay {x = x} p) = stay (f x p)
walk_translate t f (step {x = x} {y = y} p s r) = step (f x p) (step_translate t x y s) (walk_translate t f r)

-- the same point added to both ends keeps them joined
pub joined_translate : {n : ℕ} {moves : List ℤ → Type 0} {x y : List ℤ} (t : List ℤ) → IsPoint n t → Joined n moves x y →
    Joined n moves (add x t) (add y t)
joined_translate t q walk = walk_translate t (λ x p. IsPoint-add p q) walk

-- through any place of points
pub walk_turned : {n : ℕ} {moves place : List ℤ → Type 0} → ((x : List ℤ) → place x → IsPoint n x) → {x y : List ℤ} → Walk moves place x y →
    Walk moves place y x
walk_turned f (stay p) = stay p
walk_turned f (step {x = x} {y = y} p s r) =
    walk_append (walk_turned f r) (one_step (walk_from r) p (step_back (f x p) (f y (walk_from r)) s))

-- what each step keeps holds of each vertex
pub walk_keeps : {moves place : List ℤ → Type 0} (kept : List ℤ → Type 0) →
    ((x y : List ℤ) → place x → IsStep moves x y → kept x → kept y) → {x y : List ℤ} → kept x → Walk moves place x y →
    Walk moves (λ z. place z × kept z) x y
walk_keeps kept f k (stay p) = stay (p, k)
walk_keeps kept f k (step {x = x} {y = y} p s r) = step (p, k) s (walk_keeps kept f (f x y p s k) r)
