-- Steps down from points of one weight: where every two steps down from one point are joined below it, joined points step
-- down to one vector.
use Rattle.std.proofs.Common.{◌≡◌, ◌⊎◌, inl, inr, ℕ, zero, suc, ◌^◌, ◌<◌, List, length, ℤ, arith, ◌∙◌}
use borrow.Author.Differences.{up}
use Rattle.mk_model.specs.Vectors.{weight, IsPoint}
use Rattle.mk_model.specs.Lattices.{lattice_of}
use Rattle.mk_model.specs.Walks.{Walk, Members, Joined}
use Rattle.mk_model.specs.Walks.Walk.{stay, step}
use Rattle.mk_model.specs.Reductions.{Reaches, IsDescent, Meet}
use Rattle.mk_model.specs.Reductions.Reaches.{here, go}
use Rattle.mk_model.specs.Pairs.{AreOrientedMoves, IsPointBelow}
use Rattle.mk_model.proofs.WalkLaws.{walk_from, walk_to, walk_append, walk_weaker}
use Rattle.mk_model.proofs.Translation.{walk_keeps}
use Rattle.mk_model.proofs.Ranks.{rank, rank_limit, rank_below, IsBounded-weight}
use Rattle.mk_model.proofs.Confluence.{reaches_append, descent_walk, descent_point, descent_weight, descent_rank, member_step_weight, step_descends}

-- every two steps down from a point of this weight are joined below it
abbrev pub PeaksJoined : ℕ → List ℤ → List ℕ → List (List ℤ) → ℤ → Type 0
PeaksJoined n w p moves W =
    (x a b : List ℤ) → IsPoint n x → weight w x ≡ W → IsDescent moves x a → IsDescent moves x b → Walk (Members moves) (IsPointBelow n p x) a b

module _ {n : ℕ} {rows : List (List ℤ)} {w : List ℤ} {p : List ℕ} {moves : List (List ℤ)} (o : AreOrientedMoves (lattice_of n rows w) p moves) (W : ℤ) where
  -- ---- walks whose vertices have the weight, and a rank less than a bound
  record IsVertex (t : ℕ) (x : List ℤ) : Type 0 where
    pub point : IsPoint n x
    pub weighs : weight w x ≡ W
    pub ranked : rank (up W) p x < t

  vertex_below : (t : ℕ) (x z : List ℤ) → IsVertex (suc t) x → IsPointBelow n p x z → weight w z ≡ W → IsVertex t z
  vertex_below t x z v b e = record { point = b.point; weighs = e; ranked = omega (arith, v.ranked, lower) }
    where
      lower : rank (up W) p z < rank (up W) p x
      lower = rank_below (up W) p z x (rw e at (IsBounded-weight o.grading b.point)) (rw v.weighs at (IsBounded-weight o.grading v.point)) b.below

  vertex_descent : (t : ℕ) (x y : List ℤ) → IsVertex t x → IsDescent moves x y → IsVertex t y
  vertex_descent t x y v d =
      record { point = descent_point o v.point d; weighs = descent_weight o v.point d ∙ v.weighs; ranked = omega (arith, v.ranked, descent_rank o W x y v.point v.weighs d) }

  module _ (peaks : PeaksJoined n w p moves W) where
    -- from a walk's second vertex on, two vectors have met
    around : (t : ℕ) → ((u v : List ℤ) → Walk (Members moves) (IsVertex t) u v → Meet moves u v) → (u x v : List ℤ) → IsVertex (suc t) x →
        IsDescent moves u x ⊎ IsDescent moves x u → Meet moves x v → Meet moves u v
    around t ih u x v q (inl d) m = record { common = m.common; from_first = go d m.from_first; from_second = m.from_second }
    around t ih u x v q (inr d) m = over m.common m.from_first m.from_second
      where
        over : (z : List ℤ) → Reaches (IsDescent moves) x z → Reaches (IsDescent moves) v z → Meet moves u v
        over z here s = record { common = u; from_first = here; from_second = reaches_append s (go d here) }
        over z (go {y = y} e r) s =
            let near = walk_keeps (λ z. weight w z ≡ W) (λ a b h k f. member_step_weight o h.point k ∙ f) (descent_weight o q.point d ∙ q.weighs) (peaks x u y q.point q.weighs d e) in
            let first : Walk (Members moves) (IsVertex t) u y = walk_weaker (λ m h. h) (λ z (h, f). vertex_below t x z q h f) near in
            let below : Meet moves u z = ih u z (walk_append first (descent_walk (vertex_descent t) (walk_to first) r)) in
            record { common = below.common; from_first = below.from_first; from_second = reaches_append s below.from_second }

    climb : (t : ℕ) → ((u v : List ℤ) → Walk (Members moves) (IsVertex t) u v → Meet moves u v) → (u v : List ℤ) → Walk (Members moves) (IsVertex (suc t)) u v → Meet moves u v
    climb t ih u v (stay q) = record { common = u; from_first = here; from_second = here }
    climb t ih u v (step {y = x} q s r) =
        around t ih u x v (walk_from r) (step_descends o q.point (walk_from r).point s) (climb t ih x v r)

    meets : (t : ℕ) (u v : List ℤ) → Walk (Members moves) (IsVertex t) u v → Meet moves u v
    meets zero u v walk = absurd (omega (arith, (walk_from walk).ranked))
    meets (suc t) u v walk = climb t (meets t) u v walk

    pub confluence_at : (x y : List ℤ) → weight w x ≡ W → Joined n (Members moves) x y → Meet moves x y
    confluence_at x y e walk =
        let level = walk_keeps (λ z. weight w z ≡ W) (λ a b h k f. member_step_weight o h k ∙ f) e walk in
        meets (suc (up W) ^ length p) x y
        (walk_weaker (λ m h. h) (λ z (h, f). record { point = h; weighs = f; ranked = rank_limit (up W) p z }) level)
