-- Steps down by moves that are joined below in pairs: any two joined vectors step down to one.
use Rattle.std.proofs.Common.{◌≡◌, ◌⊎◌, inl, inr, ℕ, zero, suc, ◌^◌, ◌<◌, List, length, get_or, ℤ, Contains, arith, ap, refl, sym, ◌∙◌}
use Rattle.std.proofs.Common.{subst}
use Rattle.std.proofs.lemmas.List.{get_or_default}
use Rattle.std.proofs.lemmas.List.Elements.{All-contains}
use borrow.Author.Differences.{up}
use Rattle.mk_model.specs.Vectors.{add, subtract, weight, IsPoint}
use Rattle.mk_model.specs.Lattices.{lattice_of, InLattice}
use Rattle.mk_model.specs.Walks.{IsStep, Walk, Members, Joined}
use Rattle.mk_model.specs.Walks.Walk.{stay, step}
use Rattle.mk_model.specs.Orders.{IsBelow, IsOriented, lead}
use Rattle.mk_model.specs.Reductions.{lcm, Divides, Reaches, IsDescent, Meet}
use Rattle.mk_model.specs.Reductions.Reaches.{here, go}
use Rattle.mk_model.specs.Pairs.{AreOrientedMoves, IsPointBelow, JoinedBelow, EveryPairJoined}
use Rattle.mk_model.proofs.VectorAlgebra.{subtract-add, add_difference, IsPoint-positive_part, IsPoint-add}
use Rattle.mk_model.proofs.OrderLaws.{IsBelow-add, IsBelow-subtract, IsBelow-transitive}
use Rattle.mk_model.proofs.WalkLaws.{walk_from, walk_to, walk_append, walk_weaker}
use Rattle.mk_model.proofs.LatticeLaws.{InLattice-columns}
use Rattle.mk_model.proofs.Fibres.{step_weight}
use Rattle.mk_model.proofs.Translation.{walk_translate, walk_turned, walk_keeps, subtract-exchange_last}
use Rattle.mk_model.proofs.Divisors.{lcm-comm, Divides-lcm_first, Divides-lcm_second, lcm_divides, IsPoint-lcm, IsPoint-lower}
use Rattle.mk_model.proofs.Divisors.{IsPoint-quotient, lead_divides}
use Rattle.mk_model.proofs.Ranks.{rank, rank_limit, rank_below, IsBounded-weight}

pub reaches_append : {next : List ℤ → List ℤ → Type 0} {x y z : List ℤ} → Reaches next x y → Reaches next y z → Reaches next x z
reaches_append here s = s
reaches_append (go n r) s = go n (reaches_append r s)

-- steps by a relation that keeps a place make a walk in it
pub descent_walk : {moves : List (List ℤ)} {place : List ℤ → Type 0} → ((x y : List ℤ) → place x → IsDescent moves x y → place y) →
    {x y : List ℤ} → place x → Reaches (IsDescent moves) x y → Walk (Members moves) place x y
descent_walk f p here = stay p
descent_walk f p (go {x = x} {y = y} d r) = step p (d.move, d.member, inr d.below) (descent_walk f (f x y p d) r)

module _ {n : ℕ} {rows : List (List ℤ)} {w : List ℤ} {p : List ℕ} {moves : List (List ℤ)}
    (o : AreOrientedMoves (lattice_of n rows w) p moves) where
  pub member_columns : (m : List ℤ) → Contains moves m → length m ≡ n
  member_columns m h = InLattice-columns n rows m o.grading.rows_columns (All-contains (InLattice n rows) moves m o.in_lattice h)

  -- ---- one step down
  pub descent_point : {x y : List ℤ} → IsPoint n x → IsDescent moves x y → IsPoint n y
  descent_point q d = rw d.below (IsPoint-lower d.move q (omega (arith, member_columns d.move d.member)) d.divides)

  pub reach_point : {x y : List ℤ} → IsPoint n x → Reaches (IsDescent moves) x y → IsPoint n y
  reach_point q here = q
  reach_point q (go d r) = reach_point (descent_point q d) r

  pub descent_below : {x y : List ℤ} → IsPoint n x → IsDescent moves x y → IsBelow p y x
  descent_below {x} {y} q d =
      rw d.below (IsBelow-subtract p x d.move (All-contains (IsOriented p) moves d.move o.oriented d.member))

  pub member_step_weight : {x y : List ℤ} → IsPoint n x → IsStep (Members moves) x y → weight w y ≡ weight w x
  member_step_weight {x} {y} q (m, h, s) = step_weight o.grading x y m q (All-contains (InLattice n rows) moves m o.in_lattice h) s

  -- a step between points goes down one way or the other
  pub step_descends : {x y : List ℤ} → IsPoint n x → IsPoint n y → IsStep (Members moves) x y → IsDescent moves x y ⊎ IsDescent moves y x
  step_descends {x} {y} q r (m, h, inr e) = inl (record { move = m; member = h; divides = lead_divides x m q (rw e at r); below = e })
  step_descends {x} {y} q r (m, h, inl e) =
      let f : subtract y m ≡ x = rw e (subtract-add x m (omega (arith, member_columns m h, q.columns))) in
      inr (record { move = m; member = h; divides = lead_divides y m r (rw f q); below = sym f })

  -- ---- pairs
  lead_point : (m : List ℤ) → Contains moves m → IsPoint n (lead m)
  lead_point m h = IsPoint-positive_part m (member_columns m h)

  pub lcm_point : (a b : List ℤ) → Contains moves a → Contains moves b → IsPoint n (lcm (lead a) (lead b))
  lcm_point a b h k = IsPoint-lcm (lead_point a h) (lead_point b k)

  pub lcm_descent_first : (a b : List ℤ) → Contains moves a → IsDescent moves (lcm (lead a) (lead b)) (subtract (lcm (lead a) (lead b)) a)
  lcm_descent_first a b h = record { move = a; member = h; divides = Divides-lcm_first (lead a) (lead b); below = refl }

  pub lcm_descent_second : (a b : List ℤ) → Contains moves b → IsDescent moves (lcm (lead a) (lead b)) (subtract (lcm (lead a) (lead b)) b)
  lcm_descent_second a b k = record { move = b; member = k; divides = Divides-lcm_second (lead a) (lead b); below = refl }

  pub point_below_from_descent : {x y : List ℤ} → IsPoint n x → IsDescent moves x y → IsPointBelow n p x y
  point_below_from_descent q d = record { point = descent_point q d; below = descent_below q d }

  pub point_below_descent : {top : List ℤ} (x y : List ℤ) → IsPointBelow n p top x → IsDescent moves x y → IsPointBelow n p top y
  point_below_descent {top} x y q d =
      record { point = descent_point q.point d; below = IsBelow-transitive p y x top (descent_below q.point d) q.below }

  pub JoinedBelow-same : (a : List ℤ) → Contains moves a → JoinedBelow n p moves a a
  JoinedBelow-same a h = stay (point_below_from_descent (lcm_point a a h h) (lcm_descent_first a a h))

  pub JoinedBelow-swap : (a b : List ℤ) → JoinedBelow n p moves a b → JoinedBelow n p moves b a
  JoinedBelow-swap a b j = rw (lcm-comm (lead b) (lead a)) (walk_turned (λ x q. q.point) j)

  pub joined_pair : EveryPairJoined n p moves → (a b : List ℤ) → Contains moves a → Contains moves b → JoinedBelow n p moves a b
  joined_pair pairs a b (i, l, e) (j, k, f) = go (cases i j)
    where
      cases : (i j : ℕ) → (i < j) ⊎ (j < i) ⊎ (i ≡ j)
      cases i j = grind arith

      g : get_or moves j a ≡ b
      g = get_or_default moves j a b k ∙ f

      go : (i < j) ⊎ (j < i) ⊎ (i ≡ j) → JoinedBelow n p moves a b
      go (inl c) = rw (e, g) at (pairs i j a c k)
      go (inr (inl c)) = JoinedBelow-swap b a (rw (g, e) at (pairs j i a c l))
      go (inr (inr c)) = let d : a ≡ b = sym e ∙ ap (λ k. get_or moves k a) c ∙ g in
          subst (JoinedBelow n p moves a) d (JoinedBelow-same a (i, l, e))

  -- the walk of a pair, moved up to a multiple of its least common multiple
  pub joined_under : (a b x : List ℤ) → Contains moves a → Contains moves b → IsPoint n x → Divides (lcm (lead a) (lead b)) x →
      JoinedBelow n p moves a b → Walk (Members moves) (IsPointBelow n p x) (subtract x a) (subtract x b)
  joined_under a b x h k q d j = rw (← first, ← second) (walk_translate t shift j)
    where
      l : List ℤ
      l = lcm (lead a) (lead b)

      t : List ℤ
      t = subtract x l

      top : IsPoint n l
      top = lcm_point a b h k

      rest : IsPoint n t
      rest = IsPoint-quotient q (omega (arith, top.columns)) d

      whole : add l t ≡ x
      whole = add_difference x l (q.columns ∙ sym top.columns)

      first : add (subtract l a) t ≡ subtract x a
      first = subtract-exchange_last l a t ∙ ap (λ v. subtract v a) whole

      second : add (subtract l b) t ≡ subtract x b
      second = subtract-exchange_last l b t ∙ ap (λ v. subtract v b) whole

      shift : (z : List ℤ) → IsPointBelow n p l z → IsPointBelow n p x (add z t)
      shift z h = record { point = IsPoint-add h.point rest; below = subst (IsBelow p (add z t)) whole (IsBelow-add p z l t h.below) }

  -- two steps down from one point, joined below it
  peak : EveryPairJoined n p moves → {x a b : List ℤ} → IsPoint n x → IsDescent moves x a → IsDescent moves x b →
      Walk (Members moves) (IsPointBelow n p x) a b
  peak pairs {x} {a} {b} q d e =
      rw (d.below, e.below) (joined_under d.move e.move x d.member e.member q (lcm_divides d.divides e.divides)
      (joined_pair pairs d.move e.move d.member e.member))

  -- ---- ranks
  lower_rank : (W : ℤ) (x z : List ℤ) → IsPoint n x → weight w x ≡ W → IsPointBelow n p x z → weight w z ≡ W →
      rank (up W) p z < rank (up W) p x
  lower_rank W x z q e b f = rank_below (up W) p z x (rw f at (IsBounded-weight o.grading b.point))
      (rw e at (IsBounded-weight o.grading q)) b.below

  pub descent_weight : {x y : List ℤ} → IsPoint n x → IsDescent moves x y → weight w y ≡ weight w x
  descent_weight q d = member_step_weight q (d.move, d.member, inr d.below)

  pub descent_rank : (W : ℤ) (x y : List ℤ) → IsPoint n x → weight w x ≡ W → IsDescent moves x y → rank (up W) p y < rank (up W) p x
  descent_rank W x y q e d = lower_rank W x y q e (point_below_from_descent q d) (descent_weight q d ∙ e)

  -- ---- walks whose vertices have one weight, and a rank less than a bound
  record IsVertex (W : ℤ) (t : ℕ) (x : List ℤ) : Type 0 where
    pub point : IsPoint n x
    pub weighs : weight w x ≡ W
    pub ranked : rank (up W) p x < t

  vertex_below : (W : ℤ) (t : ℕ) (x z : List ℤ) → IsVertex W (suc t) x → IsPointBelow n p x z → weight w z ≡ W → IsVertex W t z
  vertex_below W t x z v b e =
      record { point = b.point; weighs = e; ranked = omega (arith, v.ranked, lower_rank W x z v.point v.weighs b e) }

  vertex_descent : (W : ℤ) (t : ℕ) (x y : List ℤ) → IsVertex W t x → IsDescent moves x y → IsVertex W t y
  vertex_descent W t x y v d =
      record {
        point = descent_point v.point d;
        weighs = descent_weight v.point d ∙ v.weighs;
        ranked = omega (arith, v.ranked, descent_rank W x y v.point v.weighs d);
      }

  -- from a walk's second vertex on, two vectors have met
  around : EveryPairJoined n p moves → (W : ℤ) (t : ℕ) → ((u v : List ℤ) → Walk (Members moves) (IsVertex W t) u v → Meet moves u v) →
      (u x v : List ℤ) → IsVertex W (suc t) x →
      IsDescent moves u x ⊎ IsDescent moves x u → Meet moves x v → Meet moves u v
  around pairs W t ih u x v q (inl d) m = record { common = m.common; from_first = go d m.from_first; from_second = m.from_second }
  around pairs W t ih u x v q (inr d) m = over m.common m.from_first m.from_second
    where
      over : (z : List ℤ) → Reaches (IsDescent moves) x z → Reaches (IsDescent moves) v z → Meet moves u v
      over z here s = record { common = u; from_first = here; from_second = reaches_append s (go d here) }
      over z (go {y = y} e r) s =
          let near = walk_keeps (λ z. weight w z ≡ W) (λ a b h k f. member_step_weight h.point k ∙ f) (descent_weight q.point d ∙ q.weighs)
          (peak pairs q.point d e) in
          let first : Walk (Members moves) (IsVertex W t) u y = walk_weaker (λ m h. h) (λ z (h, f). vertex_below W t x z q h f) near in
          let below : Meet moves u z = ih u z (walk_append first (descent_walk (vertex_descent W t) (walk_to first) r)) in
          record { common = below.common; from_first = below.from_first; from_second = reaches_append s below.from_second }

  climb : EveryPairJoined n p moves → (W : ℤ) (t : ℕ) → ((u v : List ℤ) → Walk (Members moves) (IsVertex W t) u v → Meet moves u v) →
      (u v : List ℤ) → Walk (Members moves) (IsVertex W (suc t)) u v → Meet moves u v
  climb pairs W t ih u v (stay q) = record { common = u; from_first = here; from_second = here }
  climb pairs W t ih u v (step {y = x} q s r) =
      around pairs W t ih u x v (walk_from r) (step_descends q.point (walk_from r).point s) (climb pairs W t ih x v r)

  meets : EveryPairJoined n p moves → (W : ℤ) (t : ℕ) (u v : List ℤ) → Walk (Members moves) (IsVertex W t) u v → Meet moves u v
  meets pairs W zero u v walk = absurd (omega (arith, (walk_from walk).ranked))
  meets pairs W (suc t) u v walk = climb pairs W t (meets pairs W t) u v walk

  pub confluence : EveryPairJoined n p moves → (x y : List ℤ) → Joined n (Members moves) x y → Meet moves x y
  confluence pairs x y walk =
      let W = weight w x in
      let level = walk_keeps (λ z. weight w z ≡ W) (λ a b h k f. member_step_weight h k ∙ f) refl walk in
      meets pairs W (suc (up W) ^ length p) x y
      (walk_weaker (λ m h. h) (λ z (h, f). record { point = h; weighs = f; ranked = rank_limit (up W) p z }) level)
