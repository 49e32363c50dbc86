-- Reduction, and why a pair of moves is joined below the least common multiple of its leads.
use Rattle.std.proofs.Common.{◌≡◌, ◌⊎◌, inl, inr, ℕ, zero, suc, ◌*◌, List, ◌++◌, length, ℤ, pos, ◌≤ℤ◌, Contains, arith, ap, refl, sym, ◌∙◌}
use Rattle.std.proofs.Common.{subst}
use Rattle.std.proofs.lemmas.Int.{ints}
use Rattle.std.proofs.lemmas.List.Elements.{Contains-append_left}
use Rattle.mk_model.specs.Vectors.{entry, zeros, add, subtract, negate, scale, positive_part, negative_part, IsPoint}
use Rattle.mk_model.specs.Walks.{Walk, Members}
use Rattle.mk_model.specs.Orders.{lead}
use Rattle.mk_model.specs.Reductions.{lcm, Divides, Reaches, IsDescent, Meet, IsReduction, Reduct}
use Rattle.mk_model.specs.Reductions.Reaches.{here, go}
use Rattle.mk_model.specs.Pairs.{AreOrientedMoves, IsPointBelow, JoinedBelow, AreDisjoint}
use Rattle.mk_model.proofs.VectorAlgebra.{lengths, columns, same_vectors, positive_part_at, positive_part-negate, add_difference, add-zeros}
use Rattle.mk_model.proofs.WalkLaws.{walk_append, walk_weaker}
use Rattle.mk_model.proofs.Translation.{walk_turned}
use Rattle.mk_model.proofs.Divisors.{lcm_at, lcm_divides, Divides-transitive, Divides-lcm_first, Divides-lcm_second, Divides-positive_part}
use Rattle.mk_model.proofs.Divisors.{Divides-negative_part}
use Rattle.mk_model.proofs.Confluence.{reaches_append, descent_walk, member_columns, descent_point, reach_point, joined_under, lcm_point}
use Rattle.mk_model.proofs.Confluence.{lcm_descent_first, lcm_descent_second, point_below_from_descent, point_below_descent}
use Rattle.mk_model.specs.Lattices.{lattice_of}

-- two points, and steps down from two others to them
pub record StepDownTo (moves : List (List ℤ)) (n : ℕ) (a b r : List ℤ) : Type 0 where
  pub first : List ℤ
  pub second : List ℤ
  pub first_point : IsPoint n first
  pub second_point : IsPoint n second
  pub difference : subtract first second ≡ r
  pub from_first : Reaches (IsDescent moves) a first
  pub from_second : Reaches (IsDescent moves) b second

-- ---- by more moves, as those of a longer list
pub reduction_weaker : {moves others : List (List ℤ)} → ((v : List ℤ) → Contains moves v → Contains others v) → (r s : List ℤ) →
    IsReduction moves r s → IsReduction others r s
reduction_weaker f r s d = record { move = d.move; member = f d.move d.member; times = d.times; some = d.some; taken_off = d.taken_off }

pub reduct_weaker : {moves others : List (List ℤ)} → ((v : List ℤ) → Contains moves v → Contains others v) → {r s : List ℤ} →
    Reduct moves r s → Reduct others r s
reduct_weaker f here = here
reduct_weaker f (go {x = x} {y = y} d rest) = go (reduction_weaker f x y d) (reduct_weaker f rest)

pub joined_below_weaker : (n : ℕ) (p : List ℕ) (moves others : List (List ℤ)) (a b : List ℤ) →
    ((v : List ℤ) → Contains moves v → Contains others v) → JoinedBelow n p moves a b → JoinedBelow n p others a b
joined_below_weaker n p moves others a b f walk = walk_weaker f (λ x h. h) walk

-- what holds by a list holds by each list that begins with it
pub Reduct-append : (moves more : List (List ℤ)) (r s : List ℤ) → Reduct moves r s → Reduct (moves ++ more) r s
Reduct-append moves more r s d = reduct_weaker (Contains-append_left moves more) d

pub JoinedBelow-append : (n : ℕ) (p : List ℕ) (moves more : List (List ℤ)) (a b : List ℤ) → JoinedBelow n p moves a b →
    JoinedBelow n p (moves ++ more) a b
JoinedBelow-append n p moves more a b walk = joined_below_weaker n p moves (moves ++ more) a b (Contains-append_left moves more) walk

module _ {n : ℕ} {rows : List (List ℤ)} {w : List ℤ} {p : List ℕ} {moves : List (List ℤ)}
    (o : AreOrientedMoves (lattice_of n rows w) p moves) where
  -- steps down from both ends of a walk below a vector, to one vector
  pub joined_from_meet : {top a b : List ℤ} → IsPointBelow n p top a → IsPointBelow n p top b → Meet moves a b →
      Walk (Members moves) (IsPointBelow n p top) a b
  joined_from_meet q r m =
      walk_append (descent_walk (point_below_descent o) q m.from_first)
      (walk_turned (λ x h. h.point) (descent_walk (point_below_descent o) r m.from_second))

  pub JoinedBelow-from_meet : (a b : List ℤ) → Contains moves a → Contains moves b →
      Meet moves (subtract (lcm (lead a) (lead b)) a) (subtract (lcm (lead a) (lead b)) b) → JoinedBelow n p moves a b
  JoinedBelow-from_meet a b h k m =
      joined_from_meet (point_below_from_descent o (lcm_point o a b h k) (lcm_descent_first o a b h))
      (point_below_from_descent o (lcm_point o a b h k) (lcm_descent_second o a b k)) m

  -- some times the same move
  step_down_times : (k : ℕ) (a v : List ℤ) → Contains moves v → IsPoint n a → Divides (scale (pos k) (lead v)) a →
      Reaches (IsDescent moves) a (subtract a (scale (pos k) v))
  step_down_times zero a v h q d = rw e here
    where
      e : subtract a (scale (pos 0) v) ≡ a
      e = same_vectors _ _ (omega (arith, lengths, q.columns, member_columns o v h)) (λ c. omega (arith, ints, columns))
  step_down_times (suc k) a v h q d = go step (rw e (step_down_times k (subtract a v) v h (descent_point o q step) rest))
    where
      step : IsDescent moves a (subtract a v)
      step = record {
        move = v;
        member = h;
        below = refl;
        divides = record {
          entries = λ c. let (f, g) = positive_part_at v c in
              omega (arith, ints, columns, d.entries c, ap (λ z. k * z) g);
        };
      }

      e : subtract a (scale (pos (suc k)) v) ≡ subtract (subtract a v) (scale (pos k) v)
      e = same_vectors _ _ (omega (arith, lengths)) (λ c. omega (arith, ints, columns))

      rest : Divides (scale (pos k) (lead v)) (subtract a v)
      rest = record { entries = λ c. let (f, g) = positive_part_at v c in omega (arith, ints, columns, d.entries c, ap (λ z. k * z) g) }

  reduction_step : (a b r s : List ℤ) → IsPoint n a → IsPoint n b → subtract a b ≡ r → IsReduction moves r s → StepDownTo moves n a b s
  reduction_step a b r s q t e d = cases d.taken_off
    where
      v : List ℤ
      v = scale (pos d.times) d.move

      cases : (Divides (scale (pos d.times) (lead d.move)) (positive_part r) × (s ≡ subtract r v))
          ⊎ (Divides (scale (pos d.times) (lead d.move)) (negative_part r) × (s ≡ add r v)) → StepDownTo moves n a b s
      cases (inl (h, f)) =
          let k : Divides (scale (pos d.times) (lead d.move)) a = Divides-transitive h
          (subst (λ z. Divides (positive_part z) a) e (Divides-positive_part q t)) in
          let steps = step_down_times d.times a d.move d.member q k in
          record {
            first = subtract a v;
            second = b;
            first_point = reach_point o q steps;
            second_point = t;
            difference = rw (f, ← e) (same_vectors _ _ (omega (arith, lengths)) (λ c. omega (arith, ints, columns)));
            from_first = steps;
            from_second = here;
          }
      cases (inr (h, f)) =
          let k : Divides (scale (pos d.times) (lead d.move)) b = Divides-transitive h
          (subst (λ z. Divides (negative_part z) b) e (Divides-negative_part q t)) in
          let steps = step_down_times d.times b d.move d.member t k in
          record {
            first = a;
            second = subtract b v;
            first_point = q;
            second_point = reach_point o t steps;
            difference = rw (f, ← e) (same_vectors _ _ (omega (arith, lengths)) (λ c. omega (arith, ints, columns)));
            from_first = here;
            from_second = steps;
          }

  -- where a reduct of the difference of two points leads, their steps down lead
  pub reduct_steps_down : (r s a b : List ℤ) → IsPoint n a → IsPoint n b → subtract a b ≡ r → Reduct moves r s → StepDownTo moves n a b s
  reduct_steps_down r s a b q t e here = record {
    first = a;
    second = b;
    first_point = q;
    second_point = t;
    difference = e;
    from_first = here;
    from_second = here;
  }
  reduct_steps_down r s a b q t e (go {y = y} d rest) =
      let one = reduction_step a b r y q t e d in
      let more = reduct_steps_down y s one.first one.second one.first_point one.second_point one.difference rest in
      record {
        first = more.first;
        second = more.second;
        first_point = more.first_point;
        second_point = more.second_point;
        difference = more.difference;
        from_first = reaches_append one.from_first more.from_first;
        from_second = reaches_append one.from_second more.from_second;
      }

  -- ---- the four reasons
  lcm_difference : (a b : List ℤ) → Contains moves a → Contains moves b → (l : List ℤ) → length l ≡ n →
      subtract (subtract l a) (subtract l b) ≡ subtract b a
  lcm_difference a b h k l e = same_vectors _ _ (omega (arith, lengths, member_columns o a h, member_columns o b k))
      (λ c. omega (arith, ints, columns))

  pair_reduct : (a b r : List ℤ) → Contains moves a → Contains moves b → Reduct moves (subtract b a) r →
      StepDownTo moves n (subtract (lcm (lead a) (lead b)) a) (subtract (lcm (lead a) (lead b)) b) r
  pair_reduct a b r h k d =
      let l = lcm (lead a) (lead b) in
      let q : IsPoint n l = lcm_point o a b h k in
      reduct_steps_down (subtract b a) r (subtract l a) (subtract l b) (descent_point o q (lcm_descent_first o a b h))
      (descent_point o q (lcm_descent_second o a b k))
      (lcm_difference a b h k l q.columns) d

  pub joined_by_zero : (a b : List ℤ) → Contains moves a → Contains moves b → Reduct moves (subtract b a) (zeros n) →
      JoinedBelow n p moves a b
  joined_by_zero a b h k d =
      let t = pair_reduct a b (zeros n) h k d in
      let e : t.first ≡ t.second =
      sym (add_difference t.first t.second (t.first_point.columns ∙ sym t.second_point.columns)) ∙ ap (add t.second) t.difference
      ∙ add-zeros t.second n (omega (arith, t.second_point.columns)) in
      JoinedBelow-from_meet a b h k (record { common = t.second; from_first = rw e at t.from_first; from_second = t.from_second })

  -- one more step, by the difference or its negative
  meet_by_member : {x y r : List ℤ} → StepDownTo moves n x y r → Contains moves r ⊎ Contains moves (negate r) → Meet moves x y
  meet_by_member {r = r} t (inl g) =
      let e : t.second ≡ subtract t.first (subtract t.first t.second) = same_vectors _ _
      (omega (arith, lengths, t.first_point.columns, t.second_point.columns)) (λ c. omega (arith, ints, columns)) in
      let d : IsDescent moves t.first t.second =
      record {
        move = r;
        member = g;
        divides = subst (λ z. Divides (lead z) t.first) t.difference
            (Divides-positive_part t.first_point t.second_point);
        below = e ∙ ap (subtract t.first) t.difference;
      } in
      record { common = t.second; from_first = reaches_append t.from_first (go d here); from_second = t.from_second }
  meet_by_member {r = r} t (inr g) =
      let e : t.first ≡ subtract t.second (negate (subtract t.first t.second)) = same_vectors _ _
      (omega (arith, lengths, t.first_point.columns, t.second_point.columns)) (λ c. omega (arith, ints, columns)) in
      let d : IsDescent moves t.second t.first =
      record {
        move = negate r;
        member = g;
        divides = rw positive_part-negate
            (subst (λ z. Divides (negative_part z) t.second) t.difference (Divides-negative_part t.first_point t.second_point));
        below = e
            ∙ ap (λ z. subtract t.second (negate z)) t.difference;
      } in
      record { common = t.first; from_first = t.from_first; from_second = reaches_append t.from_second (go d here) }

  pub joined_by_member : (a b r : List ℤ) → Contains moves a → Contains moves b → Reduct moves (subtract b a) r → Contains moves r
      ⊎ Contains moves (negate r) → JoinedBelow n p moves a b
  joined_by_member a b r h k d m = JoinedBelow-from_meet a b h k (meet_by_member (pair_reduct a b r h k d) m)

  pub joined_by_disjoint : (a b : List ℤ) → Contains moves a → Contains moves b → AreDisjoint (lead a) (lead b) → JoinedBelow n p moves a b
  joined_by_disjoint a b h k d =
      JoinedBelow-from_meet a b h k (record {
        common = subtract (subtract l a) b;
        from_first = go first here;
        from_second = go second here;
      })
    where
      l : List ℤ
      l = lcm (lead a) (lead b)

      first : IsDescent moves (subtract l a) (subtract (subtract l a) b)
      first = record { move = b; member = k; below = refl; divides = record { entries = λ c. entry_by c (d c) } }
        where
          entry_by : (c : ℕ) → (entry (lead a) c ≡ pos 0) ⊎ (entry (lead b) c ≡ pos 0) → entry (lead b) c ≤ℤ entry (subtract l a) c
          entry_by c (inl e) = omega (arith, ints, columns, lcm_at (lead a) (lead b) c)
          entry_by c (inr e) = omega (arith, ints, columns, lcm_at (lead a) (lead b) c)

      second : IsDescent moves (subtract l b) (subtract (subtract l a) b)
      second = record {
        move = a;
        member = h;
        below = same_vectors _ _ (omega (arith, lengths)) (λ c. omega (arith, ints, columns));
        divides = record { entries = λ c. entry_by c (d c) };
      }
        where
          entry_by : (c : ℕ) → (entry (lead a) c ≡ pos 0) ⊎ (entry (lead b) c ≡ pos 0) → entry (lead a) c ≤ℤ entry (subtract l b) c
          entry_by c (inl e) = omega (arith, ints, columns, lcm_at (lead a) (lead b) c)
          entry_by c (inr e) = omega (arith, ints, columns, lcm_at (lead a) (lead b) c)

  pub joined_by_third : (a b m : List ℤ) → Contains moves a → Contains moves b → Contains moves m →
      Divides (lead m) (lcm (lead a) (lead b)) → JoinedBelow n p moves a m → JoinedBelow n p moves b m → JoinedBelow n p moves a b
  joined_by_third a b m h k g d i j =
      let q = lcm_point o a b h k in
      let l = lcm (lead a) (lead b) in
      walk_append (joined_under o a m l h g q (lcm_divides (Divides-lcm_first (lead a) (lead b)) d) i)
      (walk_turned (λ x h. h.point) (joined_under o b m l k g q (lcm_divides (Divides-lcm_second (lead a) (lead b)) d) j))
