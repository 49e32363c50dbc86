-- Vectors from which no step leads down: each vector steps down to one, and it is the least of its fibre.
use Rattle.std.proofs.Common.{◌≡◌, ◌⊎◌, inl, inr, ℕ, zero, suc, ◌<◌, Bool, true, false, List, [], ◌∷◌, ℤ, Contains, All, arith, refl, sym}
use Rattle.std.proofs.Common.{◌∙◌, subst, ⊎_elim}
use Rattle.std.proofs.lemmas.List.Elements.{All-contains, Contains-get_or}
use Rattle.std.proofs.lemmas.Bool.{both_ways}
use borrow.Author.Differences.{up}
use Rattle.mk_model.specs.Vectors.{subtract, weight, IsPoint}
use Rattle.mk_model.specs.Lattices.{lattice_of, InLattice}
use Rattle.mk_model.specs.Walks.{Members, Joined}
use Rattle.mk_model.specs.Orders.{IsBelow, IsOriented, lead}
use Rattle.mk_model.specs.Bases.{IsMarkov}
use Rattle.mk_model.specs.Reductions.{lcm, Divides, Reaches, IsDescent, Meet, IsIrreducible}
use Rattle.mk_model.specs.Reductions.Reaches.{here, go}
use Rattle.mk_model.specs.Pairs.{AreOrientedMoves, JoinedBelow, EveryPairJoined}
use Rattle.mk_model.specs.Saturation.{divides}
use Rattle.mk_model.proofs.Lists.{Contains-none, Contains-cases, Contains-here, Contains-there}
use Rattle.mk_model.proofs.OrderLaws.{IsBelow-transitive}
use Rattle.mk_model.proofs.WalkLaws.{walk_append, walk_back}
use Rattle.mk_model.proofs.Divisors.{Decides-divides, Divides-transitive}
use Rattle.mk_model.proofs.Ranks.{rank}
use Rattle.mk_model.proofs.Confluence.{descent_walk, descent_point, descent_below, descent_weight, descent_rank, lcm_point}
use Rattle.mk_model.proofs.Confluence.{lcm_descent_first, lcm_descent_second, confluence}
use Rattle.mk_model.proofs.Reducts.{JoinedBelow-from_meet}

pub reaches_weaker : {next after : List ℤ → List ℤ → Type 0} → ((x y : List ℤ) → next x y → after x y) → {x y : List ℤ} → Reaches next x y →
    Reaches after x y
reaches_weaker f here = here
reaches_weaker f (go {x = x} {y = y} n r) = go (f x y n) (reaches_weaker f r)

-- by more moves
pub descent_weaker : {moves others : List (List ℤ)} → ((v : List ℤ) → Contains moves v → Contains others v) → (x y : List ℤ) →
    IsDescent moves x y → IsDescent others x y
descent_weaker f x y d = record { move = d.move; member = f d.move d.member; divides = d.divides; below = d.below }

pub All-from_contains : (P : List ℤ → Type 0) (moves : List (List ℤ)) → ((v : List ℤ) → Contains moves v → P v) → All P moves
All-from_contains P moves f k d l = f _ (Contains-get_or moves k d l)

-- by fewer moves
pub AreOrientedMoves-fewer : {n : ℕ} {rows : List (List ℤ)} {w : List ℤ} {p : List ℕ} {moves : List (List ℤ)} (others : List (List ℤ)) →
    ((v : List ℤ) → Contains others v → Contains moves v) → AreOrientedMoves (lattice_of n rows w) p moves →
    AreOrientedMoves (lattice_of n rows w) p others
AreOrientedMoves-fewer {n} {rows} {w} {p} {moves} others f o =
    record {
      grading = o.grading;
      in_lattice = All-from_contains (InLattice n rows) others (λ v h. All-contains (InLattice n rows) moves v o.in_lattice (f v h));
      oriented = All-from_contains (IsOriented p) others (λ v h. All-contains (IsOriented p) moves v o.oriented (f v h));
    }

-- is there a step down
pub descent_or_none : (moves : List (List ℤ)) (x : List ℤ) → ((y : List ℤ) × IsDescent moves x y) ⊎ IsIrreducible moves x
descent_or_none [] x = inr (λ v h _. Contains-none v h)
descent_or_none (m ∷ moves) x = first (divides (lead m) x) refl (descent_or_none moves x)
  where
    first : (t : Bool) → divides (lead m) x ≡ t → ((y : List ℤ) × IsDescent moves x y) ⊎ IsIrreducible moves x →
        ((y : List ℤ) × IsDescent (m ∷ moves) x y) ⊎ IsIrreducible (m ∷ moves) x
    first true e rest = inl (
      subtract x m,
      record {
        move = m;
        member = Contains-here m moves;
        divides = (Decides-divides (lead m) x).0 e;
        below = refl;
      },
    )
    first false e (inl (y, d)) = inl (y, descent_weaker (Contains-there m moves) x y d)
    first false e (inr none) = inr (λ v h d. ⊎_elim (λ s. both_ways (divides (lead m) x) e
        ((Decides-divides (lead m) x).1 (subst (λ u. Divides (lead u) x) (sym s) d))) (λ k. none v k d) (Contains-cases m moves v h))

pub irreducible_stays : {moves : List (List ℤ)} {x y : List ℤ} → IsIrreducible moves x → Reaches (IsDescent moves) x y → x ≡ y
irreducible_stays none here = refl
irreducible_stays none (go d r) = absurd (none d.move d.member d.divides)

-- steps down to a vector from which there is none
pub record LeastReach (moves : List (List ℤ)) (x : List ℤ) : Type 0 where
  pub least : List ℤ
  pub reach : Reaches (IsDescent moves) x least
  pub irreducible : IsIrreducible moves least

module _ {n : ℕ} {rows : List (List ℤ)} {w : List ℤ} {p : List ℕ} {moves : List (List ℤ)}
    (o : AreOrientedMoves (lattice_of n rows w) p moves) where
  lower : (W : ℤ) (t : ℕ) (x : List ℤ) → IsPoint n x → weight w x ≡ W → rank (up W) p x < t → LeastReach moves x
  lower W zero x q e l = absurd (omega arith)
  lower W (suc t) x q e l = next (lower W t) (descent_or_none moves x)
    where
      next : ((x : List ℤ) → IsPoint n x → weight w x ≡ W → rank (up W) p x < t → LeastReach moves x) → ((y : List ℤ) × IsDescent moves x y)
          ⊎ IsIrreducible moves x → LeastReach moves x
      next ih (inl (y, d)) =
          let rest = ih y (descent_point o q d) (descent_weight o q d ∙ e) (omega (arith, descent_rank o W x y q e d)) in
          record { least = rest.least; reach = go d rest.reach; irreducible = rest.irreducible }
      next ih (inr none) = record { least = x; reach = here; irreducible = none }

  pub least_reach : (x : List ℤ) → IsPoint n x → LeastReach moves x
  least_reach x q = lower (weight w x) (suc (rank (up (weight w x)) p x)) x q refl (omega arith)

  pub reach_below : {x y : List ℤ} → IsPoint n x → Reaches (IsDescent moves) x y → (y ≡ x) ⊎ IsBelow p y x
  reach_below q here = inl refl
  reach_below {x = x} {y = z} q (go {y = y} d r) =
      let b : IsBelow p y x = descent_below o q d in
      inr (⊎_elim (λ e. subst (λ v. IsBelow p v x) (sym e) b) (λ c. IsBelow-transitive p z y x c b) (reach_below (descent_point o q d) r))

  pub reach_joined : {x y : List ℤ} → IsPoint n x → Reaches (IsDescent moves) x y → Joined n (Members moves) x y
  reach_joined q r = descent_walk (λ x y h d. descent_point o h d) q r

  pub joined_by_meet : {x y : List ℤ} → IsPoint n x → IsPoint n y → Meet moves x y → Joined n (Members moves) x y
  joined_by_meet q r m = walk_append (reach_joined q m.from_first) (walk_back (reach_joined r m.from_second))

  -- two joined vectors without a step down are equal
  pub irreducible_joined : EveryPairJoined n p moves → (x y : List ℤ) → IsIrreducible moves x → IsIrreducible moves y →
      Joined n (Members moves) x y → x ≡ y
  irreducible_joined pairs x y f g j =
      let m = confluence o pairs x y j in
      irreducible_stays f m.from_first ∙ sym (irreducible_stays g m.from_second)

  -- to a vector without a step down, everything steps down that is joined to it
  pub irreducible_reached : EveryPairJoined n p moves → (x y : List ℤ) → IsIrreducible moves x → Joined n (Members moves) y x →
      Reaches (IsDescent moves) y x
  irreducible_reached pairs x y f j =
      let m = confluence o pairs y x j in
      subst (Reaches (IsDescent moves) y) (sym (irreducible_stays f m.from_second)) m.from_first

  -- where the moves are a Markov basis, it is the least of its fibre
  pub irreducible_is_least : IsMarkov n rows moves → EveryPairJoined n p moves → (x y : List ℤ) → IsIrreducible moves x → IsPoint n x →
      IsPoint n y → InLattice n rows (subtract y x) → (x ≡ y) ⊎ IsBelow p x y
  irreducible_is_least markov pairs x y f q r h = reach_below r (irreducible_reached pairs x y f (markov.joins y x r q h))

-- ---- a part of the moves whose leads divide all leads
module _ {n : ℕ} {rows : List (List ℤ)} {w : List ℤ} {p : List ℕ} {moves : List (List ℤ)}
    (o : AreOrientedMoves (lattice_of n rows w) p moves) (others : List (List ℤ))
    (part : (v : List ℤ) → Contains others v → Contains moves v) (covers : (v : List ℤ) → Contains moves v → (u : List ℤ)
    × Contains others u × Divides (lead u) (lead v)) where
  part_oriented : AreOrientedMoves (lattice_of n rows w) p others
  part_oriented = AreOrientedMoves-fewer others part o

  part_irreducible : (x : List ℤ) → IsIrreducible others x → IsIrreducible moves x
  part_irreducible x none v h d = let (u, k, e) = covers v h in none u k (Divides-transitive e d)

  pub part_meet : EveryPairJoined n p moves → (x y : List ℤ) → IsPoint n x → IsPoint n y → Joined n (Members moves) x y → Meet others x y
  part_meet pairs x y q r j =
      record { common = a.least; from_first = a.reach; from_second = subst (Reaches (IsDescent others) y) (sym same) b.reach }
    where
      a : LeastReach others x
      a = least_reach part_oriented x q

      b : LeastReach others y
      b = least_reach part_oriented y r

      down : (x y : List ℤ) → IsPoint n x → Reaches (IsDescent others) x y → Joined n (Members moves) x y
      down x y q r = reach_joined o q (reaches_weaker (descent_weaker part) r)

      same : a.least ≡ b.least
      same =
          irreducible_joined o pairs a.least b.least (part_irreducible a.least a.irreducible) (part_irreducible b.least b.irreducible)
          (walk_append (walk_back (down x a.least q a.reach)) (walk_append j (down y b.least r b.reach)))

  pub part_joined : EveryPairJoined n p moves → (x y : List ℤ) → IsPoint n x → IsPoint n y → Joined n (Members moves) x y →
      Joined n (Members others) x y
  part_joined pairs x y q r j = joined_by_meet part_oriented q r (part_meet pairs x y q r j)

  pair_of_part : EveryPairJoined n p moves → (a b : List ℤ) → Contains others a → Contains others b → JoinedBelow n p others a b
  pair_of_part pairs a b h k = JoinedBelow-from_meet part_oriented a b h k (part_meet pairs x y q r over)
    where
      l : List ℤ
      l = lcm (lead a) (lead b)

      x : List ℤ
      x = subtract l a

      y : List ℤ
      y = subtract l b

      top : IsPoint n l
      top = lcm_point o a b (part a h) (part b k)

      q : IsPoint n x
      q = descent_point o top (lcm_descent_first o a b (part a h))

      r : IsPoint n y
      r = descent_point o top (lcm_descent_second o a b (part b k))

      over : Joined n (Members moves) x y
      over = walk_append (walk_back (reach_joined o top (go (lcm_descent_first o a b (part a h)) here)))
          (reach_joined o top (go (lcm_descent_second o a b (part b k)) here))

  pub part_pairs : EveryPairJoined n p moves → EveryPairJoined n p others
  part_pairs pairs i j d l k = pair_of_part pairs _ _ (Contains-get_or others i d (omega arith)) (Contains-get_or others j d k)
