-- Each essential move is needed: without it its ends stay apart.
use Rattle.std.proofs.Common.{◌≡◌, ◌⊎◌, inl, inr, ℕ, zero, suc, ◌+◌, ◌≤◌, ◌<◌, List, [], length, take, drop, get_or, Option, ℤ, ◌<ℤ◌}
use Rattle.std.proofs.Common.{Contains, arith, ap, sym, ◌∙◌, subst, ⊎_elim}
use Rattle.std.proofs.lemmas.Int.{ints}
use Rattle.std.proofs.lemmas.List.{get_or_default, get_or-take, get_or-drop, length-take, length-drop}
use Rattle.std.proofs.lemmas.List.Elements.{Contains-append_cases}
use Rattle.mk_model.specs.Vectors.{add, subtract, weight}
use Rattle.mk_model.specs.Lattices.{lattice_of, InLattice, HasGrading}
use Rattle.mk_model.specs.Orders.{lead, tail, ComesBefore}
use Rattle.mk_model.specs.Walks.{Joined}
use Rattle.mk_model.specs.Walks.Walk.{stay, step}
use Rattle.mk_model.specs.Bases.{IsMove, MovesBefore, IsEssential, IsEssentialUpTo, IsAnswer, IsUpTo, IsMinimal, AreApart, without}
use Rattle.mk_model.proofs.WalkLaws.{walk_append, walk_back, walk_weaker, one_step, walk_from}
use Rattle.mk_model.proofs.MoveLaws.{IsMove-lead, IsMove-tail, IsMove-ends, IsMove-same_weight}
use Rattle.mk_model.proofs.Fibres.{step_weight, ends_of_step}
use Rattle.mk_model.proofs.MarkovLaws.{tail_from_lead}

-- x is an end of the move
abbrev pub IsEnd : List ℤ → List ℤ → Type 0
IsEnd m x = (x ≡ lead m) ⊎ (x ≡ tail m)

-- others lead from x to an end of the move, and from an end of it to y
abbrev pub PassesBy : ℕ → (List ℤ → Type 0) → List ℤ → List ℤ → List ℤ → Type 0
PassesBy n others m x y = (a : List ℤ) × (b : List ℤ) × IsEnd m a × IsEnd m b × Joined n others x a × Joined n others b y

module _ {n : ℕ} {rows : List (List ℤ)} {w : List ℤ} (g : HasGrading (lattice_of n rows w)) where
  -- A walk by one move and others, through points that are no heavier than the lead of that move: the others alone
  -- lead along, or they lead to an end of it and on from an end of it.
  pub avoid : {others : List ℤ → Type 0} → ((v : List ℤ) → others v → InLattice n rows v) → (m : List ℤ) → InLattice n rows m →
      (x y : List ℤ) →
      (weight w (lead m) <ℤ weight w x → ⊥) → Joined n (λ v. others v ⊎ (v ≡ m)) x y → Joined n others x y ⊎ PassesBy n others m x y
  avoid {others} inside m h x y light (stay p) = inl (stay p)
  avoid {others} inside m h x y light (step {y = z} p (v, o, s) r) =
      go o s (avoid {others = others} inside m h z y (λ l. light (omega (arith, ints, l, step_weight g x z v p (held o) s))) r)
    where
      held : others v ⊎ (v ≡ m) → InLattice n rows v
      held (inl o) = inside v o
      held (inr e) = subst (InLattice n rows) (sym e) h

      at_ends : (z ≡ add x m) ⊎ (z ≡ subtract x m) → IsEnd m x × IsEnd m z
      at_ends s = ⊎_elim (λ l. absurd (light l)) (λ a. ⊎_elim (λ (b, c). (inl b, inr c)) (λ (b, c). (inr b, inl c)) a)
          (ends_of_step g x z m p (walk_from r) h s)

      past : IsEnd m x × IsEnd m z → Joined n others z y ⊎ PassesBy n others m z y → PassesBy n others m x y
      past (b, c) (inl j) = (x, z, b, c, stay p, j)
      past (b, c) (inr (a, d, f, k, i, j)) = (x, d, b, k, stay p, j)

      go : others v ⊎ (v ≡ m) → (z ≡ add x v) ⊎ (z ≡ subtract x v) → Joined n others z y ⊎ PassesBy n others m z y → Joined n others x y
          ⊎ PassesBy n others m x y
      go (inl o) s (inl j) = inl (step p (v, o, s) j)
      go (inl o) s (inr (a, d, f, k, i, j)) = inr (a, d, f, k, step p (v, o, s) i, j)
      go (inr e) s t = inr (past (at_ends (subst (λ u. (z ≡ add x u) ⊎ (z ≡ subtract x u)) e s)) t)

  module _ {upto : Option ℕ} {moves : List (List ℤ)} (answer : IsAnswer (lattice_of n rows w) upto moves) (k : ℕ)
      (inside : k < length moves) where
    abbrev at : ℕ → List ℤ
    at i = get_or moves i []

    -- the moves at the places below j, but for the one at k
    abbrev OthersBelow : ℕ → List ℤ → Type 0
    OthersBelow j v = (i : ℕ) × (i < j) × (i ≡ k → ⊥) × (v ≡ at i)

    up_to_at : (i : ℕ) → i < length moves → IsEssentialUpTo (lattice_of n rows w) upto (at i)
    up_to_at i l = answer.essential i [] l

    essential_at : (i : ℕ) → i < length moves → IsEssential (lattice_of n rows w) (at i)
    essential_at i l = (up_to_at i l).essential

    before_at : (i j : ℕ) → i < j → j < length moves → MovesBefore (lattice_of n rows w) (at j) (at i)
    before_at i j l h = ((essential_at i (omega arith)).move, answer.ascending i j [] l h)

    others_inside : (j : ℕ) → j ≤ length moves → (v : List ℤ) → OthersBelow j v → InLattice n rows v
    others_inside j h v (i, l, d, e) = subst (InLattice n rows) (sym e) ((essential_at i (omega arith)).move.in_lattice)

    others_before : (j : ℕ) → j < length moves → (v : List ℤ) → OthersBelow j v → MovesBefore (lattice_of n rows w) (at j) v
    others_before j h v (i, l, d, e) = subst (MovesBefore (lattice_of n rows w) (at j)) (sym e) (before_at i j l h)

    -- the place j beyond k: its move's ends stay apart, so no walk of the others passes by them
    passed : (j : ℕ) → k < j → j < length moves → (Joined n (OthersBelow j) (lead (at k)) (tail (at k)) → ⊥) →
        PassesBy n (OthersBelow j) (at j) (lead (at k)) (tail (at k)) → ⊥
    passed j l h apart (x, y, b, c, i, r) = go b c
      where
        there : Joined n (MovesBefore (lattice_of n rows w) (at j)) (lead (at k)) x
        there = walk_weaker (others_before j h) (λ v p. p) i

        back : Joined n (MovesBefore (lattice_of n rows w) (at j)) y (tail (at k))
        back = walk_weaker (others_before j h) (λ v p. p) r

        move_k : IsMove n rows (at k)
        move_k = (essential_at k inside).move

        across : Joined n (MovesBefore (lattice_of n rows w) (at j)) (lead (at k)) (tail (at k))
        across = one_step (IsMove-lead g move_k) (IsMove-tail g move_k) (at k, before_at k j l h, inr (tail_from_lead (at k)))

        x_to_y : Joined n (MovesBefore (lattice_of n rows w) (at j)) x y
        x_to_y = walk_append (walk_back there) (walk_append across (walk_back back))

        go : IsEnd (at j) x → IsEnd (at j) y → ⊥
        go (inl e) (inl d) = apart (walk_append i (subst (λ u. Joined n (OthersBelow j) u (tail (at k))) (d ∙ sym e) r))
        go (inr e) (inr d) = apart (walk_append i (subst (λ u. Joined n (OthersBelow j) u (tail (at k))) (d ∙ sym e) r))
        go (inl e) (inr d) = (essential_at j h).not_joined (rw (e, d) at x_to_y)
        go (inr e) (inl d) = (essential_at j h).not_joined (walk_back (rw (e, d) at x_to_y))

    not_lighter : (j : ℕ) → k < j → j < length moves → weight w (lead (at j)) <ℤ weight w (lead (at k)) → ⊥
    not_lighter j l h h' = go (answer.ascending k j [] l h)
      where
        go : ComesBefore n w (at k) (at j) → ⊥
        go (inl f) = omega (arith, ints)
        go (inr (e, f)) = omega (arith, ints)

    stays_apart : (j : ℕ) → j ≤ length moves → Joined n (OthersBelow j) (lead (at k)) (tail (at k)) → ⊥
    stays_apart zero l r = (essential_at k inside).not_joined (walk_weaker (λ v (i, h, d, e). absurd (omega arith)) (λ v p. p) r)
    stays_apart (suc j) l r = go (stays_apart j (omega arith)) (cases j k)
      where
        cases : (j k : ℕ) → ((j < k) ⊎ (k < j)) ⊎ (j ≡ k)
        cases j k = grind arith

        before : (j ≤ k) → (v : List ℤ) → OthersBelow (suc j) v → MovesBefore (lattice_of n rows w) (at k) v
        before h v (i, b, d, e) = subst (MovesBefore (lattice_of n rows w) (at k)) (sym e) (before_at i k (less i b d) inside)
          where
            less : (i : ℕ) → i < suc j → (i ≡ k → ⊥) → i < k
            less i b d = omega arith

        one_or_others : (v : List ℤ) → OthersBelow (suc j) v → OthersBelow j v ⊎ (v ≡ at j)
        one_or_others v (i, b, d, e) = ⊎_elim (λ h. inl (i, h, d, e)) (λ h. inr (e ∙ ap at h)) (split i b)
          where
            split : (i : ℕ) → i < suc j → (i < j) ⊎ (i ≡ j)
            split i b = grind arith

        go : (Joined n (OthersBelow j) (lead (at k)) (tail (at k)) → ⊥) → ((j < k) ⊎ (k < j)) ⊎ (j ≡ k) → ⊥
        go apart (inl (inl h)) = (essential_at k inside).not_joined (walk_weaker (before (omega arith)) (λ v p. p) r)
        go apart (inr h) = (essential_at k inside).not_joined (walk_weaker (before (omega arith)) (λ v p. p) r)
        go apart (inl (inr h)) =
            ⊎_elim apart (passed j h l apart)
            (avoid {others = OthersBelow j} (others_inside j (omega arith)) (at j) ((essential_at j l).move.in_lattice) (lead (at k))
            (tail (at k)) (not_lighter j h l)
            (walk_weaker {others = λ v. OthersBelow j v ⊎ (v ≡ at j)} one_or_others (λ v p. p) r))

    others_without : (v : List ℤ) → Contains (without k moves) v → OthersBelow (length moves) v
    others_without v c = go (Contains-append_cases (take k moves) (drop (suc k) moves) v c)
      where
        go : Contains (take k moves) v ⊎ Contains (drop (suc k) moves) v → OthersBelow (length moves) v
        go (inl (i, l, e)) =
            let h : i < k = omega (arith, length-take k moves) in
            (i, omega arith, (λ d. omega arith), sym e ∙ get_or-take k moves i v h ∙ get_or_default moves i v [] (omega arith))
        go (inr (i, l, e)) =
            let h : suc k + i < length moves = omega (arith, length-drop (suc k) moves) in
            (suc k + i, h, (λ d. omega arith), sym e ∙ get_or-drop (suc k) moves i v ∙ get_or_default moves (suc k + i) v [] h)

    pub ends_apart : AreApart (lattice_of n rows w) upto (without k moves) (lead (at k)) (tail (at k))
    ends_apart =
        let b = (essential_at k inside).move in
        let light = (up_to_at k inside).light in
        record {
          from = record { point = IsMove-lead g b; light = light };
          to = record { point = IsMove-tail g b; light = subst (IsUpTo upto) (IsMove-same_weight g b) light };
          same_fibre = IsMove-ends g b;
          not_joined = λ j. stays_apart (length moves) (omega arith) (walk_weaker others_without (λ v p. p) j);
        }

  pub minimal_from_answer : {upto : Option ℕ} {moves : List (List ℤ)} → IsAnswer (lattice_of n rows w) upto moves →
      IsMinimal (lattice_of n rows w) upto moves
  minimal_from_answer {moves = moves} answer k l = (lead (get_or moves k []), tail (get_or moves k []), ends_apart answer k l)
