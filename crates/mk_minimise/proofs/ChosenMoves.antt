-- The chosen moves, one place of the list after another.
use Rattle.std.proofs.Common.{◌≡◌, ◌⊎◌, inl, inr, ℕ, ◌+◌, ◌≤◌, ◌<◌, List, [], ◌∷◌, ◌++◌, length, take, get_or, Option, ℤ, All, AllPairs, Contains, arith, sym, ◌∙◌, subst, ⊎_elim}
use Rattle.std.proofs.lemmas.Bool.{cases_lt}
use Rattle.std.proofs.lemmas.List.{get_or_default, get_or-take, length-take, take_more, get_or_append_left, get_or_push, length_push}
use Rattle.std.proofs.lemmas.List.Elements.{All-contains, All-nil, All-push, All-weaker, Contains-get_or, Contains-append_left, Contains-push, Contains-push_cases}
use Rattle.mk_model.specs.Orders.{IsBelow, standard, lead, ComesBefore}
use Rattle.mk_model.specs.CoreStates.{move_at}
use Rattle.mk_model.specs.Bases.{IsUpTo, IsAnswer}
use Rattle.mk_model.specs.Lattices.{lattice_of, HasGrading}
use Rattle.mk_model.specs.Vectors.{weight}
use Rattle.mk_model.specs.ReducedBases.{LighterMoves, IsLeastOfComponent, IsReducedBasis}
use Rattle.mk_model.specs.Walks.{Joined}
use Rattle.mk_model.proofs.Components.{answer_from_components}
use Rattle.mk_minimise.specs.Stages.{StepsLighter, AreChosen, AreChosenUpTo}

AllPairs-push : (R : List ℤ → List ℤ → Type 0) (xs : List (List ℤ)) (y : List ℤ) → AllPairs R xs → ((x : List ℤ) → Contains xs x → R x y) → AllPairs R (xs ++ y ∷ [])
AllPairs-push R xs y a last i j d l k = go (cases j (length xs) (omega (arith, k, length_push xs y)))
  where
    cases : (j n : ℕ) → j < n + 1 → (j < n) ⊎ (n ≡ j)
    cases j n l = grind arith

    go : (j < length xs) ⊎ (length xs ≡ j) → R (get_or (xs ++ y ∷ []) i d) (get_or (xs ++ y ∷ []) j d)
    go (inl s) = rw (get_or_append_left xs (y ∷ []) d i (omega (arith, l, s)), get_or_append_left xs (y ∷ []) d j s) (a i j d l s)
    go (inr e) = rw (get_or_append_left xs (y ∷ []) d i (omega (arith, l, e)), get_or_push xs y d j e) (last (get_or xs i d) (Contains-get_or xs i d (omega (arith, l, e))))

module _ (n : ℕ) (w : List ℤ) (moves : List (List ℤ)) where
  pub chosen_begin : AreChosen n w moves 0 []
  chosen_begin = record {
    ascending = λ i j d l k. absurd (omega arith);
    each = All-nil (λ m. Contains (take 0 moves) m × IsLeastOfComponent (lattice_of n moves w) (lead m));
    others = λ m (k, l, e). absurd (omega (arith, l, length-take 0 moves));
  }

  module _ (ascending : AllPairs (ComesBefore n w) moves) (count : ℕ) (within : count < length moves) (chosen : List (List ℤ)) (so_far : AreChosen n w moves count chosen) where
    abbrev m : List ℤ
    m = move_at moves count

    front_more : take (count + 1) moves ≡ take count moves ++ m ∷ []
    front_more = take_more moves count [] within

    stays : (v : List ℤ) → Contains (take count moves) v → Contains (take (count + 1) moves) v
    stays v c = subst (λ xs. Contains xs v) (sym front_more) (Contains-append_left (take count moves) (m ∷ []) v c)

    here : Contains (take (count + 1) moves) m
    here = subst (λ xs. Contains xs m) (sym front_more) (Contains-push (take count moves) m)

    split : (v : List ℤ) → Contains (take (count + 1) moves) v → Contains (take count moves) v ⊎ (m ≡ v)
    split v c = Contains-push_cases (take count moves) m v (subst (λ xs. Contains xs v) front_more c)

    still : All (λ m. Contains (take (count + 1) moves) m × IsLeastOfComponent (lattice_of n moves w) (lead m)) chosen
    still = All-weaker (λ m. Contains (take count moves) m × IsLeastOfComponent (lattice_of n moves w) (lead m)) (λ m. Contains (take (count + 1) moves) m × IsLeastOfComponent (lattice_of n moves w) (lead m)) (λ v (c, l). (stays v c, l)) chosen so_far.each

    before : (v : List ℤ) → Contains (take count moves) v → ComesBefore n w v m
    before v (k, l, e) =
        let small : k < count = omega (arith, l, length-take count moves) in
        let same : move_at moves k ≡ v = sym (get_or-take count moves k [] small) ∙ get_or_default (take count moves) k [] v l ∙ e in
        subst (λ x. ComesBefore n w x m) same (ascending k count [] small within)

    pub chosen_more : IsLeastOfComponent (lattice_of n moves w) (lead m) → AreChosen n w moves (count + 1) (chosen ++ m ∷ [])
    chosen_more least = record {
      ascending = AllPairs-push (ComesBefore n w) chosen m so_far.ascending
          (λ v c. before v (All-contains (λ m. Contains (take count moves) m × IsLeastOfComponent (lattice_of n moves w) (lead m)) chosen v so_far.each c).0);
      each = All-push (λ m. Contains (take (count + 1) moves) m × IsLeastOfComponent (lattice_of n moves w) (lead m)) chosen m still (here, least);
      others = λ v c. ⊎_elim (λ k. ⊎_elim (λ d. inl (Contains-append_left chosen (m ∷ []) v d)) inr (so_far.others v k)) (λ e. inl (subst (Contains (chosen ++ m ∷ [])) e (Contains-push chosen m))) (split v c);
    }

    pub chosen_skip : StepsLighter n moves w m → AreChosen n w moves (count + 1) chosen
    chosen_skip steps = record {
      ascending = so_far.ascending;
      each = still;
      others = λ v c. ⊎_elim (so_far.others v) (λ e. inr (subst (StepsLighter n moves w) e steps)) (split v c);
    }

  -- ---- all up to a bound
  -- the place of a move in a front of the list
  front_place : (count : ℕ) (m : List ℤ) → Contains (take count moves) m → (k : ℕ) × (k < count) × (k < length moves) × (move_at moves k ≡ m)
  front_place count m (k, l, e) =
      let small : k < count = omega (arith, l, length-take count moves) in
      (k, small, omega (arith, l, length-take count moves), sym (get_or-take count moves k [] small) ∙ get_or_default (take count moves) k [] m l ∙ e)

  in_front : (count : ℕ) (m : List ℤ) (k : ℕ) → k < count → k < length moves → move_at moves k ≡ m → Contains (take count moves) m
  in_front count m k small l e =
      subst (Contains (take count moves)) (get_or-take count moves k [] small ∙ e) (Contains-get_or (take count moves) k [] (omega (arith, small, l, length-take count moves)))

  module _ (upto : Option ℕ) (chosen : List (List ℤ)) (all : AreChosenUpTo n w moves upto chosen) where
    abbrev FirstOfFront : List ℤ → Type 0
    FirstOfFront m = Contains (take all.count moves) m × IsLeastOfComponent (lattice_of n moves w) (lead m)

    abbrev FirstUpTo : List ℤ → Type 0
    FirstUpTo m = Contains moves m × IsUpTo upto (weight w (lead m)) × IsLeastOfComponent (lattice_of n moves w) (lead m)

    abbrev StepsDown : List ℤ → Type 0
    StepsDown m = (x : List ℤ) × IsBelow (standard n) x (lead m) × Joined n (LighterMoves (lattice_of n moves w) (weight w (lead m))) (lead m) x

    first_up_to : (m : List ℤ) → FirstOfFront m → FirstUpTo m
    first_up_to m (c, least) =
        let (k, small, l, e) = front_place all.count m c in
        (subst (Contains moves) e (Contains-get_or moves k [] l), subst (λ v. IsUpTo upto (weight w (lead v))) e (all.cut.light k small), least)

    chosen_or_down : (m : List ℤ) → Contains moves m → IsUpTo upto (weight w (lead m)) → Contains chosen m ⊎ StepsDown m
    chosen_or_down m (k, l, e) light = go (cases_lt k all.count)
      where
        same : move_at moves k ≡ m
        same = get_or_default moves k [] m l ∙ e

        go : (k < all.count) ⊎ (all.count ≤ k) → Contains chosen m ⊎ StepsDown m
        go (inl s) = ⊎_elim inl (λ t. inr (t.lower, t.below, t.joined)) (all.of_front.others m (in_front all.count m k s l same))
        go (inr s) = absurd (all.cut.heavy k s l (subst (λ v. IsUpTo upto (weight w (lead v))) (sym same) light))

    pub chosen_are_answer : HasGrading (lattice_of n moves w) → IsReducedBasis (lattice_of n moves w) moves → IsAnswer (lattice_of n moves w) upto chosen
    chosen_are_answer g basis =
        answer_from_components g basis all.of_front.ascending (All-weaker FirstOfFront FirstUpTo first_up_to chosen all.of_front.each) chosen_or_down
