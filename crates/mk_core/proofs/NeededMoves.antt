-- What makes a move redundant, by its place, and the moves that are needed, one place after another.
use Rattle.std.proofs.Common.{◌≡◌, ◌⊎◌, length-append, inl, inr, ◌↔◌, ℕ, ◌+◌, ◌-◌, ◌<◌, ◌≤◌, Bool, true, false, not, ◌&&◌, ◌||◌, nat_lt, IsTrue, List, [], ◌∷◌, ◌++◌, length, take, drop, get_or, slice_get, Some, All, ℤ, add-one, arith, rules, ap, refl, sym, ◌∙◌, subst, ⊎_elim}
use Rattle.std.specs.List.{list_any}
use Rattle.std.proofs.lemmas.Bool.{both_ways, cases_lt, and_parts, not-true, lt-ltb}
use Rattle.std.proofs.lemmas.Bool.Decides.{nat_tests, same_from_decides}
use Rattle.std.proofs.lemmas.List.{length-take, length-drop, get_or-take, get_or-drop, get_or_default, take_more, drop_all, map_push, append-nil, append_assoc}
use Rattle.std.proofs.lemmas.List.Folds.{list_any_at, list_any_none}
use Rattle.std.proofs.lemmas.Option.{slice_get_within}
use Rattle.std.proofs.Math.Seq.{drop-cons}
use Rattle.mk_model.specs.CoreStates.{move_at}
use Rattle.mk_model.specs.Orders.{lead}
use Rattle.mk_model.specs.Reductions.{Divides}
use Rattle.mk_model.specs.Saturation.{has_divisor, needed, drop_redundant}
use Rattle.mk_model.proofs.Divisors.{Decides-divides, Divides-itself}
use Rattle.mk_move.specs.Moves.{Weighed}
use Rattle.mk_move.specs.MoveLists.{BasisView, vectors_of}
use Rattle.mk_move.proofs.MoveVectors.{vector_at, length-vectors_of}
use Rattle.mk_core.specs.Redundancy.{is_redundant_at, makes_redundant}

-- ---- the test of two places
-- what decides whether the lead divides is the test
pub divides_is : (result : Bool) (v m : List ℤ) → (IsTrue result ↔ Divides (lead v) (lead m)) → result ≡ has_divisor m v
divides_is result v m h = same_from_decides result (has_divisor m v) h (Decides-divides (lead v) (lead m))

not_lesser : (a b : ℕ) → b ≤ a → nat_lt a b ≡ false
not_lesser a b l = grind (arith, nat_tests)

divides_itself : (m : List ℤ) → has_divisor m m ≡ true
divides_itself m = (Decides-divides (lead m) (lead m)).1 (Divides-itself (lead m))

module _ (moves : List Weighed) (other place : ℕ) (v m : Weighed) (h : slice_get moves other ≡ Some v) (k : slice_get moves place ≡ Some m) where
  test_at : makes_redundant (vectors_of moves) other place ≡ (has_divisor m.entries v.entries && (nat_lt other place || not (has_divisor v.entries m.entries)))
  test_at = rw (vector_at moves other v h, vector_at moves place m k) refl

  -- its lead doesn't divide
  pub not_dividing : has_divisor m.entries v.entries ≡ false → false ≡ makes_redundant (vectors_of moves) other place
  not_dividing e = rw (test_at, e) refl

  -- it divides and stands before
  pub dividing_before : has_divisor m.entries v.entries ≡ true → other < place → nat_lt other place ≡ makes_redundant (vectors_of moves) other place
  dividing_before e l = rw (test_at, e, lt-ltb other place l) refl

  -- it divides and doesn't stand before
  pub dividing_behind : has_divisor m.entries v.entries ≡ true → place ≤ other → (back : Bool) → back ≡ has_divisor v.entries m.entries → not back ≡ makes_redundant (vectors_of moves) other place
  dividing_behind e l back f = rw (test_at, e, not_lesser other place l, f) refl

-- a lead that doesn't divide makes no move redundant
pub not_made : (moves : List (List ℤ)) (other place : ℕ) → (Divides (lead (move_at moves other)) (lead (move_at moves place)) → ⊥) → false ≡ makes_redundant moves other place
not_made moves other place h =
    let none : false ≡ has_divisor (move_at moves place) (move_at moves other) = divides_is false (move_at moves other) (move_at moves place) ((λ t. search rules), (λ d. absurd (h d))) in
    ap (λ (b : Bool). b && (nat_lt other place || not (has_divisor (move_at moves other) (move_at moves place)))) none

-- ---- the test of one place
either : (a b : Bool) → (a ≡ true) ⊎ (b ≡ true) → (a || b) ≡ true
either true b h = refl
either false b h = ⊎_elim (λ e. absurd (both_ways false refl e)) (λ e. e) h

neither : (a b : Bool) → a ≡ false → b ≡ false → (a || b) ≡ false
neither a b e f = rw (e, f) refl

fails_before : (a b c : Bool) → (a && (b || c)) ≡ false → b ≡ true → a ≡ false
fails_before true b c e f = absurd (both_ways (b || c) e (either b c (inl f)))
fails_before false b c e f = refl

fails_behind : (a b c : Bool) → (a && (b || c)) ≡ false → b ≡ false → (a && c) ≡ false
fails_behind true b c e f = sym (ap (λ x. x || c) f) ∙ e
fails_behind false b c e f = refl

module _ (moves : List (List ℤ)) (place : ℕ) where
  abbrev before : List (List ℤ)
  before = take place moves

  abbrev behind : List (List ℤ)
  behind = drop (place + 1) moves

  -- does the lead of v divide that of the move of the place
  abbrev divides : List ℤ → Bool
  divides v = has_divisor (move_at moves place) v

  -- and isn't it divided in turn
  abbrev differs : List ℤ → Bool
  differs v = has_divisor (move_at moves place) v && not (has_divisor v (move_at moves place))

  at_before : (k : ℕ) (d : List ℤ) → k < length before → get_or before k d ≡ move_at moves k
  at_before k d l =
      get_or-take place moves k d (omega (arith, length-take place moves)) ∙ get_or_default moves k d [] (omega (arith, length-take place moves))

  at_behind : (k : ℕ) (d : List ℤ) → k < length behind → get_or behind k d ≡ move_at moves (place + 1 + k)
  at_behind k d l =
      get_or-drop (place + 1) moves k d ∙ get_or_default moves (place + 1 + k) d [] (omega (arith, length-drop (place + 1) moves))

  by_before : (other : ℕ) → other < length moves → other < place → divides (move_at moves other) ≡ true → list_any divides before ≡ true
  by_before other l k e =
      let h : other < length before = omega (arith, length-take place moves) in
      list_any_at divides before other [] h (ap divides (at_before other [] h) ∙ e)

  by_behind : (other : ℕ) → other < length moves → place < other → differs (move_at moves other) ≡ true → list_any differs behind ≡ true
  by_behind other l k e =
      let i : ℕ = other - (place + 1) in
      let there : place + 1 + i ≡ other = omega arith in
      let h : i < length behind = omega (arith, length-drop (place + 1) moves) in
      list_any_at differs behind i [] h (ap differs (at_behind i [] h ∙ ap (move_at moves) there) ∙ e)

  -- a lead that isn't divided in turn is of another move
  stands_behind : (other : ℕ) → place ≤ other → not (has_divisor (move_at moves other) (move_at moves place)) ≡ true → place < other
  stands_behind other l e = ⊎_elim (λ k. k) (λ k. same (omega arith)) (cases_lt place other)
    where
      same : place ≡ other → place < other
      same f = absurd (both_ways (has_divisor (move_at moves other) (move_at moves place)) (not-true _ e) (subst (λ k. has_divisor (move_at moves k) (move_at moves place) ≡ true) f (divides_itself (move_at moves place))))

  -- one place makes the move redundant
  pub made_redundant : (other : ℕ) → other < length moves → makes_redundant moves other place ≡ true → is_redundant_at moves place ≡ true
  made_redundant other l e = either (list_any divides before) (list_any differs behind) (cases (cases_lt other place))
    where
      parts : (divides (move_at moves other) ≡ true) × ((nat_lt other place || not (has_divisor (move_at moves other) (move_at moves place))) ≡ true)
      parts = and_parts _ _ e

      cases : (other < place) ⊎ (place ≤ other) → (list_any divides before ≡ true) ⊎ (list_any differs behind ≡ true)
      cases (inl k) = inl (by_before other l k parts.0)
      cases (inr k) =
          let f : not (has_divisor (move_at moves other) (move_at moves place)) ≡ true = sym (ap (λ b. b || not (has_divisor (move_at moves other) (move_at moves place))) (not_lesser other place k)) ∙ parts.1 in
          inr (by_behind other l (stands_behind other k f) (rw (parts.0, f) refl))

  -- no place does
  pub none_redundant : place < length moves → ((other : ℕ) → other < length moves → makes_redundant moves other place ≡ false) → is_redundant_at moves place ≡ false
  none_redundant l none = neither (list_any divides before) (list_any differs behind) (list_any_none divides before before_fails) (list_any_none differs behind behind_fails)
    where
      before_fails : All (λ v. divides v ≡ false) before
      before_fails k d h =
          ap divides (at_before k d h)
          ∙ fails_before (divides (move_at moves k)) (nat_lt k place) (not (has_divisor (move_at moves k) (move_at moves place))) (none k (omega (arith, length-take place moves))) (lt-ltb k place (omega (arith, length-take place moves)))

      behind_fails : All (λ v. differs v ≡ false) behind
      behind_fails k d h =
          let other : ℕ = place + 1 + k in
          ap differs (at_behind k d h)
          ∙ fails_behind (divides (move_at moves other)) (nat_lt other place) (not (has_divisor (move_at moves other) (move_at moves place))) (none other (omega (arith, length-drop (place + 1) moves))) (not_lesser other place (omega arith))

-- ---- the moves that are needed, one place after another
module _ (moves : List (List ℤ)) (place : ℕ) (l : place < length moves) where
  taken : take (place + 1) moves ≡ take place moves ++ move_at moves place ∷ []
  taken = take_more moves place [] l

  left : drop place moves ≡ move_at moves place ∷ drop (place + 1) moves
  left = drop-cons moves place [] l ∙ ap (λ k. move_at moves place ∷ drop k moves) (sym (add-one place))

  -- a redundant move is passed over
  pub needed_past : is_redundant_at moves place ≡ true → needed (take place moves) (drop place moves) ≡ needed (take (place + 1) moves) (drop (place + 1) moves)
  needed_past e = rw (left, e, taken) refl

  -- another one is needed
  pub needed_here : is_redundant_at moves place ≡ false → needed (take place moves) (drop place moves) ≡ move_at moves place ∷ needed (take (place + 1) moves) (drop (place + 1) moves)
  needed_here e = rw (left, e, taken) refl

-- The moves that are kept of those before a place are needed, and with the moves that are needed from there on are all that
-- are. They have the list and the grading of the basis.
pub record IsKeptUpTo (basis : BasisView) (place : ℕ) (kept : BasisView) : Type 0 where
  pub priority : kept.priority ≡ basis.priority
  pub grading : kept.grading ≡ basis.grading
  pub few : length kept.moves ≤ place
  pub needed : vectors_of kept.moves ++ needed (take place (vectors_of basis.moves)) (drop place (vectors_of basis.moves)) ≡ drop_redundant (vectors_of basis.moves)

module _ (basis : BasisView) (place : ℕ) (kept : BasisView) (so_far : IsKeptUpTo basis place kept) where
  abbrev moves : List (List ℤ)
  moves = vectors_of basis.moves

  abbrev needed_from : ℕ → List (List ℤ)
  needed_from k = needed (take k moves) (drop k moves)

  -- the move of the place is redundant
  pub kept_past : place < length basis.moves → is_redundant_at (vectors_of basis.moves) place ≡ true → IsKeptUpTo basis (place + 1) kept
  kept_past l e = record {
    priority = so_far.priority;
    grading = so_far.grading;
    few = omega (arith, so_far.few);
    needed = ap (λ rest. vectors_of kept.moves ++ rest) (sym (needed_past moves place (omega (arith, length-vectors_of basis.moves)) e)) ∙ so_far.needed;
  }

  -- it is needed, and put at the end
  pub kept_more : (m : Weighed) (after : BasisView) → slice_get basis.moves place ≡ Some m → is_redundant_at (vectors_of basis.moves) place ≡ false → after ≡ record kept { moves = kept.moves ++ m ∷ [] } → IsKeptUpTo basis (place + 1) after
  kept_more m after at e f = subst (IsKeptUpTo basis (place + 1)) (sym f) (record {
    priority = so_far.priority;
    grading = so_far.grading;
    few = omega (arith, so_far.few, length-append kept.moves (m ∷ []));
    needed = put ∙ ap (λ rest. vectors_of kept.moves ++ rest) (sym here) ∙ so_far.needed;
  })
    where
      put : vectors_of (kept.moves ++ m ∷ []) ++ needed_from (place + 1) ≡ vectors_of kept.moves ++ m.entries ∷ needed_from (place + 1)
      put =
          ap (λ vectors. vectors ++ needed_from (place + 1)) (map_push (λ (m : Weighed). m.entries) kept.moves m)
          ∙ append_assoc (vectors_of kept.moves) (m.entries ∷ []) (needed_from (place + 1))

      here : needed_from place ≡ m.entries ∷ needed_from (place + 1)
      here =
          needed_here moves place (omega (arith, length-vectors_of basis.moves, slice_get_within basis.moves place m at)) e
          ∙ ap (λ v. v ∷ needed_from (place + 1)) (vector_at basis.moves place m at)

  -- at the end no place is left
  pub kept_all : length basis.moves ≤ place → vectors_of kept.moves ≡ drop_redundant (vectors_of basis.moves)
  kept_all l =
      let none : drop place moves ≡ [] = drop_all place moves (omega (arith, length-vectors_of basis.moves)) in
      sym (ap (λ rest. vectors_of kept.moves ++ needed (take place moves) rest) none ∙ append-nil (vectors_of kept.moves)) ∙ so_far.needed
