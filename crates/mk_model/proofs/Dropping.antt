-- The list without its redundant moves: a part of the list, whose leads divide all leads.
use Rattle.std.proofs.Common.{◌≡◌, ◌⊎◌, inl, inr, zero, suc, Bool, true, false, not, ◌&&◌, List, [], ◌∷◌, ◌++◌, ℤ, Contains, AllPairs}
use Rattle.std.proofs.Common.{arith, ap, refl, sym, ◌∙◌, subst, ⊎_elim}
use Rattle.std.specs.List.{list_any}
use Rattle.std.proofs.lemmas.Bool.{both_ways, cases_Bool, and_parts, or_cases, or_right, not-true}
use Rattle.std.proofs.lemmas.List.Elements.{Contains-append_left, Contains-append_cases, Contains-push, Contains-get_or}
use Rattle.std.proofs.lemmas.List.Folds.{list_any_at}
use Rattle.mk_model.specs.Orders.{lead}
use Rattle.mk_model.specs.Reductions.{Divides}
use Rattle.mk_model.specs.Saturation.{has_divisor, is_redundant, needed, drop_redundant, NoneRedundant}
use Rattle.mk_model.proofs.Lists.{Contains-none, Contains-cases, Contains-here, Contains-there}
use Rattle.mk_model.proofs.Divisors.{Decides-divides, Divides-itself, Divides-transitive}

-- the lead of u divides that of v
abbrev LeadDivides : List ℤ → List ℤ → Type 0
LeadDivides u v = Divides (lead u) (lead v)

test_divides : (u v : List ℤ) → has_divisor v u ≡ true → LeadDivides u v
test_divides u v e = (Decides-divides (lead u) (lead v)).0 e

divides_test : (u v : List ℤ) → LeadDivides u v → has_divisor v u ≡ true
divides_test u v d = (Decides-divides (lead u) (lead v)).1 d

AllPairs-cons : (R : List ℤ → List ℤ → Type 0) (x : List ℤ) (xs : List (List ℤ)) → ((y : List ℤ) → Contains xs y → R x y) → AllPairs R xs →
    AllPairs R (x ∷ xs)
AllPairs-cons R x xs f a zero zero d l k = absurd (omega arith)
AllPairs-cons R x xs f a zero (suc j) d l k = f _ (Contains-get_or xs j d (omega arith))
AllPairs-cons R x xs f a (suc i) zero d l k = absurd (omega arith)
AllPairs-cons R x xs f a (suc i) (suc j) d l k = a i j d (omega arith) (omega arith)

test_fails : (u v : List ℤ) → has_divisor v u ≡ false → LeadDivides u v → ⊥
test_fails u v e d = both_ways (has_divisor v u) e ((Decides-divides (lead u) (lead v)).1 d)

-- an element that passes
found : (test : List ℤ → Bool) (xs : List (List ℤ)) → list_any test xs ≡ true → (x : List ℤ) × Contains xs x × (test x ≡ true)
found test [] e = absurd (both_ways false refl e)
found test (x ∷ xs) e = cases (or_cases (test x) (list_any test xs) e) (found test xs)
  where
    cases : (test x ≡ true) ⊎ (list_any test xs ≡ true) → (list_any test xs ≡ true → (y : List ℤ) × Contains xs y × (test y ≡ true)) →
        (y : List ℤ) × Contains (x ∷ xs) y × (test y ≡ true)
    cases (inl f) rest = (x, Contains-here x xs, f)
    cases (inr f) rest = let (y, h, g) = rest f in (y, Contains-there x xs y h, g)

-- what makes a move redundant
redundant_means : (before : List (List ℤ)) (m : List ℤ) (behind : List (List ℤ)) → is_redundant before m behind ≡ true →
    ((v : List ℤ) × Contains before v × LeadDivides v m) ⊎ ((v : List ℤ) × Contains behind v × LeadDivides v m × (LeadDivides m v → ⊥))
redundant_means before m behind e = cases (or_cases (list_any (has_divisor m) before)
    (list_any (λ v. has_divisor m v && not (has_divisor v m)) behind) e)
  where
    cases : (list_any (has_divisor m) before ≡ true) ⊎ (list_any (λ v. has_divisor m v && not (has_divisor v m)) behind ≡ true) →
        ((v : List ℤ) × Contains before v × LeadDivides v m) ⊎ ((v : List ℤ) × Contains behind v × LeadDivides v m × (LeadDivides m v → ⊥))
    cases (inl f) = let (v, h, t) = found (has_divisor m) before f in inl (v, h, test_divides v m t)
    cases (inr f) =
        let (v, h, t) = found (λ v. has_divisor m v && not (has_divisor v m)) behind f in
        let (a, b) = and_parts (has_divisor m v) (not (has_divisor v m)) t in
        inr (v, h, test_divides v m a, λ d. test_fails m v (not-true (has_divisor v m) b) d)

needed-skip : (before : List (List ℤ)) (m : List ℤ) (behind : List (List ℤ)) → is_redundant before m behind ≡ true →
    needed before (m ∷ behind) ≡ needed (before ++ m ∷ []) behind
needed-skip before m behind e = rw e refl

needed-keep : (before : List (List ℤ)) (m : List ℤ) (behind : List (List ℤ)) → is_redundant before m behind ≡ false →
    needed before (m ∷ behind) ≡ m ∷ needed (before ++ m ∷ []) behind
needed-keep before m behind e = rw e refl

needed_members : (before behind : List (List ℤ)) (v : List ℤ) → Contains (needed before behind) v → Contains behind v
needed_members before [] v h = h
needed_members before (m ∷ behind) v h = cases (cases_Bool (is_redundant before m behind)) (needed_members (before ++ m ∷ []) behind v)
  where
    cases : (is_redundant before m behind ≡ true) ⊎ (is_redundant before m behind ≡ false) →
        (Contains (needed (before ++ m ∷ []) behind) v → Contains behind v) → Contains (m ∷ behind) v
    cases (inl e) rest = Contains-there m behind v (rest (subst (λ l. Contains l v) (needed-skip before m behind e) h))
    cases (inr e) rest =
        ⊎_elim (λ s. subst (Contains (m ∷ behind)) s (Contains-here m behind)) (λ k. Contains-there m behind v (rest k))
        (Contains-cases m (needed (before ++ m ∷ []) behind) v (subst (λ l. Contains l v) (needed-keep before m behind e) h))

-- what is kept of the rest is kept
needed_rest : (before : List (List ℤ)) (m : List ℤ) (behind : List (List ℤ)) (v : List ℤ) → Contains (needed (before ++ m ∷ []) behind) v →
    Contains (needed before (m ∷ behind)) v
needed_rest before m behind v h = cases (cases_Bool (is_redundant before m behind))
  where
    cases : (is_redundant before m behind ≡ true) ⊎ (is_redundant before m behind ≡ false) → Contains (needed before (m ∷ behind)) v
    cases (inl e) = subst (λ l. Contains l v) (sym (needed-skip before m behind e)) h
    cases (inr e) = subst (λ l. Contains l v) (sym (needed-keep before m behind e))
        (Contains-there m (needed (before ++ m ∷ []) behind) v h)

-- among m and the moves of the list, one whose lead divides that of m, and that no lead of the list divides properly
record Smallest (xs : List (List ℤ)) (m : List ℤ) : Type 0 where
  pub small : List ℤ
  pub member : (small ≡ m) ⊎ Contains xs small
  pub divides : LeadDivides small m
  pub smallest : (v : List ℤ) → Contains xs v → LeadDivides v small → LeadDivides small v

smallest_of : (xs : List (List ℤ)) (m : List ℤ) → Smallest xs m
smallest_of [] m = record {
  small = m;
  member = inl refl;
  divides = Divides-itself (lead m);
  smallest = λ v h _. absurd (Contains-none v h);
}
smallest_of (x ∷ xs) m = cases (cases_Bool (has_divisor m x)) (smallest_of xs x) (smallest_of xs m)
  where
    cases : (has_divisor m x ≡ true) ⊎ (has_divisor m x ≡ false) → Smallest xs x → Smallest xs m → Smallest (x ∷ xs) m
    cases (inl e) r s = record {
      small = r.small;
      member = inr (⊎_elim (λ f. subst (Contains (x ∷ xs)) (sym f) (Contains-here x xs)) (λ h. Contains-there x xs r.small h) r.member);
      divides = Divides-transitive r.divides (test_divides x m e);
      smallest = λ v h d. ⊎_elim (λ f. subst (LeadDivides r.small) f r.divides) (λ k. r.smallest v k d) (Contains-cases x xs v h);
    }
    cases (inr e) r s = record {
      small = s.small;
      member = ⊎_elim inl (λ h. inr (Contains-there x xs s.small h)) s.member;
      divides = s.divides;
      smallest = λ v h d. ⊎_elim (λ f. absurd (test_fails x m e (subst (λ u. LeadDivides u m) (sym f) (Divides-transitive d s.divides))))
          (λ k. s.smallest v k d) (Contains-cases x xs v h);
    }

only : (m v : List ℤ) → Contains (m ∷ []) v → m ≡ v
only m v h = ⊎_elim (λ e. e) (λ k. absurd (Contains-none v k)) (Contains-cases m [] v h)

-- the first move with such a lead is kept
needed_covers : (before behind : List (List ℤ)) (r : List ℤ) → Contains behind r →
    ((v : List ℤ) → Contains before v → LeadDivides v r → ⊥) → ((v : List ℤ) → Contains behind v → LeadDivides v r → LeadDivides r v) →
    (u : List ℤ) × Contains (needed before behind) u × LeadDivides u r
needed_covers before [] r h none small = absurd (Contains-none r h)
needed_covers before (m ∷ behind) r h none small = cases (cases_Bool (has_divisor r m)) (needed_covers (before ++ m ∷ []) behind r)
  where
    kept : LeadDivides m r → (is_redundant before m behind ≡ true) → ⊥
    kept d e =
        ⊎_elim (λ (v, k, f). none v k (Divides-transitive f d))
        (λ (v, k, f, g). g (Divides-transitive d (small v (Contains-there m behind v k) (Divides-transitive f d))))
        (redundant_means before m behind e)

    keep : LeadDivides m r → (is_redundant before m behind ≡ true) ⊎ (is_redundant before m behind ≡ false) → (u : List ℤ)
        × Contains (needed before (m ∷ behind)) u × LeadDivides u r
    keep d (inl e) = absurd (kept d e)
    keep d (inr e) = (
      m,
      subst (λ l. Contains l m) (sym (needed-keep before m behind e))
          (Contains-here m (needed (before ++ m ∷ []) behind)),
      d,
    )

    cases : (has_divisor r m ≡ true) ⊎ (has_divisor r m ≡ false) →
        (Contains behind r → ((v : List ℤ) → Contains (before ++ m ∷ []) v → LeadDivides v r → ⊥) →
        ((v : List ℤ) → Contains behind v → LeadDivides v r → LeadDivides r v) → (u : List ℤ)
        × Contains (needed (before ++ m ∷ []) behind) u × LeadDivides u r) →
        (u : List ℤ) × Contains (needed before (m ∷ behind)) u × LeadDivides u r
    cases (inl e) ih = keep (test_divides m r e) (cases_Bool (is_redundant before m behind))
    cases (inr e) ih =
        let k : Contains behind r = ⊎_elim (λ f. absurd (test_fails m r e (subst (LeadDivides m) f (Divides-itself (lead m))))) (λ k. k)
        (Contains-cases m behind r h) in
        let (u, j, d) = ih k (λ v g f. ⊎_elim (λ a. none v a f) (λ a. test_fails m r e (subst (λ z. LeadDivides z r) (sym (only m v a)) f))
        (Contains-append_cases before (m ∷ []) v g)) (λ v g f. small v (Contains-there m behind v g) f) in
        (u, needed_rest before m behind u j, d)

pub drop_redundant_part : (moves : List (List ℤ)) (v : List ℤ) → Contains (drop_redundant moves) v → Contains moves v
drop_redundant_part moves v h = needed_members [] moves v h

-- each lead is divided by that of a move that is kept
pub drop_redundant_covers : (moves : List (List ℤ)) (v : List ℤ) → Contains moves v → (u : List ℤ) × Contains (drop_redundant moves) u
    × Divides (lead u) (lead v)
drop_redundant_covers moves v h =
    let s = smallest_of moves v in
    let k : Contains moves s.small = ⊎_elim (λ e. subst (Contains moves) (sym e) h) (λ k. k) s.member in
    let (u, j, d) = needed_covers [] moves s.small k (λ v h _. Contains-none v h) s.smallest in
    (u, j, Divides-transitive d s.divides)

-- ---- none of the moves that are kept is redundant
any_from : (test : List ℤ → Bool) (xs : List (List ℤ)) (x : List ℤ) → Contains xs x → test x ≡ true → list_any test xs ≡ true
any_from test xs x (k, l, e) t = list_any_at test xs k x l (ap test e ∙ t)

redundant_by_before : (before : List (List ℤ)) (m : List ℤ) (behind : List (List ℤ)) (v : List ℤ) → Contains before v → LeadDivides v m →
    is_redundant before m behind ≡ true
redundant_by_before before m behind v h d = let e = any_from (has_divisor m) before v h (divides_test v m d) in rw e refl

-- a lead that divides properly, or the two divide each other
redundant_by_behind : (before : List (List ℤ)) (m : List ℤ) (behind : List (List ℤ)) (v : List ℤ) → Contains behind v →
    is_redundant before m behind ≡ false → LeadDivides v m → LeadDivides m v
redundant_by_behind before m behind v h none d = cases (cases_Bool (has_divisor v m))
  where
    cases : (has_divisor v m ≡ true) ⊎ (has_divisor v m ≡ false) → LeadDivides m v
    cases (inl e) = test_divides m v e
    cases (inr e) =
        let passes : (has_divisor m v && not (has_divisor v m)) ≡ true = rw (divides_test v m d, e) refl in
        let some = any_from (λ u. has_divisor m u && not (has_divisor u m)) behind v h passes in
        absurd (both_ways (is_redundant before m behind) none (or_right (list_any (has_divisor m) before) _ some))

-- no lead of the moves before divides that of one that is kept
needed_undivided : (before behind : List (List ℤ)) (v u : List ℤ) → Contains before v → Contains (needed before behind) u →
    LeadDivides v u → ⊥
needed_undivided before [] v u h k d = Contains-none u k
needed_undivided before (m ∷ behind) v u h k d = cases (cases_Bool (is_redundant before m behind))
    (λ j. needed_undivided (before ++ m ∷ []) behind v u (Contains-append_left before (m ∷ []) v h) j d)
  where
    cases : (is_redundant before m behind ≡ true) ⊎ (is_redundant before m behind ≡ false) →
        (Contains (needed (before ++ m ∷ []) behind) u → ⊥) → ⊥
    cases (inl e) rest = rest (subst (λ l. Contains l u) (needed-skip before m behind e) k)
    cases (inr e) rest =
        ⊎_elim (λ s. both_ways (is_redundant before m behind) e (redundant_by_before before m behind v h (subst (LeadDivides v) (sym s) d)))
        rest
        (Contains-cases m (needed (before ++ m ∷ []) behind) u (subst (λ l. Contains l u) (needed-keep before m behind e) k))

needed_apart : (before behind : List (List ℤ)) → NoneRedundant (needed before behind)
needed_apart before [] = λ i j d l k. absurd (omega arith)
needed_apart before (m ∷ behind) = cases (cases_Bool (is_redundant before m behind)) (needed_apart (before ++ m ∷ []) behind)
  where
    rest : List (List ℤ)
    rest = needed (before ++ m ∷ []) behind

    over : (u : List ℤ) → Contains rest u → LeadDivides m u → ⊥
    over u k d = needed_undivided (before ++ m ∷ []) behind m u (Contains-push before m) k d

    cases : (is_redundant before m behind ≡ true) ⊎ (is_redundant before m behind ≡ false) → NoneRedundant rest →
        NoneRedundant (needed before (m ∷ behind))
    cases (inl e) a = subst NoneRedundant (sym (needed-skip before m behind e)) a
    cases (inr e) a =
        subst NoneRedundant (sym (needed-keep before m behind e))
        (AllPairs-cons (λ u v. (LeadDivides u v → ⊥) × (LeadDivides v u → ⊥)) m rest
        (λ u k. (over u k, λ d. over u k (redundant_by_behind before m behind u (needed_members (before ++ m ∷ []) behind u k) e d))) a)

pub drop_redundant_apart : (moves : List (List ℤ)) → NoneRedundant (drop_redundant moves)
drop_redundant_apart moves = needed_apart [] moves
