-- Members of lists, and lists that ascend.
use Rattle.std.proofs.Common.{◌≡◌, ◌⊎◌, inl, inr, zero, suc, List, [], ◌∷◌, AllPairs, Contains, arith, refl, sym, ◌∙◌, subst, ⊎_elim}

module _ {X : Type 0} where
  pub Contains-none : (x : X) → Contains [] x → ⊥
  Contains-none x (k, l, e) = omega arith

  pub Contains-here : (x : X) (xs : List X) → Contains (x ∷ xs) x
  Contains-here x xs = (0, omega arith, refl)

  pub Contains-there : (x : X) (xs : List X) (y : X) → Contains xs y → Contains (x ∷ xs) y
  Contains-there x xs y (k, l, e) = (suc k, omega arith, e)

  pub Contains-cases : (x : X) (xs : List X) (y : X) → Contains (x ∷ xs) y → (x ≡ y) ⊎ Contains xs y
  Contains-cases x xs y (zero, l, e) = inl e
  Contains-cases x xs y (suc k, l, e) = inr (k, omega arith, e)

  pub AllPairs-tail : (R : X → X → Type 0) (x : X) (xs : List X) → AllPairs R (x ∷ xs) → AllPairs R xs
  AllPairs-tail R x xs a i j d h l = a (suc i) (suc j) d (omega arith) (omega arith)

  pub AllPairs-head : (R : X → X → Type 0) (x : X) (xs : List X) → AllPairs R (x ∷ xs) → (y : X) → Contains xs y → R x y
  AllPairs-head R x xs a y (k, l, e) = subst (R x) e (a 0 (suc k) y (omega arith) (omega arith))

  -- a member that has a property which is decided, or none has it
  pub member_or_none : (P : X → Type 0) (xs : List X) → ((x : X) → Contains xs x → P x ⊎ (P x → ⊥)) → ((x : X) × Contains xs x × P x)
      ⊎ ((x : X) → Contains xs x → P x → ⊥)
  member_or_none P [] f = inr (λ x c h. Contains-none x c)
  member_or_none P (a ∷ xs) f = go (f a (Contains-here a xs)) (member_or_none P xs (λ x c. f x (Contains-there a xs x c)))
    where
      go : P a ⊎ (P a → ⊥) → ((x : X) × Contains xs x × P x) ⊎ ((x : X) → Contains xs x → P x → ⊥) → ((x : X) × Contains (a ∷ xs) x × P x)
          ⊎ ((x : X) → Contains (a ∷ xs) x → P x → ⊥)
      go (inl h) r = inl (a, Contains-here a xs, h)
      go (inr k) (inl (x, c, h)) = inl (x, Contains-there a xs x c, h)
      go (inr k) (inr r) = inr (λ x c h. ⊎_elim (λ e. k (subst P (sym e) h)) (λ d. r x d h) (Contains-cases a xs x c))

  -- Lists that ascend by an asymmetric relation are equal if each has the members of the other.
  pub same_from_members : (R : X → X → Type 0) → ((x y : X) → R x y → R y x → ⊥) → (xs ys : List X) → AllPairs R xs → AllPairs R ys →
      ((z : X) → Contains xs z → Contains ys z) → ((z : X) → Contains ys z → Contains xs z) → xs ≡ ys
  same_from_members R asym [] [] a b f g = refl
  same_from_members R asym [] (y ∷ ys) a b f g = absurd (Contains-none y (g y (Contains-here y ys)))
  same_from_members R asym (x ∷ xs) [] a b f g = absurd (Contains-none x (f x (Contains-here x xs)))
  same_from_members R asym (x ∷ xs) (y ∷ ys) a b f g =
      let e : x ≡ y = heads (Contains-cases y ys x (f x (Contains-here x xs))) (Contains-cases x xs y (g y (Contains-here y ys))) in
      let r : xs ≡ ys = same_from_members R asym xs ys (AllPairs-tail R x xs a) (AllPairs-tail R y ys b)
      (λ z h. forth e z h (Contains-cases y ys z (f z (Contains-there x xs z h))))
      (λ z h. back e z h (Contains-cases x xs z (g z (Contains-there y ys z h)))) in
      cc
    where
      heads : (y ≡ x) ⊎ Contains ys x → (x ≡ y) ⊎ Contains xs y → x ≡ y
      heads (inl e) k = sym e
      heads (inr h) (inl e) = e
      heads (inr h) (inr k) = absurd (asym x y (AllPairs-head R x xs a y k) (AllPairs-head R y ys b x h))

      forth : x ≡ y → (z : X) → Contains xs z → (y ≡ z) ⊎ Contains ys z → Contains ys z
      forth e z h (inr k) = k
      forth e z h (inl d) = let r : R x x = subst (R x) (sym (e ∙ d)) (AllPairs-head R x xs a z h) in absurd (asym x x r r)

      back : x ≡ y → (z : X) → Contains ys z → (x ≡ z) ⊎ Contains xs z → Contains xs z
      back e z h (inr k) = k
      back e z h (inl d) = let r : R y y = subst (R y) (sym d ∙ e) (AllPairs-head R y ys b z h) in absurd (asym y y r r)
