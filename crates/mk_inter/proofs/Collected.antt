-- What a parallel chain collects from the results for the items of a list, each of which is an Ok or an Err.
use Rattle.std.proofs.Common.{◌≡◌, ℕ, zero, suc, ◌+◌, ◌<◌, List, [], ◌∷◌, length, map, get_or, Contains, Result, Ok, Err, IfOk, IfErr, arith, ap, refl, sym, ◌∙◌, subst}
use Rattle.std.specs.Prelude.{MatchResult}
use Rattle.std.specs.List.{AllZip, range_with_len}
use Rattle.std.specs.declared.vec.Vec.{Vec}
use Rattle.std.proofs.lemmas.List.Elements.{Contains-append_right}

-- what a list of results comes to: the values of all, or one of the faults
abbrev pub Collects : {T E Z : Type 0} → List (Result T E) → Result (Vec T Z) E → Type 0
Collects {T} results made = MatchResult made (λ v. (ys : List T) × (results ≡ map Ok ys) × (v.items ≡ ys)) (λ e. Contains results (Err e))

-- the fault of one of the items
abbrev pub IsFaultOfOne : {X E : Type 0} → (X → E → Type 0) → List X → E → Type 0
IsFaultOfOne {X} Q xs e = (x : X) × Contains xs x × Q x e

module _ {X T E : Type 0} (S : X → Result T E → Type 0) (R : X → T → Type 0) (Q : X → E → Type 0) (ok : (x : X) (y : T) → S x (Ok y) → R x y) (err : (x : X) (e : E) → S x (Err e) → Q x e) where
  values : (xs : List X) (ys : List T) → AllZip S xs (map Ok ys) → AllZip R xs ys
  values [] [] h = tt
  values [] (y ∷ ys) h = absurd h
  values (x ∷ xs) [] h = absurd h
  values (x ∷ xs) (y ∷ ys) h = (ok x y h.0, values xs ys h.1)

  fault_at : (xs : List X) (results : List (Result T E)) → AllZip S xs results → (k : ℕ) → k < length results → (e : E) → get_or results k (Err e) ≡ Err e → IsFaultOfOne Q xs e
  fault_at [] [] h k l e same = absurd (omega (arith, l))
  fault_at [] (r ∷ results) h k l e same = absurd h
  fault_at (x ∷ xs) [] h k l e same = absurd h
  fault_at (x ∷ xs) (r ∷ results) h zero l e same = (x, (0, omega arith, refl), err x e (subst (S x) same h.0))
  fault_at (x ∷ xs) (r ∷ results) h (suc k) l e same =
      let (y, c, q) = fault_at xs results h.1 k (omega (arith, l)) e same in
      (y, Contains-append_right (x ∷ []) xs y c, q)

  module _ {Z : Type 0} (xs : List X) (results : List (Result T E)) (each : AllZip S xs results) where
    pub collected_values : (made : Result (Vec T Z) E) → Collects results made → IfOk made (λ v. AllZip R xs v.items)
    collected_values (Ok v) (ys, e, items) = subst (AllZip R xs) (sym items) (values xs ys (subst (AllZip S xs) e each))
    collected_values (Err e) h = tt

    pub collected_fault : (made : Result (Vec T Z) E) → Collects results made → IfErr made (IsFaultOfOne Q xs)
    collected_fault (Ok v) h = tt
    collected_fault (Err e) (k, l, same) = fault_at xs results each k l e same

-- a fault that doesn't depend on the item
pub same_fault : {X E T : Type 0} (Q : E → Type 0) (xs : List X) (made : Result T E) → IfErr made (IsFaultOfOne (λ x. Q) xs) → IfErr made Q
same_fault Q xs (Ok v) h = tt
same_fault Q xs (Err e) h = h.2

-- the places of a list in turn, each with what is said of the item at it
pub places_zip : {X Y : Type 0} (R : X → Y → Type 0) (all xs : List X) (d : X) (at : ℕ) → ((k : ℕ) → k < length xs → get_or all (at + k) d ≡ get_or xs k d) →
    (ys : List Y) → AllZip (λ k y. R (get_or all k d) y) (range_with_len at (length xs)) ys → AllZip R xs ys
places_zip R all [] d at same [] h = tt
places_zip R all [] d at same (y ∷ ys) h = absurd h
places_zip R all (x ∷ xs) d at same [] h = absurd h
places_zip R all (x ∷ xs) d at same (y ∷ ys) h =
    let here : at + 0 ≡ at = omega arith in (
      subst (λ z. R z y) (ap (λ k. get_or all k d) (sym here) ∙ same 0 (omega arith)) h.0,
      places_zip R all xs d (at + 1) (λ k l. let e : (at + 1) + k ≡ at + suc k = omega arith in ap (λ j. get_or all j d) e ∙ same (suc k) (omega (arith, l))) ys h.1,
    )
