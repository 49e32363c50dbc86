-- Children of a tree, one of which is replaced.
use Rattle.std.proofs.Common.{◌≡◌, ◌≢◌, ◌⊎◌, inl, inr, ◌∙◌, ℕ, ◌<◌, List, length, set, arith, refl, sym, ap, subst, Some, slice_get, All, Result, Ok, Err, OnOk, OnErr}
use Rattle.std.specs.Int.{bit_at}
use Rattle.std.proofs.lemmas.Bool.{cases_eq}
use Rattle.std.proofs.lemmas.List.{get_or-set_other, length-set}
use Rattle.std.proofs.lemmas.List.Elements.{All-set}
use Rattle.std.proofs.lemmas.Grind.{get_or-set_at}
use Rattle.std.proofs.lemmas.Option.{slice_get_within, slice_get-get_or, get_or_from_slice_get}
use Rattle.mk_support.specs.declared.node.Node.{Node}
use Rattle.mk_support.specs.Nodes.{Holds, AreSplit, Gains, IsSame}
use Rattle.mk_support.specs.FirstBits.{HoldsAt, Has, AreByFirst, IsEmpty}

-- ---- a list with another element at a place
module _ (xs : List Node) (k : ℕ) (v : Node) where
  at_other : (j : ℕ) (one : Node) → j ≢ k → slice_get xs j ≡ Some one → slice_get (set xs k v) j ≡ Some one
  at_other j one apart at =
      let within = slice_get_within xs j one at in
      slice_get-get_or (set xs k v) j one (omega (arith, within, length-set xs k v))
      ∙ ap Some (get_or-set_other xs k j v one apart ∙ get_or_from_slice_get xs j one one at)

  at_this : k < length xs → slice_get (set xs k v) k ≡ Some v
  at_this within = slice_get-get_or (set xs k v) k v (omega (arith, within, length-set xs k v)) ∙ ap Some (get_or-set_at xs k k v v refl within)

  at_set : (j : ℕ) (one : Node) → slice_get (set xs k v) j ≡ Some one → ((j ≡ k) × (one ≡ v)) ⊎ (slice_get xs j ≡ Some one)
  at_set j one at = elim (cases_eq j k) [
    | inl e ↦ inl (e, sym (get_or_from_slice_get (set xs k v) j one one at) ∙ get_or-set_at xs k j v one e (omega (arith, within, e)))
    | inr apart ↦ inr (slice_get-get_or xs j one within ∙ ap Some (sym (get_or-set_other xs k j v one apart) ∙ get_or_from_slice_get (set xs k v) j one one at))
  ]
    where
      within : j < length xs
      within = omega (arith, slice_get_within (set xs k v) j one at, length-set xs k v)

-- ---- a child is replaced by one that has more, or the same
module _ (xs : List Node) (k : ℕ) (old new : Node) (at : slice_get xs k ≡ Some old) where
  -- the same child
  same_child : (one : Node) → slice_get xs k ≡ Some one → one ≡ old
  same_child one e = sym (get_or_from_slice_get xs k one old e) ∙ get_or_from_slice_get xs k old old at

  kept : ((m p : ℕ) → Holds old m p → Holds new m p) → (m p : ℕ) → Has xs m p → Has (set xs k new) m p
  kept more m p (j, h) = elim (cases_eq j k) [
    | inl e ↦ (
      k,
      record {
        child = new;
        at = at_this xs k new (slice_get_within xs k old at);
        holds = more m p (subst (λ (one : Node). Holds one m p) (same_child h.child (subst (λ (i : ℕ). slice_get xs i ≡ Some h.child) e h.at)) h.holds);
      },
    )
    | inr apart ↦ (j, record { child = h.child; at = at_other xs k new j h.child apart h.at; holds = h.holds })
  ]

  -- a place of the new list is one of the new child, or of the old list
  from_set : (m p j : ℕ) → HoldsAt (set xs k new) j m p → ((j ≡ k) × Holds new m p) ⊎ HoldsAt xs j m p
  from_set m p j h = elim (at_set xs k new j h.child h.at) [
    | inl both ↦ inl (both.0, subst (λ (one : Node). Holds one m p) both.1 h.holds)
    | inr before ↦ inr (record { child = h.child; at = before; holds = h.holds })
  ]

  in_old : (m p : ℕ) → Holds old m p → Has xs m p
  in_old m p s = (k, record { child = old; at = at; holds = s })

  pub gains_at : (mask place : ℕ) → Gains (Holds old) mask place (Holds new) → Gains (Has xs) mask place (Has (set xs k new))
  gains_at mask place g = record {
    kept = kept g.kept;
    there = (k, record { child = new; at = at_this xs k new (slice_get_within xs k old at); holds = g.there });
    others = λ m p s. elim (from_set m p s.0 s.1) [
      | inl here ↦ elim (g.others m p here.1) [ inl before ↦ inl (in_old m p before) | inr this ↦ inr this ]
      | inr before ↦ inl (s.0, before)
    ];
  }

  pub same_at : IsSame (Holds old) (Holds new) → IsSame (Has xs) (Has (set xs k new))
  same_at g = record {
    kept = kept g.kept;
    others = λ m p s. elim (from_set m p s.0 s.1) [
      | inl here ↦ in_old m p (g.others m p here.1)
      | inr before ↦ (s.0, before)
    ];
  }

  pub by_first_at : AreByFirst xs → AreSplit new → ((m p : ℕ) → Holds new m p → Holds old m p ⊎ (k < 64 → bit_at m k ≡ 1)) → AreByFirst (set xs k new)
  by_first_at h split others = record {
    count = subst (λ (n : ℕ). (n ≡ 0) ⊎ (n ≡ 65)) (sym (length-set xs k new)) h.count;
    split = All-set AreSplit xs k new split h.split;
    set = λ first m p s low. elim (from_set m p first s) [
      | inl here ↦ elim (others m p here.1) [
        | inl before ↦ h.set first m p (subst (λ (i : ℕ). HoldsAt xs i m p) (sym here.0) (record { child = old; at = at; holds = before })) low
        | inr bit ↦ subst (λ (i : ℕ). bit_at m i ≡ 1) (sym here.0) (bit (subst (λ (i : ℕ). i < 64) here.0 low))
      ]
      | inr before ↦ h.set first m p before low
    ];
  }

-- the mask of a lead that is put in has the bit of its child
pub with_bit : (old new : ℕ → ℕ → Type 0) (k mask place : ℕ) → (k < 64 → bit_at mask k ≡ 1) → Gains old mask place new → (m p : ℕ) → new m p → old m p ⊎ (k < 64 → bit_at m k ≡ 1)
with_bit old new k mask place bit g m p s = elim (g.others m p s) [
  | inl before ↦ inl before
  | inr this ↦ inr (λ low. ap (λ i. bit_at i k) this.0 ∙ bit low)
]

-- ---- children without leads
pub none_has : (xs : List Node) → All IsEmpty xs → (m p : ℕ) → Has xs m p → ⊥
none_has xs h m p (k, s) =
    (subst IsEmpty (get_or_from_slice_get xs k s.child s.child s.at) (h k s.child (slice_get_within xs k s.child s.at))).none m p s.holds

pub by_first_empty : (xs : List Node) → (length xs ≡ 0) ⊎ (length xs ≡ 65) → All IsEmpty xs → AreByFirst xs
by_first_empty xs count h = record {
  count = count;
  split = λ k other l. (h k other l).split;
  set = λ first m p s low. absurd (none_has xs h m p (first, s));
}

-- a list without elements has none
pub nothing_has : (xs : List Node) → length xs ≡ 0 → (m p : ℕ) → Has xs m p → ⊥
nothing_has xs e m p (k, s) = omega (arith, e, slice_get_within xs k s.child s.at)

-- ---- two steps, the first of which keeps the same
pub gains_after : {before old new : ℕ → ℕ → Type 0} (mask place : ℕ) → IsSame before old → Gains old mask place new → Gains before mask place new
gains_after mask place same g = record {
  kept = λ m p s. g.kept m p (same.kept m p s);
  there = g.there;
  others = λ m p s. elim (g.others m p s) [ inl before ↦ inl (same.others m p before) | inr this ↦ inr this ];
}

pub same_after : {before old new : ℕ → ℕ → Type 0} → IsSame before old → IsSame old new → IsSame before new
same_after same g = record {
  kept = λ m p s. g.kept m p (same.kept m p s);
  others = λ m p s. same.others m p (g.others m p s);
}

-- what holds at a value and at an error
pub on_either : {T E P Q : Type 0} (r : Result T E) → OnOk r P → OnErr r Q → P ⊎ Q
on_either (Ok v) h k = inl h
on_either (Err e) h k = inr k
