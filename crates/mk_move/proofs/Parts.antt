-- The range of parts and negatives, and how the first entry along a list orients a row.
use Rattle.std.proofs.Common.{◌≡◌, ◌⊎◌, ℕ, zero, suc, ◌<◌, ◌≤◌, List, [], ◌∷◌, length, get_or, All, Bool, true, false, Decides, refl, ap, sym, subst, inl, inr, arith, ◌∙◌, ℤ, pos, neg_ℤ, ◌<ℤ◌}
use Rattle.std.specs.Int.{int_max}
use Rattle.std.specs.Ordering.{int_eq}
use Rattle.std.proofs.lemmas.Int.{ints, clamps}
use Rattle.std.proofs.lemmas.List.{get_or-replicate, ext_get_or, length-replicate}
use Rattle.std.proofs.lemmas.List.Elements.{All-map, All-weaker}
use Rattle.std.specs.Cmp.{signed_Decides}
use Rattle.std.proofs.lemmas.Bool.{false≢true}
use Rattle.mk_model.specs.Vectors.{entry, zeros, negate, positive_part, negative_part, IsEntry}
use Rattle.mk_model.specs.Orders.{IsOriented}
use Rattle.mk_model.proofs.VectorAlgebra.{entry-positive_part, entry-negative_part, entry-negate, entry-zeros, length-negate}
use Rattle.mk_model.proofs.OrderLaws.{IsOriented-not_zero}
use Rattle.mk_model.specs.Orders.{first_along}
use Rattle.mk_move.specs.Moves.{Weighed, IsMoveKept, IsRowOriented}
use Rattle.mk_move.specs.Priorities.{IsPriority}

IsEntry-max : (a : ℤ) → IsEntry a → IsEntry (int_max a (pos 0))
IsEntry-max a h = (omega (arith, ints, clamps, h.0), omega (arith, ints, clamps, h.1))

IsEntry-neg : (a : ℤ) → IsEntry a → IsEntry (neg_ℤ a)
IsEntry-neg a h = (omega (arith, ints, h.1), omega (arith, ints, h.0))

pub All-positive_part : (x : List ℤ) → All IsEntry x → All IsEntry (positive_part x)
unfolding positive_part
All-positive_part x h =
    All-map IsEntry (λ a. int_max a (pos 0)) x (All-weaker IsEntry (λ a. IsEntry (int_max a (pos 0))) IsEntry-max x h)

pub All-negate : (x : List ℤ) → All IsEntry x → All IsEntry (negate x)
unfolding negate
All-negate x h = All-map IsEntry neg_ℤ x (All-weaker IsEntry (λ a. IsEntry (neg_ℤ a)) IsEntry-neg x h)

-- the parts at a column, by the entry there
negative_there : (x : List ℤ) (c : ℕ) → entry x c <ℤ pos 0 → entry (positive_part x) c <ℤ entry (negative_part x) c
negative_there x c h = omega (arith, ints, clamps, entry-positive_part x c, entry-negative_part x c)

zero_there : (x : List ℤ) (c : ℕ) → entry x c ≡ pos 0 → entry (negative_part x) c ≡ entry (positive_part x) c
zero_there x c h = omega (arith, ints, clamps, entry-positive_part x c, entry-negative_part x c)

-- the step of an orientation, past a column where the entry is 0
oriented_past : (c : ℕ) (p : List ℕ) (x : List ℤ) → entry x c ≡ pos 0 → IsOriented p x → IsOriented (c ∷ p) x
oriented_past c p x h o = inr (zero_there x c h, o)

decided : {P : Type 0} (b : Bool) → Decides b P → ((b ≡ true) × P) ⊎ ((b ≡ false) × (P → ⊥))
decided true d = inl (refl, d.0 refl)
decided false d = inr (refl, λ p. absurd (false≢true (d.1 p)))

-- a test of an entry against 0, decided
at_zero : (a : ℤ) → ((int_eq a (pos 0) ≡ true) × (a ≡ pos 0)) ⊎ ((int_eq a (pos 0) ≡ false) × (a ≡ pos 0 → ⊥))
at_zero a = decided (int_eq a (pos 0)) (signed_Decides a (pos 0))

pub oriented_by_negative : (p : List ℕ) (x : List ℤ) → first_along p x <ℤ pos 0 → IsOriented p x
oriented_by_negative [] x h = absurd (omega (arith, ints))
oriented_by_negative (c ∷ p) x h =
    elim (at_zero (entry x c)) [
      | inl z ↦ oriented_past c p x z.1 (oriented_by_negative p x (simp z.0 at h))
      | inr n ↦ inl (negative_there x c (simp n.0 at h))
    ]

positive_there : (x : List ℤ) (c : ℕ) → pos 0 <ℤ entry x c → entry (positive_part (negate x)) c <ℤ entry (negative_part (negate x)) c
positive_there x c h = negative_there (negate x) c (omega (arith, ints, entry-negate x c))

pub oriented_by_positive : (p : List ℕ) (x : List ℤ) → pos 0 <ℤ first_along p x → IsOriented p (negate x)
oriented_by_positive [] x h = absurd (omega (arith, ints))
oriented_by_positive (c ∷ p) x h =
    elim (at_zero (entry x c)) [
      | inl z ↦ oriented_past c p (negate x) (omega (arith, ints, z.1, entry-negate x c)) (oriented_by_positive p x (simp z.0 at h))
      | inr n ↦ inl (positive_there x c (simp n.0 at h))
    ]

-- where the first entry is 0, each along the list is
zero_along : (p : List ℕ) (x : List ℤ) → first_along p x ≡ pos 0 → (k d : ℕ) → k < length p → entry x (get_or p k d) ≡ pos 0
zero_along [] x h k d l = absurd (omega arith)
zero_along (c ∷ p) x h zero d l =
    elim (at_zero (entry x c)) [
      | inl z ↦ z.1
      | inr n ↦ absurd (n.1 (simp n.0 at h))
    ]
zero_along (c ∷ p) x h (suc k) d l =
    elim (at_zero (entry x c)) [
      | inl z ↦ zero_along p x (simp z.0 at h) k d (omega arith)
      | inr n ↦ absurd (n.1 (simp n.0 at h))
    ]

-- a row whose first entry along a whole priority list is 0 is zero
pub zero_row : (p : List ℕ) (x : List ℤ) → IsPriority p → length p ≡ length x → first_along p x ≡ pos 0 → x ≡ zeros (length x)
zero_row p x list same h =
    ext_get_or (pos 0) x (zeros (length x)) (sym (length-replicate (length x) (pos 0))) (λ c l.
    let there = list.every c (omega arith) in
    subst (λ (k : ℕ). entry x k ≡ pos 0) there.2 (zero_along p x h there.0 c there.1)
    ∙ sym (get_or-replicate (length x) c (pos 0) (pos 0) l))

-- a zero row has no first entry
pub first_of_zero : (p : List ℕ) (n : ℕ) → first_along p (zeros n) ≡ pos 0
first_of_zero [] n = refl
first_of_zero (c ∷ p) n =
    elim (at_zero (entry (zeros n) c)) [
      | inl z ↦ simp z.0 (first_of_zero p n)
      | inr e ↦ absurd (e.1 (entry-zeros n c))
    ]

-- a row that has a first entry isn't zero
has_first : (p : List ℕ) (row : List ℤ) (first : ℤ) → first ≡ first_along p row → (first ≡ pos 0 → ⊥) → row ≡ zeros (length row) → ⊥
has_first p row first e h z = h (e ∙ ap (first_along p) z ∙ first_of_zero p (length row))

pub row_as_it_is : (p : List ℕ) (row entries : List ℤ) (first : ℤ) → first ≡ first_along p row → first <ℤ pos 0 → entries ≡ row → IsRowOriented row p entries
row_as_it_is p row entries first e h same = record {
  turned = record {
    either = inl same;
    oriented = subst (IsOriented p) (sym same) (oriented_by_negative p row (subst (λ (z : ℤ). z <ℤ pos 0) e h));
  };
  not_zero = has_first p row first e (λ z. omega (arith, ints, h));
}

pub row_turned : (p : List ℕ) (row entries : List ℤ) (first : ℤ) → first ≡ first_along p row → pos 0 <ℤ first → entries ≡ negate row → IsRowOriented row p entries
row_turned p row entries first e h same = record {
  turned = record {
    either = inr same;
    oriented = subst (IsOriented p) (sym same) (oriented_by_positive p row (subst (λ (z : ℤ). pos 0 <ℤ z) e h));
  };
  not_zero = has_first p row first e (λ z. omega (arith, ints, h));
}

pub length-oriented : (row : List ℤ) (p : List ℕ) (entries : List ℤ) → IsRowOriented row p entries → length entries ≡ length row
length-oriented row p entries h =
    elim h.turned.either [ inl e ↦ ap length e | inr e ↦ ap length e ∙ length-negate row ]

pub All-oriented : (row : List ℤ) (p : List ℕ) (entries : List ℤ) → IsRowOriented row p entries → All IsEntry row → All IsEntry entries
All-oriented row p entries h k =
    elim h.turned.either [
      | inl e ↦ subst (All IsEntry) (sym e) k
      | inr e ↦ subst (All IsEntry) (sym e) (All-negate row k)
    ]

pub IsKept-oriented : (row : List ℤ) (p : List ℕ) (m : Weighed) → length row ≤ 512 → IsRowOriented row p m.entries → All IsEntry row → IsMoveKept m
IsKept-oriented row p m few h k = record {
  columns = omega (arith, length-oriented row p m.entries h);
  not_zero = λ z. IsOriented-not_zero p m.entries (λ c. ap (λ x. entry x c) z ∙ entry-zeros (length m.entries) c) h.turned.oriented;
  entries = All-oriented row p m.entries h k;
}
