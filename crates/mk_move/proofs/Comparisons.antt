-- Comparisons along a list of columns: the first column that differs decides.
use Rattle.std.proofs.Common.{◌≡◌, inl, inr, ℕ, zero, suc, ◌<◌, ◌≤◌, List, [], ◌∷◌, length, get_or, take, All, ◌↔◌, refl, sym, ◌∙◌, ap, subst, arith, ℤ, pos, ◌<ℤ◌}
use Rattle.std.specs.Ordering.{MatchOrdering}
use Rattle.std.specs.declared.cmp.Ordering.{Ordering}
use Rattle.std.specs.declared.cmp.Ordering.TheVariants.{Less, Equal, Greater}
use Rattle.std.proofs.lemmas.Int.{ints}
use Rattle.std.proofs.lemmas.Bool.{cases_eq}
use Rattle.std.proofs.lemmas.List.{ext_get_or}
use Rattle.std.proofs.lemmas.List.Elements.{All-head, All-tail, All-contains}
use Rattle.mk_model.specs.Vectors.{entry}
use Rattle.mk_model.specs.Orders.{IsBelow, standard, lead, tail}
use Rattle.mk_model.proofs.OrderLaws.{IsBelow-not_same, IsBelow-asymmetric}
use Rattle.mk_model.proofs.MoveOrder.{same_from_ends}
use Rattle.mk_move.specs.Moves.{Weighed, IsBefore}
use Rattle.mk_move.specs.Priorities.{IsPriority}

-- the columns before one are equal, and it decides
pub below_at : (p : List ℕ) (x y : List ℤ) (i : ℕ) → i < length p → All (λ c. entry x c ≡ entry y c) (take i p) → entry y (get_or p i 0) <ℤ entry x (get_or p i 0) → IsBelow p x y
below_at [] x y i l h d = absurd (omega arith)
below_at (c ∷ p) x y zero l h d = inl d
below_at (c ∷ p) x y (suc i) l h d =
    inr (All-head (λ c. entry x c ≡ entry y c) c (take i p) h, below_at p x y i (omega arith) (All-tail (λ c. entry x c ≡ entry y c) c (take i p) h) d)

-- the columns behind one are equal, and it decides
pub below_standard : (n e : ℕ) (x y : List ℤ) → e < n → ((c : ℕ) → e < c → entry x c ≡ entry y c) → entry y e <ℤ entry x e → IsBelow (standard n) x y
below_standard zero e x y l h d = absurd (omega arith)
below_standard (suc n) e x y l h d =
    elim (cases_eq e n) [
      | inl same ↦ inl (subst (λ (c : ℕ). entry y c <ℤ entry x c) same d)
      | inr other ↦ inr (h n (omega arith), below_standard n e x y (omega arith) h d)
    ]

-- vectors with equal entries in every column of a priority list
pub same_along : (p : List ℕ) (x y : List ℤ) → IsPriority p → length x ≡ length p → length y ≡ length p → All (λ c. entry x c ≡ entry y c) p → x ≡ y
same_along p x y list l k h =
    ext_get_or (pos 0) x y (l ∙ sym k) (λ c i. All-contains (λ c. entry x c ≡ entry y c) p c h (list.every c (omega arith)))

-- ---- the three answers of a comparison
-- each answer exactly where its fact holds
pub record IsComparison (o : Ordering) (P Q R : Type 0) : Type 0 where
  pub less : (o ≡ Less) ↔ P
  pub equal : (o ≡ Equal) ↔ Q
  pub greater : (o ≡ Greater) ↔ R

pub three_ways : (P Q R : Type 0) → (P → Q → ⊥) → (P → R → ⊥) → (Q → R → ⊥) → (o : Ordering) → MatchOrdering o P Q R → IsComparison o P Q R
three_ways P Q R pq pr qr Less m = record {
  less = ((λ _. m), (λ _. refl));
  equal = ((λ e. absurd (cc)), (λ q. absurd (pq m q)));
  greater = ((λ e. absurd (cc)), (λ r. absurd (pr m r)));
}
three_ways P Q R pq pr qr Equal m = record {
  less = ((λ e. absurd (cc)), (λ p. absurd (pq p m)));
  equal = ((λ _. m), (λ _. refl));
  greater = ((λ e. absurd (cc)), (λ r. absurd (qr m r)));
}
three_ways P Q R pq pr qr Greater m = record {
  less = ((λ e. absurd (cc)), (λ p. absurd (pr p m)));
  equal = ((λ e. absurd (cc)), (λ q. absurd (qr q m)));
  greater = ((λ _. m), (λ _. refl));
}

-- equal at a column and at all behind it
pub same_from : (e : ℕ) (x y : List ℤ) → entry x e ≡ entry y e → ((c : ℕ) → e < c → entry x c ≡ entry y c) → (c : ℕ) → e ≤ c → entry x c ≡ entry y c
same_from e x y h k c l =
    elim (cases_eq c e) [
      | inl same ↦ subst (λ (i : ℕ). entry x i ≡ entry y i) (sym same) h
      | inr other ↦ k c (omega arith)
    ]

-- vectors compared along a priority list
pub compared : (p : List ℕ) (x y : List ℤ) (o : Ordering) → IsPriority p → length x ≡ length p → length y ≡ length p → MatchOrdering o (IsBelow p x y) (All (λ c. entry x c ≡ entry y c) p) (IsBelow p y x) → IsComparison o (IsBelow p x y) (x ≡ y) (IsBelow p y x)
compared p x y o list l k m =
    three_ways (IsBelow p x y) (x ≡ y) (IsBelow p y x) (λ h e. IsBelow-not_same p x y e h) (λ h j. IsBelow-asymmetric p x y h j) (λ e h. IsBelow-not_same p y x (sym e) h) o (whole o m)
  where
    whole : (o : Ordering) → MatchOrdering o (IsBelow p x y) (All (λ c. entry x c ≡ entry y c) p) (IsBelow p y x) → MatchOrdering o (IsBelow p x y) (x ≡ y) (IsBelow p y x)
    whole Less m = m
    whole Equal m = same_along p x y list l k m
    whole Greater m = m

-- ---- the order of moves
abbrev move_of : List ℤ → ℤ → Weighed
move_of x w = record { entries = x; weight = w }

same_move : (a b : Weighed) → a.weight ≡ b.weight → lead a.entries ≡ lead b.entries → tail a.entries ≡ tail b.entries → a ≡ b
same_move a b h d e =
    ap (λ w. move_of a.entries w) h ∙ ap (λ x. move_of x b.weight) (same_from_ends a.entries b.entries d e)

before_not_same : (n : ℕ) (a b : Weighed) → IsBefore n a b → a ≡ b → ⊥
before_not_same n a b (inl h) e = let s : a.weight ≡ b.weight = ap (λ (m : Weighed). m.weight) e in omega (arith, ints)
before_not_same n a b (inr (_, inl h)) e = IsBelow-not_same (standard n) (lead a.entries) (lead b.entries) (ap (λ (m : Weighed). lead m.entries) e) h
before_not_same n a b (inr (_, inr (_, h))) e = IsBelow-not_same (standard n) (tail a.entries) (tail b.entries) (ap (λ (m : Weighed). tail m.entries) e) h

before_not_both : (n : ℕ) (a b : Weighed) → IsBefore n a b → IsBefore n b a → ⊥
before_not_both n a b (inl h) (inl k) = omega (arith, ints)
before_not_both n a b (inl h) (inr (e, k)) = omega (arith, ints)
before_not_both n a b (inr (e, h)) (inl k) = omega (arith, ints)
before_not_both n a b (inr (_, inl h)) (inr (_, inl k)) = IsBelow-asymmetric (standard n) _ _ h k
before_not_both n a b (inr (_, inl h)) (inr (_, inr (e, k))) = IsBelow-not_same (standard n) _ _ (sym e) h
before_not_both n a b (inr (_, inr (e, h))) (inr (_, inl k)) = IsBelow-not_same (standard n) _ _ (sym e) k
before_not_both n a b (inr (_, inr (e, h))) (inr (_, inr (f, k))) = IsBelow-asymmetric (standard n) _ _ h k

pub ordered_moves : (n : ℕ) (a b : Weighed) (o : Ordering) → MatchOrdering o (IsBefore n a b) (a ≡ b) (IsBefore n b a) → IsComparison o (IsBefore n a b) (a ≡ b) (IsBefore n b a)
ordered_moves n a b o m =
    three_ways (IsBefore n a b) (a ≡ b) (IsBefore n b a) (before_not_same n a b) (before_not_both n a b) (λ e h. before_not_same n b a h (sym e)) o m

-- moves of one weight, by their leads; and those of one lead too, by their tails
pub by_leads : (n : ℕ) (a b : Weighed) (o : Ordering) → a.weight ≡ b.weight → (o ≡ Equal → ⊥) → MatchOrdering o (IsBelow (standard n) (lead a.entries) (lead b.entries)) (lead a.entries ≡ lead b.entries) (IsBelow (standard n) (lead b.entries) (lead a.entries)) → MatchOrdering o (IsBefore n a b) (a ≡ b) (IsBefore n b a)
by_leads n a b Less e u m = inr (e, inl m)
by_leads n a b Equal e u m = absurd (u refl)
by_leads n a b Greater e u m = inr (sym e, inl m)

pub by_tails : (n : ℕ) (a b : Weighed) (o : Ordering) → a.weight ≡ b.weight → lead a.entries ≡ lead b.entries → MatchOrdering o (IsBelow (standard n) (tail a.entries) (tail b.entries)) (tail a.entries ≡ tail b.entries) (IsBelow (standard n) (tail b.entries) (tail a.entries)) → MatchOrdering o (IsBefore n a b) (a ≡ b) (IsBefore n b a)
by_tails n a b Less e d m = inr (e, inr (d, m))
by_tails n a b Equal e d m = same_move a b e d m
by_tails n a b Greater e d m = inr (sym e, inr (sym d, m))
