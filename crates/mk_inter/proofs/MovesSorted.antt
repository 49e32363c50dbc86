-- The order of moves by their number of columns, then by move order, as a test that a sort takes.
use Rattle.std.proofs.Common.{[], ◌≡◌, ◌⊎◌, ◌↔◌, inl, inr, ℕ, ◌≤◌, ◌<◌, Bool, false, ◌||◌, ◌&&◌, ◌==◌, nat_lt, List, length, ℤ, arith, refl, sym, ◌∙◌, subst, ⊎_elim}
use Rattle.std.specs.Bool.{Decides}
use Rattle.std.specs.Cmp.{IsStrictWeakOrder}
use Rattle.std.specs.Ordering.{int_eq, is_lt}
use Rattle.std.specs.declared.cmp.Ordering.{Ordering}
use Rattle.std.specs.declared.cmp.Ordering.TheVariants.{Less, Equal, Greater}
use Rattle.std.specs.Int.Signed.{lt_z}
use Rattle.std.specs.List.Sorted.{IsSortedBy}
use Rattle.std.specs.Cmp.Lexicographic.{pointwise}
use Rattle.std.proofs.lemmas.Bool.{both_ways, cases_Bool, cases_lt}
use Rattle.std.proofs.lemmas.Bool.Decides.{Decides-and, Decides-or, Decides-int_eq, Decides-eqb, nat_tests}
use Rattle.std.proofs.lemmas.Int.{ints, by_lt_z}
use Rattle.std.proofs.lemmas.Slice.Eq.{slice_eq-Decides}
use Rattle.std.proofs.lemmas.List.Sorted.{sorted_far}
use Rattle.mk_model.specs.Vectors.{weight}
use Rattle.mk_model.specs.Orders.{standard, lead, tail, ComesBefore}
use Rattle.mk_model.proofs.OrderLaws.{ComesBefore-asymmetric}
use Rattle.mk_model.proofs.OrderTests.{is_below, Decides-is_below, Decides-lt_z}
use Rattle.mk_model.proofs.MoveOrder.{EndsBefore, ComesBefore-transitive, ComesBefore-total}
use Rattle.mk_move.specs.Moves.{Weighed, IsBefore}
use Rattle.mk_inter.specs.TailSteps.{IsEarlier, NoneEarlier}

-- ---- moves of one weight: their order is that for the grading without columns
no_weight : (x y : List ℤ) → weight [] x ≡ weight [] y
unfolding weight
no_weight x y = refl

as_moves : (n : ℕ) (u v : List ℤ) → EndsBefore n u v → ComesBefore n [] u v
as_moves n u v h = inr (no_weight (lead u) (lead v), h)

as_ends : (n : ℕ) (u v : List ℤ) → ComesBefore n [] u v → EndsBefore n u v
as_ends n u v (inl h) = absurd (omega (arith, ints, no_weight (lead u) (lead v)))
as_ends n u v (inr (e, h)) = h

-- ---- move order
IsBefore-asymmetric : (n : ℕ) (a b : Weighed) → IsBefore n a b → IsBefore n b a → ⊥
IsBefore-asymmetric n a b (inl h) (inl k) = omega (arith, ints)
IsBefore-asymmetric n a b (inl h) (inr (e, k)) = omega (arith, ints)
IsBefore-asymmetric n a b (inr (e, h)) (inl k) = omega (arith, ints)
IsBefore-asymmetric n a b (inr (e, h)) (inr (f, k)) = ComesBefore-asymmetric n [] a.entries b.entries (as_moves n a.entries b.entries h) (as_moves n b.entries a.entries k)

IsBefore-transitive : (n : ℕ) (a b c : Weighed) → IsBefore n a b → IsBefore n b c → IsBefore n a c
IsBefore-transitive n a b c (inl h) (inl k) = inl (omega (arith, ints))
IsBefore-transitive n a b c (inl h) (inr (e, k)) = inl (omega (arith, ints))
IsBefore-transitive n a b c (inr (e, h)) (inl k) = inl (omega (arith, ints))
IsBefore-transitive n a b c (inr (e, h)) (inr (f, k)) =
    inr (e ∙ f, as_ends n a.entries c.entries (ComesBefore-transitive n [] a.entries b.entries c.entries (as_moves n a.entries b.entries h) (as_moves n b.entries c.entries k)))

same_moves : (a b : Weighed) → a.entries ≡ b.entries → a.weight ≡ b.weight → a ≡ b
same_moves a b e f = λ i. record { entries = e i; weight = f i }

IsBefore-total : (n : ℕ) (a b : Weighed) → length a.entries ≡ n → length b.entries ≡ n → (IsBefore n a b ⊎ IsBefore n b a) ⊎ (a ≡ b)
IsBefore-total n a b k l =
    by_lt_z a.weight b.weight (λ h. inl (inl (inl h)))
    (λ h. by_lt_z b.weight a.weight (λ i. inl (inr (inl i))) (λ i. ends (omega (arith, ints)) (ComesBefore-total n [] a.entries b.entries k l)))
  where
    ends : a.weight ≡ b.weight → (ComesBefore n [] a.entries b.entries ⊎ ComesBefore n [] b.entries a.entries) ⊎ (a.entries ≡ b.entries) → (IsBefore n a b ⊎ IsBefore n b a) ⊎ (a ≡ b)
    ends e (inl (inl h)) = inl (inl (inr (e, as_ends n a.entries b.entries h)))
    ends e (inl (inr h)) = inl (inr (inr (sym e, as_ends n b.entries a.entries h)))
    ends e (inr f) = inr (same_moves a b f e)

-- ---- moves of any columns
pub IsEarlier-asymmetric : (a b : Weighed) → IsEarlier a b → IsEarlier b a → ⊥
IsEarlier-asymmetric a b (inl h) (inl k) = omega arith
IsEarlier-asymmetric a b (inl h) (inr (e, k)) = omega arith
IsEarlier-asymmetric a b (inr (e, h)) (inl k) = omega arith
IsEarlier-asymmetric a b (inr (e, h)) (inr (f, k)) = IsBefore-asymmetric (length a.entries) a b h (subst (λ n. IsBefore n b a) f k)

pub IsEarlier-transitive : (a b c : Weighed) → IsEarlier a b → IsEarlier b c → IsEarlier a c
IsEarlier-transitive a b c (inl h) (inl k) = inl (omega arith)
IsEarlier-transitive a b c (inl h) (inr (e, k)) = inl (omega arith)
IsEarlier-transitive a b c (inr (e, h)) (inl k) = inl (omega arith)
IsEarlier-transitive a b c (inr (e, h)) (inr (f, k)) = inr (e ∙ f, IsBefore-transitive (length a.entries) a b c h (subst (λ n. IsBefore n b c) (sym e) k))

pub IsEarlier-total : (a b : Weighed) → (IsEarlier a b ⊎ IsEarlier b a) ⊎ (a ≡ b)
IsEarlier-total a b = by_length (cases_lt (length a.entries) (length b.entries)) (cases_lt (length b.entries) (length a.entries))
  where
    on : length a.entries ≡ length b.entries → (IsBefore (length a.entries) a b ⊎ IsBefore (length a.entries) b a) ⊎ (a ≡ b) → (IsEarlier a b ⊎ IsEarlier b a) ⊎ (a ≡ b)
    on e (inl (inl h)) = inl (inl (inr (e, h)))
    on e (inl (inr h)) = inl (inr (inr (sym e, subst (λ n. IsBefore n b a) e h)))
    on e (inr f) = inr f

    by_length : (length a.entries < length b.entries) ⊎ (length b.entries ≤ length a.entries) → (length b.entries < length a.entries) ⊎ (length a.entries ≤ length b.entries) → (IsEarlier a b ⊎ IsEarlier b a) ⊎ (a ≡ b)
    by_length (inl h) k = inl (inl (inl h))
    by_length (inr h) (inl k) = inl (inr (inl k))
    by_length (inr h) (inr k) =
        let e : length a.entries ≡ length b.entries = omega arith in
        on e (IsBefore-total (length a.entries) a b refl (sym e))

-- ---- the test
abbrev same_vector : List ℤ → List ℤ → Bool
same_vector x y = pointwise int_eq x y

abbrev is_before : ℕ → Weighed → Weighed → Bool
is_before n a b =
    lt_z a.weight b.weight
    || (int_eq a.weight b.weight && (is_below (standard n) (lead a.entries) (lead b.entries)
    || (same_vector (lead a.entries) (lead b.entries) && is_below (standard n) (tail a.entries) (tail b.entries))))

abbrev pub is_earlier : Weighed → Weighed → Bool
is_earlier a b = nat_lt (length a.entries) (length b.entries) || ((length a.entries == length b.entries) && is_before (length a.entries) a b)

Decides-nat_lt : (a b : ℕ) → Decides (nat_lt a b) (a < b)
Decides-nat_lt a b = (λ e. grind (arith, nat_tests), λ h. grind (arith, nat_tests))

Decides-is_before : (n : ℕ) (a b : Weighed) → Decides (is_before n a b) (IsBefore n a b)
Decides-is_before n a b =
    Decides-or _ _ (Decides-lt_z _ _) (Decides-and _ _ (Decides-int_eq _ _) (Decides-or _ _ (Decides-is_below (standard n) (lead a.entries) (lead b.entries))
    (Decides-and _ _ (slice_eq-Decides Decides-int_eq (lead a.entries) (lead b.entries) _ refl) (Decides-is_below (standard n) (tail a.entries) (tail b.entries)))))

pub Decides-is_earlier : (a b : Weighed) → Decides (is_earlier a b) (IsEarlier a b)
Decides-is_earlier a b =
    Decides-or _ _ (Decides-nat_lt _ _) (Decides-and _ _ (Decides-eqb (length a.entries) (length b.entries)) (Decides-is_before (length a.entries) a b))

fails : (a b : Weighed) → is_earlier a b ≡ false → IsEarlier a b → ⊥
fails a b e h = both_ways (is_earlier a b) e ((Decides-is_earlier a b).1 h)

failed : (a b : Weighed) → (IsEarlier a b → ⊥) → is_earlier a b ≡ false
failed a b f = ⊎_elim (λ e. absurd (f ((Decides-is_earlier a b).0 e))) (λ e. e) (cases_Bool (is_earlier a b))

pub earlier_ranks : IsStrictWeakOrder is_earlier
earlier_ranks = record {
  one_way = λ a b e. failed b a (IsEarlier-asymmetric a b ((Decides-is_earlier a b).0 e));
  chain = λ a b c e f. failed a c (chained a b c (fails a b e) (fails b c f) (IsEarlier-total a b));
}
  where
    chained : (a b c : Weighed) → (IsEarlier a b → ⊥) → (IsEarlier b c → ⊥) → (IsEarlier a b ⊎ IsEarlier b a) ⊎ (a ≡ b) → IsEarlier a c → ⊥
    chained a b c f g (inl (inl h)) k = f h
    chained a b c f g (inl (inr h)) k = g (IsEarlier-transitive b a c h k)
    chained a b c f g (inr e) k = g (subst (λ x. IsEarlier x c) e k)

-- ---- what a sort by it gives
pub answers_less : (a b : Weighed) (r : Ordering) → (r ≡ Less) ↔ IsEarlier a b → is_lt r ≡ is_earlier a b
answers_less a b Less h = sym ((Decides-is_earlier a b).1 (h.0 refl))
answers_less a b Equal h = sym (failed a b (λ k. let e = h.1 k in absurd (cc)))
answers_less a b Greater h = sym (failed a b (λ k. let e = h.1 k in absurd (cc)))

pub none_earlier : (moves : List Weighed) → IsSortedBy is_earlier moves → NoneEarlier moves
none_earlier moves up i j d l k = fails _ _ (sorted_far is_earlier earlier_ranks moves up i j d (omega arith) k)
