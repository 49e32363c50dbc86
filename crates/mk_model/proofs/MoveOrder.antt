-- The order of moves goes on, and two moves of n columns are in order one way or the other.
use Rattle.std.proofs.Common.{◌≡◌, ◌⊎◌, inl, inr, ℕ, List, length, ℤ, arith, ap, sym, ◌∙◌, subst}
use Rattle.std.proofs.lemmas.Int.{ints, by_lt_z}
use Rattle.mk_model.specs.Vectors.{subtract, weight}
use Rattle.mk_model.specs.Orders.{IsBelow, standard, lead, tail, ComesBefore}
use Rattle.mk_model.proofs.VectorAlgebra.{lengths, parts}
use Rattle.mk_model.proofs.OrderLaws.{IsBelow-transitive, IsBelow-total_standard}

-- the order of moves of one weight
abbrev pub EndsBefore : ℕ → List ℤ → List ℤ → Type 0
EndsBefore n u v = IsBelow (standard n) (lead u) (lead v) ⊎ ((lead u ≡ lead v) × IsBelow (standard n) (tail u) (tail v))

pub ComesBefore-transitive : (n : ℕ) (w a b c : List ℤ) → ComesBefore n w a b → ComesBefore n w b c → ComesBefore n w a c
ComesBefore-transitive n w a b c (inl h) (inl k) = inl (omega (arith, ints))
ComesBefore-transitive n w a b c (inl h) (inr (e, k)) = inl (omega (arith, ints))
ComesBefore-transitive n w a b c (inr (d, h)) (inl k) = inl (omega (arith, ints))
ComesBefore-transitive n w a b c (inr (d, h)) (inr (e, k)) = inr (d ∙ e, go h k)
  where
    go : EndsBefore n a b → EndsBefore n b c → EndsBefore n a c
    go (inl h) (inl k) = inl (IsBelow-transitive (standard n) (lead a) (lead b) (lead c) h k)
    go (inl h) (inr (e, k)) = inl (subst (IsBelow (standard n) (lead a)) e h)
    go (inr (e, h)) (inl k) = inl (subst (λ u. IsBelow (standard n) u (lead c)) (sym e) k)
    go (inr (e, h)) (inr (f, k)) = inr (e ∙ f, IsBelow-transitive (standard n) (tail a) (tail b) (tail c) h k)

pub same_from_ends : (a b : List ℤ) → lead a ≡ lead b → tail a ≡ tail b → a ≡ b
same_from_ends a b e d = sym (parts a) ∙ ap (λ u. subtract u (tail a)) e ∙ ap (subtract (lead b)) d ∙ parts b

pub ComesBefore-total : (n : ℕ) (w a b : List ℤ) → length a ≡ n → length b ≡ n → (ComesBefore n w a b ⊎ ComesBefore n w b a) ⊎ (a ≡ b)
ComesBefore-total n w a b k l =
    by_lt_z (weight w (lead a)) (weight w (lead b)) (λ h. inl (inl (inl h)))
    (λ h. by_lt_z (weight w (lead b)) (weight w (lead a)) (λ i. inl (inr (inl i)))
    (λ i. leads (omega (arith, ints)) (IsBelow-total_standard n (lead a) (lead b) (omega (arith, lengths)) (omega (arith, lengths)))))
  where
    tails : weight w (lead a) ≡ weight w (lead b) → lead a ≡ lead b →
        (IsBelow (standard n) (tail a) (tail b) ⊎ IsBelow (standard n) (tail b) (tail a)) ⊎ (tail a ≡ tail b) →
        (ComesBefore n w a b ⊎ ComesBefore n w b a) ⊎ (a ≡ b)
    tails e d (inl (inl h)) = inl (inl (inr (e, inr (d, h))))
    tails e d (inl (inr h)) = inl (inr (inr (sym e, inr (sym d, h))))
    tails e d (inr f) = inr (same_from_ends a b d f)

    leads : weight w (lead a) ≡ weight w (lead b) → (IsBelow (standard n) (lead a) (lead b) ⊎ IsBelow (standard n) (lead b) (lead a))
        ⊎ (lead a ≡ lead b) → (ComesBefore n w a b ⊎ ComesBefore n w b a) ⊎ (a ≡ b)
    leads e (inl (inl h)) = inl (inl (inr (e, inl h)))
    leads e (inl (inr h)) = inl (inr (inr (sym e, inl h)))
    leads e (inr d) = tails e d (IsBelow-total_standard n (tail a) (tail b) (omega (arith, lengths)) (omega (arith, lengths)))
