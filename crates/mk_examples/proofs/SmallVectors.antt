-- Vectors of two, three and four columns, by their entries.
use Rattle.std.proofs.Common.{◌≡◌, ◌⊎◌, inl, inr, ℕ, zero, suc, true, List, [], ◌∷◌, length, ℤ, ◌≤ℤ◌, ◌<ℤ◌, All, arith, refl}
use Rattle.std.proofs.lemmas.Int.{ints, by_lt_z}
use Rattle.std.proofs.lemmas.List.Elements.{All-nil, All-cons}
use Rattle.mk_model.specs.Vectors.{entry}
use Rattle.mk_model.specs.Orders.{IsOriented, lead, tail}
use Rattle.mk_model.specs.Reductions.{Divides}
use Rattle.mk_model.proofs.OrderTests.{is_below, Decides-is_below}

pub two_entries : (x : List ℤ) → length x ≡ 2 → x ≡ entry x 0 ∷ entry x 1 ∷ []
two_entries [] l = absurd (omega arith)
two_entries (a ∷ []) l = absurd (omega arith)
two_entries (a ∷ b ∷ []) l = refl
two_entries (a ∷ b ∷ c ∷ x) l = absurd (omega arith)

pub three_entries : (x : List ℤ) → length x ≡ 3 → x ≡ entry x 0 ∷ entry x 1 ∷ entry x 2 ∷ []
three_entries [] l = absurd (omega arith)
three_entries (a ∷ []) l = absurd (omega arith)
three_entries (a ∷ b ∷ []) l = absurd (omega arith)
three_entries (a ∷ b ∷ c ∷ []) l = refl
three_entries (a ∷ b ∷ c ∷ d ∷ x) l = absurd (omega arith)

pub four_entries : (x : List ℤ) → length x ≡ 4 → x ≡ entry x 0 ∷ entry x 1 ∷ entry x 2 ∷ entry x 3 ∷ []
four_entries [] l = absurd (omega arith)
four_entries (a ∷ []) l = absurd (omega arith)
four_entries (a ∷ b ∷ []) l = absurd (omega arith)
four_entries (a ∷ b ∷ c ∷ []) l = absurd (omega arith)
four_entries (a ∷ b ∷ c ∷ d ∷ []) l = refl
four_entries (a ∷ b ∷ c ∷ d ∷ e ∷ x) l = absurd (omega arith)

pub same_two : (a b c d : ℤ) → a ≡ c → b ≡ d → (a ∷ b ∷ []) ≡ c ∷ d ∷ []
same_two a b c d h k = rw (h, k) refl

pub same_three : (a b c d e f : ℤ) → a ≡ d → b ≡ e → c ≡ f → (a ∷ b ∷ c ∷ []) ≡ d ∷ e ∷ f ∷ []
same_three a b c d e f h k l = rw (h, k, l) refl

pub same_four : (a b c d e f g h : ℤ) → a ≡ e → b ≡ f → c ≡ g → d ≡ h → (a ∷ b ∷ c ∷ d ∷ []) ≡ e ∷ f ∷ g ∷ h ∷ []
same_four a b c d e f g h i j k l = rw (i, j, k, l) refl

pub Divides-nil : Divides [] []
Divides-nil = record { entries = λ c. omega (arith, ints) }

pub Divides-cons : {a b : ℤ} {x y : List ℤ} → a ≤ℤ b → Divides x y → Divides (a ∷ x) (b ∷ y)
Divides-cons {a} {b} {x} {y} l d = record { entries = go }
  where
    go : (c : ℕ) → entry (a ∷ x) c ≤ℤ entry (b ∷ y) c
    go zero = l
    go (suc c) = d.entries c

pub less : (a k : ℤ) → (k ≤ℤ a → ⊥) → a <ℤ k
less a k f = by_lt_z a k (λ h. h) (λ h. absurd (f h))

pub less_either : (a b k : ℤ) → (k ≤ℤ a → k ≤ℤ b → ⊥) → (a <ℤ k) ⊎ (b <ℤ k)
less_either a b k f = by_lt_z a k inl (λ h. inr (less b k (f h)))

pub oriented_by_test : (p : List ℕ) (m : List ℤ) → is_below p (tail m) (lead m) ≡ true → IsOriented p m
oriented_by_test p m e = (Decides-is_below p (tail m) (lead m)).0 e

-- so many times the one row and so many times the other
abbrev pub two_factors : ℤ → ℤ → ℕ → ℤ
two_factors k l zero = k
two_factors k l (suc i) = l

pub all_two : (P : List ℤ → Type 0) (x y : List ℤ) → P x → P y → All P (x ∷ y ∷ [])
all_two P x y h k = All-cons P x (y ∷ []) h (All-cons P y [] k (All-nil P))

pub all_three : (P : List ℤ → Type 0) (x y z : List ℤ) → P x → P y → P z → All P (x ∷ y ∷ z ∷ [])
all_three P x y z h k l = All-cons P x (y ∷ z ∷ []) h (all_two P y z k l)
