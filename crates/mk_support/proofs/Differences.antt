-- In which bits masks differ from another one.
use Rattle.std.proofs.Common.{◌≡◌, ◌≢◌, ◌⊎◌, inl, inr, ℕ, ◌+◌, ◌%◌, ◌<◌, max, List, get_or, arith, sym, ap, ◌∙◌}
use Rattle.std.specs.Int.{bit_at}
use Rattle.std.specs.Int.RustNames.{bit_or, bit_xor}
use Rattle.std.proofs.lemmas.Bool.{cases_eq}
use Rattle.std.proofs.lemmas.Nat.Bits.{bit_at-zero, bit_at-lt, bit_at_or, bit_at_xor, same_from_bits}

-- of the first so many masks, those that set a bit, and all where none is set
pub record DiffersUpTo (masks : List ℕ) (mask n differing : ℕ) : Type 0 where
  pub set : (bit : ℕ) → bit_at differing bit ≡ 1 → (k : ℕ) × (k < n) × (bit_at (get_or masks k 0) bit ≢ bit_at mask bit)
  pub none : differing ≡ 0 → (k : ℕ) → k < n → get_or masks k 0 ≡ mask

pub differs_first : (masks : List ℕ) (mask : ℕ) → DiffersUpTo masks mask 0 0
differs_first masks mask = record {
  set = λ bit e. absurd (omega (arith, e, bit_at-zero bit));
  none = λ e k l. absurd (omega (arith, l));
}

-- two numbers without bits that are set in either, or in one of them alone
or_zero : (a b : ℕ) → bit_or a b ≡ 0 → (a ≡ 0) × (b ≡ 0)
or_zero a b e = (same_from_bits a 0 (λ i. omega (arith, at i, bit_at-zero i)), same_from_bits b 0 (λ i. omega (arith, at i, bit_at-zero i)))
  where
    at : (i : ℕ) → max (bit_at a i) (bit_at b i) ≡ 0
    at i = sym (bit_at_or a b i) ∙ ap (λ n. bit_at n i) e ∙ bit_at-zero i

xor_zero : (a b : ℕ) → bit_xor a b ≡ 0 → a ≡ b
xor_zero a b e = same_from_bits a b (λ i. same i)
  where
    same : (i : ℕ) → bit_at a i ≡ bit_at b i
    same i =
        let none : (bit_at a i + bit_at b i) % 2 ≡ 0 = sym (bit_at_xor a b i) ∙ ap (λ n. bit_at n i) e ∙ bit_at-zero i in
        omega (arith, none, bit_at-lt a i, bit_at-lt b i)

pub differs_more : (masks : List ℕ) (mask n differing : ℕ) → DiffersUpTo masks mask n differing → DiffersUpTo masks mask (n + 1) (bit_or differing (bit_xor (get_or masks n 0) mask))
differs_more masks mask n differing h = record {
  set = λ bit e. set bit e (cases_eq (bit_at differing bit) 1);
  none = λ e k l.
      let (old, new) = or_zero differing (bit_xor (get_or masks n 0) mask) e in
      elim (cases_eq k n) [
        | inl this ↦ ap (λ i. get_or masks i 0) this ∙ xor_zero (get_or masks n 0) mask new
        | inr apart ↦ h.none old k (omega arith)
      ];
}
  where
    apart : (bit : ℕ) → bit_at (bit_xor (get_or masks n 0) mask) bit ≡ 1 → bit_at (get_or masks n 0) bit ≢ bit_at mask bit
    apart bit e same =
        let odd : (bit_at (get_or masks n 0) bit + bit_at mask bit) % 2 ≡ 1 = sym (bit_at_xor (get_or masks n 0) mask bit) ∙ e in
        omega (arith, odd, same)

    set : (bit : ℕ) → bit_at (bit_or differing (bit_xor (get_or masks n 0) mask)) bit ≡ 1 → (bit_at differing bit ≡ 1) ⊎ (bit_at differing bit ≢ 1) → (k : ℕ) × (k < n + 1) × (bit_at (get_or masks k 0) bit ≢ bit_at mask bit)
    set bit e (inl old) = let (k, l, d) = h.set bit old in (k, omega (arith, l), d)
    set bit e (inr clear) =
        let new : bit_at (bit_xor (get_or masks n 0) mask) bit ≡ 1 =
        omega (arith, e, clear, bit_at_or differing (bit_xor (get_or masks n 0) mask) bit, bit_at-lt differing bit, bit_at-lt (bit_xor (get_or masks n 0) mask) bit) in
        (n, omega arith, apart bit new)
