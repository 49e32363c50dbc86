-- A number n without its lowest bit is n & (n - 1).
use Rattle.std.proofs.Common.{◌≡◌, ◌≢◌, ℕ, zero, suc, ◌-◌, ◌/◌, ◌<◌, arith, refl, sym, ap, ◌∙◌}
use Rattle.std.specs.Int.{bit_at}
use Rattle.std.specs.Int.Bits.{bit_and, and_self}
use Rattle.std.proofs.lemmas.Nat.{and_shr}
use Rattle.std.proofs.lemmas.Nat.Bits.{bit_at_lowest, bit_at-suc, bit_at_and}

-- the bit at this place is cleared, and the others stay
abbrev pub IsClearedAt : ℕ → ℕ → Type 0
IsClearedAt place n = (bit_at (bit_and n (n - 1)) place ≡ 0) × ((other : ℕ) → other ≢ place → bit_at (bit_and n (n - 1)) other ≡ bit_at n other)

-- of two numbers beside each other one is even
even : (n : ℕ) → bit_at (bit_and n (n - 1)) 0 ≡ 0
even n = omega (arith, bit_at_and n (n - 1) 0, bit_at_lowest n, bit_at_lowest (n - 1))

halved : (n half place : ℕ) → (n - 1) / 2 ≡ half → bit_at (bit_and n (n - 1)) (suc place) ≡ bit_at (bit_and (n / 2) half) place
halved n half place e = bit_at-suc (bit_and n (n - 1)) place ∙ ap (λ x. bit_at x place) (and_shr n (n - 1) 1 ∙ ap (bit_and (n / 2)) e)

-- of an odd number the bit at 0 goes
odd_cleared : (n : ℕ) → bit_at n 0 ≡ 1 → IsClearedAt 0 n
odd_cleared n set = (even n, others)
  where
    half : (n - 1) / 2 ≡ n / 2
    half = omega (arith, set, bit_at_lowest n)

    others : (other : ℕ) → other ≢ zero → bit_at (bit_and n (n - 1)) other ≡ bit_at n other
    others zero apart = absurd (apart refl)
    others (suc other) apart = halved n (n / 2) other half ∙ ap (λ x. bit_at x other) (and_self (n / 2)) ∙ sym (bit_at-suc n other)

-- of an even number the bit goes that goes of its half, a place higher
even_cleared : (place n : ℕ) → bit_at n 0 ≡ 0 → IsClearedAt place (n / 2) → IsClearedAt (suc place) n
even_cleared place n unset (cleared, same) = (halved n (n / 2 - 1) place half ∙ cleared, others)
  where
    half : (n - 1) / 2 ≡ n / 2 - 1
    half = omega (arith, unset, bit_at_lowest n)

    others : (other : ℕ) → other ≢ suc place → bit_at (bit_and n (n - 1)) other ≡ bit_at n other
    others zero apart = even n ∙ sym unset
    others (suc other) apart = halved n (n / 2 - 1) other half ∙ same other (λ e. apart (ap suc e)) ∙ sym (bit_at-suc n other)

-- the bit goes at the place of the lowest bit, and there alone
pub lowest_cleared : (place n : ℕ) → bit_at n place ≡ 1 → ((lower : ℕ) → lower < place → bit_at n lower ≡ 0) → IsClearedAt place n
lowest_cleared zero n set none = odd_cleared n set
lowest_cleared (suc place) n set none =
    let half : IsClearedAt place (n / 2) = lowest_cleared place (n / 2) (sym (bit_at-suc n place) ∙ set) (λ lower l. sym (bit_at-suc n lower) ∙ none (suc lower) (omega arith)) in
    even_cleared place n (none 0 (omega arith)) half
