-- A row that becomes another, one bit after another.
use Rattle.std.proofs.Common.{◌≡◌, ◌≢◌, ◌⊎◌, inl, inr, ℕ, ◌^◌, ◌<◌, ◌≤◌, max, List, length, set, arith, sym, ap, ◌∙◌, ℤ, pos}
use Rattle.std.specs.Int.{bit_at}
use Rattle.std.specs.Int.RustNames.{bit_or}
use Rattle.std.proofs.lemmas.Bool.{cases_eq, cases_lt}
use Rattle.std.proofs.lemmas.List.{length-set, get_or-set_same, get_or-set_other}
use Rattle.std.proofs.lemmas.Nat.Bits.{bit_at_above, bit_at-lt, bit_at_or, bit_at-zero}
use Rattle.mk_model.specs.Vectors.{entry}
use Rattle.mk_model.proofs.VectorAlgebra.{same_vectors}
use Rattle.mk_move.specs.Masks.{AreMasks}
use Rattle.mk_move.specs.InPlace.{AreBits, AreSameBut}
use Rattle.mk_move.proofs.Takings.{bits_of}

either_bit : (n c : ℕ) → (bit_at n c ≡ 0) ⊎ (bit_at n c ≡ 1)
either_bit n c = elim (cases_eq (bit_at n c) 0) [ inl e ↦ inl e | inr d ↦ inr (omega (arith, bit_at-lt n c)) ]

-- ---- at first
-- two rows are the same but where one of them has an entry
pub same_but_entries : (x y : List ℤ) (plus minus above below : ℕ) → length x ≡ length y → length x ≤ 64 → AreMasks x plus minus → AreMasks y above below →
    AreSameBut x y (bit_or (bit_or plus minus) (bit_or above below))
same_but_entries x y plus minus above below l few h k = record {
  columns = l;
  within = λ c b. within c (either_bit (bit_or plus minus) c) (sym (bit_at_or (bit_or plus minus) (bit_or above below) c) ∙ b);
  same = λ c b. let none = sym (bit_at_or (bit_or plus minus) (bit_or above below) c) ∙ b in
      left.covers c (omega (arith, none)) ∙ sym (right.covers c (omega (arith, none)));
}
  where
    left : AreBits x (bit_or plus minus)
    left = bits_of x plus minus few h

    right : AreBits y (bit_or above below)
    right = bits_of y above below (omega (arith, l, few)) k

    within : (c : ℕ) → (bit_at (bit_or plus minus) c ≡ 0) ⊎ (bit_at (bit_or plus minus) c ≡ 1) → max (bit_at (bit_or plus minus) c) (bit_at (bit_or above below) c) ≡ 1 → c < length x
    within c (inr b) _ = left.within c b
    within c (inl b) one = let there = right.within c (omega (arith, b, one)) in omega (arith, there, l)

-- ---- one bit more
module _ (x y : List ℤ) (left others n : ℕ) (fits : left < 2 ^ 64) (fewer : others < left) (set_there : bit_at left n ≡ 1) (cleared : bit_at others n ≡ 0)
    (same : (c : ℕ) → c < 64 → c ≢ n → bit_at others c ≡ bit_at left c) (h : AreSameBut x y left) (value : ℤ) (is : value ≡ entry y n) where
  other_bit : (c : ℕ) → c ≢ n → bit_at others c ≡ bit_at left c
  other_bit c d = elim (cases_lt c 64) [
    | inl l ↦ same c l d
    | inr l ↦ bit_at_above others 64 c (omega (arith, fits, fewer)) l ∙ sym (bit_at_above left 64 c fits l)
  ]

  not_here : (c : ℕ) → bit_at others c ≡ 1 → c ≢ n
  not_here c b e = let z : bit_at others c ≡ 0 = ap (bit_at others) e ∙ cleared in omega arith

  pub same_but_fewer : AreSameBut (set x n value) y others
  same_but_fewer = record {
    columns = length-set x n value ∙ h.columns;
    within = λ c b. let there = h.within c (sym (other_bit c (not_here c b)) ∙ b) in omega (arith, there, length-set x n value);
    same = λ c b. elim (cases_eq c n) [
      | inl e ↦ ap (entry (set x n value)) e ∙ get_or-set_same x n value (pos 0) (h.within n set_there) ∙ is ∙ ap (entry y) (sym e)
      | inr d ↦ get_or-set_other x n c value (pos 0) d ∙ h.same c (sym (other_bit c d) ∙ b)
    ];
  }

-- ---- once no bit is left
pub same_at_last : (x y : List ℤ) (left : ℕ) → left ≡ 0 → AreSameBut x y left → x ≡ y
same_at_last x y left e h = same_vectors x y h.columns (λ c. h.same c (ap (λ n. bit_at n c) e ∙ bit_at-zero c))
