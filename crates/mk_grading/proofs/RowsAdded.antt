-- A row that is added to sums, one column after another.
use Rattle.std.proofs.Common.{◌≡◌, ◌≢◌, ℕ, ◌+◌, ◌<◌, ◌≤◌, ◌^◌, List, length, refl, ap, sym, ◌∙◌, arith, ℤ, pos, ◌+ℤ◌, ◌≤ℤ◌, length-set, get_or-set_same, get_or-set_other, below_more}
use Rattle.std.proofs.Math.ListN.{set}
use Rattle.std.proofs.lemmas.List.{ext_get_or}
use mir.Syntax.{w64}
use mir.Val.{SFits, to_z, of_z}
use Rattle.std.proofs.lemmas.Int.{ints, to_z-of_z, fits_signed_from_abs}
use Rattle.mk_model.specs.Vectors.{entry, add}
use Rattle.mk_model.specs.ChosenGradings.{IsSmallEntry}
use Rattle.mk_model.proofs.VectorAlgebra.{length-add, entry-add}
use Rattle.mk_move.proofs.Entries.{as_entry, abs_from_bounds}
use Rattle.mk_grading.proofs.SmallEntries.{small_read}

-- what the sums may be before a row is added
abbrev pub IsSumSoFar : ℤ → Type 0
IsSumSoFar k = (pos 0 ≤ℤ k) × (k ≤ℤ pos (2 ^ 62))

-- the row is added at the columns below i
pub record IsAdded (before row sums : List ℤ) (i : ℕ) : Type 0 where
  pub as_long : length sums ≡ length before
  pub done : (k : ℕ) → k < i → entry sums k ≡ entry before k +ℤ entry row k
  pub rest : (k : ℕ) → i ≤ k → entry sums k ≡ entry before k

pub none_added : (before row : List ℤ) → IsAdded before row before 0
none_added before row = record { as_long = refl; done = λ k l. absurd (omega arith); rest = λ k l. refl }

pub one_added : (before row sums : List ℤ) (i : ℕ) (z : ℤ) → i < length before → IsAdded before row sums i → z ≡ entry before i +ℤ entry row i → IsAdded before row (set sums i z) (i + 1)
one_added before row sums i z l h e =
    let lt : i < length sums = omega (arith, h.as_long) in
    record {
      as_long = length-set sums i z ∙ h.as_long;
      done = below_more (λ k. entry (set sums i z) k ≡ entry before k +ℤ entry row k) i
          (λ k m. let ne : k ≢ i = omega arith in get_or-set_other sums i k z (pos 0) ne ∙ h.done k m)
          (get_or-set_same sums i z (pos 0) lt ∙ e);
      rest = λ k m. let ne : k ≢ i = omega arith in get_or-set_other sums i k z (pos 0) ne ∙ h.rest k (omega arith);
    }

pub all_added : (before row sums : List ℤ) (n : ℕ) → length row ≡ length before → length before ≤ n → IsAdded before row sums n → sums ≡ add before row
all_added before row sums n same few h =
    ext_get_or (pos 0) sums (add before row) (omega (arith, h.as_long, length-add before row))
    (λ k l. h.done k (omega (arith, h.as_long)) ∙ sym (entry-add before row k))

-- what the code's sum of a column gives
pub sum_read : (x s a : ℤ) → IsSumSoFar x → IsSmallEntry a → s ≡ x → to_z w64 (of_z w64 (to_z w64 (of_z w64 s) +ℤ to_z w64 (of_z w64 (as_entry a)))) ≡ x +ℤ a
sum_read x s a h l e =
    let fits_x : SFits w64 x = fits_signed_from_abs w64 x (omega (arith, abs_from_bounds x (2 ^ 62) (omega (arith, ints, h.0)) h.1)) in
    let fits : SFits w64 (x +ℤ a) =
    fits_signed_from_abs w64 (x +ℤ a) (omega (arith, abs_from_bounds (x +ℤ a) (2 ^ 62 + 2147483647) (omega (arith, ints, h.0, l.0)) (omega (arith, ints, h.1, l.1)))) in
    ap (λ (z : ℤ). to_z w64 (of_z w64 (to_z w64 (of_z w64 z) +ℤ to_z w64 (of_z w64 (as_entry a))))) e
    ∙ ap (λ (z : ℤ). to_z w64 (of_z w64 (z +ℤ to_z w64 (of_z w64 (as_entry a))))) (to_z-of_z w64 x fits_x)
    ∙ ap (λ (z : ℤ). to_z w64 (of_z w64 (x +ℤ z))) (small_read a l)
    ∙ to_z-of_z w64 (x +ℤ a) fits
