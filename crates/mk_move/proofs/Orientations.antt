-- A row that is turned into its negative in place, and what a grading gives to a negative.
use Rattle.std.proofs.Common.{◌≡◌, ◌≢◌, inl, inr, ℕ, ◌+◌, ◌<◌, ◌≤◌, List, length, set, drop, refl, sym, ◌∙◌, ap, arith, ℤ, pos, neg_ℤ, ◌≤ℤ◌}
use Rattle.std.specs.List.{refill}
use Rattle.std.proofs.lemmas.Int.{ints, by_lt_z}
use Rattle.std.proofs.lemmas.Bool.{cases_eq}
use Rattle.std.proofs.lemmas.List.{ext_get_or, length-set, get_or-set_same, get_or-set_other, take_at}
use Rattle.mk_model.specs.Vectors.{entry, zeros, negate, weight, positive_part, negative_part}
use Rattle.mk_model.proofs.VectorAlgebra.{entry-negate, length-negate, weight-negate, weight-parts, positive_part-negate}
use Rattle.mk_model.specs.Orders.{first_along}
use Rattle.mk_move.specs.Moves.{Weighed, IsGraded, IsRowOriented}
use Rattle.mk_move.specs.Priorities.{IsPriority}
use Rattle.mk_move.proofs.Parts.{row_as_it_is, zero_row}

-- the entries so far are the negatives, and the others as they were
pub record IsTurnedUpTo (before row : List ℤ) (n : ℕ) : Type 0 where
  pub columns : length row ≡ length before
  pub turned : (c : ℕ) → c < n → entry row c ≡ neg_ℤ (entry before c)
  pub left : (c : ℕ) → n ≤ c → entry row c ≡ entry before c

pub turned_more : (before row : List ℤ) (n : ℕ) (value : ℤ) → n < length row → IsTurnedUpTo before row n → value ≡ neg_ℤ (entry before n) → IsTurnedUpTo before (set row n value) (n + 1)
turned_more before row n value l h e = record {
  columns = length-set row n value ∙ h.columns;
  turned = λ c k. at c k;
  left = λ c k. get_or-set_other row n c value (pos 0) (λ d. omega arith) ∙ h.left c (omega arith);
}
  where
    at : (c : ℕ) → c < n + 1 → entry (set row n value) c ≡ neg_ℤ (entry before c)
    at c k =
        elim (cases_eq c n) [
          | inl same ↦ ap (λ i. entry (set row n value) i) same ∙ get_or-set_same row n value (pos 0) l ∙ e ∙ ap (λ i. neg_ℤ (entry before i)) (sym same)
          | inr other ↦ get_or-set_other row n c value (pos 0) other ∙ h.turned c (omega arith)
        ]

pub turned_whole : (before row : List ℤ) (n : ℕ) → length before ≤ n → IsTurnedUpTo before row n → row ≡ negate before
turned_whole before row n l h =
    ext_get_or (pos 0) row (negate before) (h.columns ∙ sym (length-negate before))
    (λ c i. h.turned c (omega (arith, h.columns)) ∙ sym (entry-negate before c))

-- with product 0 both parts weigh the same
pub IsGraded-negate : (w : List ℤ) (m : Weighed) (entries : List ℤ) → entries ≡ negate m.entries → IsGraded w m → IsGraded w (record { entries = entries; weight = m.weight })
IsGraded-negate w m entries e h = record {
  product = ap (weight w) e ∙ weight-negate w m.entries ∙ ap neg_ℤ h.product;
  weight = h.weight ∙ same ∙ sym (ap (weight w) (ap positive_part e ∙ positive_part-negate m.entries));
}
  where
    same : weight w (positive_part m.entries) ≡ weight w (negative_part m.entries)
    same = omega (arith, ints, weight-parts w m.entries, h.product)

-- ---- orienting a row that isn't zero
pub already_oriented : (p : List ℕ) (x : List ℤ) (first : ℤ) → IsPriority p → length p ≡ length x → x ≢ zeros (length x) → first ≡ first_along p x → first ≤ℤ pos 0 → IsRowOriented x p x
already_oriented p x first list same some e h =
    by_lt_z first (pos 0) (λ l. row_as_it_is p x x first e l refl)
    (λ l. absurd (some (zero_row p x list same (sym e ∙ omega (arith, ints)))))

-- as many elements put in the place of others
pub refill_all : (xs ys : List ℤ) → length ys ≡ length xs → refill (length xs) xs ys ≡ ys
refill_all xs ys l = take_at ys (drop (length ys) xs) (length xs) l
