-- The sum of the rows without a negative entry, one row after another.
use Rattle.std.proofs.Common.{◌≡◌, ℕ, ◌+◌, ◌*◌, ◌<◌, ◌≤◌, ◌&&◌, Bool, true, false, not, cond, List, [], ◌∷◌, ◌++◌, length, take, slice_get, Some, All, refl, ap, sym, ◌∙◌, subst, arith, ℤ, pos, ◌+ℤ◌, ◌≤ℤ◌}
use Rattle.std.specs.List.{list_all}
use Rattle.std.specs.Int.{is_negative}
use Rattle.std.proofs.lemmas.Int.{ints}
use Rattle.std.proofs.lemmas.List.{append-nil}
use Rattle.std.proofs.lemmas.List.Elements.{All-nil, All-cons, All-replicate, All-weaker, All-get_or, All-from_get_or, filter_more}
use Rattle.std.proofs.lemmas.Option.{slice_get_within, get_or_from_slice_get}
use Rattle.mk_model.specs.Vectors.{entry, zeros, add}
use Rattle.mk_model.specs.Tables.{Grid, rows_of}
use Rattle.mk_model.specs.ChosenGradings.{IsSmallEntry, nonnegative_rows, sum_of_rows}
use Rattle.mk_model.proofs.VectorAlgebra.{length-add, length-zeros, entry-add, add_comm, add_assoc}
use Rattle.mk_grading.proofs.RowsAdded.{IsSumSoFar}

-- has a row no negative entry
abbrev pub is_nonnegative : List ℤ → Bool
is_nonnegative row = list_all (λ a. not (is_negative a)) row

not_negative : (a : ℤ) → not (is_negative a) ≡ true → pos 0 ≤ℤ a
not_negative a h = grind (arith, ints)

-- a first entry that isn't negative, and others
first_entry : (b : Bool) (a : ℤ) (row : List ℤ) → not (is_negative a) ≡ b → (b && is_nonnegative row) ≡ true → (is_nonnegative row ≡ true → All (λ a. pos 0 ≤ℤ a) row) → All (λ a. pos 0 ≤ℤ a) (a ∷ row)
first_entry true a row e h rest = All-cons (λ a. pos 0 ≤ℤ a) a row (not_negative a e) (rest h)
first_entry false a row e h rest = absurd (cc)

nonnegative_entries : (row : List ℤ) → is_nonnegative row ≡ true → All (λ a. pos 0 ≤ℤ a) row
nonnegative_entries [] h = All-nil (λ a. pos 0 ≤ℤ a)
nonnegative_entries (a ∷ row) h = first_entry (not (is_negative a)) a row refl h (λ k. nonnegative_entries row k)

-- one row more at the end of those that are added up
sum_of_rows-push : (n : ℕ) (rows : List (List ℤ)) (row : List ℤ) → sum_of_rows n (rows ++ row ∷ []) ≡ add (sum_of_rows n rows) row
unfolding sum_of_rows
sum_of_rows-push n [] row = add_comm row (zeros n)
sum_of_rows-push n (x ∷ rows) row = ap (add x) (sum_of_rows-push n rows row) ∙ sym (add_assoc x (sum_of_rows n rows) row)

-- what an entry of the sum of so many rows may be
abbrev pub IsSumOf : ℕ → ℤ → Type 0
IsSumOf r k = (pos 0 ≤ℤ k) × (k ≤ℤ pos (r * 2147483647))

-- the sum of those of the first r rows that have no negative entry
pub record IsSumUpTo (grid : Grid) (sums : List ℤ) (r : ℕ) : Type 0 where
  pub value : sums ≡ sum_of_rows grid.columns (nonnegative_rows (take r (rows_of grid)))
  pub as_long : length sums ≡ grid.columns
  pub bounds : All (IsSumOf r) sums

pub none_summed : (grid : Grid) → IsSumUpTo grid (zeros grid.columns) 0
unfolding sum_of_rows
none_summed grid = record {
  value = refl;
  as_long = length-zeros grid.columns;
  bounds = All-replicate (IsSumOf 0) grid.columns (pos 0) (omega (arith, ints), omega (arith, ints));
}

module _ (grid : Grid) (sums : List ℤ) (r : ℕ) (h : IsSumUpTo grid sums r) (row : List ℤ) (at : slice_get (rows_of grid) r ≡ Some row) where
  one_more : (b : Bool) → is_nonnegative row ≡ b → nonnegative_rows (take (r + 1) (rows_of grid)) ≡ nonnegative_rows (take r (rows_of grid)) ++ cond b (row ∷ []) []
  one_more b e =
      filter_more is_nonnegative (rows_of grid) r row (slice_get_within (rows_of grid) r row at)
      ∙ ap (λ x. nonnegative_rows (take r (rows_of grid)) ++ cond (is_nonnegative x) (x ∷ []) []) (get_or_from_slice_get (rows_of grid) r row row at)
      ∙ ap (λ z. nonnegative_rows (take r (rows_of grid)) ++ cond z (row ∷ []) []) e

  pub row_left : is_nonnegative row ≡ false → IsSumUpTo grid sums (r + 1)
  row_left e = record {
    value = h.value ∙ ap (sum_of_rows grid.columns) (sym (one_more false e ∙ append-nil (nonnegative_rows (take r (rows_of grid)))));
    as_long = h.as_long;
    bounds = All-weaker (IsSumOf r) (IsSumOf (r + 1)) (λ k b. (b.0, omega (arith, ints, b.1))) sums h.bounds;
  }

  pub row_added : is_nonnegative row ≡ true → All IsSmallEntry row → length row ≡ grid.columns → IsSumUpTo grid (add sums row) (r + 1)
  row_added e small columns = record {
    value = ap (λ x. add x row) h.value ∙ sym (sum_of_rows-push grid.columns (nonnegative_rows (take r (rows_of grid))) row) ∙ ap (sum_of_rows grid.columns) (sym (one_more true e));
    as_long = omega (arith, length-add sums row, h.as_long);
    bounds = All-from_get_or (IsSumOf (r + 1)) (add sums row) (pos 0) (λ c l. subst (IsSumOf (r + 1)) (sym (entry-add sums row c)) (sum_bounds c (omega (arith, l, length-add sums row, h.as_long))));
  }
    where
      sum_bounds : (c : ℕ) → c < grid.columns → IsSumOf (r + 1) (entry sums c +ℤ entry row c)
      sum_bounds c l =
          let b = All-get_or (IsSumOf r) sums c (pos 0) (omega (arith, h.as_long)) h.bounds in
          let s = All-get_or IsSmallEntry row c (pos 0) (omega arith) small in
          let n = All-get_or (λ a. pos 0 ≤ℤ a) row c (pos 0) (omega arith) (nonnegative_entries row e) in
          (omega (arith, ints, b.0, n), omega (arith, ints, b.1, s.1))

-- so many rows at most leave room for one more
pub sums_small : (grid : Grid) (sums : List ℤ) (r : ℕ) → r ≤ 4096 → IsSumUpTo grid sums r → All IsSumSoFar sums
sums_small grid sums r few h = All-weaker (IsSumOf r) IsSumSoFar (λ k b. (b.0, omega (arith, ints, b.1))) sums h.bounds
