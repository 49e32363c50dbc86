-- Texts with their faults.
use Rattle.std.proofs.Common.{◌≡◌, inl, inr, ℕ, List, [], ◌∷◌, ◌++◌, length, codes, ◌<◌, pos, neg_ℤ, true, arith, refl}
use Rattle.std.specs.List.{list_all}
use Rattle.std.specs.Char.{is_ascii_digit}
use Rattle.std.proofs.lemmas.Int.{ints}
use Rattle.std.proofs.lemmas.List.Elements.{All-nil, All-cons}
use Rattle.std.proofs.lemmas.List.Sums.{AllPass-from_list_all}
use Rattle.mk_model.specs.Tables.{tokens, AreDigits, IsCount, IsNumber, Limits}
use Rattle.mk_model.specs.TableFaults.{EntryWithin, HasRows, HasEntries, NoHeader, BadNumber, Rows, Columns, EntryRange, Missing, Trailing, HasFault}
use Rattle.mk_examples.specs.Worked.{digit_limits}
use Rattle.mk_model.proofs.TokenNumbers.{minus_no_count}

digits : (token : List ℕ) → 0 < length token → list_all is_ascii_digit token ≡ true → AreDigits token
digits token l e = record { some = l; each = AllPass-from_list_all is_ascii_digit token e }

nought : IsCount (codes "0") 0
nought = (codes "0", digits (codes "0") (omega arith) refl, refl, inl refl)

one : IsCount (codes "1") 1
one = (codes "1", digits (codes "1") (omega arith) refl, refl, inl refl)

two : IsCount (codes "2") 2
two = (codes "2", digits (codes "2") (omega arith) refl, refl, inl refl)

three : IsCount (codes "3") 3
three = (codes "3", digits (codes "3") (omega arith) refl, refl, inl refl)

five : EntryWithin digit_limits (codes "5")
five = (pos 5, inl (5, refl, (codes "5", digits (codes "5") (omega arith) refl, refl, inl refl)), omega (arith, ints), omega (arith, ints))

minus_one : IsNumber (codes "-1") (neg_ℤ (pos 1))
minus_one = inr (codes "1", digits (codes "1") (omega arith) refl, refl, refl)

one_row : HasRows digit_limits (codes "1" ∷ [])
one_row = (codes "1", refl, (1, one, omega arith))

-- a row of two columns, with one entry
found_one : HasEntries digit_limits 1 2 (codes "1" ∷ codes "2" ∷ codes "5" ∷ [])
found_one = record {
  rows_token = codes "1";
  columns_token = codes "2";
  entry_tokens = codes "5" ∷ [];
  whole = refl;
  rows = 1;
  columns = 2;
  rows_count = one;
  columns_count = two;
  rows_within = omega arith;
  columns_within = omega arith;
  entries_within = All-cons (EntryWithin digit_limits) (codes "5") [] five (All-nil (EntryWithin digit_limits));
  found_is = refl;
  wanted_is = refl;
}

no_rows : HasEntries digit_limits 0 0 (codes "0" ∷ codes "2" ∷ [])
no_rows = record {
  rows_token = codes "0";
  columns_token = codes "2";
  entry_tokens = [];
  whole = refl;
  rows = 0;
  columns = 2;
  rows_count = nought;
  columns_count = two;
  rows_within = omega arith;
  columns_within = omega arith;
  entries_within = All-nil (EntryWithin digit_limits);
  found_is = refl;
  wanted_is = refl;
}

pub nothing : (any : Limits) → HasFault [] any (NoHeader 0) 0
unfolding tokens
nothing any = inr (refl, (inl refl, refl))

pub minus : (any : Limits) → HasFault (codes "-1 2") any BadNumber 0
unfolding tokens
minus any = inl (
  [],
  codes "-1",
  record { rest = codes "2" ∷ []; whole = refl; in_front = refl; begins = refl },
  inl (inl refl, λ n. minus_no_count (codes "1") n),
)

pub two_rows : HasFault (codes "2 0") digit_limits Rows 0
unfolding tokens
two_rows = inl (
  [],
  codes "2",
  record { rest = codes "0" ∷ []; whole = refl; in_front = refl; begins = refl },
  (refl, (2, two, omega arith)),
)

pub three_columns : HasFault (codes "1 3") digit_limits Columns 2
unfolding tokens
three_columns = inl (
  codes "1" ∷ [],
  codes "3",
  record { rest = []; whole = refl; in_front = refl; begins = refl },
  (one_row, (3, three, omega arith)),
)

pub too_small : HasFault (codes "1 2" ++ 10 ∷ codes "5 -1") digit_limits EntryRange 6
unfolding tokens
too_small = inl (
  codes "1" ∷ codes "2" ∷ codes "5" ∷ [],
  codes "-1",
  record { rest = []; whole = refl; in_front = refl; begins = refl },
  ((1, 2, found_one, omega arith), (neg_ℤ (pos 1), minus_one, inl (omega (arith, ints)))),
)

pub one_missing : HasFault (codes "1 2" ++ 10 ∷ codes "5" ++ 10 ∷ []) digit_limits (Missing 1 2) 6
unfolding tokens
one_missing = inr (refl, (found_one, omega arith))

pub one_more : HasFault (codes "0 2" ++ 10 ∷ codes "x") digit_limits Trailing 4
unfolding tokens
one_more = inl (codes "0" ∷ codes "2" ∷ [], codes "x", record { rest = []; whole = refl; in_front = refl; begins = refl }, (0, no_rows))
