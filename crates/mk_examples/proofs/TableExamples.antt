-- A text with its tokens and its table, and texts without a table.
use Rattle.std.proofs.Common.{◌≡◌, inl, inr, ℕ, List, [], ◌∷◌, length, get_or, codes, ◌<◌, All, ℤ, pos, negsuc, ◌≤ℤ◌, true, arith, ap, refl, sym, subst}
use Rattle.std.specs.List.{list_all, AllPass}
use Rattle.std.specs.Char.{is_ascii_digit}
use Rattle.std.proofs.lemmas.List.Sums.{AllPass-from_list_all}
use Rattle.std.proofs.lemmas.List.Elements.{All-nil, All-cons, All-head}
use Rattle.mk_examples.specs.Worked.{square_text, wide_limits, square_table}
use Rattle.mk_model.specs.Tables.{tokens, AreDigits, IsCount, IsNumber, Grid, Limits, ReadsTable}

abbrev IsWithin : ℤ → Type 0
IsWithin z = (wide_limits.least ≤ℤ z) × (z ≤ℤ wide_limits.most)

pub split : tokens square_text ≡ codes "+2" ∷ codes "2" ∷ codes "01" ∷ codes "-1" ∷ codes "0" ∷ codes "0" ∷ []
unfolding tokens
split = refl

pub digits : (token : List ℕ) → 0 < length token → list_all is_ascii_digit token ≡ true → AreDigits token
digits token l e = record { some = l; each = AllPass-from_list_all is_ascii_digit token e }

two_plus : IsCount (codes "+2") 2
two_plus = (codes "2", digits (codes "2") (omega arith) refl, refl, inr refl)

two : IsCount (codes "2") 2
two = (codes "2", digits (codes "2") (omega arith) refl, refl, inl refl)

one : IsNumber (codes "01") (pos 1)
one = inl (1, refl, (codes "01", digits (codes "01") (omega arith) refl, refl, inl refl))

minus_one : IsNumber (codes "-1") (negsuc 0)
minus_one = inr (codes "1", digits (codes "1") (omega arith) refl, refl, refl)

nought : IsNumber (codes "0") (pos 0)
nought = inl (0, refl, (codes "0", digits (codes "0") (omega arith) refl, refl, inl refl))

four_within : All IsWithin square_table.entries
four_within =
    All-cons IsWithin (pos 1) (negsuc 0 ∷ pos 0 ∷ pos 0 ∷ []) (record { le = tt }, record { le = tt })
    (All-cons IsWithin (negsuc 0) (pos 0 ∷ pos 0 ∷ []) (record { le = tt }, record { le = tt })
    (All-cons IsWithin (pos 0) (pos 0 ∷ []) (record { le = tt }, record { le = tt })
    (All-cons IsWithin (pos 0) [] (record { le = tt }, record { le = tt }) (All-nil IsWithin))))

pub table : ReadsTable square_text wide_limits square_table
table = record {
  rows_token = codes "+2";
  columns_token = codes "2";
  entry_tokens = codes "01" ∷ codes "-1" ∷ codes "0" ∷ codes "0" ∷ [];
  whole = split;
  rows = two_plus;
  columns = two;
  entries = (one, (minus_one, (nought, (nought, tt))));
  filled = refl;
  rows_within = omega arith;
  columns_within = omega arith;
  entries_within = four_within;
}

pub nothing : (limits : Limits) (grid : Grid) → ¬ (ReadsTable [] limits grid)
unfolding tokens
nothing limits grid r = let e : [] ≡ r.rows_token ∷ r.columns_token ∷ r.entry_tokens = r.whole in cc

not_both : (b : ℕ) → b ≡ 45 → b ≡ 43 → ⊥
not_both b h k = omega arith

-- a count does not begin with a minus
no_count : (n : ℕ) → IsCount (codes "-1") n → ⊥
no_count n (ds, d, v, inl e) = let h : is_ascii_digit 45 ≡ true = All-head (λ b. is_ascii_digit b ≡ true) 45 (49 ∷ [])
    (subst (AllPass is_ascii_digit) (sym e) d.each) in cc
no_count n (ds, d, v, inr e) = not_both 45 refl (ap (λ (token : List ℕ). get_or token 0 0) e)

pub minus : (limits : Limits) (grid : Grid) → ¬ (ReadsTable (codes "-1 2") limits grid)
unfolding tokens
minus limits grid r =
    let e : codes "-1" ∷ codes "2" ∷ [] ≡ r.rows_token ∷ r.columns_token ∷ r.entry_tokens = r.whole in
    let h : r.rows_token ≡ codes "-1" = cc in
    no_count grid.rows (subst (λ token. IsCount token grid.rows) h r.rows)
