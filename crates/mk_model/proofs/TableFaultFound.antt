-- Each text is a table or has a fault.
use Rattle.std.proofs.Common.{◌≡◌, ◌⊎◌, ℕ, zero, suc, ◌+◌, ◌*◌, ◌<◌, ◌≤◌, Bool, true, false, List, [], ◌∷◌, ◌++◌, length, take, get_or, All}
use Rattle.std.proofs.Common.{ℤ, pos, neg_ℤ, ◌≤ℤ◌, inl, inr, refl, sym, ap, subst, ◌∙◌, length-append, append_assoc, arith}
use Rattle.std.specs.Char.{is_ascii_digit}
use Rattle.std.specs.Str.Parse.{digits_value}
use Rattle.std.specs.List.{AllZip, list_all}
use Rattle.std.proofs.lemmas.Bool.{cases_lt, cases_eq, false≢true}
use Rattle.std.proofs.lemmas.Int.{by_lt_z}
use Rattle.std.proofs.lemmas.List.{append-nil}
use Rattle.std.proofs.lemmas.List.Elements.{All-head, All-tail, All-nil, All-cons, All-push}
use Rattle.std.proofs.lemmas.List.Sums.{AllPass-from_list_all, list_all-from_AllPass}
use Rattle.mk_model.specs.Tables.{is_space, begins_with_space, with_first, tokens, AreDigits, IsCount, IsNumber, Grid, Limits, ReadsTable}
use Rattle.mk_model.specs.TableFaults.{CountUpTo, CountAbove, NoCount, EntryWithin, EntryBeyond, NoNumber, HasEntries, Fault, NoHeader}
use Rattle.mk_model.specs.TableFaults.{BadNumber, Rows, Columns, EntryRange, Missing, Trailing, IsTokenFault, IsEndFault, HasFault}
use Rattle.mk_model.proofs.TableFaultLaws.{same_length}
use Rattle.mk_model.proofs.TokenCuts.{tokens_by, tokens-cons}

-- ---- what a token writes
digits_or_not : (token : List ℕ) → AreDigits token ⊎ (AreDigits token → ⊥)
digits_or_not token = go (list_all is_ascii_digit token) refl (cases_lt 0 (length token))
  where
    go : (t : Bool) → list_all is_ascii_digit token ≡ t → (0 < length token) ⊎ (length token ≤ 0) → AreDigits token ⊎ (AreDigits token → ⊥)
    go true e (inl some) = inl (record { some = some; each = AllPass-from_list_all is_ascii_digit token e })
    go true e (inr none) = inr (λ are. omega (arith, are.some))
    go false e some = inr (λ are. false≢true (sym e ∙ list_all-from_AllPass is_ascii_digit token are.each))

-- the digits behind a sign
signed_or_not : (sign : ℕ) (token : List ℕ) → ((digits : List ℕ) × AreDigits digits × (token ≡ sign ∷ digits))
    ⊎ ((digits : List ℕ) → AreDigits digits → token ≡ sign ∷ digits → ⊥)
signed_or_not sign [] = inr (λ digits are e. let none : [] ≡ sign ∷ digits = e in cc)
signed_or_not sign (b ∷ token) = go (cases_eq b sign) (digits_or_not token)
  where
    go : (b ≡ sign) ⊎ (b ≡ sign → ⊥) → AreDigits token ⊎ (AreDigits token → ⊥) →
        ((digits : List ℕ) × AreDigits digits × (b ∷ token ≡ sign ∷ digits))
        ⊎ ((digits : List ℕ) → AreDigits digits → b ∷ token ≡ sign ∷ digits → ⊥)
    go (inl e) (inl are) = inl (token, are, ap (λ c. c ∷ token) e)
    go (inl e) (inr never) = inr (λ digits are same. never (let rest : digits ≡ token = cc in subst AreDigits rest are))
    go (inr differs) h = inr (λ digits are same. differs (let head : b ≡ sign = cc in head))

count_or_not : (token : List ℕ) → ((n : ℕ) × IsCount token n) ⊎ NoCount token
count_or_not token = go (digits_or_not token) (signed_or_not 43 token)
  where
    go : AreDigits token ⊎ (AreDigits token → ⊥) → ((digits : List ℕ) × AreDigits digits × (token ≡ 43 ∷ digits))
        ⊎ ((digits : List ℕ) → AreDigits digits → token ≡ 43 ∷ digits → ⊥) → ((n : ℕ) × IsCount token n) ⊎ NoCount token
    go (inl are) h = inl (digits_value 10 token, (token, are, refl, inl refl))
    go (inr never) (inl (digits, are, e)) = inl (digits_value 10 digits, (digits, are, refl, inr e))
    go (inr never) (inr none) = inr refuse
      where
        refuse : (n : ℕ) → IsCount token n → ⊥
        refuse n (ds, are, is, inl e) = never (subst AreDigits (sym e) are)
        refuse n (ds, are, is, inr e) = none ds are e

number_or_not : (token : List ℕ) → ((z : ℤ) × IsNumber token z) ⊎ NoNumber token
number_or_not token = go (count_or_not token) (signed_or_not 45 token)
  where
    go : ((n : ℕ) × IsCount token n) ⊎ NoCount token → ((digits : List ℕ) × AreDigits digits × (token ≡ 45 ∷ digits))
        ⊎ ((digits : List ℕ) → AreDigits digits → token ≡ 45 ∷ digits → ⊥) → ((z : ℤ) × IsNumber token z) ⊎ NoNumber token
    go (inl (n, count)) h = inl (pos n, inl (n, refl, count))
    go (inr never) (inl (digits, are, e)) = inl (neg_ℤ (pos (digits_value 10 digits)), inr (digits, are, refl, e))
    go (inr never) (inr none) = inr refuse
      where
        refuse : (z : ℤ) → IsNumber token z → ⊥
        refuse z (inl (n, is, count)) = never n count
        refuse z (inr (ds, are, is, e)) = none ds are e

-- a token where a count of at most so many belongs
count_fault : (most : ℕ) (token : List ℕ) → CountUpTo most token ⊎ (NoCount token ⊎ CountAbove most token)
count_fault most token = go (count_or_not token)
  where
    go : ((n : ℕ) × IsCount token n) ⊎ NoCount token → CountUpTo most token ⊎ (NoCount token ⊎ CountAbove most token)
    go (inr never) = inr (inl never)
    go (inl (n, count)) = elim (cases_lt most n) [ inl above ↦ inr (inr (n, count, above)) | inr upto ↦ inl (n, count, upto) ]

-- a token where an entry belongs
entry_fault : (limits : Limits) (token : List ℕ) → EntryWithin limits token ⊎ (NoNumber token ⊎ EntryBeyond limits token)
entry_fault limits token = go (number_or_not token)
  where
    go : ((z : ℤ) × IsNumber token z) ⊎ NoNumber token → EntryWithin limits token ⊎ (NoNumber token ⊎ EntryBeyond limits token)
    go (inr never) = inr (inl never)
    go (inl (z, number)) =
        by_lt_z z limits.least (λ low. inr (inr (z, number, inl low)))
        (λ least. by_lt_z limits.most z (λ high. inr (inr (z, number, inr high))) (λ most. inl (z, number, least, most)))

-- ---- where a token begins
tokens-by : (b : ℕ) (bytes : List ℕ) (white ends : Bool) → is_space b ≡ white → begins_with_space bytes ≡ ends →
    tokens (b ∷ bytes) ≡ tokens_by b bytes white ends
tokens-by b bytes white ends e d = tokens-cons b bytes ∙ ap (λ t. tokens_by b bytes t (begins_with_space bytes)) e
    ∙ ap (tokens_by b bytes white) d

begins-take : (k : ℕ) (bytes : List ℕ) → begins_with_space bytes ≡ true → begins_with_space (take k bytes) ≡ true
begins-take zero bytes h = refl
begins-take (suc k) [] h = refl
begins-take (suc k) (b ∷ bytes) h = h

goes-take : (k : ℕ) (bytes : List ℕ) → begins_with_space bytes ≡ false → begins_with_space (take (suc k) bytes) ≡ false
goes-take k [] h = h
goes-take k (b ∷ bytes) h = h

-- a byte that is not white has these tokens in front
Begins : List ℕ → List (List ℕ) → Type 0
Begins bytes front = (byte : ℕ) × (tokens (take byte bytes) ≡ front) × (is_space (get_or bytes byte 0) ≡ false)

begins_by : (b : ℕ) (bytes : List ℕ) (token : List ℕ) (rest : List (List ℕ)) →
    ((front : List (List ℕ)) → tokens bytes ≡ front ++ token ∷ rest → Begins bytes front) → (white ends : Bool) → is_space b ≡ white →
    begins_with_space bytes ≡ ends → (words front : List (List ℕ)) → tokens bytes ≡ words → tokens (b ∷ bytes) ≡ front ++ token ∷ rest →
    Begins (b ∷ bytes) front
unfolding tokens tokens_by Begins
begins_by b bytes token rest behind true ends e d words front is whole =
    let at = behind front (sym (tokens-by b bytes true ends e d) ∙ whole) in
    (suc at.0, tokens-by b (take at.0 bytes) true (begins_with_space (take at.0 bytes)) e refl ∙ at.1, at.2)
begins_by b bytes token rest behind false ends e d words [] is whole = (0, refl, e)
begins_by b bytes token rest behind false true e d words (t ∷ front) is whole =
    let same : (b ∷ []) ∷ tokens bytes ≡ t ∷ (front ++ token ∷ rest) = sym (tokens-by b bytes false true e d) ∙ whole in
    let first : b ∷ [] ≡ t = cc in
    let others : tokens bytes ≡ front ++ token ∷ rest = cc in
    let at = behind front others in (
      suc at.0,
      tokens-by b (take at.0 bytes) false true e (begins-take at.0 bytes d) ∙ ap (λ ts. (b ∷ []) ∷ ts) at.1
          ∙ ap (λ w. w ∷ front) first,
      at.2,
    )
begins_by b bytes token rest behind false false e d [] (t ∷ front) is whole =
    let same : (b ∷ []) ∷ [] ≡ t ∷ (front ++ token ∷ rest) = ap (with_first b) (sym is) ∙ sym (tokens-by b bytes false false e d) ∙ whole in
    absurd (omega (arith, ap length same, length-append front (token ∷ rest)))
begins_by b bytes token rest behind false false e d (w ∷ words) (t ∷ front) is whole =
    let same : (b ∷ w) ∷ words ≡ t ∷ (front ++ token ∷ rest) = ap (with_first b) (sym is) ∙ sym (tokens-by b bytes false false e d)
    ∙ whole in
    let first : b ∷ w ≡ t = cc in
    let others : words ≡ front ++ token ∷ rest = cc in
    go first (behind (w ∷ front) (is ∙ ap (λ ts. w ∷ ts) others))
  where
    go : b ∷ w ≡ t → Begins bytes (w ∷ front) → Begins (b ∷ bytes) (t ∷ front)
    go first (zero, in_front, begins) = let none : [] ≡ w ∷ front = in_front in cc
    go first (suc k, in_front, begins) = (
      suc (suc k),
      tokens-by b (take (suc k) bytes) false false e (goes-take k bytes d) ∙ ap (with_first b) in_front
          ∙ ap (λ v. v ∷ front) first,
      begins,
    )

token_begins : (bytes : List ℕ) (token : List ℕ) (rest front : List (List ℕ)) → tokens bytes ≡ front ++ token ∷ rest → Begins bytes front
unfolding tokens
token_begins [] token rest front e = absurd (omega (arith, ap length e, length-append front (token ∷ rest)))
token_begins (b ∷ bytes) token rest front e =
    begins_by b bytes token rest (λ fr. token_begins bytes token rest fr) (is_space b) (begins_with_space bytes) refl refl
    (tokens bytes) front refl e

-- ---- a text's tokens in turn
module _ (bytes : List ℕ) (limits : Limits) where
  Decided : Type 0
  Decided = ((grid : Grid) × ReadsTable bytes limits grid) ⊎ ((fault : Fault) × (byte : ℕ) × HasFault bytes limits fault byte)

  at_token : (fault : Fault) (front : List (List ℕ)) (token : List ℕ) (rest : List (List ℕ)) → tokens bytes ≡ front ++ token ∷ rest →
      IsTokenFault limits front token fault → Decided
  unfolding Decided Begins
  at_token fault front token rest e is =
      let at = token_begins bytes token rest front e in
      inr (fault, at.0, inl (front, token, record { rest = rest; whole = e; in_front = at.1; begins = at.2 }, is))

  at_end : (fault : Fault) → IsEndFault limits (tokens bytes) fault → Decided
  unfolding Decided
  at_end fault is = inr (fault, length bytes, inr (refl, is))

  unzip : (words : List (List ℕ)) → All (EntryWithin limits) words → (entries : List ℤ) × AllZip IsNumber words entries
      × All (λ z. (limits.least ≤ℤ z) × (z ≤ℤ limits.most)) entries
  unzip [] within = ([], tt, All-nil (λ z. (limits.least ≤ℤ z) × (z ≤ℤ limits.most)))
  unzip (word ∷ words) within =
      let first = All-head (EntryWithin limits) word words within in
      let rest = unzip words (All-tail (EntryWithin limits) word words within) in (
        first.0 ∷ rest.0,
        (first.1, rest.1),
        All-cons (λ z. (limits.least ≤ℤ z) × (z ≤ℤ limits.most)) first.0 rest.0
            (first.2, first.3) rest.2,
      )

  -- all entries that are wanted
  a_table : (count : ℕ) → HasEntries limits count count (tokens bytes) → Decided
  unfolding Decided
  a_table count has =
      let pairs = unzip has.entry_tokens has.entries_within in
      inl (
        record { rows = has.rows; columns = has.columns; entries = pairs.0 },
        record {
          rows_token = has.rows_token;
          columns_token = has.columns_token;
          entry_tokens = has.entry_tokens;
          whole = has.whole;
          rows = has.rows_count;
          columns = has.columns_count;
          entries = pairs.1;
          filled = same_length has.entry_tokens pairs.0 pairs.1 ∙ sym has.found_is ∙ has.wanted_is;
          rows_within = has.rows_within;
          columns_within = has.columns_within;
          entries_within = pairs.2;
        },
      )

  one_entry : (found wanted : ℕ) (front : List (List ℕ)) (word : List ℕ) → HasEntries limits found wanted front → EntryWithin limits word →
      HasEntries limits (found + 1) wanted (front ++ word ∷ [])
  one_entry found wanted front word has within = record {
    rows_token = has.rows_token;
    columns_token = has.columns_token;
    entry_tokens = has.entry_tokens ++ word ∷ [];
    whole = ap (λ ts. ts ++ word ∷ []) has.whole;
    rows = has.rows;
    columns = has.columns;
    rows_count = has.rows_count;
    columns_count = has.columns_count;
    rows_within = has.rows_within;
    columns_within = has.columns_within;
    entries_within = All-push (EntryWithin limits) has.entry_tokens word has.entries_within within;
    found_is = ap (λ n. n + 1) has.found_is ∙ sym (length-append has.entry_tokens (word ∷ []));
    wanted_is = has.wanted_is;
  }

  from_entries : (left front : List (List ℕ)) (found wanted : ℕ) → tokens bytes ≡ front ++ left → HasEntries limits found wanted front →
      found ≤ wanted → Decided
  from_entries [] front found wanted e has few = elim (cases_lt found wanted) [
    | inl less ↦ at_end (Missing found wanted) (subst (HasEntries limits found wanted) (sym (e ∙ append-nil front)) has, less)
    | inr all ↦
        let same : wanted ≡ found = omega arith in
        let full : HasEntries limits found found front = subst (λ (n : ℕ). HasEntries limits found n front) same has in
        a_table found (subst (HasEntries limits found found) (sym (e ∙ append-nil front)) full)
  ]
  from_entries (word ∷ left) front found wanted e has few =
      go (cases_lt found wanted) (entry_fault limits word) (λ within less. from_entries left (front ++ word ∷ []) (found + 1) wanted
      (e ∙ sym (append_assoc front (word ∷ []) left)) (one_entry found wanted front word has within) (omega arith))
    where
      go : (found < wanted) ⊎ (wanted ≤ found) → EntryWithin limits word ⊎ (NoNumber word ⊎ EntryBeyond limits word) →
          (EntryWithin limits word → found < wanted → Decided) → Decided
      go (inr all) h on =
          let same : wanted ≡ found = omega arith in
          at_token Trailing front word left e (found, subst (λ (n : ℕ). HasEntries limits found n front) same has)
      go (inl less) (inl within) on = on within less
      go (inl less) (inr (inl never)) on = at_token BadNumber front word left e (inr ((found, wanted, has, less), never))
      go (inl less) (inr (inr out)) on = at_token EntryRange front word left e ((found, wanted, has, less), out)

  from_columns : (first : List ℕ) (left : List (List ℕ)) → tokens bytes ≡ first ∷ left → CountUpTo limits.rows first → Decided
  from_columns first [] e rows =
      at_end (NoHeader 1) (inr (first, e, rows), sym (ap length e))
  from_columns first (word ∷ left) e (r, rows, few_rows) = go (count_fault limits.columns word)
    where
      go : CountUpTo limits.columns word ⊎ (NoCount word ⊎ CountAbove limits.columns word) → Decided
      go (inr (inl never)) = at_token BadNumber (first ∷ []) word left e (inl (inr (first, refl, (r, rows, few_rows)), never))
      go (inr (inr many)) = at_token Columns (first ∷ []) word left e ((first, refl, (r, rows, few_rows)), many)
      go (inl (c, columns, few_columns)) = from_entries left (first ∷ word ∷ []) 0 (r * c) e (record {
        rows_token = first;
        columns_token = word;
        entry_tokens = [];
        whole = refl;
        rows = r;
        columns = c;
        rows_count = rows;
        columns_count = columns;
        rows_within = few_rows;
        columns_within = few_columns;
        entries_within = All-nil (EntryWithin limits);
        found_is = refl;
        wanted_is = refl;
      }) (omega arith)

  from_rows : (words : List (List ℕ)) → tokens bytes ≡ words → Decided
  from_rows [] e = at_end (NoHeader 0) (inl e, sym (ap length e))
  from_rows (word ∷ left) e = go (count_fault limits.rows word)
    where
      go : CountUpTo limits.rows word ⊎ (NoCount word ⊎ CountAbove limits.rows word) → Decided
      go (inl few) = from_columns word left e few
      go (inr (inl never)) = at_token BadNumber [] word left e (inl (inl refl, never))
      go (inr (inr many)) = at_token Rows [] word left e (refl, many)

  pub table_or_fault : ((grid : Grid) × ReadsTable bytes limits grid) ⊎ ((fault : Fault) × (byte : ℕ) × HasFault bytes limits fault byte)
  unfolding Decided
  table_or_fault = from_rows (tokens bytes) refl
