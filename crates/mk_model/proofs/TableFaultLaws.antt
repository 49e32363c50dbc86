-- A text has one table at most, or one fault at one byte, and never both.
use Rattle.std.proofs.Common.{◌≡◌, ◌⊎◌, ℕ, suc, ◌+◌, ◌*◌, ◌<◌, ◌≤◌, List, [], ◌∷◌, ◌++◌, length, All, ℤ, ◌≤ℤ◌, inl, inr, refl, sym, ap}
use Rattle.std.proofs.Common.{subst, ◌∙◌, length-append, arith}
use Rattle.std.specs.List.{AllZip}
use Rattle.std.proofs.lemmas.Int.{ints}
use Rattle.std.proofs.lemmas.List.{append-nil}
use Rattle.std.proofs.lemmas.List.Elements.{All-head, All-tail, All-nil, All-cons}
use Rattle.mk_model.specs.Tables.{tokens, IsCount, IsNumber, Grid, Limits, ReadsTable}
use Rattle.mk_model.specs.TableFaults.{TokenAt, CountUpTo, CountAbove, NoCount, EntryWithin, EntryBeyond, NoNumber, HasRows, HasEntries}
use Rattle.mk_model.specs.TableFaults.{WantsCount, WantsEntry, WantsNothing, Fault, NoHeader, BadNumber, Rows, Columns, EntryRange, Missing}
use Rattle.mk_model.specs.TableFaults.{Trailing, IsTokenFault, IsEndFault, HasFault}
use Rattle.mk_model.proofs.TokenNumbers.{IsCount-same, IsNumber-same}
use Rattle.mk_model.proofs.TokenPlaces.{same_byte}

-- ---- the tokens of a table, as far as they go
-- these tokens may stand in front: none, a number of rows, or a header with no more entries than are wanted
IsFront : Limits → List (List ℕ) → Type 0
IsFront limits front = WantsCount limits front ⊎ ((found wanted : ℕ) × HasEntries limits found wanted front × (found ≤ wanted))

count_at : (most : ℕ) (token other : List ℕ) → token ≡ other → CountUpTo most token → CountUpTo most other
count_at most token other e count = subst (λ (t : List ℕ). CountUpTo most t) e count

All-middle : {X : Type 0} (P : X → Type 0) (xs : List X) (x : X) (ys : List X) → All P (xs ++ x ∷ ys) → P x
All-middle P [] x ys all = All-head P x ys all
All-middle P (a ∷ xs) x ys all = All-middle P xs x ys (All-tail P a (xs ++ x ∷ ys) all)

-- a token that belongs behind none is a number of rows
next_rows : (limits : Limits) (token : List ℕ) (more : List (List ℕ)) → IsFront limits (token ∷ more) → CountUpTo limits.rows token
unfolding IsFront
next_rows limits token more (inl (inl e)) = cc
next_rows limits token more (inl (inr (t, e, count))) = let same : t ≡ token = cc in count_at limits.rows t token same count
next_rows limits token more (inr (found, wanted, h, le)) =
    let whole : token ∷ more ≡ h.rows_token ∷ h.columns_token ∷ h.entry_tokens = h.whole in
    let same : h.rows_token ≡ token = cc in
    count_at limits.rows h.rows_token token same (h.rows, h.rows_count, h.rows_within)

-- a token that belongs behind one is a number of columns
next_columns : (limits : Limits) (first token : List ℕ) (more : List (List ℕ)) → IsFront limits (first ∷ token ∷ more) →
    CountUpTo limits.columns token
unfolding IsFront
next_columns limits first token more (inl (inl e)) = cc
next_columns limits first token more (inl (inr (t, e, count))) = cc
next_columns limits first token more (inr (found, wanted, h, le)) =
    let whole : first ∷ token ∷ more ≡ h.rows_token ∷ h.columns_token ∷ h.entry_tokens = h.whole in
    let same : h.columns_token ≡ token = cc in
    count_at limits.columns h.columns_token token same (h.columns, h.columns_count, h.columns_within)

-- tokens have so many entries of so many in one way
record SameCounts (limits : Limits) (f w f' w' : ℕ) (more : ℕ) : Type 0 where
  found : f' ≡ f + more
  wanted : w ≡ w'

counts : (limits : Limits) (f w f' w' : ℕ) (front others : List (List ℕ)) (h : HasEntries limits f w front)
    (k : HasEntries limits f' w' others) → (more : List (List ℕ)) → others ≡ front ++ more → (k.entry_tokens ≡ h.entry_tokens ++ more)
    × SameCounts limits f w f' w' (length more)
counts limits f w f' w' front others h k more e =
    let whole : k.rows_token ∷ k.columns_token ∷ k.entry_tokens ≡ h.rows_token ∷ h.columns_token ∷ (h.entry_tokens ++ more) =
    sym k.whole ∙ e ∙ ap (λ fr. fr ++ more) h.whole in
    let rows_token : k.rows_token ≡ h.rows_token = cc in
    let columns_token : k.columns_token ≡ h.columns_token = cc in
    let entries : k.entry_tokens ≡ h.entry_tokens ++ more = cc in
    let rows : h.rows ≡ k.rows = IsCount-same h.rows_token h.rows k.rows h.rows_count
    (subst (λ (t : List ℕ). IsCount t k.rows) rows_token k.rows_count) in
    let columns : h.columns ≡ k.columns = IsCount-same h.columns_token h.columns k.columns h.columns_count
    (subst (λ (t : List ℕ). IsCount t k.columns) columns_token k.columns_count) in (
      entries,
      record {
        found = k.found_is ∙ ap length entries ∙ length-append h.entry_tokens more ∙ ap (λ n. n + length more) (sym h.found_is);
        wanted = h.wanted_is ∙ ap (λ n. n * h.columns) rows ∙ ap (λ n. k.rows * n) columns ∙ sym k.wanted_is;
      },
    )

-- a token that belongs behind a header and entries is an entry, and one more was wanted
next_entry : (limits : Limits) (f w : ℕ) (front : List (List ℕ)) (token : List ℕ) (more : List (List ℕ)) → HasEntries limits f w front →
    IsFront limits (front ++ token ∷ more) → EntryWithin limits token × (f < w)
unfolding IsFront
next_entry limits f w front token more h (inl (inl e)) =
    let none : h.rows_token ∷ h.columns_token ∷ (h.entry_tokens ++ token ∷ more) ≡ [] = ap (λ fr. fr ++ token ∷ more) (sym h.whole) ∙ e in
    cc
next_entry limits f w front token more h (inl (inr (t, e, count))) =
    let one : h.rows_token ∷ h.columns_token ∷ (h.entry_tokens ++ token ∷ more) ≡ t ∷ [] = ap (λ fr. fr ++ token ∷ more) (sym h.whole)
    ∙ e in
    cc
next_entry limits f w front token more h (inr (f', w', k, le)) =
    let same = counts limits f w f' w' front (front ++ token ∷ more) h k (token ∷ more) refl in
    let within : All (EntryWithin limits) (h.entry_tokens ++ token ∷ more) = subst
    (λ (ts : List (List ℕ)). All (EntryWithin limits) ts) same.0 k.entries_within in
    (All-middle (EntryWithin limits) h.entry_tokens token more within, omega (arith, same.1.found, same.1.wanted))

-- ---- the fault of a token
-- a token at fault belongs to no table behind those in front
at_fault : (limits : Limits) (front : List (List ℕ)) (token : List ℕ) (more : List (List ℕ)) (fault : Fault) →
    IsTokenFault limits front token fault → IsFront limits (front ++ token ∷ more) → ⊥
at_fault limits front token more fault is belongs = go fault is
  where
    to_rows : front ≡ [] → CountUpTo limits.rows token
    to_rows e = next_rows limits token more (subst (λ (fr : List (List ℕ)). IsFront limits (fr ++ token ∷ more)) e belongs)

    to_columns : HasRows limits front → CountUpTo limits.columns token
    to_columns (t, e, count) = next_columns limits t token more (subst
        (λ (fr : List (List ℕ)). IsFront limits (fr ++ token ∷ more)) e belongs)

    above : (most : ℕ) → CountUpTo most token → CountAbove most token → ⊥
    above most (m, count, few) (n, other, many) = omega (arith, IsCount-same token m n count other)

    beyond : EntryWithin limits token → EntryBeyond limits token → ⊥
    beyond (y, number, least, most) (z, other, inl low) = let e : y ≡ z = IsNumber-same token y z number other in omega (arith, ints)
    beyond (y, number, least, most) (z, other, inr high) = let e : y ≡ z = IsNumber-same token y z number other in omega (arith, ints)

    go : (f : Fault) → IsTokenFault limits front token f → ⊥
    go (NoHeader found) h = h
    go BadNumber (inl (inl e, never)) = let c = to_rows e in never c.0 c.1
    go BadNumber (inl (inr one, never)) = let c = to_columns one in never c.0 c.1
    go BadNumber (inr ((found, wanted, h, less), never)) = let c = next_entry limits found wanted front token more h belongs in
        never c.0.0 c.0.1
    go Rows (e, many) = above limits.rows (to_rows e) many
    go Columns (one, many) = above limits.columns (to_columns one) many
    go EntryRange ((found, wanted, h, less), out) = beyond (next_entry limits found wanted front token more h belongs).0 out
    go (Missing found wanted) h = h
    go Trailing (count, h) = let c = next_entry limits count count front token more h belongs in omega (arith, c.1)

-- those in front of a fault belong there
front_of : (limits : Limits) (front : List (List ℕ)) (token : List ℕ) (fault : Fault) → IsTokenFault limits front token fault →
    IsFront limits front
unfolding IsFront
front_of limits front token (NoHeader found) h = absurd h
front_of limits front token BadNumber (inl (wants, never)) = inl wants
front_of limits front token BadNumber (inr ((found, wanted, h, less), never)) = inr (found, wanted, h, omega arith)
front_of limits front token Rows (e, many) = inl (inl e)
front_of limits front token Columns (one, many) = inl (inr one)
front_of limits front token EntryRange ((found, wanted, h, less), out) = inr (found, wanted, h, omega arith)
front_of limits front token (Missing found wanted) h = absurd h
front_of limits front token Trailing (count, h) = inr (count, count, h, omega arith)

-- the number of tokens that stand in front
none_or_more : {T : Type 0} (limits : Limits) (f w : ℕ) (front : List (List ℕ)) → HasEntries limits f w front → WantsCount limits front → T
none_or_more limits f w front h (inl e) = let none : [] ≡ h.rows_token ∷ h.columns_token ∷ h.entry_tokens = sym e ∙ h.whole in cc
none_or_more limits f w front h (inr (t, e, count)) = let one : t ∷ [] ≡ h.rows_token ∷ h.columns_token ∷ h.entry_tokens = sym e
    ∙ h.whole in cc

none_or_one : {T : Type 0} (limits : Limits) (front : List (List ℕ)) → front ≡ [] → HasRows limits front → T
none_or_one limits front none (t, e, count) = let same : [] ≡ t ∷ [] = sym none ∙ e in cc

same_counts : (limits : Limits) (f w f' w' : ℕ) (front : List (List ℕ)) → HasEntries limits f w front → HasEntries limits f' w' front →
    (f ≡ f') × (w ≡ w')
same_counts limits f w f' w' front h k =
    let same = (counts limits f w f' w' front front h k [] (sym (append-nil front))).1 in
    (omega (arith, same.found), same.wanted)

-- two alternatives that exclude each other
one_of : {A P Q : Type 0} (a b f g : A) → ((f ≡ a) × P) ⊎ ((f ≡ b) × Q) → ((g ≡ a) × P) ⊎ ((g ≡ b) × Q) → (P → Q → ⊥) → f ≡ g
one_of a b f g (inl (e, p)) (inl (d, q)) apart = e ∙ sym d
one_of a b f g (inl (e, p)) (inr (d, q)) apart = absurd (apart p q)
one_of a b f g (inr (e, p)) (inl (d, q)) apart = absurd (apart q p)
one_of a b f g (inr (e, p)) (inr (d, q)) apart = e ∙ sym d

-- behind none, behind one, and behind more
at_rows : (limits : Limits) (front : List (List ℕ)) (token : List ℕ) → front ≡ [] → (f : Fault) → IsTokenFault limits front token f →
    ((f ≡ BadNumber) × NoCount token) ⊎ ((f ≡ Rows) × CountAbove limits.rows token)
at_rows limits front token none (NoHeader found) h = absurd h
at_rows limits front token none BadNumber (inl (wants, never)) = inl (refl, never)
at_rows limits front token none BadNumber (inr ((found, wanted, h, less), never)) = none_or_more limits found wanted front h (inl none)
at_rows limits front token none Rows (e, many) = inr (refl, many)
at_rows limits front token none Columns (one, many) = none_or_one limits front none one
at_rows limits front token none EntryRange ((found, wanted, h, less), out) = none_or_more limits found wanted front h (inl none)
at_rows limits front token none (Missing found wanted) h = absurd h
at_rows limits front token none Trailing (count, h) = none_or_more limits count count front h (inl none)

at_columns : (limits : Limits) (front : List (List ℕ)) (token : List ℕ) → HasRows limits front → (f : Fault) →
    IsTokenFault limits front token f → ((f ≡ BadNumber) × NoCount token) ⊎ ((f ≡ Columns) × CountAbove limits.columns token)
at_columns limits front token one (NoHeader found) h = absurd h
at_columns limits front token one BadNumber (inl (wants, never)) = inl (refl, never)
at_columns limits front token one BadNumber (inr ((found, wanted, h, less), never)) = none_or_more limits found wanted front h (inr one)
at_columns limits front token one Rows (none, many) = none_or_one limits front none one
at_columns limits front token one Columns (e, many) = inr (refl, many)
at_columns limits front token one EntryRange ((found, wanted, h, less), out) = none_or_more limits found wanted front h (inr one)
at_columns limits front token one (Missing found wanted) h = absurd h
at_columns limits front token one Trailing (count, h) = none_or_more limits count count front h (inr one)

at_entry : (limits : Limits) (front : List (List ℕ)) (token : List ℕ) → WantsEntry limits front → (f : Fault) →
    IsTokenFault limits front token f → ((f ≡ BadNumber) × NoNumber token) ⊎ ((f ≡ EntryRange) × EntryBeyond limits token)
at_entry limits front token wants (NoHeader found) h = absurd h
at_entry limits front token (found, wanted, h, less) BadNumber (inl (wants, never)) = none_or_more limits found wanted front h wants
at_entry limits front token wants BadNumber (inr (more, never)) = inl (refl, never)
at_entry limits front token (found, wanted, h, less) Rows (none, many) = none_or_more limits found wanted front h (inl none)
at_entry limits front token (found, wanted, h, less) Columns (one, many) = none_or_more limits found wanted front h (inr one)
at_entry limits front token wants EntryRange (more, out) = inr (refl, out)
at_entry limits front token wants (Missing found wanted) h = absurd h
at_entry limits front token (found, wanted, h, less) Trailing (count, k) =
    let same = same_counts limits found wanted count count front h k in
    absurd (omega (arith, same.0, same.1))

at_end : (limits : Limits) (front : List (List ℕ)) (token : List ℕ) → WantsNothing limits front → (f : Fault) →
    IsTokenFault limits front token f → f ≡ Trailing
at_end limits front token nothing (NoHeader found) h = absurd h
at_end limits front token (count, k) BadNumber (inl (wants, never)) = none_or_more limits count count front k wants
at_end limits front token (count, k) BadNumber (inr ((found, wanted, h, less), never)) =
    let same = same_counts limits found wanted count count front h k in
    absurd (omega (arith, same.0, same.1))
at_end limits front token (count, k) Rows (none, many) = none_or_more limits count count front k (inl none)
at_end limits front token (count, k) Columns (one, many) = none_or_more limits count count front k (inr one)
at_end limits front token (count, k) EntryRange ((found, wanted, h, less), out) =
    let same = same_counts limits found wanted count count front h k in
    absurd (omega (arith, same.0, same.1))
at_end limits front token nothing (Missing found wanted) h = absurd h
at_end limits front token nothing Trailing h = refl

-- a token behind those in front has one fault
one_token_fault : (limits : Limits) (front : List (List ℕ)) (token : List ℕ) (f g : Fault) → IsTokenFault limits front token f →
    IsTokenFault limits front token g → f ≡ g
one_token_fault limits front token f g is too = go f is
  where
    counted : (most : ℕ) → NoCount token → CountAbove most token → ⊥
    counted most never (n, count, many) = never n count

    numbered : NoNumber token → EntryBeyond limits token → ⊥
    numbered never (z, number, out) = never z number

    rows : front ≡ [] → f ≡ g
    rows none = one_of BadNumber Rows f g (at_rows limits front token none f is) (at_rows limits front token none g too)
        (counted limits.rows)

    columns : HasRows limits front → f ≡ g
    columns one = one_of BadNumber Columns f g (at_columns limits front token one f is) (at_columns limits front token one g too)
        (counted limits.columns)

    entry : WantsEntry limits front → f ≡ g
    entry wants = one_of BadNumber EntryRange f g (at_entry limits front token wants f is)
        (at_entry limits front token wants g too) numbered

    go : (k : Fault) → IsTokenFault limits front token k → f ≡ g
    go (NoHeader found) h = absurd h
    go BadNumber (inl (inl none, never)) = rows none
    go BadNumber (inl (inr one, never)) = columns one
    go BadNumber (inr (wants, never)) = entry wants
    go Rows (none, many) = rows none
    go Columns (one, many) = columns one
    go EntryRange (wants, out) = entry wants
    go (Missing found wanted) h = absurd h
    go Trailing nothing = at_end limits front token nothing f is ∙ sym (at_end limits front token nothing g too)

-- ---- the fault of an end
EndsSo : Limits → List (List ℕ) → Fault → Type 0
EndsSo limits front k = ((k ≡ NoHeader (length front)) × WantsCount limits front)
    ⊎ ((found wanted : ℕ) × (k ≡ Missing found wanted) × HasEntries limits found wanted front)

ends_so : (limits : Limits) (front : List (List ℕ)) (k : Fault) → IsEndFault limits front k → EndsSo limits front k
unfolding EndsSo
ends_so limits front (NoHeader found) (wants, e) = inl (ap NoHeader e, wants)
ends_so limits front BadNumber h = absurd h
ends_so limits front Rows h = absurd h
ends_so limits front Columns h = absurd h
ends_so limits front EntryRange h = absurd h
ends_so limits front (Missing found wanted) (h, less) = inr (found, wanted, refl, h)
ends_so limits front Trailing h = absurd h

-- so does the end behind those in front
one_end_fault : (limits : Limits) (front : List (List ℕ)) (f g : Fault) → IsEndFault limits front f → IsEndFault limits front g → f ≡ g
unfolding EndsSo
one_end_fault limits front f g is too = go f g (ends_so limits front f is) (ends_so limits front g too)
  where
    go : (k l : Fault) → EndsSo limits front k → EndsSo limits front l → k ≡ l
    go k l (inl (e, wants)) (inl (d, more)) = e ∙ sym d
    go k l (inl (e, wants)) (inr (found, wanted, d, h)) = none_or_more limits found wanted front h wants
    go k l (inr (found, wanted, e, h)) (inl (d, wants)) = none_or_more limits found wanted front h wants
    go k l (inr (found, wanted, e, h)) (inr (found', wanted', d, h')) =
        let both = same_counts limits found wanted found' wanted' front h h' in
        e ∙ ap (λ n. Missing n wanted) both.0 ∙ ap (λ n. Missing found' n) both.1 ∙ sym d

-- those in front of an end at fault belong there
front_of_end : (limits : Limits) (front : List (List ℕ)) (fault : Fault) → IsEndFault limits front fault → IsFront limits front
unfolding IsFront
front_of_end limits front (NoHeader found) (wants, e) = inl wants
front_of_end limits front BadNumber h = absurd h
front_of_end limits front Rows h = absurd h
front_of_end limits front Columns h = absurd h
front_of_end limits front EntryRange h = absurd h
front_of_end limits front (Missing found wanted) (h, less) = inr (found, wanted, h, omega arith)
front_of_end limits front Trailing h = absurd h

-- ---- a text
-- two fronts of one list are one, or the longer has the token behind the shorter
compare : {X : Type 0} (xs ys : List X) (x y : X) (us vs : List X) → xs ++ x ∷ us ≡ ys ++ y ∷ vs → ((xs ≡ ys) × (x ≡ y))
    ⊎ (((more : List X) × (ys ≡ xs ++ x ∷ more)) ⊎ ((more : List X) × (xs ≡ ys ++ y ∷ more)))
compare [] [] x y us vs e = let same : x ≡ y = cc in inl (refl, same)
compare [] (z ∷ ys) x y us vs e = let same : z ≡ x = cc in inr (inl (ys, ap (λ c. c ∷ ys) same))
compare (z ∷ xs) [] x y us vs e = let same : z ≡ y = cc in inr (inr (xs, ap (λ c. c ∷ xs) same))
compare {X = X} (z ∷ xs) (w ∷ ys) x y us vs e =
    let head : z ≡ w = cc in
    let tail : xs ++ x ∷ us ≡ ys ++ y ∷ vs = cc in
    go head (compare xs ys x y us vs tail)
  where
    go : z ≡ w → ((xs ≡ ys) × (x ≡ y)) ⊎ (((more : List X) × (ys ≡ xs ++ x ∷ more)) ⊎ ((more : List X) × (xs ≡ ys ++ y ∷ more))) →
        ((z ∷ xs ≡ w ∷ ys) × (x ≡ y)) ⊎ (((more : List X) × (w ∷ ys ≡ z ∷ xs ++ x ∷ more))
        ⊎ ((more : List X) × (z ∷ xs ≡ w ∷ ys ++ y ∷ more)))
    go head (inl (e, d)) = let all : z ∷ xs ≡ w ∷ ys = cc in inl (all, d)
    go head (inr (inl (more, e))) = let all : w ∷ ys ≡ z ∷ (xs ++ x ∷ more) = cc in inr (inl (more, all))
    go head (inr (inr (more, e))) = let all : z ∷ xs ≡ w ∷ (ys ++ y ∷ more) = cc in inr (inr (more, all))

token_or_end : (bytes : List ℕ) (limits : Limits) (byte : ℕ) (f : Fault) (front : List (List ℕ)) (token : List ℕ) →
    TokenAt bytes byte front token → IsTokenFault limits front token f → IsFront limits (tokens bytes) → ⊥
token_or_end bytes limits byte f front token at is belongs =
    at_fault limits front token at.rest f is (subst (IsFront limits) at.whole belongs)

-- a text has one fault, at one byte
pub one_fault : (bytes : List ℕ) (limits : Limits) (f g : Fault) (i j : ℕ) → HasFault bytes limits f i → HasFault bytes limits g j → (f ≡ g)
    × (i ≡ j)
one_fault bytes limits f g i j (inl (front, token, at, is)) (inl (others, other, too, so)) =
    go (compare front others token other at.rest too.rest (sym at.whole ∙ too.whole))
  where
    go : ((front ≡ others) × (token ≡ other)) ⊎ (((more : List (List ℕ)) × (others ≡ front ++ token ∷ more))
        ⊎ ((more : List (List ℕ)) × (front ≡ others ++ other ∷ more))) → (f ≡ g) × (i ≡ j)
    go (inl (e, d)) =
        let here : IsTokenFault limits front other f = subst (λ (t : List ℕ). IsTokenFault limits front t f) d is in
        let there : TokenAt bytes j front other = subst (λ (fr : List (List ℕ)). TokenAt bytes j fr other) (sym e) too in (
          one_token_fault limits others other f g (subst (λ (fr : List (List ℕ)). IsTokenFault limits fr other f) e here) so,
          same_byte bytes i j front token other at there,
        )
    go (inr (inl (more, e))) = absurd (at_fault limits front token more f is (subst (IsFront limits) e (front_of limits others other g so)))
    go (inr (inr (more, e))) = absurd (at_fault limits others other more g so (subst (IsFront limits) e (front_of limits front token f is)))
one_fault bytes limits f g i j (inl (front, token, at, is)) (inr (e, so)) =
    absurd (token_or_end bytes limits i f front token at is (front_of_end limits (tokens bytes) g so))
one_fault bytes limits f g i j (inr (e, so)) (inl (front, token, at, is)) =
    absurd (token_or_end bytes limits j g front token at is (front_of_end limits (tokens bytes) f so))
one_fault bytes limits f g i j (inr (e, is)) (inr (d, so)) = (one_end_fault limits (tokens bytes) f g is so, e ∙ sym d)

-- ---- a table
pub same_length : (words : List (List ℕ)) (entries : List ℤ) → AllZip IsNumber words entries → length entries ≡ length words
same_length [] [] numbers = refl
same_length [] (y ∷ entries) numbers = absurd numbers
same_length (w ∷ words) [] numbers = absurd numbers
same_length (w ∷ words) (y ∷ entries) numbers = ap (λ n. suc n) (same_length words entries numbers.1)

pub all_within : (limits : Limits) (words : List (List ℕ)) (entries : List ℤ) → AllZip IsNumber words entries →
    All (λ z. (limits.least ≤ℤ z) × (z ≤ℤ limits.most)) entries → All (EntryWithin limits) words
all_within limits [] entries numbers within = All-nil (EntryWithin limits)
all_within limits (w ∷ words) [] numbers within = absurd numbers
all_within limits (w ∷ words) (z ∷ entries) numbers within =
    let P : ℤ → Type 0 = λ y. (limits.least ≤ℤ y) × (y ≤ℤ limits.most) in
    let first = All-head P z entries within in
    All-cons (EntryWithin limits) w words (z, numbers.0, first.0, first.1)
    (all_within limits words entries numbers.1 (All-tail P z entries within))

-- a table has all entries that are wanted
all_entries : (bytes : List ℕ) (limits : Limits) (grid : Grid) → ReadsTable bytes limits grid →
    HasEntries limits (grid.rows * grid.columns) (grid.rows * grid.columns) (tokens bytes)
all_entries bytes limits grid read = record {
  rows_token = read.rows_token;
  columns_token = read.columns_token;
  entry_tokens = read.entry_tokens;
  whole = read.whole;
  rows = grid.rows;
  columns = grid.columns;
  rows_count = read.rows;
  columns_count = read.columns;
  rows_within = read.rows_within;
  columns_within = read.columns_within;
  entries_within = all_within limits read.entry_tokens grid.entries read.entries read.entries_within;
  found_is = sym read.filled ∙ same_length read.entry_tokens grid.entries read.entries;
  wanted_is = refl;
}

-- a text that is a table has no fault
pub no_fault : (bytes : List ℕ) (limits : Limits) (grid : Grid) (f : Fault) (byte : ℕ) → ReadsTable bytes limits grid →
    HasFault bytes limits f byte → ⊥
unfolding IsFront
no_fault bytes limits grid f byte read (inl (front, token, at, is)) =
    token_or_end bytes limits byte f front token at is (inr (
      grid.rows * grid.columns,
      grid.rows * grid.columns,
      all_entries bytes limits grid read,
      omega arith,
    ))
no_fault bytes limits grid f byte read (inr (e, is)) = go f is
  where
    go : (k : Fault) → IsEndFault limits (tokens bytes) k → ⊥
    go (NoHeader found) (wants, d) = none_or_more limits (grid.rows * grid.columns) (grid.rows * grid.columns) (tokens bytes)
        (all_entries bytes limits grid read) wants
    go BadNumber h = h
    go Rows h = h
    go Columns h = h
    go EntryRange h = h
    go (Missing found wanted) (h, less) =
        let same = same_counts limits found wanted (grid.rows * grid.columns) (grid.rows * grid.columns) (tokens bytes) h
        (all_entries bytes limits grid read) in
        omega (arith, same.0, same.1)
    go Trailing h = h

same_entries : (words : List (List ℕ)) (xs ys : List ℤ) → AllZip IsNumber words xs → AllZip IsNumber words ys → xs ≡ ys
same_entries [] [] [] p q = refl
same_entries [] [] (y ∷ ys) p q = absurd q
same_entries [] (x ∷ xs) ys p q = absurd p
same_entries (w ∷ words) [] ys p q = absurd p
same_entries (w ∷ words) (x ∷ xs) [] p q = absurd q
same_entries (w ∷ words) (x ∷ xs) (y ∷ ys) p q =
    ap (λ z. z ∷ xs) (IsNumber-same w x y p.0 q.0) ∙ ap (λ zs. y ∷ zs) (same_entries words xs ys p.1 q.1)

-- a text is one table
pub one_table : (bytes : List ℕ) (limits : Limits) (g h : Grid) → ReadsTable bytes limits g → ReadsTable bytes limits h → g ≡ h
one_table bytes limits g h r q =
    let whole : r.rows_token ∷ r.columns_token ∷ r.entry_tokens ≡ q.rows_token ∷ q.columns_token ∷ q.entry_tokens = sym r.whole ∙ q.whole in
    let rows_token : q.rows_token ≡ r.rows_token = cc in
    let columns_token : q.columns_token ≡ r.columns_token = cc in
    let entry_tokens : q.entry_tokens ≡ r.entry_tokens = cc in
    let rows : g.rows ≡ h.rows = IsCount-same r.rows_token g.rows h.rows r.rows
    (subst (λ (t : List ℕ). IsCount t h.rows) rows_token q.rows) in
    let columns : g.columns ≡ h.columns = IsCount-same r.columns_token g.columns h.columns r.columns
    (subst (λ (t : List ℕ). IsCount t h.columns) columns_token q.columns) in
    let entries : g.entries ≡ h.entries = same_entries r.entry_tokens g.entries h.entries r.entries
    (subst (λ (ts : List (List ℕ)). AllZip IsNumber ts h.entries) entry_tokens q.entries) in
    λ i. record { rows = rows i; columns = columns i; entries = entries i }
