-- The columns that are left, in their order: one fewer, and none.
use Rattle.std.proofs.Common.{◌≡◌, ◌⊎◌, inl, inr, ℕ, zero, suc, ◌+◌, ◌≤◌, ◌<◌, Bool, true, false, List, [], ◌∷◌, length, set, arith, ap, refl, sym, ◌∙◌, subst, length-set}
use Rattle.std.specs.List.{filter, range_with_len}
use Rattle.std.proofs.lemmas.Bool.{cases_eq, cases_lt}
use Rattle.std.proofs.lemmas.List.{get_or-set_same, get_or-set_other}
use Rattle.mk_model.specs.FreeColumns.{all_columns, is_left, columns_left}
use Rattle.mk_saturate.specs.Saturations.{IsLeastLeft, NoneLeft}
use Rattle.mk_saturate.proofs.Completions.{left_within}

filter_same : (p q : ℕ → Bool) (a n : ℕ) → ((c : ℕ) → a ≤ c → p c ≡ q c) → filter p (range_with_len a n) ≡ filter q (range_with_len a n)
filter_same p q a zero h = refl
filter_same p q a (suc n) h = rw (h a (omega arith), filter_same p q (a + 1) n (λ c l. h c (omega (arith, l)))) refl

filter_none : (p : ℕ → Bool) (a n : ℕ) → ((c : ℕ) → p c ≡ false) → filter p (range_with_len a n) ≡ []
filter_none p a zero h = refl
filter_none p a (suc n) h = rw (h a) (filter_none p (a + 1) n h)

filter_short : (p : ℕ → Bool) (a n : ℕ) → length (filter p (range_with_len a n)) ≤ n
filter_short p a zero = omega arith
filter_short p a (suc n) = go (p a) refl (filter_short p (a + 1) n)
  where
    go : (t : Bool) → p a ≡ t → length (filter p (range_with_len (a + 1) n)) ≤ n → length (filter p (range_with_len a (suc n))) ≤ suc n
    go true e l = rw e (omega (arith, l))
    go false e l = rw e (omega (arith, l))

-- tests that differ at one number alone, which passes the first
module _ (p q : ℕ → Bool) (i : ℕ) (yes : p i ≡ true) (no : q i ≡ false) (same : (c : ℕ) → (c ≡ i → ⊥) → p c ≡ q c) where
  behind : (n : ℕ) → filter p (range_with_len i (suc n)) ≡ i ∷ filter q (range_with_len i (suc n))
  behind n = rw (yes, no) (ap (λ xs. i ∷ xs) (filter_same p q (i + 1) n (λ c l. same c (λ e. omega (arith, l, e)))))

  one_fewer : (a n : ℕ) → a ≤ i → i < a + n → length (filter p (range_with_len a n)) ≡ suc (length (filter q (range_with_len a n)))
  one_fewer a zero l k = absurd (omega (arith, l, k))
  one_fewer a (suc n) l k = go (cases_eq a i) (λ m. one_fewer (a + 1) n m (omega (arith, k)))
    where
      go : (a ≡ i) ⊎ (a ≡ i → ⊥) → (a + 1 ≤ i → length (filter p (range_with_len (a + 1) n)) ≡ suc (length (filter q (range_with_len (a + 1) n)))) →
          length (filter p (range_with_len a (suc n))) ≡ suc (length (filter q (range_with_len a (suc n))))
      go (inl e) rest = subst (λ a. length (filter p (range_with_len a (suc n))) ≡ suc (length (filter q (range_with_len a (suc n))))) (sym e) (ap length (behind n))
      go (inr d) rest = by_test (q a) refl (rest (omega (arith, l, d)))
        where
          by_test : (t : Bool) → q a ≡ t → length (filter p (range_with_len (a + 1) n)) ≡ suc (length (filter q (range_with_len (a + 1) n))) →
              length (filter p (range_with_len a (suc n))) ≡ suc (length (filter q (range_with_len a (suc n))))
          by_test true e r = rw (same a d, e) (ap suc r)
          by_test false e r = rw (same a d, e) r

  first_of : (a n : ℕ) → a ≤ i → i < a + n → ((c : ℕ) → c < i → p c ≡ false) → filter p (range_with_len a n) ≡ i ∷ filter q (range_with_len a n)
  first_of a zero l k least = absurd (omega (arith, l, k))
  first_of a (suc n) l k least = go (cases_eq a i) (λ m. first_of (a + 1) n m (omega (arith, k)) least)
    where
      go : (a ≡ i) ⊎ (a ≡ i → ⊥) → (a + 1 ≤ i → filter p (range_with_len (a + 1) n) ≡ i ∷ filter q (range_with_len (a + 1) n)) →
          filter p (range_with_len a (suc n)) ≡ i ∷ filter q (range_with_len a (suc n))
      go (inl e) rest = subst (λ a. filter p (range_with_len a (suc n)) ≡ i ∷ filter q (range_with_len a (suc n))) (sym e) (behind n)
      go (inr d) rest =
          let first : p a ≡ false = least a (omega (arith, l, d)) in
          rw (first, sym (same a d) ∙ first) (rest (omega (arith, l, d)))

module _ (left : List Bool) (column : ℕ) (yes : is_left left column ≡ true) where
  no : is_left (set left column false) column ≡ false
  no = get_or-set_same left column false false (left_within left column yes)

  same : (c : ℕ) → (c ≡ column → ⊥) → is_left left c ≡ is_left (set left column false) c
  same c d = sym (get_or-set_other left column c false false (λ e. d e))

  pub column_fewer : length (columns_left left) ≡ suc (length (columns_left (set left column false)))
  column_fewer =
      one_fewer (is_left left) (is_left (set left column false)) column yes no same 0 (length left) (omega arith) (omega (arith, left_within left column yes))
      ∙ ap (λ n. suc (length (filter (is_left (set left column false)) (all_columns n)))) (sym (length-set left column false))

  pub least_first : ((c : ℕ) → c < column → is_left left c ≡ false) → columns_left left ≡ column ∷ columns_left (set left column false)
  least_first least =
      first_of (is_left left) (is_left (set left column false)) column yes no same 0 (length left) (omega arith) (omega (arith, left_within left column yes)) least
      ∙ ap (λ n. column ∷ filter (is_left (set left column false)) (all_columns n)) (sym (length-set left column false))

pub none_left_over : (left : List Bool) → NoneLeft left → columns_left left ≡ []
none_left_over left h = filter_none (is_left left) 0 (length left) h

pub left_short : (left : List Bool) → length (columns_left left) ≤ length left
left_short left = filter_short (is_left left) 0 (length left)
