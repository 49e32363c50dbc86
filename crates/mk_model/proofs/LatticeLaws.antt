-- Lattices given by rows.
use Rattle.std.proofs.Common.{◌≡◌, ◌⊎◌, inl, inr, ℕ, zero, suc, ◌≤◌, ◌<◌, Bool, true, false, List, [], ◌∷◌, length, ℤ, pos, negsuc, ◌+ℤ◌}
use Rattle.std.proofs.Common.{◌*ℤ◌, All, Contains, arith, ap, refl, sym, ◌∙◌, subst, ⊎_elim, ◌≢◌}
use Rattle.std.specs.List.{list_all}
use Rattle.std.specs.Ordering.{int_eq}
use Rattle.std.proofs.lemmas.Int.{ints}
use Rattle.std.proofs.lemmas.Bool.Decides.{Decides-by_and, Decides-int_eq}
use lib.IntN.{*ℤ-zero, +ℤ_idl}
use Rattle.std.proofs.lemmas.List.{get_or_past}
use Rattle.std.proofs.lemmas.List.Elements.{All-contains, All-head, All-tail}
use Rattle.mk_model.specs.Vectors.{entry, zeros, add, subtract, negate, scale, weight}
use Rattle.mk_model.specs.Lattices.{combination, InLattice, is_zero, nonzero_rows}
use Rattle.mk_model.proofs.Integers.{+ℤ-*ℤ}
use Rattle.mk_model.proofs.VectorAlgebra.{lengths, columns, entries, entry-add, entry-scale, same_vectors, weight-add, weight-scale}
use Rattle.mk_model.proofs.VectorAlgebra.{weight-zeros, add-zeros, scale-zero, scale-scale, zero-scale, scale-add, scale-minus_one}
use Rattle.mk_model.proofs.VectorAlgebra.{add-negate, only_zeros}
use Rattle.mk_model.proofs.Lists.{Contains-none, Contains-cases}
use Rattle.std.proofs.lemmas.Bool.{cases_Bool}

abbrev pub AllColumns : ℕ → List (List ℤ) → Type 0
AllColumns n rows = All (λ row. length row ≡ n) rows

pub length-combination : (n : ℕ) (factors : ℕ → ℤ) (rows : List (List ℤ)) → AllColumns n rows → length (combination n factors rows) ≡ n
unfolding combination
length-combination n factors [] a = omega (arith, lengths)
length-combination n factors (row ∷ rows) a =
    omega (
      arith,
      lengths,
      All-head (λ row. length row ≡ n) row rows a,
      length-combination n (λ i. factors (suc i)) rows (All-tail (λ row. length row ≡ n) row rows a),
    )

pub InLattice-columns : (n : ℕ) (rows : List (List ℤ)) (x : List ℤ) → AllColumns n rows → InLattice n rows x → length x ≡ n
InLattice-columns n rows x a (factors, e) = ap length e ∙ length-combination n factors rows a

pub weight-combination : (w : List ℤ) (n : ℕ) (factors : ℕ → ℤ) (rows : List (List ℤ)) → All (λ row. weight w row ≡ pos 0) rows →
    weight w (combination n factors rows) ≡ pos 0
unfolding combination
weight-combination w n factors [] a = weight-zeros w n
weight-combination w n factors (row ∷ rows) a =
    let h = All-head (λ row. weight w row ≡ pos 0) row rows a in
    let k = weight-combination w n (λ i. factors (suc i)) rows (All-tail (λ row. weight w row ≡ pos 0) row rows a) in
    rw (weight-add, weight-scale, h, k) (omega (arith, ints))

pub InLattice-weight : (w : List ℤ) (n : ℕ) (rows : List (List ℤ)) (x : List ℤ) → All (λ row. weight w row ≡ pos 0) rows →
    InLattice n rows x → weight w x ≡ pos 0
InLattice-weight w n rows x a (factors, e) = ap (weight w) e ∙ weight-combination w n factors rows a

-- ---- sums and multiples
combination-zeros : (n : ℕ) (rows : List (List ℤ)) → AllColumns n rows → combination n (λ i. pos 0) rows ≡ zeros n
unfolding combination
combination-zeros n [] a = refl
combination-zeros n (row ∷ rows) a =
    rw (zero-scale, combination-zeros n rows (All-tail (λ row. length row ≡ n) row rows a), All-head (λ row. length row ≡ n) row rows a)
    (add-zeros (zeros n) n (omega (arith, lengths)))

pub InLattice-zeros : (n : ℕ) (rows : List (List ℤ)) → AllColumns n rows → InLattice n rows (zeros n)
InLattice-zeros n rows a = ((λ i. pos 0), sym (combination-zeros n rows a))

add-exchange : (a b c d : List ℤ) → add (add a b) (add c d) ≡ add (add a c) (add b d)
add-exchange a b c d = same_vectors _ _ (omega (arith, lengths)) (λ c. omega (arith, ints, columns))

scale-add_factors : (k l : ℤ) (x : List ℤ) → scale (k +ℤ l) x ≡ add (scale k x) (scale l x)
scale-add_factors k l x = same_vectors _ _ (omega (arith, lengths)) (λ c. simp entries (+ℤ-*ℤ k l (entry x c)))

combination-add : (n : ℕ) (f g : ℕ → ℤ) (rows : List (List ℤ)) →
    combination n (λ i. f i +ℤ g i) rows ≡ add (combination n f rows) (combination n g rows)
unfolding combination
combination-add n f g [] = sym (add-zeros (zeros n) n (omega (arith, lengths)))
combination-add n f g (row ∷ rows) =
    rw (scale-add_factors (f 0) (g 0) row, combination-add n (λ i. f (suc i)) (λ i. g (suc i)) rows) (add-exchange _ _ _ _)

pub InLattice-add : (n : ℕ) (rows : List (List ℤ)) (x y : List ℤ) → InLattice n rows x → InLattice n rows y → InLattice n rows (add x y)
InLattice-add n rows x y (f, e) (g, d) = ((λ i. f i +ℤ g i), rw (e, d) (sym (combination-add n f g rows)))

combination-scale : (n : ℕ) (k : ℤ) (f : ℕ → ℤ) (rows : List (List ℤ)) → combination n (λ i. k *ℤ f i) rows ≡ scale k (combination n f rows)
unfolding combination
combination-scale n k f [] = sym (scale-zero k n)
combination-scale n k f (row ∷ rows) =
    rw (scale-add, combination-scale n k (λ i. f (suc i)) rows, scale-scale) refl

pub InLattice-scale : (n : ℕ) (rows : List (List ℤ)) (k : ℤ) (x : List ℤ) → InLattice n rows x → InLattice n rows (scale k x)
InLattice-scale n rows k x (f, e) = ((λ i. k *ℤ f i), rw e (sym (combination-scale n k f rows)))

pub InLattice-negate : (n : ℕ) (rows : List (List ℤ)) (x : List ℤ) → InLattice n rows x → InLattice n rows (negate x)
InLattice-negate n rows x h = subst (InLattice n rows) (scale-minus_one x) (InLattice-scale n rows (negsuc 0) x h)

pub InLattice-subtract : (n : ℕ) (rows : List (List ℤ)) (x y : List ℤ) → InLattice n rows x → InLattice n rows y →
    InLattice n rows (subtract x y)
InLattice-subtract n rows x y h k = subst (InLattice n rows) (add-negate x y)
    (InLattice-add n rows x (negate y) h (InLattice-negate n rows y k))

abbrev with_first : ℤ → (ℕ → ℤ) → ℕ → ℤ
with_first k f zero = k
with_first k f (suc i) = f i

-- one more row, by any factor
InLattice-more : (n : ℕ) (k : ℤ) (row : List ℤ) (rows : List (List ℤ)) (x : List ℤ) → InLattice n rows x →
    InLattice n (row ∷ rows) (add (scale k row) x)
unfolding combination
InLattice-more n k row rows x (f, e) = (with_first k f, ap (add (scale k row)) e)

pub InLattice-row : (n : ℕ) (rows : List (List ℤ)) (row : List ℤ) → AllColumns n rows → Contains rows row → InLattice n rows row
InLattice-row n [] row a h = absurd (Contains-none row h)
InLattice-row n (r ∷ rows) row a h =
    ⊎_elim (λ e. rw (← e) (subst (InLattice n (r ∷ rows)) here (InLattice-more n (pos 1) r rows (zeros n) (InLattice-zeros n rows b))))
    (λ c. subst (InLattice n (r ∷ rows)) there (InLattice-more n (pos 0) r rows row (InLattice-row n rows row b c)))
    (Contains-cases r rows row h)
  where
    b : AllColumns n rows
    b = All-tail (λ row. length row ≡ n) r rows a

    l : length r ≡ n
    l = All-head (λ row. length row ≡ n) r rows a

    here : add (scale (pos 1) r) (zeros n) ≡ r
    here = same_vectors _ _ (omega (arith, lengths, l)) (λ c. omega (arith, ints, columns))

    there : add (scale (pos 0) r) row ≡ row
    there = same_vectors _ _ (omega (arith, lengths, l, All-contains (λ row. length row ≡ n) (r ∷ rows) row a h))
        (λ c. omega (arith, ints, columns))

-- ---- rows that are zero
pub is_zero-entries : (row : List ℤ) → is_zero row ≡ true → (c : ℕ) → entry row c ≡ pos 0
is_zero-entries row h c = go (cases c (length row))
  where
    zero_each : All (λ a. a ≡ pos 0) row
    zero_each = (Decides-by_and (λ a. int_eq a (pos 0)) (λ a. a ≡ pos 0) (list_all (λ a. int_eq a (pos 0)))
        (λ a. Decides-int_eq a (pos 0)) refl (λ _ _. refl) row).0 h

    cases : (c l : ℕ) → (c < l) ⊎ (l ≤ c)
    cases c l = grind arith

    go : (c < length row) ⊎ (length row ≤ c) → entry row c ≡ pos 0
    go (inl l) = zero_each c (pos 0) l
    go (inr l) = get_or_past row c (pos 0) l

is_zero-zeros : (n : ℕ) → is_zero (zeros n) ≡ true
is_zero-zeros zero = refl
is_zero-zeros (suc n) = is_zero-zeros n

pub is_zero-true : (row : List ℤ) → row ≡ zeros (length row) → is_zero row ≡ true
is_zero-true row e = ap is_zero e ∙ is_zero-zeros (length row)

pub is_zero-false : (row : List ℤ) → row ≢ zeros (length row) → is_zero row ≡ false
is_zero-false row h = ⊎_elim (λ e. absurd (h (only_zeros row (is_zero-entries row e)))) (λ e. e) (cases_Bool (is_zero row))

pub nonzero_rows-skip : (row : List ℤ) (rows : List (List ℤ)) → is_zero row ≡ true → nonzero_rows (row ∷ rows) ≡ nonzero_rows rows
nonzero_rows-skip row rows h = rw h refl

pub nonzero_rows-keep : (row : List ℤ) (rows : List (List ℤ)) → is_zero row ≡ false → nonzero_rows (row ∷ rows) ≡ row ∷ nonzero_rows rows
nonzero_rows-keep row rows h = rw h refl

module _ (n : ℕ) where
  -- a zero row adds nothing
  combination_skips : (factors : ℕ → ℤ) (row : List ℤ) (rows : List (List ℤ)) → AllColumns n (row ∷ rows) → is_zero row ≡ true →
      combination n factors (row ∷ rows) ≡ combination n (λ i. factors (suc i)) rows
  unfolding combination
  combination_skips factors row rows a z =
      let l = All-head (λ row. length row ≡ n) row rows a in
      let rest = combination n (λ i. factors (suc i)) rows in
      let k : length rest ≡ n = length-combination n (λ i. factors (suc i)) rows (All-tail (λ row. length row ≡ n) row rows a) in
      same_vectors _ _ (omega (arith, lengths, l)) (λ c. simp (entry-add, entry-scale, is_zero-entries row z c, *ℤ-zero, +ℤ_idl))

  pub combination_of_no_row : (factors : ℕ → ℤ) (rows : List (List ℤ)) → AllColumns n rows → nonzero_rows rows ≡ [] →
      combination n factors rows ≡ zeros n
  unfolding combination
  combination_of_no_row factors [] a e = refl
  combination_of_no_row factors (r ∷ rows) a e =
      go (is_zero r) refl (combination_of_no_row (λ i. factors (suc i)) rows (All-tail (λ row. length row ≡ n) r rows a))
    where
      go : (t : Bool) → is_zero r ≡ t → (nonzero_rows rows ≡ [] → combination n (λ i. factors (suc i)) rows ≡ zeros n) →
          combination n factors (r ∷ rows) ≡ zeros n
      go true z rest = combination_skips factors r rows a z ∙ rest (sym (nonzero_rows-skip r rows z) ∙ e)
      go false z rest = let d = sym (nonzero_rows-keep r rows z) ∙ e in cc

  combination_first : (factors : ℕ → ℤ) (row : List ℤ) (rows : List (List ℤ)) → AllColumns n (row ∷ rows) → nonzero_rows rows ≡ [] →
      combination n factors (row ∷ rows) ≡ scale (factors 0) row
  unfolding combination
  combination_first factors row rows a e =
      rw (combination_of_no_row (λ i. factors (suc i)) rows (All-tail (λ row. length row ≡ n) row rows a) e)
      (add-zeros (scale (factors 0) row) n (omega (arith, lengths, All-head (λ row. length row ≡ n) row rows a)))

  pub combination_of_one_row : (factors : ℕ → ℤ) (rows : List (List ℤ)) (row : List ℤ) → AllColumns n rows → nonzero_rows rows ≡ row ∷ [] →
      (k : ℤ) × (combination n factors rows ≡ scale k row)
  combination_of_one_row factors [] row a e = absurd cc
  combination_of_one_row factors (r ∷ rows) row a e =
      go (is_zero r) refl (combination_of_one_row (λ i. factors (suc i)) rows row (All-tail (λ row. length row ≡ n) r rows a))
    where
      go : (t : Bool) → is_zero r ≡ t → (nonzero_rows rows ≡ row ∷ [] → (k : ℤ) × (combination n (λ i. factors (suc i)) rows ≡ scale k row))
          → (k : ℤ) × (combination n factors (r ∷ rows) ≡ scale k row)
      go true z rest = let (k, d) = rest (sym (nonzero_rows-skip r rows z) ∙ e) in (k, combination_skips factors r rows a z ∙ d)
      go false z rest =
          let d = sym (nonzero_rows-keep r rows z) ∙ e in
          let same : r ≡ row = cc in
          let none : nonzero_rows rows ≡ [] = cc in
          (factors 0, combination_first factors r rows a none ∙ ap (scale (factors 0)) same)
