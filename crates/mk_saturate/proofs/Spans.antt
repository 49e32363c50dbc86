-- Lattices that lists span: a list of combinations of another, and a list whose rows are turned.
use Rattle.std.proofs.Common.{◌≡◌, ◌⊎◌, inl, inr, ℕ, suc, true, false, Bool, not, List, [], ◌∷◌, ℤ, All, Contains, ap, refl, sym, ◌∙◌, subst, ⊎_elim, length}
use Rattle.std.proofs.lemmas.List.Elements.{All-contains, All-head, All-tail, All-filter}
use Rattle.mk_model.specs.Vectors.{zeros, scale}
use Rattle.mk_model.specs.Lattices.{combination, InLattice, SameLattice, is_zero, nonzero_rows}
use Rattle.mk_model.proofs.VectorAlgebra.{only_zeros}
use Rattle.mk_model.proofs.Lists.{Contains-none, Contains-here, Contains-there, Contains-cases}
use Rattle.mk_model.proofs.LatticeLaws.{AllColumns, InLattice-zeros, InLattice-add, InLattice-scale, InLattice-row, is_zero-entries, nonzero_rows-skip, nonzero_rows-keep}
use Rattle.mk_model.proofs.NormalForms.{All-from_contains}

-- ---- combinations of combinations
combination_inside : (n : ℕ) (rows others : List (List ℤ)) → AllColumns n others → All (InLattice n others) rows → (factors : ℕ → ℤ) → InLattice n others (combination n factors rows)
unfolding combination
combination_inside n [] others a inside factors = InLattice-zeros n others a
combination_inside n (row ∷ rows) others a inside factors =
    InLattice-add n others (scale (factors 0) row) (combination n (λ i. factors (suc i)) rows)
    (InLattice-scale n others (factors 0) row (All-head (InLattice n others) row rows inside))
    (combination_inside n rows others a (All-tail (InLattice n others) row rows inside) (λ i. factors (suc i)))

pub InLattice-combination : (n : ℕ) (rows others : List (List ℤ)) → AllColumns n others → All (InLattice n others) rows → (x : List ℤ) → InLattice n rows x → InLattice n others x
InLattice-combination n rows others a inside x (factors, e) = subst (InLattice n others) (sym e) (combination_inside n rows others a inside factors)

-- each row a combination of the others, and the other way
pub SameLattice-from_members : (n : ℕ) (rows others : List (List ℤ)) → AllColumns n rows → AllColumns n others → ((row : List ℤ) → Contains rows row → InLattice n others row) → ((other : List ℤ) → Contains others other → InLattice n rows other) → SameLattice n rows others
SameLattice-from_members n rows others a b f g = record {
  there = InLattice-combination n rows others b (All-from_contains (InLattice n others) rows f);
  back = InLattice-combination n others rows a (All-from_contains (InLattice n rows) others g);
}

pub SameLattice-transitive : (n : ℕ) (a b c : List (List ℤ)) → SameLattice n a b → SameLattice n b c → SameLattice n a c
SameLattice-transitive n a b c h k = record { there = λ x i. k.there x (h.there x i); back = λ x i. h.back x (k.back x i) }

-- ---- rows without those that are zero
nonzero_or_zero : (rows : List (List ℤ)) (row : List ℤ) → Contains rows row → (is_zero row ≡ true) ⊎ Contains (nonzero_rows rows) row
nonzero_or_zero [] row h = absurd (Contains-none row h)
nonzero_or_zero (r ∷ rows) row h = go (is_zero r) refl (Contains-cases r rows row h) (λ k. nonzero_or_zero rows row k)
  where
    go : (t : Bool) → is_zero r ≡ t → (r ≡ row) ⊎ Contains rows row → (Contains rows row → (is_zero row ≡ true) ⊎ Contains (nonzero_rows rows) row) → (is_zero row ≡ true) ⊎ Contains (nonzero_rows (r ∷ rows)) row
    go true e (inl same) rest = inl (ap is_zero (sym same) ∙ e)
    go true e (inr k) rest = ⊎_elim inl (λ c. inr (subst (λ xs. Contains xs row) (sym (nonzero_rows-skip r rows e)) c)) (rest k)
    go false e (inl same) rest = inr (subst (λ xs. Contains xs row) (sym (nonzero_rows-keep r rows e)) (subst (Contains (r ∷ nonzero_rows rows)) same (Contains-here r (nonzero_rows rows))))
    go false e (inr k) rest = ⊎_elim inl (λ c. inr (subst (λ xs. Contains xs row) (sym (nonzero_rows-keep r rows e)) (Contains-there r (nonzero_rows rows) row c))) (rest k)

nonzero_part : (rows : List (List ℤ)) (row : List ℤ) → Contains (nonzero_rows rows) row → Contains rows row
nonzero_part [] row h = h
nonzero_part (r ∷ rows) row h = go (is_zero r) refl (nonzero_part rows row)
  where
    go : (t : Bool) → is_zero r ≡ t → (Contains (nonzero_rows rows) row → Contains rows row) → Contains (r ∷ rows) row
    go true e rest = Contains-there r rows row (rest (subst (λ xs. Contains xs row) (nonzero_rows-skip r rows e) h))
    go false e rest =
        ⊎_elim (λ same. subst (Contains (r ∷ rows)) same (Contains-here r rows)) (λ k. Contains-there r rows row (rest k))
        (Contains-cases r (nonzero_rows rows) row (subst (λ xs. Contains xs row) (nonzero_rows-keep r rows e) h))

pub nonzero_columns : (n : ℕ) (rows : List (List ℤ)) → AllColumns n rows → AllColumns n (nonzero_rows rows)
nonzero_columns n rows a = All-filter (λ row. not (is_zero row)) (λ row. length row ≡ n) rows a

pub nonzero_lattice : (n : ℕ) (rows : List (List ℤ)) → AllColumns n rows → SameLattice n rows (nonzero_rows rows)
nonzero_lattice n rows a = SameLattice-from_members n rows (nonzero_rows rows) a (nonzero_columns n rows a) there (λ other h. InLattice-row n rows other a (nonzero_part rows other h))
  where
    there : (row : List ℤ) → Contains rows row → InLattice n (nonzero_rows rows) row
    there row h =
        ⊎_elim (λ z. subst (InLattice n (nonzero_rows rows)) (sym (only_zeros row (is_zero-entries row z) ∙ ap (λ k. zeros k) (All-contains (λ row. length row ≡ n) rows row a h))) (InLattice-zeros n (nonzero_rows rows) (nonzero_columns n rows a)))
        (λ k. InLattice-row n (nonzero_rows rows) row (nonzero_columns n rows a) k) (nonzero_or_zero rows row h)
