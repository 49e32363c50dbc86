-- The rows, in either sign and without those that are zero, are connected up to all columns.
use Rattle.std.proofs.Common.{◌≡◌, inl, inr, ℕ, suc, true, List, [], ◌∷◌, length, ℤ, pos, ◌*ℤ◌, Contains, arith, ap, refl, sym, ◌∙◌, subst}
use Rattle.std.proofs.lemmas.Int.{ints}
use Rattle.std.proofs.lemmas.Bool.{both_ways}
use Rattle.std.proofs.lemmas.List.Elements.{All-head, All-tail}
use lib.IntN.{*ℤ-zero}
use Rattle.mk_model.specs.Vectors.{entry, zeros, add, subtract, negate, scale, positive_part, negative_part, IsPoint}
use Rattle.mk_model.specs.Lattices.{lattice_of, combination, HasGrading}
use Rattle.mk_model.specs.Walks.{Members, Joined}
use Rattle.mk_model.specs.Walks.Walk.{stay}
use Rattle.mk_model.specs.Saturation.{every_column, JoinedUpTo, ConnectedUpTo, IsSignedRow}
use Rattle.mk_model.proofs.Lists.{Contains-here, Contains-there}
use Rattle.mk_model.proofs.VectorAlgebra.{lengths, columns, same_vectors, entry-scale, add_assoc, negate-subtract, negate-scale}
use Rattle.mk_model.proofs.VectorAlgebra.{scale-negate, IsPoint-add, IsPoint-positive_part, IsPoint-negative_part}
use Rattle.mk_model.proofs.LatticeLaws.{AllColumns, length-combination}
use Rattle.mk_model.proofs.WalkLaws.{walk_append, walk_back, walk_along}
use Rattle.mk_model.proofs.Translation.{joined_translate}

signed_walk : {n : ℕ} (moves : List (List ℤ)) (row : List ℤ) → IsSignedRow moves row → length row ≡ n → (k : ℤ) (x y : List ℤ) →
    IsPoint n x → IsPoint n y → subtract x y ≡ scale k row → Joined n (Members moves) x y
signed_walk {n} moves row (inl z) l k x y q r e = subst (Joined n (Members moves) x) same (stay q)
  where
    zero_at : (c : ℕ) → entry (scale k row) c ≡ pos 0
    zero_at c = entry-scale k row c ∙ ap (λ a. k *ℤ a) (z c) ∙ *ℤ-zero k

    same : x ≡ y
    same = same_vectors x y (q.columns ∙ sym r.columns) (λ c. omega (arith, ints, columns, ap (λ v. entry v c) e ∙ zero_at c))
signed_walk moves row (inr (inl h)) l k x y q r e = walk_along row h k x y q r (omega (arith, l)) e
signed_walk moves row (inr (inr h)) l k x y q r e =
    walk_back (walk_along (negate row) h k y x r q (omega (arith, lengths, l))
    (sym (negate-subtract x y) ∙ ap negate e ∙ negate-scale k row ∙ sym (scale-negate k row)))

-- one more row
row_added : (n : ℕ) (moves : List (List ℤ)) (row others : List ℤ) → length row ≡ n → length others ≡ n → IsSignedRow moves row →
    (k : ℤ) (x y : List ℤ) → IsPoint n x → IsPoint n y → subtract x y ≡ add (scale k row) others →
    ((u v : List ℤ) → IsPoint n u → IsPoint n v → subtract u v ≡ others → JoinedUpTo n every_column moves u v) →
    JoinedUpTo n every_column moves x y
row_added n moves row others l m h k x y q r e rest =
    record {
      added = add t next.added;
      point = IsPoint-add t_point next.point;
      supported = λ c f. absurd (both_ways true f refl);
      joined = joined;
    }
  where
    s : List ℤ
    s = scale k row

    s_columns : length s ≡ n
    s_columns = omega (arith, lengths, l)

    t : List ℤ
    t = add (positive_part s) (negative_part s)

    t_point : IsPoint n t
    t_point = IsPoint-add (IsPoint-positive_part s s_columns) (IsPoint-negative_part s s_columns)

    low : List ℤ
    low = subtract (add x t) s

    low_point : IsPoint n low
    low_point = record {
      columns = omega (arith, lengths, q.columns, t_point.columns, s_columns);
      nonnegative = λ c. omega (arith, ints, columns, q.nonnegative c);
    }

    next : JoinedUpTo n every_column moves low (add y t)
    next =
        rest low (add y t) low_point (IsPoint-add r t_point)
        (same_vectors _ _ (omega (arith, lengths, q.columns, r.columns, t_point.columns, s_columns, m))
        (λ c. omega (arith, ints, columns, ap (λ v. entry v c) e)))

    first : Joined n (Members moves) (add x t) low
    first =
        signed_walk moves row h l k (add x t) low (IsPoint-add q t_point) low_point
        (same_vectors _ _ (omega (arith, lengths, q.columns, t_point.columns, s_columns)) (λ c. omega (arith, ints, columns)))

    joined : Joined n (Members moves) (add x (add t next.added)) (add y (add t next.added))
    joined = rw (← add_assoc x t next.added, ← add_assoc y t next.added)
        (walk_append (joined_translate next.added next.point first) next.joined)

rows_connect : (n : ℕ) (moves rows : List (List ℤ)) → AllColumns n rows → ((row : List ℤ) → Contains rows row → IsSignedRow moves row) →
    (factors : ℕ → ℤ) (x y : List ℤ) → IsPoint n x → IsPoint n y → subtract x y ≡ combination n factors rows →
    JoinedUpTo n every_column moves x y
unfolding combination
rows_connect n moves [] a f factors x y q r e =
    let same : x ≡ y = same_vectors x y (q.columns ∙ sym r.columns) (λ c. omega (arith, ints, columns, ap (λ v. entry v c) e)) in
    let z : IsPoint n (zeros n) = record { columns = omega (arith, lengths); nonnegative = λ c. omega (arith, ints, columns) } in
    record {
      added = zeros n;
      point = z;
      supported = λ c h. absurd (both_ways true h refl);
      joined = subst (λ v. Joined n (Members moves) (add x (zeros n)) (add v (zeros n))) same (stay (IsPoint-add q z));
    }
rows_connect n moves (row ∷ rows) a f factors x y q r e =
    let b = All-tail (λ row. length row ≡ n) row rows a in
    row_added n moves row (combination n (λ i. factors (suc i)) rows) (All-head (λ row. length row ≡ n) row rows a)
    (length-combination n (λ i. factors (suc i)) rows b) (f row (Contains-here row rows)) (factors 0) x y q r e
    (λ u v s t d. rows_connect n moves rows b (λ row h. f row (Contains-there _ rows row h)) (λ i. factors (suc i)) u v s t d)

pub connected_by_rows : {n : ℕ} {rows : List (List ℤ)} {w : List ℤ} → HasGrading (lattice_of n rows w) → (moves : List (List ℤ)) →
    ((row : List ℤ) → Contains rows row → IsSignedRow moves row) → ConnectedUpTo n rows every_column moves
connected_by_rows {n} {rows} g moves f x y q r (factors, e) = rows_connect n moves rows g.rows_columns f factors x y q r e
