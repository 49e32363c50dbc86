-- There is one answer: a grading and a refusal exclude each other, as do two refusals.
use Rattle.std.proofs.Common.{◌≡◌, ◌≢◌, ◌⊎◌, inl, inr, ℕ, zero, suc, ◌<◌, List, All, Any, Option, Some, None, Result, Ok, Err, IfSome, IsSomeAnd, ap, sym, ◌∙◌, subst, refl, arith, ℤ, pos, ◌≤ℤ◌, ◌<ℤ◌}
use Rattle.std.proofs.lemmas.Int.{ints}
use Rattle.std.proofs.lemmas.Bool.{cases_order}
use Rattle.std.proofs.lemmas.Option.{IfSome_then, MatchOption-from_none}
use Rattle.mk_model.specs.Vectors.{weight}
use Rattle.mk_model.specs.Lattices.{ones}
use Rattle.mk_model.specs.Tables.{Grid, rows_of}
use Rattle.mk_model.specs.ChosenGradings.{IsOrthogonal, IsColumnWeight, FitsMatrix, HasGradeShape, matrix_sum, IsOnesOrSum, IsSource, IsGradeOf, HasOtherColumns, IsFirstProduct, IsMatrixMismatch, HasOtherShape, IsFirstBelowOne, IsGradeMismatch, HasNoSource}
use Rattle.mk_grading.specs.Choices.{IsGradeFault}
use Rattle.mk_grading.specs.declared.fault.GradeFault.{GradeFault}
use Rattle.mk_grading.specs.declared.fault.GradeFault.TheVariants.{Memory, MatColumns, MatMismatch, GradeShape, GradeNotPositive, GradeMismatch, NoGrading}
use Rattle.mk_grading.proofs.RowsRead.{got_holds}
use Rattle.mk_grading.proofs.FirstFailures.{one_first, some_not_all, same_element, not_orthogonal, one_product}

-- the grading, or the cause of the refusal
abbrev pub IsChoice : Grid → Option Grid → Option Grid → Result (List ℤ) GradeFault → Type 0
IsChoice lat mat grade (Ok w) = IsGradeOf lat mat grade w
IsChoice lat mat grade (Err fault) = IsGradeFault lat mat grade fault

-- ---- what is said of the table, if one is given
some_and_if : {X : Type 0} (o : Option X) (P Q : X → Type 0) → IsSomeAnd o P → IfSome o Q → ((x : X) → P x → Q x → ⊥) → ⊥
some_and_if None P Q h k f = h
some_and_if (Some x) P Q h k f = f x h k

some_and_some : {X : Type 0} {R : Type 0} (o : Option X) (P Q : X → Type 0) → IsSomeAnd o P → IsSomeAnd o Q → ((x : X) → P x → Q x → R) → R
some_and_some None P Q h k f = absurd h
some_and_some (Some x) P Q h k f = f x h k

some_then : {X : Type 0} (o : Option X) (P Q : X → Type 0) → IsSomeAnd o P → ((x : X) → P x → Q x) → IfSome o Q
some_then None P Q h f = absurd h
some_then (Some x) P Q h f = f x h

-- ---- the sources
ones_not_orthogonal : (lat : Grid) → Any (λ row. weight (ones lat.columns) row ≢ pos 0) (rows_of lat) → IsOrthogonal lat (ones lat.columns) → ⊥
ones_not_orthogonal lat h k = some_not_all (λ row. weight (ones lat.columns) row ≡ pos 0) (rows_of lat) h k

one_source : (lat : Grid) (mat grade : Option Grid) (w u : List ℤ) → IsSource lat mat grade w → IsSource lat mat grade u → w ≡ u
one_source lat mat (Some grade) w u h k = h ∙ sym k
one_source lat mat None w u (inl h) (inl k) = h.1 ∙ sym k.1
one_source lat mat None w u (inl h) (inr k) = absurd (ones_not_orthogonal lat k.0 h.0)
one_source lat mat None w u (inr h) (inl k) = absurd (ones_not_orthogonal lat h.0 k.0)
one_source lat mat None w u (inr h) (inr k) =
    some_and_some mat (λ matrix. All IsColumnWeight (matrix_sum matrix) × (w ≡ matrix_sum matrix)) (λ matrix. All IsColumnWeight (matrix_sum matrix) × (u ≡ matrix_sum matrix)) h.1 k.1
    (λ matrix p q. p.1 ∙ sym q.1)

no_source : (lat : Grid) (mat : Option Grid) (w : List ℤ) → HasNoSource lat mat None → IsOnesOrSum lat mat w → ⊥
no_source lat mat w h (inl k) = ones_not_orthogonal lat h.not_ones k.0
no_source lat mat w h (inr k) =
    some_and_if mat (λ matrix. All IsColumnWeight (matrix_sum matrix) × (w ≡ matrix_sum matrix)) (λ matrix. Any (λ k. ¬ (IsColumnWeight k)) (matrix_sum matrix)) k.1 h.no_sum
    (λ matrix p q. some_not_all IsColumnWeight (matrix_sum matrix) q p.0)

not_without : (lat : Grid) (mat grade : Option Grid) (w : List ℤ) → HasNoSource lat mat grade → IsSource lat mat grade w → ⊥
not_without lat mat (Some grade) w h k = let none = h.no_grade in absurd (cc)
not_without lat mat None w h k = no_source lat mat w h k

not_positive : (z : ℤ) → z <ℤ pos 1 → pos 1 ≤ℤ z → ⊥
not_positive z l k = omega (arith, ints, l, k)

-- ---- the tests, one after another, and the one that fails
module _ (lat : Grid) (mat grade : Option Grid) where
  abbrev Passes : ℕ → Type 0
  Passes zero = IfSome mat (λ matrix. matrix.columns ≡ lat.columns)
  Passes (suc zero) = IfSome mat (λ matrix. All (IsOrthogonal lat) (rows_of matrix))
  Passes (suc (suc zero)) = IfSome grade (HasGradeShape lat)
  Passes (suc (suc (suc zero))) = IfSome grade (λ given. All (λ k. pos 1 ≤ℤ k) given.entries)
  Passes (suc (suc (suc (suc zero)))) = IfSome grade (λ given. IsOrthogonal lat given.entries)
  Passes (suc (suc (suc (suc (suc zero))))) = (w : List ℤ) × IsSource lat mat grade w
  Passes (suc (suc (suc (suc (suc (suc n)))))) = ⊥

  -- all tests before this one
  abbrev Reaches : ℕ → Type 0
  Reaches zero = Unit {0}
  Reaches (suc n) = Reaches n × Passes n

  -- one test more
  passed_more : (m n : ℕ) → m < suc n → Reaches (suc n) → (m < n → Passes m) → (m ≡ n) ⊎ ((m < n) ⊎ (n < m)) → Passes m
  passed_more m n l h less (inl same) = subst Passes (sym same) h.1
  passed_more m n l h less (inr (inl k)) = less k
  passed_more m n l h less (inr (inr k)) = absurd (omega arith)

  passed : (m n : ℕ) → m < n → Reaches n → Passes m
  passed m zero l h = absurd (omega arith)
  passed m (suc n) l h = passed_more m n l h (λ k. passed m n k h.0) (cases_order m n)

  -- which test an answer fails, and how many there are where it is a grading
  abbrev place_of : Result (List ℤ) GradeFault → ℕ
  place_of (Ok w) = 6
  place_of (Err Memory) = 6
  place_of (Err (MatColumns found wanted)) = 0
  place_of (Err (MatMismatch mat_row lat_row value)) = 1
  place_of (Err (GradeShape rows columns wanted)) = 2
  place_of (Err (GradeNotPositive column value)) = 3
  place_of (Err (GradeMismatch lat_row value)) = 4
  place_of (Err NoGrading) = 5

  fits_columns : IfSome mat (FitsMatrix lat) → Passes 0
  fits_columns h = IfSome_then mat h (λ matrix f. f.columns)

  fits_products : IfSome mat (FitsMatrix lat) → Passes 1
  fits_products h = IfSome_then mat h (λ matrix f. f.products)

  reaches : (r : Result (List ℤ) GradeFault) → IsChoice lat mat grade r → Reaches (place_of r)
  reaches (Ok w) h = (
    (((((tt, fits_columns h.matrix_fits), fits_products h.matrix_fits), IfSome_then grade h.grade_fits (λ given f. f.shape)), IfSome_then grade h.grade_fits (λ given f. f.positive)), IfSome_then grade h.grade_fits (λ given f. f.products)),
    (w, h.source),
  )
  reaches (Err Memory) h = absurd h
  reaches (Err (MatColumns found wanted)) h = tt
  reaches (Err (MatMismatch mat_row lat_row value)) h =
      (tt, some_then mat (λ matrix. IsMatrixMismatch lat matrix mat_row lat_row value) (λ matrix. matrix.columns ≡ lat.columns) h (λ matrix f. f.columns))
  reaches (Err (GradeShape rows columns wanted)) h = ((tt, fits_columns h.0), fits_products h.0)
  reaches (Err (GradeNotPositive column value)) h =
      (((tt, fits_columns h.0), fits_products h.0), some_then grade (λ given. IsFirstBelowOne lat given column value) (HasGradeShape lat) h.1 (λ given f. f.shape))
  reaches (Err (GradeMismatch lat_row value)) h = (
    (((tt, fits_columns h.0), fits_products h.0), some_then grade (λ given. IsGradeMismatch lat given lat_row value) (HasGradeShape lat) h.1 (λ given f. f.shape)),
    some_then grade (λ given. IsGradeMismatch lat given lat_row value) (λ given. All (λ k. pos 1 ≤ℤ k) given.entries) h.1 (λ given f. f.positive),
  )
  reaches (Err NoGrading) h = (
    ((((tt, fits_columns h.0), fits_products h.0), MatchOption-from_none grade (HasGradeShape lat) h.1.no_grade), MatchOption-from_none grade (λ given. All (λ k. pos 1 ≤ℤ k) given.entries) h.1.no_grade),
    MatchOption-from_none grade (λ given. IsOrthogonal lat given.entries) h.1.no_grade,
  )

  fails : (r : Result (List ℤ) GradeFault) → IsChoice lat mat grade r → ¬ (Passes (place_of r))
  fails (Ok w) h p = p
  fails (Err Memory) h p = h
  fails (Err (MatColumns found wanted)) h p =
      some_and_if mat (λ matrix. HasOtherColumns lat matrix found wanted) (λ matrix. matrix.columns ≡ lat.columns) h p
      (λ matrix f same. f.other (f.of_matrix ∙ same ∙ sym f.of_lattice))
  fails (Err (MatMismatch mat_row lat_row value)) h p =
      some_and_if mat (λ matrix. IsMatrixMismatch lat matrix mat_row lat_row value) (λ matrix. All (IsOrthogonal lat) (rows_of matrix)) h p
      (λ matrix f all. not_orthogonal lat f.row lat_row value f.product (got_holds (IsOrthogonal lat) (rows_of matrix) mat_row f.row f.at all))
  fails (Err (GradeShape rows columns wanted)) h p =
      some_and_if grade (λ given. HasOtherShape lat given rows columns wanted) (HasGradeShape lat) h.1 p (λ given f shape. other_shape given f shape f.other)
    where
      other_shape : (given : Grid) → HasOtherShape lat given rows columns wanted → HasGradeShape lat given → (rows ≢ 1) ⊎ (columns ≢ wanted) → ⊥
      other_shape given f shape (inl n) = n (f.rows_of_grade ∙ shape.rows)
      other_shape given f shape (inr n) = n (f.columns_of_grade ∙ shape.columns ∙ sym f.of_lattice)
  fails (Err (GradeNotPositive column value)) h p =
      some_and_if grade (λ given. IsFirstBelowOne lat given column value) (λ given. All (λ k. pos 1 ≤ℤ k) given.entries) h.1 p
      (λ given f all. not_positive value f.below (got_holds (λ k. pos 1 ≤ℤ k) given.entries column value f.at all))
  fails (Err (GradeMismatch lat_row value)) h p =
      some_and_if grade (λ given. IsGradeMismatch lat given lat_row value) (λ given. IsOrthogonal lat given.entries) h.1 p
      (λ given f all. not_orthogonal lat given.entries lat_row value f.product all)
  fails (Err NoGrading) h p = not_without lat mat grade p.0 h.1 p.1

  same_place : (r s : Result (List ℤ) GradeFault) → IsChoice lat mat grade r → IsChoice lat mat grade s → place_of r ≡ place_of s
  same_place r s h k = go (cases_order (place_of r) (place_of s))
    where
      go : (place_of r ≡ place_of s) ⊎ ((place_of r < place_of s) ⊎ (place_of s < place_of r)) → place_of r ≡ place_of s
      go (inl same) = same
      go (inr (inl less)) = absurd (fails r h (passed (place_of r) (place_of s) less (reaches s k)))
      go (inr (inr more)) = absurd (fails s k (passed (place_of s) (place_of r) more (reaches r h)))

  one_mismatch : (matrix : Grid) (i j r s : ℕ) (v u : ℤ) → IsMatrixMismatch lat matrix i r v → IsMatrixMismatch lat matrix j s u → ◌≡◌ {A = Result (List ℤ) GradeFault} (Err (MatMismatch i r v)) (Err (MatMismatch j s u))
  one_mismatch matrix i j r s v u p q =
      let rows = rows_of matrix in
      let same_row = one_first (IsOrthogonal lat) rows i j p.row q.row p.at q.at (not_orthogonal lat p.row r v p.product) (not_orthogonal lat q.row s u q.product) p.before q.before in
      let same = same_element rows i j p.row q.row p.at q.at same_row in
      let products = one_product lat p.row r s v u p.product (subst (λ (w : List ℤ). IsFirstProduct lat w s u) (sym same) q.product) in
      let a = products.0 in let b = products.1 in cc

  one_below : (given : Grid) (c d : ℕ) (v u : ℤ) → IsFirstBelowOne lat given c v → IsFirstBelowOne lat given d u → ◌≡◌ {A = Result (List ℤ) GradeFault} (Err (GradeNotPositive c v)) (Err (GradeNotPositive d u))
  one_below given c d v u p q =
      let column = one_first (λ k. pos 1 ≤ℤ k) given.entries c d v u p.at q.at (not_positive v p.below) (not_positive u q.below) p.before q.before in
      let value = same_element given.entries c d v u p.at q.at column in cc

  one_choice : (r s : Result (List ℤ) GradeFault) → IsChoice lat mat grade r → IsChoice lat mat grade s → place_of r ≡ place_of s → r ≡ s
  one_choice (Ok w) (Ok u) h k e = ap Ok (one_source lat mat grade w u h.source k.source)
  one_choice (Err Memory) s h k e = absurd h
  one_choice r (Err Memory) h k e = absurd k
  one_choice (Err (MatColumns found wanted)) (Err (MatColumns others lattice)) h k e =
      some_and_some mat (λ matrix. HasOtherColumns lat matrix found wanted) (λ matrix. HasOtherColumns lat matrix others lattice) h k
      (λ matrix p q. let a = p.of_matrix ∙ sym q.of_matrix in let b = p.of_lattice ∙ sym q.of_lattice in cc)
  one_choice (Err (MatMismatch mat_row lat_row value)) (Err (MatMismatch i j z)) h k e =
      some_and_some mat (λ matrix. IsMatrixMismatch lat matrix mat_row lat_row value) (λ matrix. IsMatrixMismatch lat matrix i j z) h k
      (λ matrix p q. one_mismatch matrix mat_row i lat_row j value z p q)
  one_choice (Err (GradeShape rows columns wanted)) (Err (GradeShape i j n)) h k e =
      some_and_some grade (λ given. HasOtherShape lat given rows columns wanted) (λ given. HasOtherShape lat given i j n) h.1 k.1
      (λ given p q. let a = p.rows_of_grade ∙ sym q.rows_of_grade in let b = p.columns_of_grade ∙ sym q.columns_of_grade in let d = p.of_lattice ∙ sym q.of_lattice in cc)
  one_choice (Err (GradeNotPositive column value)) (Err (GradeNotPositive c z)) h k e =
      some_and_some grade (λ given. IsFirstBelowOne lat given column value) (λ given. IsFirstBelowOne lat given c z) h.1 k.1
      (λ given p q. one_below given column c value z p q)
  one_choice (Err (GradeMismatch lat_row value)) (Err (GradeMismatch j z)) h k e =
      some_and_some grade (λ given. IsGradeMismatch lat given lat_row value) (λ given. IsGradeMismatch lat given j z) h.1 k.1
      (λ given p q. let same = one_product lat given.entries lat_row j value z p.product q.product in let a = same.0 in let b = same.1 in cc)
  one_choice (Err NoGrading) (Err NoGrading) h k e = refl
  one_choice r s h k e = absurd (omega (arith, e))

-- there is one answer
pub only_choice : (lat : Grid) (mat grade : Option Grid) (r s : Result (List ℤ) GradeFault) → IsChoice lat mat grade r → IsChoice lat mat grade s → r ≡ s
only_choice lat mat grade r s h k = one_choice lat mat grade r s h k (same_place lat mat grade r s h k)
