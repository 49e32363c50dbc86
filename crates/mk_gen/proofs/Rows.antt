-- The rows of tables, and of a table with one size more.
use Rattle.std.proofs.Common.{◌≡◌, ℕ, zero, suc, ◌+◌, ◌-◌, ◌*◌, ◌≤◌, ◌<◌, List, [], ◌∷◌, ◌++◌, length, map, take, drop, get_or, All, refl, ap, sym, ◌∙◌, arith, length-append, ℤ, pos, ◌*ℤ◌}
use Rattle.std.specs.List.{flat_map, range_with_len}
use Rattle.std.proofs.Math.Nat.{mul-le-mul}
use Rattle.std.proofs.Math.Seq.{take-append_seam, drop-append_seam}
use Rattle.std.proofs.lemmas.List.{length-map, drop_more}
use Rattle.std.proofs.lemmas.List.Elements.{All-nil, All-cons, All-head, All-tail, All-append, All-map}
use Rattle.std.proofs.lemmas.List.Folds.{flat_map-map}
use Rattle.std.proofs.lemmas.List.FromFn.{length-range_with_len}
use Rattle.std.proofs.lemmas.Grind.{flat_map-append}
use Rattle.mk_model.specs.Tables.{Grid, cut, rows_of}
use Rattle.mk_model.specs.Vectors.{IsEntry, scale}
use Rattle.mk_model.proofs.VectorAlgebra.{length-scale}
use Rattle.mk_model.proofs.TableRows.{length-rows_of, rows_columns, rows_entries}
use Rattle.mk_files.specs.Table.{IsTable}
use Rattle.mk_gen.specs.Models.{neighbour_entry, times_difference, AreModelSizes, model_rows, cells, model_grid}
use Rattle.mk_gen.specs.Wider.{wider}
use Rattle.mk_gen.proofs.Units.{IsUnit, unit_times, difference_is_unit}

-- ---- pieces
-- pieces of one length
pub length-pieces : {X A : Type 0} (f : X → List A) (m : ℕ) (xs : List X) → All (λ x. length (f x) ≡ m) xs → length (flat_map f xs) ≡ length xs * m
length-pieces f m [] h = omega arith
length-pieces f m (x ∷ xs) h =
    let first = All-head (λ y. length (f y) ≡ m) x xs h in
    let rest = length-pieces f m xs (All-tail (λ y. length (f y) ≡ m) x xs h) in
    omega (arith, length-append (f x) (flat_map f xs), first, rest)

-- what holds of each element of each piece
pub All-pieces : {X A : Type 0} (P : A → Type 0) (f : X → List A) (xs : List X) → All (λ x. All P (f x)) xs → All P (flat_map f xs)
All-pieces P f [] h = All-nil P
All-pieces P f (x ∷ xs) h =
    All-append P (f x) (flat_map f xs) (All-head (λ y. All P (f y)) x xs h) (All-pieces P f xs (All-tail (λ y. All P (f y)) x xs h))

-- the pieces of pieces
pub pieces_of_pieces : {X Y A : Type 0} (g : Y → List A) (f : X → List Y) (xs : List X) → flat_map g (flat_map f xs) ≡ flat_map (λ x. flat_map g (f x)) xs
pieces_of_pieces g f [] = refl
pieces_of_pieces g f (x ∷ xs) = flat_map-append g (f x) (flat_map f xs) ∙ ap (λ t. flat_map g (f x) ++ t) (pieces_of_pieces g f xs)

pub same_pieces : {X A : Type 0} (f g : X → List A) → ((x : X) → f x ≡ g x) → (xs : List X) → flat_map f xs ≡ flat_map g xs
same_pieces f g h [] = refl
same_pieces f g h (x ∷ xs) = ap (λ t. t ++ flat_map f xs) (h x) ∙ ap (λ t. g x ++ t) (same_pieces f g h xs)

-- ---- rows
abbrev pub grid_of : ℕ → ℕ → List ℤ → Grid
grid_of rows columns entries = record { rows = rows; columns = columns; entries = entries }

-- rows that stand one after another
pub cut_rows : (columns : ℕ) (rows : List (List ℤ)) → All (λ row. length row ≡ columns) rows → cut (length rows) columns (flat_map (λ row. row) rows) ≡ rows
cut_rows columns [] h = refl
cut_rows columns (row ∷ rows) h =
    let rest = flat_map (λ (r : List ℤ). r) rows in
    let long : columns ≡ length row = sym (All-head (λ r. length r ≡ columns) row rows h) in
    ap (λ (n : ℕ). take n (row ++ rest) ∷ cut (length rows) columns (drop columns (row ++ rest))) long
    ∙ ap (λ (n : ℕ). take (length row) (row ++ rest) ∷ cut (length rows) columns (drop n (row ++ rest))) long
    ∙ ap (λ (r : List ℤ). r ∷ cut (length rows) columns (drop (length row) (row ++ rest))) (take-append_seam row rest)
    ∙ ap (λ (es : List ℤ). row ∷ cut (length rows) columns es) (drop-append_seam row rest)
    ∙ ap (λ (rs : List (List ℤ)). row ∷ rs) (cut_rows columns rows (All-tail (λ r. length r ≡ columns) row rows h))

-- ---- one size more
pub length-times_difference : (n s : ℕ) (row : List ℤ) → length (times_difference n s row) ≡ n * length row
unfolding times_difference
length-times_difference n s row =
    length-pieces (λ p. scale (neighbour_entry s p) row) (length row) (range_with_len 0 n) (λ k d h. length-scale _ row)
    ∙ ap (λ m. m * length row) (length-range_with_len 0 n)

entries_times : (k : ℤ) → IsUnit k → (row : List ℤ) → All IsEntry row → All IsEntry (scale k row)
unfolding scale
entries_times k h row j = All-map IsEntry (λ a. k *ℤ a) row (λ i d l. unit_times k _ h (j i d l))

pub entries_times_difference : (n s : ℕ) (row : List ℤ) → All IsEntry row → All IsEntry (times_difference n s row)
unfolding times_difference
entries_times_difference n s row h =
    All-pieces IsEntry (λ p. scale (neighbour_entry s p) row) (range_with_len 0 n) (λ k d l. entries_times _ (difference_is_unit s _) row h)

pub wider_is_table : (n : ℕ) (grid : Grid) → IsTable grid → (n - 1) * grid.rows ≤ 4096 → n * grid.columns ≤ 512 → IsTable (wider n grid)
wider_is_table n grid h few narrow =
    let rows = rows_of grid in
    let one_difference : (s : ℕ) → length (flat_map (times_difference n s) rows) ≡ grid.rows * (n * grid.columns) =
    λ s. length-pieces (times_difference n s) (n * grid.columns) rows
    (λ k d l. length-times_difference n s _ ∙ ap (λ m. n * m) (rows_columns grid h.filled k d l))
    ∙ ap (λ m. m * (n * grid.columns)) (length-rows_of grid) in
    record {
      rows = few;
      columns = narrow;
      filled =
          length-pieces (λ s. flat_map (times_difference n s) rows) (grid.rows * (n * grid.columns)) (range_with_len 0 (n - 1)) (λ k d l. one_difference _)
          ∙ ap (λ m. m * (grid.rows * (n * grid.columns))) (length-range_with_len 0 (n - 1)) ∙ omega arith;
      entries =
          All-pieces IsEntry (λ s. flat_map (times_difference n s) rows) (range_with_len 0 (n - 1))
          (λ k d l. All-pieces IsEntry (times_difference n _) rows (λ i e j. entries_times_difference n _ _ (rows_entries IsEntry grid h.entries i e j)));
    }

-- ---- the rows of a model
pub model_columns : (sizes : List ℕ) → All (λ row. length row ≡ cells sizes) (model_rows sizes)
unfolding model_rows cells
model_columns [] = All-cons (λ row. length row ≡ 1) (pos 1 ∷ []) [] refl (All-nil (λ row. length row ≡ 1))
model_columns (n ∷ sizes) =
    All-pieces (λ row. length row ≡ n * cells sizes) (λ s. map (times_difference n s) (model_rows sizes)) (range_with_len 0 (n - 1))
    (λ k d l. All-map (λ row. length row ≡ n * cells sizes) (times_difference n _) (model_rows sizes)
    (λ i e j. length-times_difference n _ _ ∙ ap (λ m. n * m) (model_columns sizes i e j)))

pub rows_of_model : (sizes : List ℕ) → rows_of (model_grid sizes) ≡ model_rows sizes
rows_of_model sizes = cut_rows (cells sizes) (model_rows sizes) (model_columns sizes)

-- how many rows one size more gives
pub many_rows : (n : ℕ) (sizes : List ℕ) → length (model_rows (n ∷ sizes)) ≡ (n - 1) * length (model_rows sizes)
unfolding model_rows
many_rows n sizes =
    let rows = model_rows sizes in
    length-pieces (λ s. map (times_difference n s) rows) (length rows) (range_with_len 0 (n - 1)) (λ k d l. length-map rows (times_difference n _))
    ∙ ap (λ m. m * length rows) (length-range_with_len 0 (n - 1))

-- no more rows than cells
pub rows_few : (sizes : List ℕ) → length (model_rows sizes) ≤ cells sizes
unfolding model_rows cells
rows_few [] = omega arith
rows_few (n ∷ sizes) =
    let fewer : (n - 1) * length (model_rows sizes) ≤ n * cells sizes = mul-le-mul (omega arith) (rows_few sizes) in
    omega (arith, many_rows n sizes, fewer)

-- one size more in front
pub wider_model : (n : ℕ) (sizes : List ℕ) → wider n (model_grid sizes) ≡ model_grid (n ∷ sizes)
unfolding model_rows cells
wider_model n sizes =
    let rows = model_rows sizes in
    let differences = range_with_len 0 (n - 1) in
    let joined : flat_map (λ row. row) (model_rows (n ∷ sizes)) ≡ flat_map (λ s. flat_map (times_difference n s) rows) differences =
    pieces_of_pieces (λ (row : List ℤ). row) (λ s. map (times_difference n s) rows) differences
    ∙ same_pieces _ _ (λ s. flat_map-map (λ (row : List ℤ). row) (times_difference n s) rows) differences in
    ap (λ (rs : List (List ℤ)). record { rows = (n - 1) * length rows; columns = n * cells sizes; entries = flat_map (λ s. flat_map (times_difference n s) rs) differences }) (rows_of_model sizes)
    ∙ ap (λ es. record { rows = (n - 1) * length rows; columns = n * cells sizes; entries = es }) (sym joined)
    ∙ ap (λ m. record { rows = m; columns = n * cells sizes; entries = flat_map (λ row. row) (model_rows (n ∷ sizes)) }) (sym (many_rows n sizes))

-- ---- the cells of the last sizes
abbrev pub AreSizes : List ℕ → Type 0
AreSizes sizes = All (λ n. (2 ≤ n) × (n ≤ 16)) sizes

pub cells_left : (k : ℕ) (sizes : List ℕ) → AreSizes sizes → cells (drop k sizes) ≤ cells sizes
unfolding cells
cells_left zero sizes h = omega arith
cells_left (suc k) [] h = omega arith
cells_left (suc k) (zero ∷ sizes) h = absurd (omega (arith, (All-head (λ n. (2 ≤ n) × (n ≤ 16)) zero sizes h).0))
cells_left (suc k) (suc n ∷ sizes) h =
    omega (arith, cells_left k sizes (All-tail (λ n. (2 ≤ n) × (n ≤ 16)) (suc n) sizes h))

-- ---- from the table of the last sizes to that of one size more
module _ (sizes : List ℕ) (done : ℕ) (table : Grid) (more : done < length sizes) where
  abbrev size : ℕ
  size = get_or sizes (length sizes - 1 - done) 0

  abbrev rest : List ℕ
  rest = drop (length sizes - done) sizes

  now_in_front : drop (length sizes - (done + 1)) sizes ≡ size ∷ rest
  now_in_front =
      let here : length sizes - (done + 1) ≡ length sizes - 1 - done = omega arith in
      let behind : length sizes - 1 - done + 1 ≡ length sizes - done = omega (arith, more) in
      ap (λ k. drop k sizes) here ∙ drop_more sizes (length sizes - 1 - done) 0 (omega (arith, more)) ∙ ap (λ k. size ∷ drop k sizes) behind

  cells_within : AreModelSizes sizes → size * cells rest ≤ 512
  unfolding cells
  cells_within h = omega (arith, h.cells_few, cells_left (length sizes - (done + 1)) sizes h.each, ap cells now_in_front)

  pub next_table : table ≡ model_grid rest → wider size table ≡ model_grid (drop (length sizes - (done + 1)) sizes)
  next_table e = ap (wider size) e ∙ wider_model size rest ∙ ap model_grid (sym now_in_front)

  pub next_rows : AreModelSizes sizes → table ≡ model_grid rest → (size - 1) * table.rows ≤ 4096
  next_rows h e =
      let fewer : (size - 1) * table.rows ≤ size * cells rest = mul-le-mul (omega arith) (omega (arith, rows_few rest, ap (λ (t : Grid). t.rows) e)) in
      omega (arith, fewer, cells_within h)

  pub next_columns : AreModelSizes sizes → table ≡ model_grid rest → size * table.columns ≤ 512
  next_columns h e = omega (arith, cells_within h, ap (λ (t : Grid). size * t.columns) e)
