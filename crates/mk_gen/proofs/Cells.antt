-- The entries of made tables, by the numbers of their rows and columns.
use Rattle.std.proofs.Common.{◌≡◌, ℕ, suc, ◌+◌, ◌-◌, ◌*◌, ◌<◌, ◌≤◌, List, [], ◌∷◌, length, map, take, get_or, ap, sym, ◌∙◌, arith, ℤ, pos, ◌*ℤ◌}
use Rattle.std.proofs.Math.Nat.{mul-le-mul_right}
use Rattle.std.specs.List.{flat_map, range_with_len}
use Rattle.std.proofs.lemmas.Int.{ints}
use Rattle.std.proofs.lemmas.List.{length-map, length-take-le, get_or-map}
use Rattle.std.proofs.lemmas.List.Concat.{get_or-flat_map}
use Rattle.std.proofs.lemmas.List.FromFn.{length-range_with_len, get_or-range_with_len}
use Rattle.mk_model.specs.Vectors.{entry, scale}
use Rattle.mk_model.proofs.VectorAlgebra.{entry-scale, length-scale}
use Rattle.mk_gen.specs.Models.{neighbour_entry, times_difference, model_rows, cells}
use Rattle.mk_gen.specs.ModelLaws.{RowsOfTwo, RowsOfThree, EntriesOfTwo, EntriesOfThree}
use Rattle.mk_gen.proofs.Rows.{length-pieces, model_columns, many_rows}

-- an element of a piece, where each piece has m elements
in_piece : {A : Type 0} (f : ℕ → List A) (m n i j : ℕ) (d : A) → ((k : ℕ) → length (f k) ≡ m) → i < n → j < m → get_or (flat_map f (range_with_len 0 n)) (i * m + j) d ≡ get_or (f i) j d
in_piece f m n i j d long h l =
    let xs = range_with_len 0 n in
    let within : i < length xs = omega (arith, length-range_with_len 0 n, h) in
    let here : get_or xs i 0 ≡ i = get_or-range_with_len 0 n i 0 h ∙ omega arith in
    let before : length (flat_map f (take i xs)) ≡ i * m =
    length-pieces f m (take i xs) (λ k e b. long _) ∙ ap (λ c. c * m) (length-take-le i xs (omega (arith, within))) in
    ap (λ c. get_or (flat_map f xs) (c + j) d) (sym before)
    ∙ get_or-flat_map f xs i j 0 d within (omega (arith, l, long (get_or xs i 0)))
    ∙ ap (λ k. get_or (f k) j d) here

-- a row, and an entry, of one size more
module _ (n : ℕ) (sizes : List ℕ) (s r : ℕ) (first : s + 1 < n) (row : r < length (model_rows sizes)) where
  abbrev rest : List ℤ
  rest = get_or (model_rows sizes) r []

  row_of : get_or (model_rows (n ∷ sizes)) (s * length (model_rows sizes) + r) [] ≡ times_difference n s rest
  unfolding model_rows
  row_of =
      in_piece (λ k. map (times_difference n k) (model_rows sizes)) (length (model_rows sizes)) (n - 1) s r [] (λ k. length-map (model_rows sizes) (times_difference n k)) (omega (arith, first)) row
      ∙ get_or-map (times_difference n s) (model_rows sizes) r [] [] row

  entry_of : (p c : ℕ) → p < n → c < cells sizes → entry (get_or (model_rows (n ∷ sizes)) (s * length (model_rows sizes) + r) []) (p * cells sizes + c) ≡ neighbour_entry s p *ℤ entry rest c
  unfolding times_difference
  entry_of p c h l =
      let wide : length rest ≡ cells sizes = model_columns sizes r [] row in
      ap (λ x. entry x (p * cells sizes + c)) row_of
      ∙ in_piece (λ k. scale (neighbour_entry s k) rest) (cells sizes) n p c (pos 0) (λ k. length-scale (neighbour_entry s k) rest ∙ wide) h l
      ∙ entry-scale (neighbour_entry s p) rest c

-- one size
one : (b t q : ℕ) → t + 1 < b → q < b → entry (get_or (model_rows (b ∷ [])) t []) q ≡ neighbour_entry t q
unfolding model_rows cells
one b t q h l =
    let row : t * 1 + 0 ≡ t = omega arith in
    let column : q * 1 + 0 ≡ q = omega arith in
    ap (λ k. entry (get_or (model_rows (b ∷ [])) k []) q) (sym row) ∙ ap (λ c. entry (get_or (model_rows (b ∷ [])) (t * 1 + 0) []) c) (sym column)
    ∙ entry_of b [] t 0 h (omega arith) q 0 l (omega arith) ∙ omega (arith, ints)

-- how many rows and cells there are
rows_of_one : (b : ℕ) → length (model_rows (b ∷ [])) ≡ b - 1
unfolding model_rows
rows_of_one b = many_rows b [] ∙ omega arith

cells_of_one : (b : ℕ) → cells (b ∷ []) ≡ b
unfolding cells
cells_of_one b = omega arith

pub two : EntriesOfTwo
two a b s t p q h i l m =
    let many = rows_of_one b in
    let wide = cells_of_one b in
    ap (λ k. entry (get_or (model_rows (a ∷ b ∷ [])) (s * k + t) []) (p * b + q)) (sym many)
    ∙ ap (λ k. entry (get_or (model_rows (a ∷ b ∷ [])) (s * length (model_rows (b ∷ [])) + t) []) (p * k + q)) (sym wide)
    ∙ entry_of a (b ∷ []) s t h (omega (arith, many, i)) p q l (omega (arith, wide, m))
    ∙ ap (λ z. neighbour_entry s p *ℤ z) (one b t q i m)

-- a place in the i-th of k pieces of m
place_within : (i j k m : ℕ) → i < k → j < m → i * m + j < k * m
place_within i j k m h l =
    let most : suc i * m ≤ k * m = mul-le-mul_right m (omega (arith, h)) in
    omega (arith, most, l)

pub rows_of_two : RowsOfTwo
rows_of_two b c = many_rows b (c ∷ []) ∙ ap (λ k. (b - 1) * k) (rows_of_one c)

cells_of_two : (b c : ℕ) → cells (b ∷ c ∷ []) ≡ b * c
unfolding cells
cells_of_two b c = omega arith

pub three : EntriesOfThree
three a b c s t u p q r h i j l m n =
    let many = rows_of_two b c in
    let wide = cells_of_two b c in
    let row = t * (c - 1) + u in
    let cell = q * c + r in
    let lower : row < (b - 1) * (c - 1) = place_within t u (b - 1) (c - 1) (omega (arith, i)) (omega (arith, j)) in
    let left : cell < b * c = place_within q r b c m n in
    ap (λ k. entry (get_or (model_rows (a ∷ b ∷ c ∷ [])) (s * k + row) []) (p * (b * c) + cell)) (sym many)
    ∙ ap (λ k. entry (get_or (model_rows (a ∷ b ∷ c ∷ [])) (s * length (model_rows (b ∷ c ∷ [])) + row) []) (p * k + cell)) (sym wide)
    ∙ entry_of a (b ∷ c ∷ []) s row h (omega (arith, many, lower)) p cell l (omega (arith, wide, left))
    ∙ ap (λ z. neighbour_entry s p *ℤ z) (two b c t u q r i j m n)

pub rows_of_three : RowsOfThree
rows_of_three a b c = many_rows a (b ∷ c ∷ []) ∙ ap (λ k. (a - 1) * k) (rows_of_two b c)
