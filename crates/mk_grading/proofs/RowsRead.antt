-- The rows of a table, taken one after another.
use Rattle.std.proofs.Common.{◌≡◌, ℕ, ◌+◌, ◌*◌, ◌≤◌, List, [], ◌∷◌, length, take, slice_get, Some, All, ap, sym, ◌∙◌, subst, arith, ℤ}
use Rattle.std.proofs.lemmas.List.{take_all}
use Rattle.std.proofs.lemmas.List.Elements.{All-more}
use Rattle.std.proofs.lemmas.Option.{slice_get_within, get_or_from_slice_get}
use Rattle.mk_model.specs.Tables.{Grid, cut, rows_of}

-- the only row of a table of one row
pub one_row : (grid : Grid) → length grid.entries ≡ grid.rows * grid.columns → grid.rows ≡ 1 → rows_of grid ≡ grid.entries ∷ []
one_row grid filled one =
    ap (λ n. cut n grid.columns grid.entries) one
    ∙ ap (λ row. row ∷ []) (take_all grid.columns grid.entries (omega (arith, filled, ap (λ n. n * grid.columns) one)))

-- the row of a table of one row has all its entries
pub only_row : (grid : Grid) (row : List ℤ) → length grid.entries ≡ grid.rows * grid.columns → grid.rows ≡ 1 → slice_get (rows_of grid) 0 ≡ Some row → row ≡ grid.entries
only_row grid row filled one e = let first = ap (λ rows. slice_get rows 0) (one_row grid filled one) in cc

-- ---- what is got at a place
-- what holds of each element holds of one that is got
pub got_holds : {X : Type 0} (P : X → Type 0) (xs : List X) (i : ℕ) (x : X) → slice_get xs i ≡ Some x → All P xs → P x
got_holds P xs i x e h = subst P (get_or_from_slice_get xs i x x e) (h i x (slice_get_within xs i x e))

-- one element more
pub all_more : {X : Type 0} (P : X → Type 0) (xs : List X) (i : ℕ) (x : X) → slice_get xs i ≡ Some x → All P (take i xs) → P x → All P (take (i + 1) xs)
all_more P xs i x e h p = All-more P xs i x (slice_get_within xs i x e) h (subst P (sym (get_or_from_slice_get xs i x x e)) p)

pub all_taken : {X : Type 0} (P : X → Type 0) (xs : List X) (n : ℕ) → length xs ≤ n → All P (take n xs) → All P xs
all_taken P xs n l h = subst (All P) (take_all n xs l) h
