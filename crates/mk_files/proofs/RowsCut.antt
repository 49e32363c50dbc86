-- The rows of a table.
use Rattle.std.proofs.Common.{◌≡◌, ℕ, zero, suc, ◌+◌, ◌*◌, ◌<◌, List, take, drop, slice_get, Some, ℤ, ap, ◌∙◌, arith}
use Rattle.std.proofs.lemmas.List.{drop-drop}
use Rattle.mk_model.specs.Tables.{cut}

pub slice_get-cut : (rows columns r : ℕ) (entries : List ℤ) → r < rows → slice_get (cut rows columns entries) r ≡ Some (take columns (drop (r * columns) entries))
slice_get-cut zero columns r entries h = absurd (omega arith)
slice_get-cut (suc rows) columns zero entries h =
    let none : 0 ≡ 0 * columns = omega arith in
    ap (λ n. Some (take columns (drop n entries))) none
slice_get-cut (suc rows) columns (suc r) entries h =
    let before : columns + r * columns ≡ suc r * columns = omega arith in
    slice_get-cut rows columns r (drop columns entries) (omega arith)
    ∙ ap (λ es. Some (take columns es)) (drop-drop (r * columns) columns entries)
    ∙ ap (λ n. Some (take columns (drop n entries))) before
