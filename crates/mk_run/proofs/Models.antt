-- A made table: its sizes, its lattice, and the weights in its summary.
use Rattle.std.proofs.Common.{◌≡◌, ℕ, ◌+◌, ◌≤◌, ◌*◌, List, [], ◌∷◌, ◌++◌, map, take, All, slice_get, Some, ℤ, refl, ap, subst, ◌∙◌}
use Rattle.std.specs.List.{AllByRecursion}
use Rattle.std.proofs.lemmas.List.{map_more}
use Rattle.std.proofs.lemmas.List.Elements.{recursion_from_All}
use Rattle.std.proofs.lemmas.Option.{slice_get_within, get_or_from_slice_get}
use Rattle.mk_model.specs.Orders.{lead}
use Rattle.mk_model.specs.Tables.{Grid, lattice_of_table}
use Rattle.mk_model.specs.Vectors.{weight}
use Rattle.mk_move.specs.MoveLists.{MoveListView, vectors_of}
use Rattle.mk_move.specs.Moves.{Weighed, IsGraded}
use Rattle.mk_gen.specs.Models.{AreModelSizes, cells, model_grid}
use Rattle.mk_gen.specs.Summaries.{summary_text}
use Rattle.mk_words.specs.SmallSizes.{AreSmallSizes, product}
use Rattle.mk_run.specs.Asked.{IsModel, model_lattice, model_summary}
use Rattle.mk_run.specs.Stages.{summary_of}

-- the sizes of words are those of a made table
product_is_cells : (sizes : List ℕ) → product sizes ≡ cells sizes
unfolding cells
product_is_cells [] = refl
product_is_cells (n ∷ sizes) = ap (λ k. n * k) (product_is_cells sizes)

pub sizes_fit : (sizes : List ℕ) → AreSmallSizes sizes → AreModelSizes sizes
sizes_fit sizes h = record { some = h.some; few = h.few; each = h.each; cells_few = subst (λ k. k ≤ 512) (product_is_cells sizes) h.small }

-- the lattice of a made table
pub model_same : (sizes : List ℕ) (lat : Grid) (w : List ℤ) → IsModel sizes lat w → lattice_of_table lat w ≡ model_lattice sizes
model_same sizes lat w made = ap (λ (grid : Grid). lattice_of_table grid w) made.0 ∙ ap (λ (v : List ℤ). lattice_of_table (model_grid sizes) v) made.1

-- each move has the weight of its lead
weights_of_leads : (w : List ℤ) (moves : List Weighed) → AllByRecursion (IsGraded w) moves → map (λ (m : Weighed). m.weight) moves ≡ map (λ (m : List ℤ). weight w (lead m)) (vectors_of moves)
weights_of_leads w [] all = refl
weights_of_leads w (m ∷ moves) all =
    ap (λ k. k ∷ map (λ (m : Weighed). m.weight) moves) all.0.weight ∙ ap (λ ks. weight w (lead m.entries) ∷ ks) (weights_of_leads w moves all.1)

pub summary_same : (sizes : List ℕ) (lat : Grid) (w : List ℤ) (list : MoveListView) → IsModel sizes lat w → All (IsGraded w) list.moves → summary_of sizes lat list ≡ model_summary sizes (vectors_of list.moves)
summary_same sizes lat w list made graded =
    let weights = weights_of_leads w list.moves (recursion_from_All (IsGraded w) list.moves graded) in
    ap (summary_text sizes lat.rows lat.columns) weights
    ∙ ap (λ (grid : Grid). summary_text sizes grid.rows grid.columns (map (λ (m : List ℤ). weight w (lead m)) (vectors_of list.moves))) made.0
    ∙ ap (λ (v : List ℤ). summary_text sizes (model_grid sizes).rows (model_grid sizes).columns (map (λ (m : List ℤ). weight v (lead m)) (vectors_of list.moves))) made.1

-- the weights of one move more
pub weights_more : (moves : List Weighed) (k : ℕ) (m : Weighed) → slice_get moves k ≡ Some m → map (λ (v : Weighed). v.weight) (take (k + 1) moves) ≡ map (λ (v : Weighed). v.weight) (take k moves) ++ m.weight ∷ []
weights_more moves k m h =
    map_more (λ (v : Weighed). v.weight) moves k m (slice_get_within moves k m h)
    ∙ ap (λ (v : Weighed). map (λ (u : Weighed). u.weight) (take k moves) ++ v.weight ∷ []) (get_or_from_slice_get moves k m m h)
