-- The saturation that the rows of a table begin.
use Rattle.std.proofs.Common.{◌≡◌, inl, inr, ℕ, ◌≤◌, Bool, true, false, List, [], length, replicate, ℤ, pos, All, arith, ap, refl, sym, ◌∙◌, subst}
use Rattle.std.specs.List.{AllZip}
use Rattle.std.proofs.lemmas.List.{get_or-replicate, length-replicate}
use Rattle.std.proofs.lemmas.List.Elements.{All-map}
use Rattle.mk_model.specs.Vectors.{weight}
use Rattle.mk_model.specs.Lattices.{HasGrading, SameLattice, nonzero_rows}
use Rattle.mk_model.specs.Saturation.{every_column, ConnectedUpTo}
use Rattle.mk_model.specs.Tables.{Grid, rows_of}
use Rattle.mk_model.proofs.LatticeLaws.{AllColumns}
use Rattle.mk_model.proofs.RowConnections.{connected_by_rows}
use Rattle.mk_files.specs.Table.{IsTable}
use Rattle.mk_move.specs.Moves.{Weighed}
use Rattle.mk_move.specs.MoveLists.{lattice_spanned, BasisView, IsBasis, vectors_of}
use Rattle.mk_model.specs.Orders.{IsRowTurned}
use Rattle.mk_saturate.specs.Starts.{IsFirstUngraded}
use Rattle.mk_model.specs.FreeColumns.{is_left}
use Rattle.mk_saturate.specs.Saturations.{IsSaturation}
use Rattle.mk_saturate.proofs.RowsTurned.{got_is, got_within}
use Rattle.mk_saturate.proofs.Spans.{SameLattice-transitive, nonzero_columns, nonzero_lattice}
use Rattle.mk_saturate.proofs.Turned.{turned_lattice}
use Rattle.mk_model.proofs.Connections.{connected_in_columns}
use Rattle.mk_model.proofs.TableRows.{rows_columns}

-- where each row is graded, none is refused
pub none_ungraded : (rows : List (List ℤ)) (w : List ℤ) (value : ℤ) → All (λ row. weight w row ≡ pos 0) rows → IsFirstUngraded rows w value → ⊥
none_ungraded rows w value graded f =
    f.not_zero (f.product ∙ ap (weight w) (sym (got_is rows f.place f.row [] f.at)) ∙ graded f.place [] (got_within rows f.place f.row f.at))

pub table_columns : (grid : Grid) → IsTable grid → AllColumns grid.columns (rows_of grid)
table_columns grid h = rows_columns grid h.filled

-- ---- the moves of a basis have its grading
pub basis_graded : (basis : BasisView) → IsBasis basis → HasGrading (lattice_spanned basis)
basis_graded basis h = record {
  columns = refl;
  positive = λ c l. (h.grading.each c (pos 0) l).0;
  rows_columns = All-map (λ row. length row ≡ length basis.grading) (λ (m : Weighed). m.entries) basis.moves (λ k d l. (h.moves k d l).columns ∙ h.columns);
  rows_weight = All-map (λ row. weight basis.grading row ≡ pos 0) (λ (m : Weighed). m.entries) basis.moves (λ k d l. (h.moves k d l).graded.product);
}

-- ---- with every column unsaturated each basis is connected
pub all_left_connected : (basis : BasisView) → IsBasis basis → ConnectedUpTo (length basis.grading) (vectors_of basis.moves) (is_left (replicate (length basis.grading) true)) (vectors_of basis.moves)
all_left_connected basis h =
    connected_in_columns (length basis.grading) (vectors_of basis.moves) (vectors_of basis.moves) every_column (is_left (replicate (length basis.grading) true))
    (λ c l e. sym (get_or-replicate (length basis.grading) c true false l) ∙ e)
    (connected_by_rows (basis_graded basis h) (vectors_of basis.moves) (λ row k. inr (inl k)))

-- the rows span the lattice of the moves that they begin
pub start_lattice : (grid : Grid) (p : List ℕ) (moves : List (List ℤ)) → IsTable grid → AllZip (IsRowTurned p) (nonzero_rows (rows_of grid)) moves → SameLattice grid.columns (rows_of grid) moves
start_lattice grid p moves h z =
    SameLattice-transitive grid.columns (rows_of grid) (nonzero_rows (rows_of grid)) moves (nonzero_lattice grid.columns (rows_of grid) (table_columns grid h))
    (turned_lattice p grid.columns (nonzero_rows (rows_of grid)) moves z (nonzero_columns grid.columns (rows_of grid) (table_columns grid h)))

-- with every column unsaturated each basis of few moves is a saturation
pub all_left : (n : ℕ) (basis : BasisView) (left : List Bool) → IsBasis basis → length basis.grading ≡ n → left ≡ replicate n true → length basis.moves ≤ 4096 → IsSaturation (record { basis = basis; left = left })
all_left n basis left h same e few = record {
  kept = h;
  columns = ap length each ∙ length-replicate (length basis.grading) true;
  few = omega arith;
  connected = subst (λ (l : List Bool). ConnectedUpTo (length basis.grading) (vectors_of basis.moves) (is_left l) (vectors_of basis.moves)) (sym each) (all_left_connected basis h);
}
  where
    each : left ≡ replicate (length basis.grading) true
    each = e ∙ ap (λ k. replicate k true) (sym same)
