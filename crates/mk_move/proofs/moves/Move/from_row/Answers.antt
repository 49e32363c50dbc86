use Rattle.std.proofs.Common.{ap, sym, ◌∙◌, arith, subst, All, length}
use Rattle.mk_model.specs.Vectors.{IsEntry}
use Rattle.mk_move.specs.Moves.{IsRowOriented}
use Rattle.mk_move.proofs.Parts.{length-oriented, All-oriented, IsKept-oriented}
use Rattle.mk_move.proofs.moves.Move.from_row.Goals as goal
use Rattle.mk_move.proofs.moves.Move.from_row.Goals.{In-Some}

-- what was found is the row, oriented
found : (c : In-Some) → IsRowOriented c.args.row.now c.args.priority.now c.in-Some.entries.items
found c = rw c.in-Some.is at c.in_ok-entries.ensures

pub lead_weight-weight-requires-clause-columns : goal.lead_weight-weight-requires-clause-columns
lead_weight-weight-requires-clause-columns c =
    ap length c.as_slice.ensures ∙ length-oriented c.args.row.now c.args.priority.now c.in-Some.entries.items (found (goal.at.lead_weight-weight-requires-clause-columns c).In-Some) ∙ c.requires.columns

pub lead_weight-weight-requires-clause-entries : goal.lead_weight-weight-requires-clause-entries
lead_weight-weight-requires-clause-entries c =
    subst (All IsEntry) (sym c.as_slice.ensures) (All-oriented c.args.row.now c.args.priority.now c.in-Some.entries.items (found (goal.at.lead_weight-weight-requires-clause-entries c).In-Some) c.requires.entries)

pub of_entries-requires : goal.of_entries-requires
of_entries-requires c =
    IsKept-oriented c.args.row.now c.args.priority.now _ (omega (arith, c.requires.columns, c.product-value.ensures.kept.columns)) (found (goal.at.of_entries-requires c).In-Some) c.requires.entries
