use Rattle.std.proofs.Common.{length, ap, sym, ◌∙◌}
use Rattle.mk_model.specs.FreeColumns.{freed_by_rows}
use Rattle.mk_model.specs.Orders.{standard}
use Rattle.mk_model.proofs.FreeColumns.{length-freed_by_rows}
use Rattle.mk_move.specs.MoveLists.{vectors_of}
use Rattle.mk_saturate.proofs.FreedMoves.{freed_saturation, written_whole}
use Rattle.mk_saturate.proofs.saturation.Saturation.free_columns.Goals as goal

pub invariant_of-self : goal.invariant_of-self
invariant_of-self c =
    let basis = c.self.inside.basis in
    let p = standard (length basis.grading) in
    let moves = vectors_of basis.moves in
    let items = c.self.inside.left.items in
    let freed = c.free_by_moves.ensures.left ∙ ap (freed_by_rows p moves) c.deref_mut.ensures.value in
    let written = written_whole items c.free_by_moves.new.left c.self.inside.left.len (sym c.deref_mut.ensures.len ∙ ap length c.deref_mut.ensures.value)
    (ap length freed ∙ length-freed_by_rows p moves items) in
    freed_saturation (record { basis = basis; left = items }) c.self.invariant _ (written ∙ freed)
