use Rattle.std.proofs.Common.{◌≡◌, ◌/◌, pos, get_or, refl, arith, ap, ◌∙◌}
use Rattle.mk_move.proofs.Entries.{as_entry, entry_read}
use Rattle.mk_move.proofs.Readings.{less, not_less}
use Rattle.mk_move.proofs.Blocks.{with_block, masks_first, masks_positive, masks_negative, masks_neither, masks_as_they_are, masks_whole}
use Rattle.mk_move.proofs.masks.masks_of.Goals as goal
use Rattle.mk_move.proofs.masks.masks_of.Goals.{then-entry-gt0, else-entry-gt0+then-entry-lt0, else-entry-gt0+else-entry-lt0}

pub loop-column-init : goal.loop-column-init
loop-column-init c = masks_first c.args.row.now

pub loop-column-preserved : goal.loop-column-preserved
loop-column-preserved c =
    let n = c.loop-column.column in
    let row = c.args.row.now in
    let plus = c.loop-column.plus in
    let minus = c.loop-column.minus in
    let few = c.requires.few in
    let entry_is : as_entry (get_or row n (pos 0)) ≡ get_or row n (pos 0) = entry_read (get_or row n (pos 0)) (c.requires.entries n (pos 0) (omega arith)) in
    let width = c.block_width-width.ensures in
    elim c.if-entry-gt0.branch [
      | then-entry-gt0 w ↦
          masks_as_they_are row _ _ _ _ _ (w.plus-is ∙ ap (λ k. with_block plus (n / k)) width) w.minus-is
          (masks_positive row n plus minus few (omega arith) (less (pos 0) _ _ _ refl entry_is w.if-entry-gt0.true) c.loop-column.invariant)
      | else-entry-gt0+then-entry-lt0 w ↦
          masks_as_they_are row _ _ _ _ _ w.plus-is (w.minus-is ∙ ap (λ k. with_block minus (n / k)) width)
          (masks_negative row n plus minus few (omega arith) (less _ (pos 0) _ _ entry_is refl w.if-entry-lt0.true) c.loop-column.invariant)
      | else-entry-gt0+else-entry-lt0 w ↦
          masks_as_they_are row _ _ _ _ _ w.plus-is w.minus-is
          (masks_neither row n plus minus (not_less (pos 0) _ _ _ refl entry_is w.if-entry-gt0.false) (not_less _ (pos 0) _ _ entry_is refl w.if-entry-lt0.false) c.loop-column.invariant)
    ]

pub returns : goal.returns
returns c = masks_whole c.args.row.now c.loop-column.column c.loop-column.plus c.loop-column.minus (omega arith) c.loop-column.invariant
