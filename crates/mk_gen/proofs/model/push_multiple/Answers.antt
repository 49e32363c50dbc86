use Rattle.std.proofs.Common.{◌++◌, pos, ◌∷◌, [], take, get_or, ◌*ℤ◌, ap, sym, ◌∙◌, append-nil}
use Rattle.std.proofs.lemmas.List.{take_all}
use Rattle.mk_model.specs.Vectors.{scale}
use Rattle.mk_gen.proofs.Pieces.{entry_piece}
use Rattle.mk_gen.proofs.Units.{as_entry, entry_read, unit_is_entry, product_read}
use Rattle.mk_gen.proofs.model.push_multiple.Goals as goal

pub loop-entry-init : goal.loop-entry-init
unfolding scale
loop-entry-init c = sym (append-nil c.args.entries.now.items)

pub loop-entry-preserved : goal.loop-entry-preserved
loop-entry-preserved c =
    let row = c.args.row.now in
    let factor = c.args.factor in
    let i = c.loop-entry.entry-index in
    let product = product_read factor (get_or row i (pos 0)) c.requires.factor (c.requires.row i (pos 0) c.loop-entry-test.true)
    ∙ ap (λ k. k *ℤ get_or row i (pos 0)) (sym (entry_read factor (unit_is_entry factor c.requires.factor))) in
    entry_piece (as_entry factor) row c.args.entries.now.items c.loop-entry.entries.items _ i c.loop-entry-test.true c.loop-entry.invariant
    (c.in_ok-push.ensures.items ∙ ap (λ z. c.loop-entry.entries.items ++ z ∷ []) product)

pub returns : goal.returns
returns c =
    let factor = c.args.factor in
    c.loop-entry.invariant
    ∙ ap (λ k. c.args.entries.now.items ++ scale k (take c.loop-entry.entry-index c.args.row.now)) (entry_read factor (unit_is_entry factor c.requires.factor))
    ∙ ap (λ row. c.args.entries.now.items ++ scale factor row) (take_all c.loop-entry.entry-index c.args.row.now c.loop-entry-test.false)
