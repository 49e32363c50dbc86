use Rattle.std.proofs.Common.{◌≡◌, ◌++◌, ap, sym, ◌∙◌, arith, append-nil}
use Rattle.std.specs.List.{flat_map, range_with_len}
use Rattle.mk_model.specs.Vectors.{scale}
use Rattle.mk_gen.specs.Models.{neighbour_entry, times_difference}
use Rattle.mk_gen.proofs.Pieces.{range_piece}
use Rattle.mk_gen.proofs.Units.{entry_read, unit_is_entry}
use Rattle.mk_gen.proofs.model.push_row.Goals as goal

pub loop-p-init : goal.loop-p-init
loop-p-init c = sym (append-nil c.args.entries.now.items)

pub loop-p-preserved : goal.loop-p-preserved
loop-p-preserved c =
    let row = c.args.row.now in
    let factor = entry_read c.factor_at.result (unit_is_entry c.factor_at.result c.factor_at.ensures.small) ∙ c.factor_at.ensures.value in
    range_piece (λ p. scale (neighbour_entry c.args.s p) row) c.args.entries.now.items c.loop-p.entries.items _ c.loop-p.p c.loop-p.invariant
    (c.in_ok-push_multiple.ensures ∙ ap (λ k. c.loop-p.entries.items ++ scale k row) factor)

pub returns : goal.returns
unfolding times_difference
returns c =
    let all : c.loop-p.p ≡ c.args.size = omega arith in
    c.loop-p.invariant ∙ ap (λ n. c.args.entries.now.items ++ flat_map (λ p. scale (neighbour_entry c.args.s p) c.args.row.now) (range_with_len 0 n)) all
