use Rattle.std.proofs.Common.{◌++◌, ap, sym, ◌∙◌, arith, append-nil}
use Rattle.std.specs.List.{flat_map}
use Rattle.std.proofs.lemmas.List.{take_all}
use Rattle.mk_model.specs.Tables.{rows_of}
use Rattle.mk_model.proofs.TableRows.{length-rows_of}
use Rattle.mk_gen.specs.Models.{times_difference}
use Rattle.mk_gen.proofs.Pieces.{element_piece}
use Rattle.mk_gen.proofs.model.push_rows.Goals as goal

pub loop-r-init : goal.loop-r-init
loop-r-init c = sym (append-nil c.args.entries.now.items)

pub loop-r-preserved : goal.loop-r-preserved
loop-r-preserved c =
    element_piece (times_difference c.args.size c.args.s) (rows_of c.args.table.now) c.args.entries.now.items c.loop-r.entries.items _ c.loop-r.r c.row.result.now c.row.ensures.value c.loop-r.invariant
    c.in_ok-push_row.ensures

pub returns : goal.returns
returns c =
    let rows = rows_of c.args.table.now in
    c.loop-r.invariant
    ∙ ap (λ rs. c.args.entries.now.items ++ flat_map (times_difference c.args.size c.args.s) rs) (take_all c.loop-r.r rows (omega (arith, length-rows_of c.args.table.now)))
