use Rattle.std.proofs.Common.{rules, arith, ◌+◌, ◌++◌, List, ℕ, ap, ◌∙◌}
use Rattle.mk_desk.proofs.Telling.{nothing_rose, where_told_then, where_told_weaker}
use Rattle.mk_writer.proofs.Writings.{lines_so_far, lines_left, the_text, the_header, line_more, put_more, put_front, put_first_front}
use Rattle.mk_writer.proofs.writing.write_lines.Goals as goal

pub returns-in_err-put_all-clause-told : goal.returns-in_err-put_all-clause-told
returns-in_err-put_all-clause-told g c =
    let list = g.L.MoveList.list c.args.list.now in
    let line = the_header list _ _ c.len.result c.columns.result c.as_slice.ensures.value c.set_header.ensures.text c.len.ensures c.columns.ensures in
    where_told_weaker _ _ _ _ c.in_err-put_all.ensures.told
    (put_first_front _ (lines_left list 0) _ c.in_err-put_all.field-0.0 _ c.from_residual.ensures.0 (ap (λ (t : List ℕ). t ++ lines_left list 0) line))

pub returns-in_err-put_all-2-clause-told : goal.returns-in_err-put_all-2-clause-told
returns-in_err-put_all-2-clause-told g c =
    let list = g.L.MoveList.list c.args.list.now in
    let place = c.loop-place.place in
    let line = line_more list place c.move_at.result.now _ (c.as_slice-in-loop-place.ensures.value ∙ c.set_move.ensures.text) (omega arith) c.move_at.ensures.value in
    where_told_then _ _ _ _ _ _ c.loop-place.invariant.told c.in_err-put_all-2.ensures.told
    (put_front (lines_so_far list place) _ (lines_left list (place + 1)) _ c.in_err-put_all-2.field-0.0 _ c.from_residual-in_err-put_all-2.ensures.0 (ap (λ (t : List ℕ). t ++ lines_left list (place + 1)) line ∙ the_text list (place + 1)))

pub loop-place-preserved : goal.loop-place-preserved
loop-place-preserved g c =
    let list = g.L.MoveList.list c.args.list.now in
    let place = c.loop-place.place in
    let line = line_more list place c.move_at.result.now _ (c.as_slice-in-loop-place.ensures.value ∙ c.set_move.ensures.text) (omega arith) c.move_at.ensures.value in
    record {
      room = search rules;
      same = nothing_rose _ _ _ c.in_ok-put_all-2.ensures.state c.in_ok-put_all-2.ensures.cause (λ e. cc) ∙ c.loop-place.invariant.same;
      told =
          where_told_then _ _ _ _ _ _ c.loop-place.invariant.told c.in_ok-put_all-2.ensures.told
          (λ x y z p q. put_more (lines_so_far list place) _ x y z p q ∙ ap (λ bytes. record x { made = x.made ++ bytes }) line);
    }
