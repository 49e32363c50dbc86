use Rattle.std.proofs.Common.{◌≡◌, ◌∷◌, ◌++◌, [], ap, ◌∙◌, rules}
use Rattle.mk_model.specs.Orders.{lead}
use Rattle.mk_move.specs.Moves.{Weighed}
use Rattle.mk_minimise.proofs.LowerFronts.{raising_columns, raising_more}
use Rattle.mk_minimise.proofs.lower.Lower.raised.Goals as goal

pub insert-requires-clause-columns : goal.insert-requires-clause-columns
insert-requires-clause-columns c =
    raising_columns c.args.basis.now c.loop-place.place c.loop-place.moves c.loop-place.finder c.loop-place.invariant c.len.ensures.kept c.move_at-m.result.now c.move_at-m.ensures.belongs

pub loop-place-preserved : goal.loop-place-preserved
loop-place-preserved c =
    let m = c.move_at-m.result.now in
    let pushed : c.push.new.self ≡ record c.loop-place.moves { moves = c.loop-place.moves.moves ++ c.in_ok-copy.copy ∷ [] } = search rules in
    let inserted : c.insert.new.self ≡ c.loop-place.finder ++ lead m.entries ∷ [] = c.in_ok-insert.ensures.ok in
    raising_more c.args.basis.now c.loop-place.place c.loop-place.moves c.loop-place.finder c.loop-place.invariant m c.push.new.self c.insert.new.self c.move_at-m.ensures.value
    (pushed ∙ ap (λ (x : Weighed). record c.loop-place.moves { moves = c.loop-place.moves.moves ++ x ∷ [] }) c.in_ok-copy.ensures) inserted
