use Rattle.std.proofs.Common.{arith, rules, ◌∙◌}
use Rattle.std.proofs.lemmas.List.{take_rest}
use Rattle.mk_desk.proofs.Telling.{nothing_rose, where_told_then, says_more}
use Rattle.mk_desk.proofs.transfer.say_all.Goals as goal

pub loop-done-preserved : goal.loop-done-preserved
loop-done-preserved g c = record {
  within = search rules;
  same = nothing_rose _ _ _ c.in_ok-done.ensures.state c.in_ok-done.ensures.cause (λ e. cc) ∙ c.loop-done.invariant.same;
  untouched = λ none. absurd (omega (arith, c.in_ok-done.ensures.within));
  told =
      where_told_then _ _ _ _ _ _ c.loop-done.invariant.told c.in_ok-done.ensures.told
      (says_more c.args.channel c.loop-done.done c.in_ok-done.field-0 c.args.piece.now _ (take_rest c.args.piece.now c.loop-done.done));
}
