use Rattle.std.proofs.Common.{All, pos, arith, subst, sym, get_or, rules}
use mir.Syntax.{w64}
use mir.Val.{SFits}
use Rattle.std.proofs.lemmas.Int.{ints}
use Rattle.std.proofs.lemmas.List.Elements.{All-more}
use Rattle.std.proofs.lemmas.List.{take_all}
use Rattle.mk_move.specs.Gradings.{IsWeight, AreWeights}
use Rattle.mk_move.proofs.grading.Grading.new.Goals as goal
use Rattle.mk_move.proofs.grading.Grading.new.Goals.{In_ok-from_slice}

pub loop-column-preserved : goal.loop-column-preserved
loop-column-preserved c =
    let fits : SFits w64 (get_or c.args.weights.now c.loop-column.column (pos 0)) = search rules in
    All-more IsWeight c.args.weights.now c.loop-column.column (pos 0) (omega arith) c.loop-column.invariant (grind (arith, ints, c.if-value-lt1.false), grind (arith, ints, c.if-value-gt-WEIGHT_MAX.false))

kept : (c : In_ok-from_slice) → AreWeights c.in_ok-from_slice.field-0.items
kept c =
    let all : All IsWeight c.args.weights.now = subst (All IsWeight) (take_all c.loop-column.column c.args.weights.now (omega arith)) c.loop-column.invariant in
    subst AreWeights (sym c.in_ok-from_slice.ensures.items) (record { columns = c.requires; each = all })

pub invariant_of-result : goal.invariant_of-result
invariant_of-result c = kept (goal.at.invariant_of-result c).In_ok-from_slice

pub returns-clause-weights : goal.returns-clause-weights
returns-clause-weights c = kept (goal.at.returns-clause-weights c).In_ok-from_slice
