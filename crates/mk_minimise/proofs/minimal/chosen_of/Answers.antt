use Rattle.std.proofs.Common.{length, arith, sym, subst}
use Rattle.mk_move.specs.MoveLists.{vectors_of}
use Rattle.mk_minimise.specs.Stages.{IsPlaceUpTo, IsWeightRun, AreChosen}
use Rattle.mk_minimise.proofs.LinkEnds.{failed}
use Rattle.mk_minimise.proofs.RunsOfWeight.{up_to_more, up_to_ends}
use Rattle.mk_minimise.proofs.minimal.chosen_of.Goals as goal

pub loop-alloc-preserved : goal.loop-alloc-preserved
loop-alloc-preserved g c =
    let basis = c.args.basis.now in
    let start = length c.loop-alloc.lower.moves in
    let end = c.end_of_weight-end.result in
    let here = subst (IsPlaceUpTo basis c.args.upto) c.len.ensures (c.is_up_to.ensures.0 c.loop-alloc-test.true) in
    let run = subst (λ k. IsWeightRun basis k end) c.len-in-loop-alloc.ensures c.end_of_weight-end.ensures in
    let count = c.in_ok-lower-2.ensures.count in
    record {
      front = c.in_ok-lower-2.ensures.front;
      light = λ k l. up_to_more basis c.requires.reduced c.args.upto start end c.loop-alloc.invariant.light here run k (omega (arith, l, count));
      chosen = subst (λ k. AreChosen (length basis.grading) basis.grading (vectors_of basis.moves) k (vectors_of c.choose.new.chosen.items)) (sym count) c.in_ok-choose.ensures.chosen;
      belongs = c.in_ok-choose.ensures.belongs;
      few = omega (arith, count, c.in_ok-choose.ensures.few_chosen);
    }

pub returns-clause-chosen : goal.returns-clause-chosen
returns-clause-chosen g c =
    let basis = c.args.basis.now in
    let count = length c.loop-alloc.lower.moves in
    record {
      count = count;
      cut = up_to_ends basis c.requires.reduced c.args.upto count c.loop-alloc.invariant.light
          (λ here. failed (IsPlaceUpTo basis c.args.upto c.len.result) c.is_up_to.result c.is_up_to.ensures c.loop-alloc-test.false (subst (IsPlaceUpTo basis c.args.upto) (sym c.len.ensures) here));
      of_front = c.loop-alloc.invariant.chosen;
    }
