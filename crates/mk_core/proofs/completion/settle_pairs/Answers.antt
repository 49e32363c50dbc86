use Rattle.std.proofs.Common.{arith, subst, sym, ◌∙◌}
use Rattle.mk_core.specs.GoingOn.{AreLeadsOnceMade, ContinuesLedger}
use Rattle.mk_core.proofs.GoingOn.{GoesOn-here, GoesOn-then, fewer_left}
use Rattle.mk_core.proofs.completion.settle_pairs.Goals as goal

pub next_pair-requires : goal.next_pair-requires
next_pair-requires c = c.skip_disjoint.ensures.goes_on.unclaimed

pub settle_pair-requires-clause-leads : goal.settle_pair-requires-clause-leads
settle_pair-requires-clause-leads c =
    subst (AreLeadsOnceMade c.loop-third_moves.reducer.finder) (sym (c.in-Ok.ensures.pair.basis ∙ c.skip_disjoint.ensures.basis)) c.loop-third_moves.invariant.leads

pub settle_pair-requires-clause-claimed : goal.settle_pair-requires-clause-claimed
settle_pair-requires-clause-claimed c = c.in-Ok.ensures.pair.claims

pub loop-third_moves-init : goal.loop-third_moves-init
loop-third_moves-init c = record {
  goes_on = GoesOn-here c.args.ledger.now;
  unclaimed = c.requires.unclaimed;
  leads = subst (λ finder. AreLeadsOnceMade finder c.args.ledger.now.basis) (sym c.new-reducer.ensures) tt;
}

pub loop-third_moves-preserved : goal.loop-third_moves-preserved
loop-third_moves-preserved c =
    let skipped = c.skip_disjoint.new.ledger in
    let given = c.next_pair.new.ledger in
    let to_skipped = GoesOn-then c.args.ledger.now c.loop-third_moves.ledger skipped c.loop-third_moves.invariant.goes_on c.skip_disjoint.ensures.goes_on.goes_on in
    let to_given = GoesOn-then c.args.ledger.now skipped given to_skipped c.in-Ok.ensures.pair.goes_on in
    record {
      goes_on = GoesOn-then c.args.ledger.now given c.settle_pair.new.ledger to_given c.in_ok-settle_pair-in-Ok.ensures.goes_on.goes_on;
      unclaimed = c.in_ok-settle_pair-in-Ok.ensures.goes_on.unclaimed;
      leads = c.in_ok-settle_pair-in-Ok.ensures.leads;
    }

pub loop-third_moves-smaller : goal.loop-third_moves-smaller
loop-third_moves-smaller c =
    let fewer = fewer_left c.skip_disjoint.new.ledger c.next_pair.new.ledger c.settle_pair.new.ledger _ c.in-Ok.ensures.pair c.in_ok-settle_pair-in-Ok.ensures.goes_on.goes_on in
    let skipped = c.skip_disjoint.ensures.goes_on.goes_on in
    omega (arith, fewer, skipped.budget, skipped.made)

pub returns-in-Err-clause-goes_on : goal.returns-in-Err-clause-goes_on
returns-in-Err-clause-goes_on c =
    subst (ContinuesLedger c.args.ledger.now) (sym c.in-Err.ensures.same)
    (GoesOn-then c.args.ledger.now c.loop-third_moves.ledger c.skip_disjoint.new.ledger c.loop-third_moves.invariant.goes_on c.skip_disjoint.ensures.goes_on.goes_on)

pub returns-in-Err-clause-ending : goal.returns-in-Err-clause-ending
returns-in-Err-clause-ending c = c.in-Err.ensures.ending
