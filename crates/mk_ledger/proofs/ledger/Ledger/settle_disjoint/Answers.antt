use Rattle.std.proofs.Common.{length, arith, refl, sym, subst, ◌∙◌}
use Rattle.mk_move.specs.MoveLists.{BasisView}
use Rattle.mk_ledger.specs.Ledgers.{LedgerView}
use Rattle.mk_ledger.specs.DisjointPairs.{SettlesDisjoint, StaysInRow}
use Rattle.mk_ledger.proofs.DisjointPairs.{settles_none, settles_both, row_may_claim, row_behind, row_begun, stays_in_row, none_behind_row}
use Rattle.mk_ledger.proofs.ledger.Ledger.settle_disjoint.Goals as goal

pub loop-i-init : goal.loop-i-init
loop-i-init c = record {
  settles = settles_none (length c.args.self.now.basis.grading) c.args.self.now.basis.priority c.args.worker c.args.self.now.state;
  basis = refl;
  row = c.open_row-start.ensures.row;
  kept = c.open_row-start.ensures.kept;
  begun = row_begun c.args.self.now.state c.open_row-start.result.0 c.open_row-start.result.1 c.open_row-start.ensures.ordered
      c.open_row-start.ensures.row.number_is;
}

pub have_disjoint_leads-requires-clause-first : goal.have_disjoint_leads-requires-clause-first
have_disjoint_leads-requires-clause-first c =
    let row = c.loop-i.invariant.row in
    let some = c.loop-i-test.true in
    omega (arith, some, row.ordered some, row.within some)

pub have_disjoint_leads-requires-clause-second : goal.have_disjoint_leads-requires-clause-second
have_disjoint_leads-requires-clause-second c = c.loop-i.invariant.row.within c.loop-i-test.true

pub settle_next-requires : goal.settle_next-requires
settle_next-requires c =
    let row = c.loop-i.invariant.row in
    let some = c.loop-i-test.true in
    record {
      may = row_may_claim c.args.worker c.loop-i.i c.open_row-start.result.1 c.open_row-start.result.2 c.loop-i.self.state row some
          (length c.args.self.now.basis.grading) c.args.self.now.basis.priority c.args.self.now.state c.loop-i.invariant.settles
          c.requires.within c.requires.idle;
      ordered = omega (arith, some, row.ordered some);
      number_is = row.number_is;
      disjoint = c.have_disjoint_leads.ensures.0 c.if-not-have_disjoint_leads.false;
    }

pub loop-i-preserved : goal.loop-i-preserved
loop-i-preserved c =
    let before = c.args.self.now in
    let middle = c.loop-i.self in
    let after = c.settle_next.new.self.state in
    let worker = c.args.worker in
    let next : SettlesDisjoint (length before.basis.grading) before.basis.priority middle.state worker after =
    subst (λ (b : BasisView). SettlesDisjoint (length b.grading) b.priority middle.state worker after) c.loop-i.invariant.basis
    c.in_ok-settle_next.ensures.settles in
    record {
      settles = settles_both (length before.basis.grading) before.basis.priority worker before.state middle.state after
          c.loop-i.invariant.settles next;
      basis = c.settle_next.ensures.basis ∙ c.loop-i.invariant.basis;
      row = row_behind worker c.loop-i.i c.open_row-start.result.1 c.open_row-start.result.2 middle.state c.loop-i.invariant.row
          c.loop-i-test.true (length before.basis.grading) before.basis.priority after next c.in_ok-settle_next.ensures.one;
      kept = c.settle_next.ensures.kept;
      begun = c.loop-i.invariant.begun;
    }

pub returns-then-not-have_disjoint_leads-clause-row : goal.returns-then-not-have_disjoint_leads-clause-row
returns-then-not-have_disjoint_leads-clause-row c =
    stays_in_row c.args.self.now.state c.loop-i.self.state c.loop-i.i c.open_row-start.result.1 c.open_row-start.result.2
    c.loop-i.invariant.row c.loop-i.invariant.begun

pub returns-in_err-settle_next-clause-row : goal.returns-in_err-settle_next-clause-row
returns-in_err-settle_next-clause-row c =
    subst (λ (l : LedgerView). StaysInRow c.args.self.now.state l.state) (sym c.in_err-settle_next.ensures.err)
    (stays_in_row c.args.self.now.state c.loop-i.self.state c.loop-i.i c.open_row-start.result.1 c.open_row-start.result.2
    c.loop-i.invariant.row c.loop-i.invariant.begun)

pub returns-clause-row : goal.returns-clause-row
returns-clause-row c =
    stays_in_row c.args.self.now.state c.loop-i.self.state c.loop-i.i c.open_row-start.result.1 c.open_row-start.result.2
    c.loop-i.invariant.row c.loop-i.invariant.begun

pub returns-clause-far : goal.returns-clause-far
returns-clause-far c =
    none_behind_row c.args.self.now.state c.loop-i.self.state c.loop-i.i c.open_row-start.result.1 c.open_row-start.result.2
    c.loop-i.invariant.row c.loop-i.invariant.begun c.args.worker (omega (arith, c.loop-i-test.false))
