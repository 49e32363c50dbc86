use Rattle.std.proofs.Common.{◌≡◌, length}
use Rattle.mk_model.specs.CoreStates.{Pair}
use Rattle.mk_ledger.specs.Ledgers.{IsLedger}
use Rattle.mk_ledger.specs.DisjointPairs.{SettlesDisjoint, IsNextPair, IsOpenRow}
use Rattle.mk_ledger.proofs.ledger.Ledger.settle_disjoint.Given as goal

abbrev pub invariant-loop-i : goal.invariant-loop-i
invariant-loop-i l = record {
  settles : SettlesDisjoint (length l.fn.self.basis.grading) l.fn.self.basis.priority l.fn.self.state l.worker l.self.state;
  basis : l.self.basis ≡ l.fn.self.basis;
  row : IsOpenRow l.self.state l.i l.j l.end;
  kept : IsLedger l.self;
  begun : (pair : Pair) → IsNextPair l.fn.self.state pair → pair.second ≡ l.j;
}
