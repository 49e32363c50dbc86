use Rattle.std.proofs.Common.{◌-◌, ◌*◌, ◌/◌, ap, sym, ◌∙◌}
use Rattle.mk_ledger.specs.PairFlags.{pairs_of}
use Rattle.mk_ledger.proofs.PairNumbers.{pairs_of_none}
use Rattle.mk_ledger.proofs.pairs.pairs_of.Goals as goal

pub returns-then-count-eq0-clause-value : goal.returns-then-count-eq0-clause-value
returns-then-count-eq0-clause-value c = sym (ap pairs_of (sym c.from-count.ensures ∙ c.if-count-eq0.true) ∙ pairs_of_none)

pub returns-clause-value : goal.returns-clause-value
unfolding pairs_of
returns-clause-value c = ap (λ n. n * (n - 1) / 2) c.from-count.ensures
