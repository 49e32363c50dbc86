use Rattle.std.proofs.Common.{◌∙◌, ◌+◌, ◌≤◌, inr, arith, sym, ap, subst, length, get_or, List, ℕ}
use Rattle.std.specs.Int.RustNames.{bit_or, bit_xor}
use Rattle.std.proofs.lemmas.List.{get_or_default}
use Rattle.std.proofs.lemmas.List.Elements.{Contains-get_or}
use Rattle.mk_support.proofs.Differences.{DiffersUpTo, differs_more}
use Rattle.mk_support.proofs.block.Block.splitting_bit.Goals as goal

-- src/block.rt:88:9
pub loop-other-preserved : goal.loop-other-preserved
loop-other-preserved c =
    let n = c.loop-other.other-index in
    let masks = c.args.self.now.masks.items in
    subst (λ (x : List ℕ). DiffersUpTo masks c.args.mask (n + 1) (bit_or c.loop-other.differing (bit_xor (get_or x n 0) c.args.mask))) (sym c.deref-other-items.ensures.value)
    (differs_more masks c.args.mask n c.loop-other.differing c.loop-other.invariant)

-- src/block.rt:92:13
pub returns-then-differing-eq0-clause-none : goal.returns-then-differing-eq0-clause-none
returns-then-differing-eq0-clause-none c =
    let masks = c.args.self.now.masks.items in
    let whole : length masks ≤ c.loop-other.other-index = omega (arith, c.loop-other-test.false, ap length c.deref-other-items.ensures.value) in
    inr (λ k d l. get_or_default masks k d 0 l ∙ c.loop-other.invariant.none c.if-differing-eq0.true k (omega (arith, l, whole)))

-- src/block.rt:80:5
pub returns-clause-splits : goal.returns-clause-splits
returns-clause-splits c =
    let masks = c.args.self.now.masks.items in
    let (k, within, apart) = c.loop-other.invariant.set _ c.most_common.ensures.set in
    record {
      low = c.most_common.ensures.range;
      other = get_or masks k 0;
      own = Contains-get_or masks k 0 (omega (arith, within, c.loop-other.auto.other-index-end, ap length c.deref-other-items.ensures.value));
      apart = apart;
    }
