use Rattle.mk_core.proofs.skipping.settle_by_chain.Goals as goal

pub settle_chain-requires : goal.settle_chain-requires
settle_chain-requires c =
    let asked = c.requires in
    record {
      pair = asked.pair;
      claimed = asked.claims.claimed;
      within = asked.chain.within;
      not_first = asked.chain.not_first;
      not_second = asked.chain.not_second;
      divides = asked.chain.divides;
    }
