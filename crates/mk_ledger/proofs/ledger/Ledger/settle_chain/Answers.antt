use Rattle.std.proofs.Common.{◌≡◌, refl, sym, ◌∙◌, subst}
use Rattle.std.proofs.lemmas.Option.{same_Some}
use Rattle.mk_model.specs.CoreStates.{Pair}
use Rattle.mk_ledger.specs.Settlings.{AreBothSettled}
use Rattle.mk_ledger.proofs.ledger.Ledger.settle_chain.Goals as goal

pub settle_unplaced-requires-clause-claim : goal.settle_unplaced-requires-clause-claim
settle_unplaced-requires-clause-claim c =
    let asked = c.requires in
    let held = c.held_by-held.result in
    let same : held ≡ asked.pair = same_Some held asked.pair (sym c.held_by-held.ensures.value ∙ asked.claimed) in
    let both : AreBothSettled c.args.self.now.state.journal asked.pair c.args.k =
    subst (λ (p : Pair). AreBothSettled c.args.self.now.state.journal p c.args.k) same c.in_default.ensures in
    record {
      pair = asked.pair;
      claimed = asked.claimed;
      settled = (
        record {
          within = asked.within;
          not_first = asked.not_first;
          not_second = asked.not_second;
          divides = asked.divides;
          first_settled = both.0;
          second_settled = both.1;
        },
        refl,
      );
    }
