use Rattle.std.proofs.Common.{◌≡◌, inr, rules}
use Rattle.mk_model.specs.CoreStates.{pair_of}
use Rattle.mk_model.specs.Events.{AreSettled}
use Rattle.mk_ledger.specs.Settlings.{pair_between}
use Rattle.mk_ledger.proofs.ledger.Ledger.first_unsettled.Goals as goal

pub returns-then-not-is_settled-2 : goal.returns-then-not-is_settled-2
returns-then-not-is_settled-2 c =
    let journal = c.args.self.now.state.journal in
    let first : AreSettled journal c.args.held.first c.args.k = search rules in
    let second : ¬ (AreSettled journal c.args.held.second c.args.k) = search rules in
    let pair : pair_of c.min-then-not-is_settled-2.result c.max-then-not-is_settled-2.result ≡ pair_between c.args.held.second c.args.k =
    search rules in
    inr (pair, first, second)
