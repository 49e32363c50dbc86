use Rattle.std.proofs.Common.{ap, sym, ◌∙◌, subst}
use Rattle.std.proofs.lemmas.Option.{same_Some}
use Rattle.mk_model.specs.CoreStates.{pair_of}
use Rattle.mk_model.specs.Events.{HaveCommonColumn}
use Rattle.mk_move.specs.MoveLists.{BasisView}
use Rattle.mk_reduce.specs.Leads.{leads_of}
use Rattle.mk_ledger.specs.Ledgers.{LedgerView}
use Rattle.mk_core.specs.GoingOn.{FirstClaims, SkipsPair}
use Rattle.mk_core.proofs.completion.settle_pair.Goals as goal

pub reduce_pair-requires : goal.reduce_pair-requires
reduce_pair-requires c =
    let pair = pair_of c.args.i c.args.j in
    let (same, common) = subst (λ skipped. SkipsPair c.args.ledger.now pair skipped c.skip_pair.new.ledger) c.if-branch.false c.in_ok-skip_pair.ensures in
    record {
      claimed = subst (λ (l : LedgerView). FirstClaims l.state pair) (sym same) c.requires.claimed;
      leads = same_Some c.in-Some.finder (leads_of c.basis.result.now.moves) (sym c.in-Some.is ∙ c.in_ok-make_finder.ensures) ∙ ap (λ (b : BasisView). leads_of b.moves) c.basis.ensures.value;
      common = subst (λ (l : LedgerView). HaveCommonColumn l.state.basis pair) (sym same) common;
    }
