-- What is left of a claim, oriented, may be placed.
use Rattle.std.proofs.Common.{◌≡◌, ℕ, length, take, sym, ◌∙◌, subst, arith}
use Rattle.std.proofs.lemmas.List.{take_all}
use Rattle.mk_model.specs.CoreStates.{difference}
use Rattle.mk_model.specs.Reductions.{Reduct, IsNormal}
use Rattle.mk_move.specs.Moves.{Weighed, IsRowOriented}
use Rattle.mk_move.specs.MoveLists.{vectors_of}
use Rattle.mk_ledger.specs.Ledgers.{LedgerView, IsLedger}
use Rattle.mk_ledger.specs.Settlings.{IsReductOfClaim}
use Rattle.mk_core.specs.Remainders.{IsRestOfClaim}
use Rattle.mk_core.proofs.GrownBases.{as_many}

pub rest_is_reduct : (x : LedgerView) (legal : IsLedger x) (worker front : ℕ) (rest m : Weighed) → front ≡ length x.basis.moves →
    IsRestOfClaim x worker rest
    → IsRowOriented rest.entries x.basis.priority m.entries → IsReductOfClaim x.state worker front m.entries
rest_is_reduct x legal worker front rest m e claim oriented = record {
  pair = claim.pair;
  claimed = claim.claimed;
  front_within = omega (arith, e, as_many x legal);
  rest = rest.entries;
  reduct = subst (λ moves. Reduct moves (difference moves claim.pair) rest.entries) (sym legal.moves) claim.rest.reduct;
  sign = oriented.turned.either;
  normal = subst (λ moves. IsNormal moves rest.entries) (sym whole) claim.rest.normal;
}
  where
    whole : take front x.state.basis ≡ vectors_of x.basis.moves
    whole = take_all front x.state.basis (omega (arith, e, as_many x legal)) ∙ legal.moves
