use Rattle.std.proofs.Common.{◌≡◌, get_or, None, Some, ◌∙◌, subst, rules}
use Rattle.std.proofs.lemmas.List.{get_or_default}
use Rattle.mk_model.specs.CoreStates.{IsLesser}
use Rattle.mk_ledger.specs.HeldClaims.{IsLeastHeld, IsLeastOf}
use Rattle.mk_ledger.proofs.HeldClaims.{least_taken}
use Rattle.mk_ledger.proofs.claims.with_next.Goals as goal

pub returns-then-is_lesser : goal.returns-then-is_lesser
returns-then-is_lesser c =
    let claims = c.args.claims.now in
    let known = c.in-Some-least.known in
    let before : IsLeastHeld claims c.args.worker known.0 known.1 =
    subst (IsLeastOf claims c.args.worker) c.in-Some-least.is c.requires.before in
    let lesser : IsLesser c.in-Some.held known.1 = search rules in
    let held : get_or claims c.args.worker None ≡ Some c.in-Some.held = get_or_default claims c.args.worker None _ c.requires.within
    ∙ c.in-Some.is in
    least_taken claims c.args.worker known.0 known.1 c.in-Some.held before held lesser
