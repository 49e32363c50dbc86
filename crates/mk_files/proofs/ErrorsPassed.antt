-- An error that is passed on.
use Rattle.std.proofs.Common.{◌≡◌, Result, Ok, Err, sym, ◌∙◌}
use Rattle.std.specs.Result.{IsErrAnd}

pub passed_on : {T E : Type 0} (result : Result T E) (e other : E) → IsErrAnd result (λ y. y ≡ e) → result ≡ Err other → e ≡ other
passed_on (Ok x) e other h is = absurd h
passed_on (Err y) e other h is = let same : y ≡ other = cc in sym h ∙ same
