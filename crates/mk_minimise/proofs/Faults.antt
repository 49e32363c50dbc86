-- What holds of the fault that a step hands on holds of its result.
use Rattle.std.proofs.Common.{◌≡◌, Result, Ok, Err, sym, subst}
use Rattle.std.specs.Result.{IfErr, IsErrAnd}

pub handed_on : {T E : Type 0} (P : E → Type 0) (result : Result T E) (e : E) → IsErrAnd result (λ y. y ≡ e) → P e → IfErr result P
handed_on P (Ok x) e h p = tt
handed_on P (Err y) e h p = subst P (sym h) p
