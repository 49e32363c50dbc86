-- The error that a step hands on.
use Rattle.std.proofs.Common.{◌≡◌, Result, Ok, Err, ap}
use Rattle.std.specs.Result.{IsErrAnd}

pub the_error : {T E : Type 0} (result : Result T E) (e : E) → IsErrAnd result (λ y. y ≡ e) → result ≡ Err e
the_error (Ok x) e h = absurd h
the_error (Err y) e h = ap Err h
