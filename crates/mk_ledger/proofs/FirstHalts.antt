-- The worker that halted first is one of the workers.
use Rattle.std.proofs.Common.{inl, inr, ℕ, ◌<◌, length, Option, IfSome, sym, subst}
use Rattle.mk_model.specs.CoreStates.{CoreState}
use Rattle.mk_model.specs.Legal.{IsFirstHalted}
use Rattle.mk_model.proofs.LegalEvents.{within_list}

pub first_within : (state : CoreState) → IsFirstHalted state → IfSome state.first_halted (λ worker. worker < length state.halts)
first_within state (inl (e, _)) = subst (λ (first : Option ℕ). IfSome first (λ worker. worker < length state.halts)) (sym e) tt
first_within state (inr (worker, halt, e, f)) =
    subst (λ (first : Option ℕ). IfSome first (λ worker. worker < length state.halts)) (sym e) (within_list state.halts worker halt f)
