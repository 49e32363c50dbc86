-- That a halt gives up a claim.
use Rattle.std.specs.Prelude.{◌≡◌, ◌≢◌, ◌≤◌, ℕ, Some}
use Rattle.mk_model.specs.CoreStates.{Halt, CoreState, halt_of}
use Rattle.mk_model.specs.CoreStates.Halt.{Memory}

-- where a halt other than for want of memory is kept, a claim was given up
abbrev pub HaveGivenUp : CoreState → Type 0
HaveGivenUp state = (worker : ℕ) (halt : Halt) → halt_of state worker ≡ Some halt → halt ≢ Memory → 1 ≤ state.claims_given_up
