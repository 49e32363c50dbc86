-- The halt that a completion ends by.
use Rattle.std.specs.Prelude.{◌≡◌, ℕ, List, get_or, Option, None, Some}
use Rattle.mk_model.specs.CoreStates.{Halt, CoreState, halt_of}
use Rattle.mk_ledger.specs.declared.halt.Halt.{Halt as Kept}
use Rattle.mk_ledger.specs.Halts.{halt_as}

-- a halt that is kept, as that of the core state
abbrev pub halt_seen : Option Kept → Option Halt
halt_seen None = None
halt_seen (Some halt) = Some (halt_as halt)

-- what stands for the worker in the list, or none where no worker is named
abbrev pub IsHaltOf : List (Option Halt) → Option ℕ → Option Kept → Type 0
IsHaltOf halts None halt = halt ≡ None
IsHaltOf halts (Some worker) halt = get_or halts worker None ≡ halt_seen halt

-- the halt of the worker that halted first, or none where no worker has halted
abbrev pub IsFirstHalt : CoreState → Option Kept → Type 0
IsFirstHalt state None = state.first_halted ≡ None
IsFirstHalt state (Some halt) = (worker : ℕ) × (state.first_halted ≡ Some worker) × (halt_of state worker ≡ Some (halt_as halt))
