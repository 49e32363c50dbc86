use Rattle.std.proofs.Common.{◌<◌, All}
use Rattle.mk_drive_rows.proofs.calls.turns_of.Given as goal

abbrev pub invariant-loop-worker : goal.invariant-loop-worker
invariant-loop-worker g l = All (λ turn. turn.worker < 2) l.turns.items
