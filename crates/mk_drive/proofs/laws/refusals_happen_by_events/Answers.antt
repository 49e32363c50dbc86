use Rattle.mk_drive.proofs.Halting.{halting_events, halting_legal, without_refusals}
use Rattle.mk_drive.proofs.laws.refusals_happen_by_events.Goals as goal

pub returns : goal.returns
returns c = record { events = halting_events; legal = halting_legal; without = without_refusals }
