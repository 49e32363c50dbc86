use Rattle.mk_examples.proofs.EventExamples.{until_ended, none_left}
use Rattle.mk_examples.proofs.examples.event_examples.Goals as goal

pub returns : goal.returns
returns c = record { until_ended = until_ended; none_left = none_left }
