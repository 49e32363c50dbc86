use Rattle.std.proofs.Common.{◌≡◌, take, string_bytes}
use Rattle.std.specs.List.{flat_map}
use Rattle.mk_gen.specs.Summaries.{weight_line, times_in}
use Rattle.mk_gen.proofs.report.lines_of.Given as goal

abbrev pub invariant-loop-weight : goal.invariant-loop-weight
invariant-loop-weight l = string_bytes l.text ≡ flat_map (λ weight. weight_line weight (times_in l.weights weight)) (take l.weight-index l.weight-items)
