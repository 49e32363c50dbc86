use Rattle.std.proofs.Common.{refl}
use Rattle.mk_examples.proofs.TableExamples.{split, table, nothing, minus}
use Rattle.mk_examples.proofs.examples.table_examples.Goals as goal

pub returns : goal.returns
returns c = record { split = split; table = table; rows = refl; nothing = nothing; minus = minus }
