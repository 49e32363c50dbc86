use Rattle.std.proofs.Common.{◌≡◌, take, All}
use Rattle.mk_model.specs.Tables.{is_space}
use Rattle.mk_files.proofs.tokens.stretch_len.Given as goal

abbrev pub invariant-loop-i : goal.invariant-loop-i
invariant-loop-i l = All (λ b. is_space b ≡ l.white) (take l.i l.bytes)
