use Rattle.std.proofs.Common.{◌≡◌, string_bytes}
use Rattle.mk_gen.proofs.SizesText.{sizes_so_far}
use Rattle.mk_gen.proofs.report.sizes_text.Given as goal

abbrev pub invariant-loop-place : goal.invariant-loop-place
invariant-loop-place l = string_bytes l.text ≡ sizes_so_far l.sizes l.place
