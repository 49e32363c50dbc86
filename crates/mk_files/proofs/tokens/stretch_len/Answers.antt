use Rattle.std.proofs.Common.{◌≡◌, Bool, true, false, refl, sym, ◌∙◌, arith}
use Rattle.std.proofs.lemmas.Bool.{not-false, false≢true}
use Rattle.std.proofs.lemmas.List.Elements.{All-more}
use mathlib.Core.Bool.{beq}
use Rattle.mk_model.specs.Tables.{is_space}
use Rattle.mk_files.proofs.tokens.stretch_len.Goals as goal

same_from_beq : (a b : Bool) → beq a b ≡ true → a ≡ b
same_from_beq true true h = refl
same_from_beq true false h = absurd (false≢true h)
same_from_beq false true h = absurd (false≢true h)
same_from_beq false false h = refl

pub loop-i-preserved : goal.loop-i-preserved
loop-i-preserved c =
    All-more (λ b. is_space b ≡ c.args.white) c.args.bytes.now c.loop-i.i 0 (omega arith) c.loop-i.invariant
    (sym c.is_white.ensures ∙ same_from_beq c.is_white.result c.args.white (not-false _ c.if-is_white-white.false))
