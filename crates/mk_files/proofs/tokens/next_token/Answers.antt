use Rattle.std.proofs.Common.{List, ℕ, ◌+◌, true, false, refl, subst, arith}
use Rattle.std.proofs.lemmas.List.{length-drop, take_rest}
use Rattle.mk_files.specs.Tokens.{IsStretch}
use Rattle.mk_files.proofs.TokensBegin.{no_token, next}
use Rattle.mk_files.proofs.tokens.next_token.Goals as goal

pub returns-then-start-bytes : goal.returns-then-start-bytes
returns-then-start-bytes c =
    let run = subst (λ (t : List ℕ). IsStretch t true c.stretch_len.result) (take_rest c.args.bytes.now c.args.from) c.stretch_len.ensures in
    no_token c.args.bytes.now c.args.from c.stretch_len.result run (omega arith)

pub returns : goal.returns
returns c =
    let bytes = c.args.bytes.now in
    let start = c.args.from + c.stretch_len.result in
    let space = subst (λ (t : List ℕ). IsStretch t true c.stretch_len.result) (take_rest bytes c.args.from) c.stretch_len.ensures in
    let word = subst (λ (t : List ℕ). IsStretch t false c.stretch_len-2.result) (take_rest bytes start) c.stretch_len-2.ensures in
    next bytes c.args.from c.stretch_len.result c.stretch_len-2.result _ c.requires space (omega (arith, space.within, length-drop c.args.from bytes)) refl word refl
