use Rattle.std.proofs.Common.{rules, ap, ap₂, ◌≡◌, ◌∙◌}
use Rattle.std.proofs.lemmas.Result.{IfOk-weaker}
use Rattle.clap.specs.Words.{app_of, with_rule}
use Rattle.mk_words.specs.Given.{option_rule, bare_app}
use Rattle.mk_words.proofs.parser.command.Goals as goal

pub returns : goal.returns
returns c =
    let start : app_of c.disable_version_flag.result ≡ bare_app = search rules in
    let one = c.in_ok-arg.ensures.shape c.option.ensures.local ∙ ap₂ with_rule start (c.option.ensures.rule ∙ ap option_rule c.name.ensures) in
    let two = c.in_ok-arg-2.ensures.shape c.option-2.ensures.local ∙ ap₂ with_rule one (c.option-2.ensures.rule ∙ ap option_rule c.name-2.ensures) in
    let three = c.in_ok-arg-3.ensures.shape c.option-3.ensures.local ∙ ap₂ with_rule two (c.option-3.ensures.rule ∙ ap option_rule c.name-3.ensures) in
    let four = c.in_ok-arg-4.ensures.shape c.option-4.ensures.local ∙ ap₂ with_rule three (c.option-4.ensures.rule ∙ ap option_rule c.name-4.ensures) in
    IfOk-weaker c.arg-5.result _ _ (λ command h. h.shape c.positional.ensures.local ∙ ap₂ with_rule four c.positional.ensures.rule) c.arg-5.ensures
