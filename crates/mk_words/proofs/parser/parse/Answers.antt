use Rattle.std.proofs.Common.{◌≡◌, map, string_bytes, ap, sym, subst, ◌∙◌}
use Rattle.clap.specs.Words.{App, app_of}
use Rattle.clap.specs.Simple.{is_simple, matches_of}
use Rattle.clap.specs.Kinds.{HasKind}
use Rattle.clap.specs.Faults.{fault_of, is_simple_and_free}
use Rattle.mk_words.specs.Given.{command_app}
use Rattle.mk_words.proofs.Rules.{app_is_free, app_is_simple}
use Rattle.mk_words.proofs.Ends.{are_texts, given_by, refused_by}
use Rattle.mk_words.proofs.parser.parse.Goals as goal

pub returns-in-Ok-clause-ok : goal.returns-in-Ok-clause-ok
returns-in-Ok-clause-ok c =
    let words = map string_bytes c.args.words.now in
    let app : app_of c.in_ok-command.field-0 ≡ command_app = c.in_ok-command.ensures in
    let found = c.in-Ok.ensures in
    given_by words (are_texts c.args.words.now) c.in-Ok.matches
    (sym (ap (λ (a : App). fault_of a words) app) ∙ found.kinds (ap is_simple_and_free app ∙ app_is_free))
    ((found.matches (ap is_simple app ∙ app_is_simple)).0 ∙ ap (λ (a : App). matches_of a words) app)

pub returns-in-Err-clause-words : goal.returns-in-Err-clause-words
returns-in-Err-clause-words c = λ is.
    let words = map string_bytes c.args.words.now in
    let app : app_of c.in_ok-command.field-0 ≡ command_app = c.in_ok-command.ensures in
    let error = c.in-Err.ensures in
    let fault : c.fault_by.result ≡ _ = cc in
    refused_by words (are_texts c.args.words.now) c.in-Err.error
    (subst (λ (a : App). HasKind (fault_of a words) c.in-Err.error) app (error.kinds (ap is_simple_and_free app ∙ app_is_free)))
    (c.fault_by.ensures.words fault)
