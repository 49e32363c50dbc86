use Rattle.std.proofs.Common.{◌≡◌, map, string_bytes, Err, ap, ◌∙◌}
use Rattle.mk_words.specs.declared.request.UsageFault.TheVariants.{Words}
use Rattle.mk_words.proofs.Determined.{ask_request, ask_only, ask_nothing, not_given}
use Rattle.mk_words.proofs.language.read_words.Goals as goal

pub returns-in-Err-clause-words : goal.returns-in-Err-clause-words
returns-in-Err-clause-words c = λ is.
    let fault : c.in-Err.fault ≡ Words = cc in
    not_given (map string_bytes c.args.words.now) (c.parse.ensures.words (c.in-Err.is ∙ ap Err fault))

pub returns-in-Ok-clause-ok : goal.returns-in-Ok-clause-ok
returns-in-Ok-clause-ok c = ask_request (map string_bytes c.args.words.now) c.in-Ok.matches c.in-Ok.ensures.ok c.request_of.result c.request_of.ensures.ok

pub returns-in-Ok-clause-only : goal.returns-in-Ok-clause-only
returns-in-Ok-clause-only c = ask_only (map string_bytes c.args.words.now) c.in-Ok.matches c.in-Ok.ensures.ok c.request_of.result c.request_of.ensures.ok

pub returns-in-Ok-clause-words : goal.returns-in-Ok-clause-words
returns-in-Ok-clause-words c = λ is. ask_nothing (map string_bytes c.args.words.now) c.in-Ok.matches c.in-Ok.ensures.ok (c.request_of.ensures.words is)
