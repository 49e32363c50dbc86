use Rattle.std.proofs.Common.{map, string_bytes, Err, refl, ap, ◌∙◌}
use Rattle.mk_words.proofs.Determined.{wants, wants_wrong}
use Rattle.mk_words.proofs.language.wants_one.Goals as goal

pub returns-in-Ok : goal.returns-in-Ok
returns-in-Ok c = wants (map string_bytes c.args.words.now) c.in-Ok.request c.in-Ok.ensures.ok

pub returns-in-Err-Words : goal.returns-in-Err-Words
returns-in-Err-Words c =
    let wrong = c.read_words.ensures.words (c.in-Err-Words.is ∙ ap Err c.in-Err-Words.field-0-is) in
    ((λ is. wants_wrong (map string_bytes c.args.words.now) wrong), (λ is. refl))
