use Rattle.std.proofs.Common.{◌∷◌, [], ◌++◌, ap, ◌∙◌}
use Rattle.mk_words.specs.Requests.{AreSizes, WriteSizes}
use Rattle.mk_words.proofs.SizesRead.{no_sizes, two_sizes, three_sizes, sizes_as}
use Rattle.mk_words.proofs.language.sizes_in.Goals as goal

pub returns-in_default : goal.returns-in_default
returns-in_default c = no_sizes c.args.word.now c.in_default.ensures.none

pub returns-in-None : goal.returns-in-None
returns-in-None c =
    let first = c.in-Some.cut.front.now in
    let second = c.in-Some.cut.behind.now in
    let cut = c.in-Some.ensures.some in
    sizes_as c.two_sizes.result (λ s. s.items) (WriteSizes (first ∷ second ∷ [])) (AreSizes c.args.word.now)
    (λ n h. record { words = first ∷ second ∷ []; crossed = cut.whole; sizes = h })
    (two_sizes c.args.word.now first second cut.whole cut.none_before c.in-None.ensures.none)
    c.two_sizes.ensures

pub returns-in-Some-cut_at_cross : goal.returns-in-Some-cut_at_cross
returns-in-Some-cut_at_cross c =
    let first = c.in-Some.cut.front.now in
    let second = c.in-Some-cut_at_cross.rest.front.now in
    let third = c.in-Some-cut_at_cross.rest.behind.now in
    let cut = c.in-Some.ensures.some in
    let again = c.in-Some-cut_at_cross.ensures.some in
    sizes_as c.three_sizes.result (λ s. s.items) (WriteSizes (first ∷ second ∷ third ∷ [])) (AreSizes c.args.word.now)
    (λ n h. record { words = first ∷ second ∷ third ∷ []; crossed = cut.whole ∙ ap (λ r. first ++ 120 ∷ r) again.whole; sizes = h })
    (three_sizes c.args.word.now first c.in-Some.cut.behind.now second third cut.whole cut.none_before again.whole again.none_before)
    c.three_sizes.ensures
