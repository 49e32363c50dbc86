use Rattle.std.proofs.Common.{◌++◌, List, ℕ, decimal, map, ap, ◌∙◌, get_or, string_bytes}
use Rattle.std.specs.List.{join_with_byte}
use Rattle.std.proofs.lemmas.List.{take_all}
use Rattle.mk_gen.specs.Parts.{x_before}
use Rattle.mk_gen.proofs.SizesText.{one_size_more}
use Rattle.mk_gen.proofs.report.sizes_text.Goals as goal

pub loop-place-init : goal.loop-place-init
loop-place-init c = c.new-text.ensures.bytes

pub loop-place-preserved : goal.loop-place-preserved
loop-place-preserved c =
    c.in_ok-push_str.ensures.bytes
    ∙ ap (λ (t : List ℕ). string_bytes c.loop-place.text ++ t) (c.as_str.ensures.value ∙ c.in_ok-size_text.ensures)
    ∙ ap (λ (t : List ℕ). t ++ (x_before c.loop-place.place ++ decimal (get_or c.args.sizes.now c.loop-place.place 0))) c.loop-place.invariant
    ∙ one_size_more c.args.sizes.now c.loop-place.place c.loop-place-test.true

pub returns : goal.returns
returns c =
    c.loop-place.invariant ∙ ap (λ sizes. join_with_byte 120 (map decimal sizes)) (take_all c.loop-place.place c.args.sizes.now c.loop-place-test.false)
