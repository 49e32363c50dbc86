use Rattle.std.proofs.Common.{rules, ◌≡◌, ◌++◌, [], List, ℕ, pos, get_or, string_bytes, ap, ◌∙◌}
use mir.Syntax.{w128}
use mir.Val.{SFits}
use Rattle.std.specs.List.{flat_map}
use Rattle.std.specs.Ordering.{int_eq}
use Rattle.std.proofs.lemmas.Int.{to_z-of_z}
use Rattle.std.proofs.lemmas.List.{take_all}
use Rattle.std.proofs.lemmas.List.Filters.{dedup_is}
use Rattle.std.specs.List.{dedup}
use Rattle.mk_gen.specs.Summaries.{weight_line, times_in, weight_lines}
use Rattle.mk_gen.proofs.Pieces.{place_piece}
use Rattle.mk_gen.proofs.report.lines_of.Goals as goal

pub loop-weight-init : goal.loop-weight-init
loop-weight-init c = c.new-text.ensures.bytes

pub loop-weight-preserved : goal.loop-weight-preserved
loop-weight-preserved c =
    let weights = c.args.weights.now in
    let kinds = c.deref-weight-items.result.now in
    let i = c.loop-weight.weight-index in
    let fits : SFits w128 (get_or kinds i (pos 0)) = search rules in
    let read = to_z-of_z w128 (get_or kinds i (pos 0)) fits in
    let line = c.as_str.ensures.value ∙ c.in_ok-line_of.ensures ∙ ap (weight_line _) c.times_in.ensures ∙ ap (λ w. weight_line w (times_in weights w)) read in
    place_piece (λ weight. weight_line weight (times_in weights weight)) kinds [] (string_bytes c.loop-weight.text) _ i (pos 0) c.loop-weight-test.true c.loop-weight.invariant
    (c.in_ok-push_str.ensures.bytes ∙ ap (λ (t : List ℕ). string_bytes c.loop-weight.text ++ t) line)

pub returns : goal.returns
unfolding weight_lines
returns c =
    let weights = c.args.weights.now in
    let kinds : c.deref-weight-items.result.now ≡ dedup int_eq weights =
    c.deref-weight-items.ensures.value ∙ dedup_is int_eq _ _ c.dedup.ensures.filtered ∙ ap (dedup int_eq) (c.in_ok-kinds.ensures.items_if_clones_equal (λ x y e. e)) in
    c.loop-weight.invariant
    ∙ ap (flat_map (λ weight. weight_line weight (times_in weights weight))) (take_all c.loop-weight.weight-index c.deref-weight-items.result.now c.loop-weight-test.false ∙ kinds)
