use Rattle.std.proofs.Common.{rules, not, pos, ℤ, ap, sym, ◌∙◌}
use mir.Val.{SFits}
use mir.Syntax.{w128}
use Rattle.std.specs.Ordering.{int_eq}
use Rattle.std.proofs.lemmas.Int.{to_z-of_z}
use Rattle.mk_move.specs.Sides.{entry_on}
use Rattle.mk_move.proofs.Divisions.{entry-part_of}
use Rattle.mk_saturate.proofs.freeing.part_has.Goals as goal

pub returns : goal.returns
returns c =
    let fits : SFits w128 c.entry.result = search rules in
    c.is_on.ensures
    ∙ ap (λ (z : ℤ). not (int_eq z (pos 0)))
    (ap (entry_on c.args.side) (to_z-of_z w128 c.entry.result fits ∙ c.entry.ensures) ∙ sym (entry-part_of c.args.side c.args.found.now.entries c.args.column))
