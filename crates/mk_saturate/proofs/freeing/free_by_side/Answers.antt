use Rattle.std.proofs.Common.{sym, ◌∙◌}
use Rattle.mk_saturate.proofs.FreedMoves.{freed_within, freed_without}
use Rattle.mk_saturate.proofs.freeing.free_by_side.Goals as goal

pub returns-then-is_part_left-clause-left : goal.returns-then-is_part_left-clause-left
returns-then-is_part_left-clause-left c =
    c.take_part_out.ensures.left
    ∙ sym (freed_within c.args.side c.other.result c.args.found.now.entries c.args.left.now c.other.ensures (sym c.is_part_left.ensures ∙ c.if-is_part_left.true))

pub returns-else-is_part_left-clause-left : goal.returns-else-is_part_left-clause-left
returns-else-is_part_left-clause-left c =
    sym (freed_without c.args.side c.other.result c.args.found.now.entries c.args.left.now c.other.ensures (sym c.is_part_left.ensures ∙ c.if-is_part_left.false))
