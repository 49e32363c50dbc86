use Rattle.std.proofs.Common.{◌≡◌, List, All, length, ap, sym, ◌∙◌, subst, ℤ}
use Rattle.mk_model.specs.Vectors.{IsEntry}
use Rattle.mk_move.specs.Moves.{Weighed}
use Rattle.mk_move.specs.Steps.{minus_times, IsOverflow}
use Rattle.mk_move.proofs.Entries.{as_entry, entry_read}
use Rattle.mk_move.proofs.Takings.{none_beyond}
use Rattle.mk_move.proofs.moves.Move.set_difference.Goals as goal

pub unreachable-requires : goal.unreachable-requires
unreachable-requires c =
    let x = c.self.inside.entries.items in
    let y = c.v.inside.entries.items in
    let as_many : length x ≡ length y = ap (λ (m : Weighed). length m.entries) c.self.view_is ∙ sym c.requires.columns ∙ sym (ap (λ (m : Weighed). length m.entries) c.v.view_is) in
    let range : All IsEntry (minus_times x c.args.times y) = rw (← c.self.view_is, ← c.v.view_is) at c.requires.range in
    let refused : IsOverflow c.as_mut_slice-row.result.now c.as_slice.result.now (as_entry c.args.times) c.in-Err.field-0 = c.in-Err.ensures.refused in
    let of_row = subst (λ (r : List ℤ). IsOverflow r c.as_slice.result.now (as_entry c.args.times) c.in-Err.field-0) c.as_mut_slice-row.ensures.value refused in
    let of_other = subst (λ (r : List ℤ). IsOverflow x r (as_entry c.args.times) c.in-Err.field-0) c.as_slice.ensures of_row in
    let here = subst (λ (z : ℤ). IsOverflow x y z c.in-Err.field-0) (entry_read c.args.times c.requires.times) of_other in
    none_beyond x y c.args.times c.in-Err.field-0 as_many range here
