use Rattle.std.proofs.Common.{◌≡◌, List, length, arith, ap, sym, ◌∙◌, subst, ℤ}
use Rattle.std.specs.Int.RustNames.{bit_or}
use Rattle.mk_move.specs.Moves.{Weighed}
use Rattle.mk_move.specs.InPlace.{AreSameBut}
use Rattle.mk_move.proofs.Copies.{same_but_entries}
use Rattle.mk_move.proofs.moves.Move.copy_from.Goals as goal

pub copy_at-requires-clause-same : goal.copy_at-requires-clause-same
copy_at-requires-clause-same c =
    let mine = bit_or c.self.inside.plus c.self.inside.minus in
    let its = bit_or c.m.inside.plus c.m.inside.minus in
    let as_many : length c.self.inside.entries.items ≡ length c.m.inside.entries.items = ap (λ (m : Weighed). length m.entries) c.self.view_is ∙ sym c.requires ∙ sym (ap (λ (m : Weighed). length m.entries) c.m.view_is) in
    subst (λ (x : List ℤ). AreSameBut x c.as_slice-right.result.now (bit_or mine its)) (sym c.as_mut_slice-row.ensures.value)
    (subst (λ (y : List ℤ). AreSameBut c.self.inside.entries.items y (bit_or mine its)) (sym c.as_slice-right.ensures)
    (same_but_entries c.self.inside.entries.items c.m.inside.entries.items c.self.inside.plus c.self.inside.minus c.m.inside.plus c.m.inside.minus
    as_many (omega (arith, as_many, ap length c.as_slice-right.ensures, c.if-right-le64.true)) c.self.invariant.1 c.m.invariant.1))
