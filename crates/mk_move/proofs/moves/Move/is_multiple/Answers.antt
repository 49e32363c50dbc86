use Rattle.std.proofs.Common.{◌≡◌, ◌≢◌, ◌≤◌, ℕ, List, length, arith, rules, sym, ap, ◌∙◌, subst, ℤ, pos}
use mir.Syntax.{w128}
use Rattle.std.specs.Int.RustNames.{bit_or}
use Rattle.std.proofs.lemmas.Int.{to_z-of_z}
use Rattle.mk_model.specs.Vectors.{zeros, scale}
use Rattle.mk_move.specs.Moves.{Weighed}
use Rattle.mk_move.specs.Masks.{AreMasks}
use Rattle.mk_move.specs.Steps.{minus_times}
use Rattle.mk_move.specs.InPlace.{AreBits}
use Rattle.mk_move.proofs.Takings.{bits_of}
use Rattle.mk_move.proofs.Multiples.{has_its_masks}
use Rattle.mk_move.proofs.moves.Move.is_multiple.Goals as goal
use Rattle.mk_move.proofs.moves.Move.is_multiple.Goals.{Else-self-minus, then-self-plus-via-then-self-plus, then-self-plus-via-else-self-plus+then-self-minus}

pub returns-then-self-plus : goal.returns-then-self-plus
returns-then-self-plus c =
    let x = c.self.inside.entries.items in
    let y = c.v.inside.entries.items in
    let above = c.masks_of_multiple-plus.result.0 in
    let below = c.masks_of_multiple-plus.result.1 in
    let as_many : length x ≡ length y = ap (λ (m : Weighed). length m.entries) c.self.view_is ∙ sym c.requires.columns ∙ sym (ap (λ (m : Weighed). length m.entries) c.v.view_is) in
    let masks : c.args.times ≢ pos 0 → AreMasks (scale c.args.times y) above below =
    λ some. let is = to_z-of_z w128 c.args.times c.ranges.times in
    subst (λ (z : ℤ). AreMasks (scale z y) above below) is (c.masks_of_multiple-plus.ensures.masks y c.v.invariant.1 (λ e. some (sym is ∙ e))) in
    let same = λ (e : minus_times c.args.self.now.entries c.args.times c.args.v.now.entries ≡ zeros (length c.args.self.now.entries)).
    has_its_masks x y c.args.times c.self.inside.plus c.self.inside.minus above below as_many c.self.invariant.0.not_zero c.self.invariant.1 masks (rw (← c.self.view_is, ← c.v.view_is) at e) in (
      (λ t. absurd (search rules)),
      (λ e. absurd (elim c.then-self-plus.branch [
        | then-self-plus-via-then-self-plus w ↦ w.if-self-plus.true (same e).0
        | then-self-plus-via-else-self-plus+then-self-minus w ↦ w.if-self-minus.true (same e).1
      ])),
    )

as_many : (c : Else-self-minus) → length c.self.inside.entries.items ≡ length c.v.inside.entries.items
as_many c = ap (λ (m : Weighed). length m.entries) c.self.view_is ∙ sym c.requires.columns ∙ sym (ap (λ (m : Weighed). length m.entries) c.v.view_is)

few : (c : Else-self-minus) → length c.self.inside.entries.items ≤ 64
few c = let same = ap (λ (m : Weighed). length m.entries) c.self.view_is in omega (arith, same, c.requires.few)

-- the columns of both are the same
pub is_multiple_at-requires-clause-bits : goal.is_multiple_at-requires-clause-bits
is_multiple_at-requires-clause-bits c =
    let x = c.self.inside.entries.items in
    let same : bit_or c.self.inside.plus c.self.inside.minus ≡ bit_or c.v.inside.plus c.v.inside.minus =
    ap (λ n. bit_or n c.self.inside.minus) c.if-self-plus.false ∙ ap (λ n. bit_or c.masks_of_multiple-plus.result.0 n) c.if-self-minus.false ∙ c.masks_of_multiple-plus.ensures.bits in
    subst (λ (r : List ℤ). AreBits r (bit_or c.v.inside.plus c.v.inside.minus)) (sym c.as_slice.ensures)
    (subst (λ (n : ℕ). AreBits x n) same (bits_of x c.self.inside.plus c.self.inside.minus (few (goal.at.is_multiple_at-requires-clause-bits c).Else-self-minus) c.self.invariant.1))

pub is_multiple_at-requires-clause-right_bits : goal.is_multiple_at-requires-clause-right_bits
is_multiple_at-requires-clause-right_bits c =
    let at = (goal.at.is_multiple_at-requires-clause-right_bits c).Else-self-minus in
    let y = c.v.inside.entries.items in
    subst (λ (r : List ℤ). AreBits r (bit_or c.v.inside.plus c.v.inside.minus)) (sym c.as_slice-2.ensures)
    (bits_of y c.v.inside.plus c.v.inside.minus (omega (arith, few at, as_many at)) c.v.invariant.1)
