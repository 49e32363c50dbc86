use Rattle.std.proofs.Common.{◌≡◌, ◌<ℤ◌, pos, length, rules, sym, ap, ◌∙◌, refl}
use mir.Val.{SFits}
use Rattle.std.specs.List.{refill}
use Rattle.std.proofs.lemmas.Int.{to_z-of_z}
use Rattle.mk_model.specs.Vectors.{negate}
use Rattle.mk_model.proofs.VectorAlgebra.{length-negate}
use Rattle.mk_model.specs.Orders.{first_along}
use Rattle.mk_move.specs.Moves.{Weighed, IsRowOriented}
use Rattle.mk_move.proofs.Entries.{as_entry, entry_width}
use Rattle.mk_move.proofs.Readings.{less, not_less}
use Rattle.mk_move.proofs.Parts.{row_turned, IsKept-oriented}
use Rattle.mk_move.proofs.Blocks.{masks_turned}
use Rattle.mk_move.proofs.Orientations.{already_oriented, refill_all, IsGraded-negate}
use Rattle.mk_move.proofs.moves.Move.orient.Goals as goal
use Rattle.mk_move.proofs.moves.Move.orient.Goals.{After-first_entry, After-self-1}

-- the first entry along the list
first_is : (c : After-first_entry) → c.first_entry.result ≡ first_along c.args.priority.now c.self.inside.entries.items
first_is c = rw (c.as_slice.ensures, c.as_slice-2.ensures.value) at c.first_entry.ensures

first_read : (c : After-first_entry) → as_entry c.first_entry.result ≡ c.first_entry.result
first_read c = let fits : SFits entry_width c.first_entry.result = search rules in to_z-of_z entry_width c.first_entry.result fits

-- the entries after they were turned
turned : (c : After-self-1) → refill (length c.self.inside.entries.items) c.self.inside.entries.items c.negate_all.new.row ≡ negate c.self.inside.entries.items
turned c =
    let row : c.negate_all.new.row ≡ negate c.self.inside.entries.items = c.negate_all.ensures ∙ ap negate c.as_mut_slice.ensures.value in
    refill_all c.self.inside.entries.items c.negate_all.new.row (ap length row ∙ length-negate c.self.inside.entries.items) ∙ row

oriented : (c : After-self-1) → pos 0 <ℤ c.first_entry.result → c.first_entry.result ≡ first_along c.args.priority.now c.self.inside.entries.items →
    IsRowOriented c.self.inside.entries.items c.args.priority.now (refill (length c.self.inside.entries.items) c.self.inside.entries.items c.negate_all.new.row)
oriented c h e = row_turned c.args.priority.now c.self.inside.entries.items _ c.first_entry.result e h (turned c)

pub invariant_of-self : goal.invariant_of-self
invariant_of-self c =
    let at = (goal.at.invariant_of-self c).After-first_entry in
    let after = (goal.at.invariant_of-self c).After-self-1 in (
      IsKept-oriented c.self.inside.entries.items c.args.priority.now _ c.self.invariant.0.columns
          (oriented after (less _ _ (pos 0) _ refl (first_read at) c.if-first_entry-gt0.true) (first_is at)) c.self.invariant.0.entries,
      masks_turned c.self.inside.entries.items _ c.self.inside.plus c.self.inside.minus c.swap.new.x c.swap.new.y (turned after) c.swap.ensures.x_after c.swap.ensures.y_after c.self.invariant.1,
    )

pub returns-then-first_entry-gt0-clause-entries : goal.returns-then-first_entry-gt0-clause-entries
returns-then-first_entry-gt0-clause-entries c =
    let at = (goal.at.returns-then-first_entry-gt0-clause-entries c).After-first_entry in
    rw (← c.self.view_is) (oriented (goal.at.returns-then-first_entry-gt0-clause-entries c).After-self-1 (less _ _ (pos 0) _ refl (first_read at) c.if-first_entry-gt0.true) (first_is at))

pub returns-then-first_entry-gt0-clause-graded : goal.returns-then-first_entry-gt0-clause-graded
returns-then-first_entry-gt0-clause-graded c =
    λ w h. IsGraded-negate w (record { entries = c.self.inside.entries.items; weight = c.self.inside.weight }) _ (turned (goal.at.returns-then-first_entry-gt0-clause-graded c).After-self-1) (rw (← c.self.view_is) at h)

pub returns-else-first_entry-gt0-clause-entries : goal.returns-else-first_entry-gt0-clause-entries
returns-else-first_entry-gt0-clause-entries c =
    let at = (goal.at.returns-else-first_entry-gt0-clause-entries c).After-first_entry in
    rw (← c.self.view_is)
    (already_oriented c.args.priority.now c.self.inside.entries.items c.first_entry.result c.as_slice-2.ensures.kept (c.requires ∙ sym (ap (λ (m : Weighed). length m.entries) c.self.view_is)) c.self.invariant.0.not_zero (first_is at) (not_less _ _ (pos 0) _ refl (first_read at) c.if-first_entry-gt0.false))
