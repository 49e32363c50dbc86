use Rattle.std.proofs.Common.{◌≡◌, pos, get_or, arith, refl, ℤ, true, false, ◌≤ℤ◌, ◌<ℤ◌}
use lib.Signed.{le_z}
use Rattle.std.proofs.lemmas.Int.{ints}
use Rattle.mk_move.proofs.Entries.{as_entry, entry_read}
use Rattle.mk_support.proofs.Listings.{lists_same, lists_more}
use Rattle.mk_support.proofs.held.entries_from.Goals as goal
use Rattle.mk_support.proofs.held.entries_from.Goals.{then-entry-least+in_ok-push, else-entry-least}

not_more : (x y a b : ℤ) → x ≡ a → y ≡ b → le_z x y ≡ true → a ≤ℤ b
not_more x y a b e f h = grind (arith, ints)

more : (x y a b : ℤ) → x ≡ a → y ≡ b → le_z x y ≡ false → b <ℤ a
more x y a b e f h = grind (arith, ints)

pub loop-column-preserved : goal.loop-column-preserved
loop-column-preserved c =
    let n = c.loop-column.column in
    let row = c.args.row.now in
    let entry_is : as_entry (get_or row n (pos 0)) ≡ get_or row n (pos 0) = entry_read (get_or row n (pos 0)) (c.requires.entries n (pos 0) (omega arith)) in
    elim c.if-entry-least.branch [
      | then-entry-least+in_ok-push w ↦
          rw (w.listed-is, w.in_ok-push.ensures.items)
          (lists_more row _ n _ _ (omega arith) (not_more _ _ _ _ refl entry_is w.if-entry-least.true) refl entry_is c.loop-column.invariant)
      | else-entry-least w ↦ rw w.listed-is (lists_same row _ n _ (more _ _ _ _ refl entry_is w.if-entry-least.false) c.loop-column.invariant)
    ]
