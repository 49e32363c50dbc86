use Rattle.std.proofs.Common.{neg_ℤ, ◌-ℤ◌, ◌*ℤ◌, sym, subst, inl, inr, refl}
use Rattle.mk_model.specs.declared.TheConstants.{ENTRY_MAX}
use Rattle.mk_model.specs.Vectors.{IsEntry}
use Rattle.mk_move.proofs.Factors.{IsFormed, formed}
use Rattle.mk_move.proofs.Readings.{less, not_less}
use Rattle.mk_move.proofs.steps.entry_less.Goals as goal
use Rattle.mk_move.proofs.steps.entry_less.Goals.{Start, then-value-via-then-value, then-value-via-else-value+then-value-gt-ENTRY_MAX}

-- the product is formed
formed_here : (c : Start) → IsFormed c.args.left c.args.times c.args.right
formed_here c = formed c.args.left c.args.times c.args.right c.requires.left c.requires.times c.requires.right c.requires.fits

pub overflow_mul-value : goal.overflow_mul-value
overflow_mul-value c = (formed_here c).product

pub overflow_sub-value : goal.overflow_sub-value
overflow_sub-value c = (formed_here (goal.at.overflow_sub-value c).Start).difference

pub returns-then-value : goal.returns-then-value
returns-then-value c =
    let at = goal.at.returns-then-value c in
    let value = (formed_here at.Start).value in
    elim c.then-value.branch [
      | then-value-via-then-value w ↦ inl (less _ (neg_ℤ ENTRY_MAX) _ (neg_ℤ ENTRY_MAX) value refl w.if-value.true)
      | then-value-via-else-value+then-value-gt-ENTRY_MAX w ↦ inr (less ENTRY_MAX _ ENTRY_MAX _ refl value w.if-value-gt-ENTRY_MAX.true)
    ]

pub returns : goal.returns
returns c =
    let at = goal.at.returns c in
    let value = (formed_here at.Start).value in
    let range : IsEntry (c.args.left -ℤ (c.args.times *ℤ c.args.right)) =
    (not_less _ (neg_ℤ ENTRY_MAX) _ (neg_ℤ ENTRY_MAX) value refl c.if-value.false, not_less ENTRY_MAX _ ENTRY_MAX _ refl value c.if-value-gt-ENTRY_MAX.false) in
    record { same = value; range = subst IsEntry (sym value) range }
