use Rattle.std.proofs.Common.{◌≡◌, ◌∙◌, ap, sym, subst, length, All, IsTrue, List, ℤ}
use Rattle.mk_model.specs.Reductions.{Divides}
use Rattle.mk_move.specs.Sides.{part_of}
use Rattle.mk_move.proofs.Divisions.{length-part_of, part_of_nonnegative}
use Rattle.mk_support.specs.declared.held.ColumnEntry.{ColumnEntry}
use Rattle.mk_support.specs.HeldLeads.{Fits, IsHeld}
use Rattle.mk_support.proofs.HeldLeads.{length-lead_of, divides_from, fits_from}
use Rattle.mk_support.proofs.held.HeldLead.divides_within.Goals as goal
use Rattle.mk_support.proofs.held.HeldLead.divides_within.Goals.{After-all_fit}

abbrev part : After-all_fit → List ℤ
part c = part_of c.args.side c.args.r.now.entries

held : (c : After-all_fit) → IsHeld c.self.inside.mask c.self.inside.listed.items c.args.self.now
held c = subst (IsHeld c.self.inside.mask c.self.inside.listed.items) c.self.view_is c.self.invariant

-- the entries and the row, as they are handed on
abbrev handed : After-all_fit → List ColumnEntry → List ℤ → Type 0
handed c listed row = All (Fits (part_of c.args.side row)) listed

fits : (c : After-all_fit) → IsTrue c.all_fit.result → handed c c.self.inside.listed.items c.args.r.now.entries
fits c h =
    subst (handed c c.self.inside.listed.items) c.entries.ensures.value
    (subst (λ (listed : List ColumnEntry). handed c listed c.entries.result.now) c.deref.ensures.value (c.all_fit.ensures.0 h))

fitting : (c : After-all_fit) → handed c c.self.inside.listed.items c.args.r.now.entries → IsTrue c.all_fit.result
fitting c h =
    c.all_fit.ensures.1
    (subst (λ (listed : List ColumnEntry). handed c listed c.entries.result.now) (sym c.deref.ensures.value)
    (subst (handed c c.self.inside.listed.items) (sym c.entries.ensures.value) h))

-- src/held.rt:58:5
pub returns : goal.returns
returns c =
    let inside = c.self.inside in
    let as_wide : length (part c) ≡ inside.columns =
    length-part_of c.args.side c.args.r.now.entries ∙ sym c.requires.columns ∙ ap length (sym c.self.view_is) ∙ length-lead_of inside.columns inside.mask inside.listed.items in (
      (λ h. subst (λ (lead : List ℤ). Divides lead (part c)) c.self.view_is (divides_from inside.columns inside.mask inside.listed.items (part c) as_wide (part_of_nonnegative c.args.side c.args.r.now.entries) (λ b set. c.requires.within b ((held c).mask.covered b set)) (fits c h))),
      (λ d. fitting c (fits_from inside.listed.items inside.mask c.args.self.now (part c) (held c) d)),
    )
