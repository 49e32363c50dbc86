use Rattle.std.proofs.Common.{◌≡◌, rules, arith, sym, ap, length, get_or, List, ℕ, ℤ, All, ap}
use borrow.Author.Count.{below_more}
use Rattle.std.proofs.lemmas.Bool.{false≢true}
use Rattle.std.proofs.lemmas.Option.{slice_get_within}
use Rattle.mk_move.specs.Sides.{part_of}
use Rattle.mk_support.specs.Blocks.{HoldsIn, IsPlacedLead, IsRefused}
use Rattle.mk_support.proofs.Searches.{as_wide, holds_at, read_at, refused_by_mask, within_by_mask, refused_itself}
use Rattle.mk_support.proofs.block.Block.find.Goals as goal
use Rattle.mk_support.proofs.block.Block.find.Goals.{In-loop-index, then-mask-part-eq0+else-divides_within, else-mask-part-eq0}

-- the mask of the loop, and its place
abbrev mask : In-loop-index → ℕ
mask c = get_or c.deref-mask-items.result.now c.loop-index.index 0

abbrev place : In-loop-index → ℕ
place c = get_or c.as_slice-places.result.now c.loop-index.index 0

there : (c : In-loop-index) → HoldsIn c.args.self.now (mask c) (place c)
there c = record {
  index = c.loop-index.index;
  within = omega (arith, ap length c.deref-mask-items.ensures.value);
  mask_at = ap (λ (x : List ℕ). get_or x c.loop-index.index 0) (sym c.deref-mask-items.ensures.value);
  place_at = ap (λ (x : List ℕ). get_or x c.loop-index.index 0) (sym c.as_slice-places.ensures.value);
}

placed : (c : In-loop-index) → IsPlacedLead c.args.leads.now (mask c) (place c)
placed c = c.requires.placed (mask c) (place c) (there c)

-- src/block.rt:63:20
pub bounds-leads-place : goal.bounds-leads-place
bounds-leads-place c =
    let w = (goal.at.bounds-leads-place c).In-loop-index in
    slice_get_within c.args.leads.now (place w) (placed w).lead (placed w).at

wide : (c : In-loop-index) → All (λ lead. length lead ≡ length (part_of c.args.side c.args.r.now.entries)) c.args.leads.now
wide c = as_wide c.args.side c.args.r.now.entries c.args.leads.now c.requires.columns

-- src/block.rt:63:20
pub divides_within-requires-clause-columns : goal.divides_within-requires-clause-columns
divides_within-requires-clause-columns c =
    let w = (goal.at.divides_within-requires-clause-columns c).In-loop-index in
    holds_at (λ (x : List ℤ). length x ≡ length c.args.r.now.entries) c.args.leads.now (place w) c.index-leads-place.result c.requires.columns (read_at c.args.leads.now (place w) c.index-leads-place.result (placed w) c.index-leads-place.is)

-- src/block.rt:63:20
pub divides_within-requires-clause-within : goal.divides_within-requires-clause-within
divides_within-requires-clause-within c =
    let w = (goal.at.divides_within-requires-clause-within c).In-loop-index in
    within_by_mask c.args.leads.now (part_of c.args.side c.args.r.now.entries) c.index-leads-place.result (mask w) (place w) c.args.part (c.type_inv.mask-items c.loop-index.index).fits c.ranges.part.fits (placed w) (read_at c.args.leads.now (place w) c.index-leads-place.result (placed w) c.index-leads-place.is) c.requires.part c.if-mask-part-eq0.true

-- src/block.rt:64:21
pub returns-then-divides_within-clause-found : goal.returns-then-divides_within-clause-found
returns-then-divides_within-clause-found c =
    let w = (goal.at.returns-then-divides_within-clause-found c).In-loop-index in
    record {
      lead = c.index-leads-place.result;
      at = read_at c.args.leads.now (place w) c.index-leads-place.result (placed w) c.index-leads-place.is;
      divides = c.if-divides_within.ensures.0 (search rules);
    }

-- src/block.rt:60:9
pub loop-index-preserved : goal.loop-index-preserved
loop-index-preserved c =
    let w = (goal.at.loop-index-preserved c).In-loop-index in
    below_more (λ k. IsRefused c.args.leads.now (part_of c.args.side c.args.r.now.entries) (get_or c.as_slice-places.result.now k 0)) c.loop-index.index c.loop-index.invariant
    (elim c.if-mask-part-eq0.branch [
      | then-mask-part-eq0+else-divides_within v ↦
          refused_itself c.args.leads.now (part_of c.args.side c.args.r.now.entries) (place w) v.index-leads-place.result
          (read_at c.args.leads.now (place w) v.index-leads-place.result (placed w) v.index-leads-place.is) (λ d. false≢true (v.if-divides_within.ensures.1 d))
      | else-mask-part-eq0 v ↦
          refused_by_mask c.args.leads.now (part_of c.args.side c.args.r.now.entries) (mask w) (place w) c.args.part (c.type_inv.mask-items c.loop-index.index).fits c.ranges.part.fits (wide w) (placed w) c.requires.part v.if-mask-part-eq0.false
    ])
