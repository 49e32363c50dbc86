use Rattle.std.proofs.Common.{rules, ◌≡◌, ◌⊎◌, inl, inr, ℕ, ℤ, ◌+◌, ◌<◌, ◌≤◌, false, List, length, get_or, arith, sym, ap, ◌∙◌, w64}
use mir.Val.{Fits}
use Rattle.std.proofs.lemmas.Bool.{cases_lt}
use Rattle.mk_move.specs.MoveLists.{vectors_of}
use Rattle.mk_move.proofs.LeadMasks.{not_dividing_by_masks}
use Rattle.mk_move.proofs.MoveVectors.{length-vectors_of}
use Rattle.mk_core.specs.Redundancy.{makes_redundant}
use Rattle.mk_core.proofs.NeededMoves.{made_redundant, none_redundant, not_made}
use Rattle.mk_core.proofs.dropping.is_redundant_at.Goals as goal
use Rattle.mk_core.proofs.dropping.is_redundant_at.Goals.{else-masks-other-eq0-via-then-masks-other-eq0+else-makes_redundant, else-masks-other-eq0-via-else-masks-other-eq0}

-- one place more of those that don't make the move redundant
none_more : (moves : List (List ℤ)) (place end : ℕ) → ((k : ℕ) → k < end → makes_redundant moves k place ≡ false) → makes_redundant moves end place ≡ false →
    (k : ℕ) → k < end + 1 → makes_redundant moves k place ≡ false
none_more moves place end before here k l = at (cases_lt k end)
  where
    at : (k < end) ⊎ (end ≤ k) → makes_redundant moves k place ≡ false
    at (inl m) = before k m
    at (inr m) = let same : k ≡ end = omega (arith, l, m) in ap (λ n. makes_redundant moves n place) same ∙ here

pub returns-then-makes_redundant : goal.returns-then-makes_redundant
returns-then-makes_redundant c =
    let moves = vectors_of c.args.basis.now.moves in
    let count = length-vectors_of c.args.basis.now.moves in
    let within : c.loop-other.other < length moves = omega (arith, c.len-other-end.ensures.value) in
    sym (made_redundant moves c.args.place c.loop-other.other within (sym c.makes_redundant.ensures ∙ c.if-makes_redundant.true))

pub loop-other-preserved : goal.loop-other-preserved
loop-other-preserved c =
    let basis = c.args.basis.now in
    let moves = vectors_of basis.moves in
    let masks = c.lead_masks-masks in
    let fits : (n : ℕ) → Fits w64 (get_or masks.result.now n 0) = search rules in
    none_more moves c.args.place c.loop-other.other c.loop-other.invariant
    (elim c.else-masks-other-eq0.branch [
      | else-masks-other-eq0-via-then-masks-other-eq0+else-makes_redundant w ↦ sym w.makes_redundant.ensures ∙ w.if-makes_redundant.false
      | else-masks-other-eq0-via-else-masks-other-eq0 w ↦
          sym (not_made moves c.loop-other.other c.args.place (not_dividing_by_masks basis masks.result.now c.loop-other.other c.args.place masks.ensures.kept masks.ensures.masks (omega (arith, c.len-other-end.ensures.value)) c.requires fits w.if-masks-other-eq0.false))
    ])

pub returns : goal.returns
returns c =
    let moves = vectors_of c.args.basis.now.moves in
    let count = length-vectors_of c.args.basis.now.moves in
    let within : c.args.place < length moves = omega arith in
    sym (none_redundant moves c.args.place within (λ other l. c.loop-other.invariant other (omega (arith, c.len-other-end.ensures.value))))
