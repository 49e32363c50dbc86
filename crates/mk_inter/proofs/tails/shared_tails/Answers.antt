use Rattle.std.proofs.Common.{◌≡◌, ◌+◌, ◌-◌, ◌<◌, ℕ, List, [], length, Result, IfOk, IfErr, ap, ◌∙◌, arith, subst}
use Rattle.std.specs.List.{AllZip, range_with_len}
use Rattle.rayon.specs.Numbers.{nat_range}
use Rattle.rayon.proofs.ListFacts.{IfOk-then}
use Rattle.rayon.proofs.ToStd.{nat_range-All}
use Rattle.mk_model.specs.CoreStates.{move_at}
use Rattle.mk_move.specs.Moves.{Weighed}
use Rattle.mk_move.specs.MoveLists.{BasisView, vectors_of}
use Rattle.mk_move.proofs.MoveVectors.{length-vectors_of}
use Rattle.mk_inter.specs.declared.tails.TailFault.{TailFault}
use Rattle.mk_inter.specs.Tails.{IsTailFault}
use Rattle.mk_inter.specs.TailSteps.{IsReducedFrom}
use Rattle.mk_inter.proofs.Collected.{collected_values, collected_fault, same_fault, places_zip}
use Rattle.mk_inter.proofs.tails.shared_tails.Goals as goal
use Rattle.mk_inter.proofs.tails.shared_tails.Goals.{In_ok-tails}

pub collect-requires-clause-ready : goal.collect-requires-clause-ready
collect-requires-clause-ready g c κs within =
    let ends = c.into_par_iter.ensures in
    let inside = nat_range-All (λ i. i < length c.args.basis.now.moves) 0 c.len.result (λ i low high. omega (arith, high, c.len.ensures)) in
    rw (c.map.ensures.base, c.with_min_len.ensures.base, c.map.ensures.f, ends.0, ends.1)
    (λ k d lt. ((c.requires.saturated, (c.requires.leads, inside k d lt)), λ y p. tt))

-- the move of a place, reduced
abbrev IsReducedAt : BasisView → ℕ → Weighed → Type 0
IsReducedAt basis k = IsReducedFrom basis (move_at (vectors_of basis.moves) k)

-- what a worker gives for a place
abbrev GivesTail : BasisView → ℕ → Result Weighed TailFault → Type 0
GivesTail basis k r = IfOk r (IsReducedAt basis k) × IfErr r (IsTailFault basis)

each : (g : _) (c : In_ok-tails g) → AllZip (GivesTail c.args.basis.now) (range_with_len 0 (length (vectors_of c.args.basis.now.moves))) c.in_ok-tails.ensures.0
each g c =
    let basis = c.args.basis.now in
    let ends = c.into_par_iter.ensures in
    let chain = rw (c.map.ensures.base, c.with_min_len.ensures.base, c.map.ensures.f) at c.in_ok-tails.ensures.1 in
    let whole : c.len.result - 0 ≡ length (vectors_of basis.moves) = omega (arith, c.len.ensures, length-vectors_of basis.moves) in
    let places = chain.1 ∙ (λ i. nat_range (ends.0 i) (ends.1 i)) ∙ ap (range_with_len 0) whole in
    subst (λ (ks : List ℕ). AllZip (GivesTail basis) ks c.in_ok-tails.ensures.0) places chain.2

pub returns-clause-reduced : goal.returns-clause-reduced
returns-clause-reduced g c =
    let basis = c.args.basis.now in
    let rows = vectors_of basis.moves in
    IfOk-then c.in_ok-tails.tails _ _
    (collected_values (GivesTail basis) (IsReducedAt basis) (λ k. IsTailFault basis) (λ k y h. h.0) (λ k e h. h.1) _ c.in_ok-tails.ensures.0 (each g c) c.in_ok-tails.tails c.in_ok-tails.ensures.2)
    (λ v h. places_zip (IsReducedFrom basis) rows rows [] 0 (λ k l. let e : 0 + k ≡ k = omega arith in ap (move_at rows) e) v.items h)

pub returns-clause-refused : goal.returns-clause-refused
returns-clause-refused g c =
    let basis = c.args.basis.now in
    same_fault (IsTailFault basis) _ c.in_ok-tails.tails
    (collected_fault (GivesTail basis) (IsReducedAt basis) (λ k. IsTailFault basis) (λ k y h. h.0) (λ k e h. h.1) _ c.in_ok-tails.ensures.0 (each g c) c.in_ok-tails.tails c.in_ok-tails.ensures.2)
