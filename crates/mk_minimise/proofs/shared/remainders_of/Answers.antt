use Rattle.std.proofs.Common.{◌≡◌, List, Option, Result, Bor, ◌∙◌}
use Rattle.std.specs.Prelude.{MatchResult}
use Rattle.std.specs.List.{AllZip}
use Rattle.rayon.proofs.ToStd.{slice-AllZip}
use Rattle.rayon.proofs.ListFacts.{AllZip-weaken}
use Rattle.mk_model.specs.CoreStates.{pair_of}
use Rattle.mk_move.specs.Moves.{Weighed}
use Rattle.mk_move.specs.MoveLists.{BasisView, vectors_of}
use Rattle.mk_inter.proofs.Collected.{collected_values, collected_fault}
use Rattle.mk_minimise.specs.declared.minimal.MinimiseFault.{MinimiseFault}
use Rattle.mk_minimise.specs.declared.overlaps.Overlap.{Overlap}
use Rattle.mk_minimise.specs.Minimal.{IsPairFault}
use Rattle.mk_minimise.specs.Overlaps.{IsRemainderOf}
use Rattle.mk_minimise.proofs.SharedPairs.{fault_of_pairs}
use Rattle.mk_minimise.proofs.shared.remainders_of.Goals as goal
use Rattle.mk_minimise.proofs.shared.remainders_of.Goals.{In_ok-rests}

-- why the work on the pair stops
abbrev IsFaultOf : BasisView → Overlap → MinimiseFault → Type 0
IsFaultOf lower pair = IsPairFault (vectors_of lower.moves) (pair_of pair.first pair.second)

-- what a worker gives for a pair
abbrev GivesRest : BasisView → Overlap → Result (Option Weighed) MinimiseFault → Type 0
GivesRest lower pair r = MatchResult r (IsRemainderOf lower pair) (IsFaultOf lower pair)

each : (g : _) (c : In_ok-rests g) → AllZip (GivesRest c.args.lower.now) c.args.pairs.now c.in_ok-rests.ensures.0
each g c =
    let lower = c.args.lower.now in
    let chain = rw (c.map_init.ensures.base, c.with_min_len.ensures.base, c.map_init.ensures.f) at c.in_ok-rests.ensures.1 in
    slice-AllZip chain.0 c.args.pairs.now (chain.1 ∙ c.par_iter.ensures) (GivesRest lower) c.in_ok-rests.ensures.0
    (AllZip-weaken _ (λ (z : Bor Overlap). GivesRest lower z.now) (λ x y h. h.2) chain.0 c.in_ok-rests.ensures.0 chain.2)

pub returns-clause-remainders : goal.returns-clause-remainders
returns-clause-remainders g c =
    let lower = c.args.lower.now in
    collected_values (GivesRest lower) (IsRemainderOf lower) (IsFaultOf lower) (λ x y h. h) (λ x e h. h) c.args.pairs.now c.in_ok-rests.ensures.0 (each g c) c.in_ok-rests.rests c.in_ok-rests.ensures.2

pub returns-clause-refused : goal.returns-clause-refused
returns-clause-refused g c =
    let lower = c.args.lower.now in
    fault_of_pairs (vectors_of lower.moves) c.args.pairs.now c.in_ok-rests.rests
    (collected_fault (GivesRest lower) (IsRemainderOf lower) (IsFaultOf lower) (λ x y h. h) (λ x e h. h) c.args.pairs.now c.in_ok-rests.ensures.0 (each g c) c.in_ok-rests.rests c.in_ok-rests.ensures.2)
