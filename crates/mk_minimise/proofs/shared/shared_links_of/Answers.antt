use Rattle.std.proofs.Common.{◌≡◌, ◌<◌, ◌∷◌, ◌++◌, [], length, take, get_or, ℕ, List, Option, ℤ, rules, sym, subst, ap, ◌∙◌}
use mir.Syntax.{w128}
use mir.Val.{to_z, of_z}
use Rattle.std.specs.List.{AllZip}
use Rattle.std.proofs.lemmas.Iterator.Adapters.{YieldsList-from_vec}
use Rattle.std.proofs.lemmas.Iterator.Consumers.{YieldsList-turn, YieldsList-end}
use Rattle.mk_model.specs.Bases.{IsUpTo}
use Rattle.mk_move.specs.MoveLists.{BasisView, vectors_of}
use Rattle.mk_minimise.specs.declared.minimal.MinimiseFault.{MinimiseFault}
use Rattle.mk_minimise.specs.declared.overlaps.Overlap.{Overlap}
use Rattle.mk_minimise.specs.Minimal.{IsMinimiseFault, IsFaultOfPairs}
use Rattle.mk_minimise.specs.Overlaps.{AreOverlaps, IsRemainderOf}
use Rattle.mk_minimise.specs.Stages.{weight_at}
use Rattle.mk_minimise.proofs.RunsOfWeight.{weight_is}
use Rattle.mk_minimise.proofs.WideNumbers.{wide_same}
use Rattle.mk_minimise.proofs.GatheredLinks.{links_tell}
use Rattle.mk_minimise.proofs.SharedPairs.{pairs_fault_is, next_none, next_is_rest, next_some, gathered_all}
use Rattle.mk_minimise.proofs.Faults.{handed_on}
use Rattle.mk_minimise.proofs.shared.shared_links_of.Goals as goal
use Rattle.mk_minimise.proofs.shared.shared_links_of.Goals.{In_ok-pairs, In_ok-rests, In-Some}

-- the weight is that of the move that follows the lower moves
bound_is : (g : _) (c : In_ok-pairs g) → to_z w128 (of_z w128 c.weight-weight.result) ≡ weight_at c.args.basis.now (length c.args.lower.now.moves)
bound_is g c =
    wide_same c.weight-weight.result c.weight-weight.type_inv ∙ c.weight-weight.ensures
    ∙ weight_is c.args.basis.now c.len.result c.move_at.result.now c.move_at.ensures.value c.move_at.ensures.belongs.graded ∙ ap (weight_at c.args.basis.now) c.len.ensures

-- the pairs are those of the lower moves with this weight
of_bound : (g : _) (c : In_ok-pairs g) → AreOverlaps c.args.basis.now.grading (vectors_of c.args.lower.now.moves) (weight_at c.args.basis.now (length c.args.lower.now.moves)) c.in_ok-pairs.pairs.items
of_bound g c =
    let w = c.args.basis.now.grading in
    let lower = vectors_of c.args.lower.now.moves in
    let value = to_z w128 (of_z w128 c.weight-weight.result) in
    let pairs = c.in_ok-pairs.pairs.items in
    subst (λ (z : ℤ). AreOverlaps w lower z pairs) (bound_is g c)
    (subst (λ (v : List ℤ). AreOverlaps v lower value pairs) c.requires.front.grading
    (subst (λ (b : BasisView). AreOverlaps b.grading (vectors_of b.moves) value pairs) c.basis.ensures c.in_ok-pairs.ensures))

-- a remainder for each
each_rest : (g : _) (c : In_ok-rests g) → AllZip (IsRemainderOf c.args.lower.now) c.in_ok-pairs.pairs.items c.in_ok-rests.rests.items
each_rest g c = subst (λ (xs : List Overlap). AllZip (IsRemainderOf c.args.lower.now) xs c.in_ok-rests.rests.items) c.deref.ensures.value c.in_ok-rests.ensures.remainders

-- the next remainder
turn : (g : _) (c : In-Some g) → (length c.loop-rest.yielded < length c.in_ok-rests.rests.items) × (c.in-Some.rest ≡ get_or c.in_ok-rests.rests.items (length c.loop-rest.yielded) c.in-Some.rest)
turn g c =
    YieldsList-turn (YieldsList-from_vec {s = c.into_iter-rest-iterator.result} c.in_ok-rests.rests.items (search rules) (search rules))
    c.loop-rest.yielded c.loop-rest.rest-iterator c.loop-rest.yielded_by c.next.result c.next.new.self c.in-Some.rest c.in-Some.is c.next.ensures.steps

pub returns-in_err-rests-clause-refused : goal.returns-in_err-rests-clause-refused
returns-in_err-rests-clause-refused g c =
    let basis = c.args.basis.now in
    let lower = c.args.lower.now in
    let bound = weight_at basis (length lower.moves) in
    let pairs = c.in_ok-pairs.pairs.items in
    let one = subst (λ (xs : List Overlap). IsFaultOfPairs (vectors_of lower.moves) xs c.in_err-rests.field-0.0) c.deref.ensures.value c.in_err-rests.ensures.refused in
    let fault : (upto : Option ℕ) → IsUpTo upto bound → IsMinimiseFault basis upto c.in_err-rests.field-0.0 =
    pairs_fault_is basis c.requires.reduced lower c.requires.front c.requires.within pairs (of_bound g (goal.at.returns-in_err-rests-clause-refused g c).In_ok-pairs) c.in_err-rests.field-0.0 one in
    handed_on (λ (fault : MinimiseFault). (upto : Option ℕ) → IsUpTo upto bound → IsMinimiseFault basis upto fault) c.from_residual-in_err-rests.result c.in_err-rests.field-0.0 c.from_residual-in_err-rests.ensures.1 fault

pub add_link-requires-clause-rest : goal.add_link-requires-clause-rest
add_link-requires-clause-rest g c =
    let at = goal.at.add_link-requires-clause-rest g c in
    next_is_rest c.args.basis.now c.requires.reduced c.args.lower.now c.requires.front c.requires.within c.in_ok-pairs.pairs.items (of_bound g at.In_ok-pairs) c.in_ok-rests.rests.items c.loop-rest.yielded
    (each_rest g at.In_ok-rests) c.in-Some.rest (turn g at.In-Some) c.in-Some-rest.rest c.in-Some-rest.is

pub loop-rest-preserved-in-Continue-branch-3 : goal.loop-rest-preserved-in-Continue-branch-3
loop-rest-preserved-in-Continue-branch-3 g c =
    let at = goal.at.loop-rest-preserved-in-Continue-branch-3 g c in
    next_some c.args.basis.now c.requires.reduced c.args.lower.now c.requires.front c.requires.within c.in_ok-pairs.pairs.items (of_bound g at.In_ok-pairs) c.in_ok-rests.rests.items c.loop-rest.yielded
    (each_rest g at.In_ok-rests) c.in-Some.rest (turn g at.In-Some) c.in-Some-rest.rest c.in-Some-rest.is c.loop-rest.links.items c.add_link.new.links.items c.loop-rest.invariant c.in_ok-add_link.ensures

pub loop-rest-preserved : goal.loop-rest-preserved
loop-rest-preserved g c =
    let at = goal.at.loop-rest-preserved g c in
    next_none c.args.basis.now c.requires.reduced c.args.lower.now c.requires.front c.requires.within c.in_ok-pairs.pairs.items (of_bound g at.In_ok-pairs) c.in_ok-rests.rests.items c.loop-rest.yielded
    (each_rest g at.In_ok-rests) c.in-Some.rest (turn g at.In-Some) c.in_default.is c.loop-rest.links.items c.loop-rest.invariant

pub returns-clause-tells : goal.returns-clause-tells
returns-clause-tells g c =
    let at = goal.at.returns-clause-tells g c in
    let pairs = c.in_ok-pairs.pairs.items in
    let rests = c.in_ok-rests.rests.items in
    let end = YieldsList-end (YieldsList-from_vec {s = c.into_iter-rest-iterator.result} rests (search rules) (search rules))
    c.loop-rest.yielded c.loop-rest.rest-iterator c.loop-rest.yielded_by c.next.result c.next.new.self c.in-None.is c.next.ensures.steps in
    let all = of_bound g at.In_ok-pairs in
    links_tell c.args.basis.now c.requires.reduced c.args.lower.now c.requires.front c.requires.within pairs all c.loop-rest.links.items
    (gathered_all c.args.basis.now c.requires.reduced c.args.lower.now c.requires.front c.requires.within pairs all rests c.loop-rest.yielded (each_rest g at.In_ok-rests) end.1 c.loop-rest.links.items c.loop-rest.invariant)
