use Rattle.std.proofs.Common.{◌+◌, ◌++◌, ◌∷◌, [], List, ℤ, take, subst, sym, arith}
use Rattle.std.proofs.lemmas.List.{take_more, take_all}
use Rattle.std.proofs.lemmas.Slice.Zip.{all_zipped_more}
use Rattle.std.specs.List.{AllZip}
use Rattle.mk_model.specs.CoreStates.{move_at}
use Rattle.mk_move.specs.Moves.{Weighed}
use Rattle.mk_move.specs.MoveLists.{vectors_of}
use Rattle.mk_move.proofs.MoveVectors.{length-vectors_of}
use Rattle.mk_inter.specs.TailSteps.{IsReducedFrom}
use Rattle.mk_inter.proofs.tails.all_tails.Goals as goal

pub loop-index-preserved : goal.loop-index-preserved
loop-index-preserved c =
    let basis = c.args.basis.now in
    let rows = vectors_of basis.moves in
    let index = c.loop-index.index in
    let more = all_zipped_more (IsReducedFrom basis) (take index rows) c.loop-index.tails.items (move_at rows index) c.in_ok-tail.tail c.loop-index.invariant c.in_ok-tail.ensures.reduced in
    let e = take_more rows index [] (omega (arith, c.loop-index-test.true, c.len-index-end.ensures.value, length-vectors_of basis.moves)) in
    subst (λ (xs : List Weighed). AllZip (IsReducedFrom basis) (take (index + 1) rows) xs) (sym c.in_ok-push.ensures.items)
    (subst (λ (xs : List (List ℤ)). AllZip (IsReducedFrom basis) xs (c.loop-index.tails.items ++ c.in_ok-tail.tail ∷ [])) (sym e) more)

pub returns-clause-reduced : goal.returns-clause-reduced
returns-clause-reduced c =
    let basis = c.args.basis.now in
    let rows = vectors_of basis.moves in
    subst (λ (xs : List (List ℤ)). AllZip (IsReducedFrom basis) xs c.loop-index.tails.items)
    (take_all c.loop-index.index rows (omega (arith, c.loop-index-test.false, c.len-index-end.ensures.value, length-vectors_of basis.moves))) c.loop-index.invariant
