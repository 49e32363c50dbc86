use Rattle.std.proofs.Common.{refl}
use Rattle.mk_inter.proofs.ReducedLists.{belonging_moves, few_moves, made_list, made_reduced, made_spans}
use Rattle.mk_inter.proofs.tails.reduced_of.Goals as goal

pub basis_of-requires-clause-belongs : goal.basis_of-requires-clause-belongs
basis_of-requires-clause-belongs c =
    belonging_moves c.args.basis.now c.args.basis.now refl c.requires.saturated c.args.tails.items c.sort_moves.new.moves.items c.requires.tails c.in_ok-sort_moves.ensures.same

pub basis_of-requires-clause-few_moves : goal.basis_of-requires-clause-few_moves
basis_of-requires-clause-few_moves c =
    few_moves c.args.basis.now c.args.basis.now refl c.requires.saturated c.args.tails.items c.sort_moves.new.moves.items c.requires.tails c.in_ok-sort_moves.ensures.same

pub invariant_of-result : goal.invariant_of-result
invariant_of-result c =
    made_list c.args.basis.now c.args.basis.now refl c.requires.saturated c.args.tails.items c.sort_moves.new.moves.items c.requires.tails c.in_ok-sort_moves.ensures.same
    c.in_ok-sort_moves.ensures.sorted c.in_ok-reduced.reduced c.in_ok-reduced.ensures.moves c.in_ok-reduced.ensures.priority c.in_ok-reduced.ensures.grading

pub returns-clause-reduced : goal.returns-clause-reduced
returns-clause-reduced c =
    made_reduced c.args.basis.now c.args.basis.now refl c.requires.saturated c.args.tails.items c.sort_moves.new.moves.items c.requires.tails c.in_ok-sort_moves.ensures.same
    c.in_ok-sort_moves.ensures.sorted c.in_ok-reduced.reduced c.in_ok-reduced.ensures.moves c.in_ok-reduced.ensures.priority c.in_ok-reduced.ensures.grading

pub returns-clause-lattice : goal.returns-clause-lattice
returns-clause-lattice c =
    made_spans c.args.basis.now c.args.basis.now refl c.requires.saturated c.args.tails.items c.sort_moves.new.moves.items c.requires.tails c.in_ok-sort_moves.ensures.same
    c.in_ok-sort_moves.ensures.sorted c.in_ok-reduced.reduced c.in_ok-reduced.ensures.moves c.in_ok-reduced.ensures.priority c.in_ok-reduced.ensures.grading

pub returns-clause-kept : goal.returns-clause-kept
returns-clause-kept c =
    made_list c.args.basis.now c.args.basis.now refl c.requires.saturated c.args.tails.items c.sort_moves.new.moves.items c.requires.tails c.in_ok-sort_moves.ensures.same
    c.in_ok-sort_moves.ensures.sorted c.in_ok-reduced.reduced c.in_ok-reduced.ensures.moves c.in_ok-reduced.ensures.priority c.in_ok-reduced.ensures.grading
