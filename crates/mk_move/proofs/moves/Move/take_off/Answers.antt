use Rattle.std.proofs.Common.{Ok, subst}
use Rattle.mk_move.specs.Moves.{Weighed}
use Rattle.mk_move.specs.InPlace.{TakesOffInPlace}
use Rattle.mk_move.proofs.Entries.{as_entry}
use Rattle.mk_move.proofs.Takings.{length-taken}
use Rattle.mk_move.proofs.moves.Move.take_off.Goals as goal

pub returns-then-unsigned_abs-ge-QUICK-clause-columns :
    goal.returns-then-unsigned_abs-ge-QUICK-clause-columns
returns-then-unsigned_abs-ge-QUICK-clause-columns c =
    length-taken c.args.self.now (as_entry c.args.times) c.args.v.now.entries c.take_off_slowly.result c.take_off_slowly.new.self c.requires.columns c.take_off_slowly.ensures

pub returns-in-Some-clause-columns : goal.returns-in-Some-clause-columns
returns-in-Some-clause-columns c =
    length-taken c.args.self.now (as_entry c.args.times) c.args.v.now.entries (Ok c.in-Some.left) c.take_off_quickly.new.self c.requires.columns c.in-Some.ensures

pub returns-in-None-clause-columns : goal.returns-in-None-clause-columns
returns-in-None-clause-columns c =
    let taken = subst (λ (m : Weighed). TakesOffInPlace m (as_entry c.args.times) c.args.v.now.entries c.take_off_slowly-in-None.result c.take_off_slowly-in-None.new.self) c.in-None.ensures c.take_off_slowly-in-None.ensures in
    length-taken c.args.self.now (as_entry c.args.times) c.args.v.now.entries c.take_off_slowly-in-None.result c.take_off_slowly-in-None.new.self c.requires.columns taken
