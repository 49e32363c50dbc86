use Rattle.mk_ledger.proofs.PlacedFields.{IsToBePlaced, AreWritten, place_keeps, place_settles}
use Rattle.mk_ledger.proofs.ledger.Ledger.place.Goals as goal

pub invariant_of-self-2 : goal.invariant_of-self-2
invariant_of-self-2 c =
    let held = c.held_by-held.result in
    let given : IsToBePlaced c.args.self.now c.args.worker c.args.m held = record {
      claim = c.requires.reduct;
      belongs = c.requires.belongs;
      room = c.requires.room;
      claimed = c.held_by-held.ensures.value;
    } in
    let written : AreWritten c.self.inside c.args.worker c.args.m held c.len-place.result c.held.inside.i c.held.inside.j
    c.entry_of-entry.result c.append.new.journal c.append.new.basis c.append.new.settled c.mark.new.self =
    record {
      at_end = c.len-place.ensures.value;
      entry_is = c.entry_of-entry.ensures.value;
      pushed = c.in_ok-append.ensures.ok;
      held_is = c.held.view_is;
      marked = c.mark.ensures;
    } in
    place_keeps c.self.inside c.self.invariant c.args.self.now c.self.view_is c.args.worker c.args.m held given c.len-place.result
    c.held.inside.i c.held.inside.j c.entry_of-entry.result c.append.new.journal c.append.new.basis c.append.new.settled c.mark.new.self
    written

pub returns-clause-placing : goal.returns-clause-placing
returns-clause-placing c =
    let held = c.held_by-held.result in
    let given : IsToBePlaced c.args.self.now c.args.worker c.args.m held = record {
      claim = c.requires.reduct;
      belongs = c.requires.belongs;
      room = c.requires.room;
      claimed = c.held_by-held.ensures.value;
    } in
    let written : AreWritten c.self.inside c.args.worker c.args.m held c.len-place.result c.held.inside.i c.held.inside.j
    c.entry_of-entry.result c.append.new.journal c.append.new.basis c.append.new.settled c.mark.new.self =
    record {
      at_end = c.len-place.ensures.value;
      entry_is = c.entry_of-entry.ensures.value;
      pushed = c.in_ok-append.ensures.ok;
      held_is = c.held.view_is;
      marked = c.mark.ensures;
    } in
    place_settles c.self.inside c.self.invariant c.args.self.now c.self.view_is c.args.worker c.args.m held given c.len-place.result
    c.held.inside.i c.held.inside.j c.entry_of-entry.result c.append.new.journal c.append.new.basis c.append.new.settled c.mark.new.self
    written

pub returns-clause-kept : goal.returns-clause-kept
returns-clause-kept c =
    let held = c.held_by-held.result in
    let given : IsToBePlaced c.args.self.now c.args.worker c.args.m held = record {
      claim = c.requires.reduct;
      belongs = c.requires.belongs;
      room = c.requires.room;
      claimed = c.held_by-held.ensures.value;
    } in
    let written : AreWritten c.self.inside c.args.worker c.args.m held c.len-place.result c.held.inside.i c.held.inside.j
    c.entry_of-entry.result c.append.new.journal c.append.new.basis c.append.new.settled c.mark.new.self =
    record {
      at_end = c.len-place.ensures.value;
      entry_is = c.entry_of-entry.ensures.value;
      pushed = c.in_ok-append.ensures.ok;
      held_is = c.held.view_is;
      marked = c.mark.ensures;
    } in
    (place_keeps c.self.inside c.self.invariant c.args.self.now c.self.view_is c.args.worker c.args.m held given c.len-place.result
    c.held.inside.i c.held.inside.j c.entry_of-entry.result c.append.new.journal c.append.new.basis c.append.new.settled c.mark.new.self
    written).ledger
