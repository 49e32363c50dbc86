use Rattle.mk_journal.specs.Entries.{way_of}
use Rattle.mk_ledger.proofs.SettledFields.{unplaced_keeps, unplaced_settles}
use Rattle.mk_ledger.proofs.ledger.Ledger.settle_unplaced.Goals as goal

pub invariant_of-self-2 : goal.invariant_of-self-2
invariant_of-self-2 c =
    unplaced_keeps c.self.inside c.self.invariant c.args.self.now c.self.view_is c.args.worker
    (way_of c.args.kind c.args.third) c.requires.claim c.held_by-held.result c.held_by-held.ensures.value c.entry_of.result
    c.entry_of.ensures.value c.push.new.self c.mark.new.self c.in_ok-push.ensures.ok
    c.held.inside.i c.held.inside.j c.held.view_is c.mark.ensures

pub returns-clause-ok : goal.returns-clause-ok
returns-clause-ok c =
    unplaced_settles c.self.inside c.self.invariant c.args.self.now c.self.view_is c.args.worker
    (way_of c.args.kind c.args.third) c.requires.claim c.held_by-held.result c.held_by-held.ensures.value c.entry_of.result
    c.entry_of.ensures.value c.push.new.self c.mark.new.self c.in_ok-push.ensures.ok

pub returns-clause-kept : goal.returns-clause-kept
returns-clause-kept c =
    (unplaced_keeps c.self.inside c.self.invariant c.args.self.now c.self.view_is c.args.worker
    (way_of c.args.kind c.args.third) c.requires.claim c.held_by-held.result c.held_by-held.ensures.value c.entry_of.result
    c.entry_of.ensures.value c.push.new.self c.mark.new.self c.in_ok-push.ensures.ok
    c.held.inside.i c.held.inside.j c.held.view_is c.mark.ensures).ledger
