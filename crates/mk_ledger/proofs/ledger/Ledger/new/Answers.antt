use Rattle.std.proofs.Common.{◌≡◌, length, replicate, false, None, ap, sym, ◌∙◌}
use Rattle.std.proofs.lemmas.List.{length-map}
use Rattle.mk_move.specs.Moves.{Weighed}
use Rattle.mk_move.specs.MoveLists.{vectors_of}
use Rattle.mk_ledger.specs.PairFlags.{PairFlags, pairs_of}
use Rattle.mk_journal.specs.Entries.{settles_of}
use Rattle.mk_ledger.specs.declared.ledger.Ledger.TheInside.{Inside}
use Rattle.mk_ledger.proofs.Beginnings.{begun, new_fields}
use Rattle.mk_ledger.proofs.ledger.Ledger.new.Goals as goal

pub invariant_of-result : goal.invariant_of-result
invariant_of-result c =
    let fields : Inside = record {
      start_len = c.len-start_len.result;
      basis = c.args.start;
      settled = c.in_ok-settled.settled;
      journal = c.new.result;
      next = c.new-2.result;
      claims = c.in_ok-claims.claims;
      given_up = 0;
      halts = c.in_ok-halts.halts;
      first = None;
      budget = c.args.budget;
      limit = c.args.basis_limit;
      workers = c.args.workers;
    } in
    let size : length (vectors_of c.args.start.moves) ≡ length c.args.start.moves =
    length-map c.args.start.moves (λ (m : Weighed). m.entries) in
    let first = begun (vectors_of c.args.start.moves) c.args.budget c.args.basis_limit c.args.workers c.len-start_len.result c.new-2.result
    (settles_of c.new.result) c.in_ok-claims.claims.items c.in_ok-halts.halts.items
    (c.len-start_len.ensures.value ∙ sym size) (ap settles_of c.new.ensures) c.in_ok-claims.ensures c.new-2.ensures c.in_ok-halts.ensures in
    new_fields fields first c.len-start_len.ensures.kept (record {
      room = c.requires.room;
      bounded = c.requires.limit;
      some = c.requires.some;
      few = c.requires.few;
    })
    (ap (λ (f : PairFlags). f.moves) c.in_ok-settled.ensures ∙ c.len-start_len.ensures.value)
    (ap (λ (f : PairFlags). f.flags) c.in_ok-settled.ensures ∙ ap (λ n. replicate (pairs_of n) false) c.len-start_len.ensures.value)

pub returns-clause-kept : goal.returns-clause-kept
returns-clause-kept c =
    let fields : Inside = record {
      start_len = c.len-start_len.result;
      basis = c.args.start;
      settled = c.in_ok-settled.settled;
      journal = c.new.result;
      next = c.new-2.result;
      claims = c.in_ok-claims.claims;
      given_up = 0;
      halts = c.in_ok-halts.halts;
      first = None;
      budget = c.args.budget;
      limit = c.args.basis_limit;
      workers = c.args.workers;
    } in
    let size : length (vectors_of c.args.start.moves) ≡ length c.args.start.moves =
    length-map c.args.start.moves (λ (m : Weighed). m.entries) in
    let first = begun (vectors_of c.args.start.moves) c.args.budget c.args.basis_limit c.args.workers c.len-start_len.result c.new-2.result
    (settles_of c.new.result) c.in_ok-claims.claims.items c.in_ok-halts.halts.items
    (c.len-start_len.ensures.value ∙ sym size) (ap settles_of c.new.ensures) c.in_ok-claims.ensures c.new-2.ensures c.in_ok-halts.ensures in
    (new_fields fields first c.len-start_len.ensures.kept (record {
      room = c.requires.room;
      bounded = c.requires.limit;
      some = c.requires.some;
      few = c.requires.few;
    })
    (ap (λ (f : PairFlags). f.moves) c.in_ok-settled.ensures ∙ c.len-start_len.ensures.value)
    (ap (λ (f : PairFlags). f.flags) c.in_ok-settled.ensures ∙ ap (λ n. replicate (pairs_of n) false) c.len-start_len.ensures.value)).ledger
