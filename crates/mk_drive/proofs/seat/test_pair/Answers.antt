use Rattle.mk_model.specs.CoreStates.{pair_of}
use Rattle.mk_move.specs.MoveLists.{vectors_of}
use Rattle.mk_drive.proofs.Seats.{same_claim, common_column}
use Rattle.mk_drive.proofs.Lines.{candidate_of, none_left, is_ready}
use Rattle.mk_drive.proofs.seat.test_pair.Goals as goal

pub returns-in-None : goal.returns-in-None
returns-in-None c =
    let ledger = c.args.ledger.now in
    let (i, j) = c.claimed_places-i.result in
    let (pair, copy) = c.requires.seat in
    is_ready ledger c.basis.ensures.kept c.args.worker c.args.seen c.args.from c.args.tried (pair_of i j)
    (same_claim ledger c.args.worker c.args.seen pair (pair_of i j) copy c.claimed_places-i.ensures)
    (common_column ledger c.basis.ensures.kept c.basis.result.now c.basis.ensures.value (pair_of i j) c.have_coprime_leads.result c.if-have_coprime_leads.false c.have_coprime_leads.ensures.1)
    (none_left c.args.seen.moves (pair_of i j) c.args.from c.len.result c.args.tried c.len.ensures.value c.in-None.ensures.none)

pub try_third-requires : goal.try_third-requires
try_third-requires c =
    let ledger = c.args.ledger.now in
    let (i, j) = c.claimed_places-i.result in
    let (pair, copy) = c.requires.seat in
    record {
      pair = pair_of i j;
      copy = same_claim ledger c.args.worker c.args.seen pair (pair_of i j) copy c.claimed_places-i.ensures;
      common = common_column ledger c.basis.ensures.kept c.basis.result.now c.basis.ensures.value (pair_of i j) c.have_coprime_leads.result c.if-have_coprime_leads.false c.have_coprime_leads.ensures.1;
      few = c.in-Some.ensures.found.few;
      found = candidate_of (vectors_of c.args.seen.moves) (pair_of i j) c.args.from c.in-Some.k c.in-Some.ensures.found.least_third;
    }
