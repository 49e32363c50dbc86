use Rattle.mk_workers.proofs.Steps.{first_within, second_within, is_coprime, is_ready}
use Rattle.mk_workers.proofs.worker.Worker.test_pair.Goals as goal

pub have_coprime_leads-requires-clause-first : goal.have_coprime_leads-requires-clause-first
have_coprime_leads-requires-clause-first c =
    let (i, j) = c.claimed_places-i.result in
    let (pair, claim) = c.requires.stage in
    first_within c.args.self.now.seat pair i j c.basis.result.now claim c.claimed_places-i.ensures c.basis.ensures.value

pub have_coprime_leads-requires-clause-second : goal.have_coprime_leads-requires-clause-second
have_coprime_leads-requires-clause-second c =
    let (i, j) = c.claimed_places-i.result in
    let (pair, claim) = c.requires.stage in
    second_within c.args.self.now.seat pair i j c.basis.result.now claim c.claimed_places-i.ensures c.basis.ensures.value

pub settle_coprime-requires : goal.settle_coprime-requires
settle_coprime-requires c =
    let (i, j) = c.claimed_places-i.result in
    let (pair, claim) = c.requires.stage in
    record {
      table = c.requires.table;
      leads = c.requires.leads;
      stage = is_coprime c.args.self.now.seat pair i j c.basis.result.now claim c.claimed_places-i.ensures c.basis.ensures.value c.have_coprime_leads.result c.if-have_coprime_leads.true c.have_coprime_leads.ensures.0;
    }

pub look_for_third-requires : goal.look_for_third-requires
look_for_third-requires c =
    let (i, j) = c.claimed_places-i.result in
    let (pair, claim) = c.requires.stage in
    record {
      table = c.requires.table;
      leads = c.requires.leads;
      stage = is_ready c.args.self.now.seat pair i j c.basis.result.now claim c.claimed_places-i.ensures c.basis.ensures.value c.have_coprime_leads.result c.if-have_coprime_leads.false c.have_coprime_leads.ensures.1;
    }
