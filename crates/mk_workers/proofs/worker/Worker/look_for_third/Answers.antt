use Rattle.mk_workers.specs.declared.stage.SeatStage.TheVariants.{Ready}
use Rattle.mk_workers.proofs.Stays.{stays}
use Rattle.mk_workers.proofs.Steps.{places_ordered, second_within, has_third}
use Rattle.mk_workers.proofs.worker.Worker.look_for_third.Goals as goal

pub next_third-requires-clause-ordered : goal.next_third-requires-clause-ordered
next_third-requires-clause-ordered c =
    let (i, j) = c.claimed_places-i.result in
    let (pair, claim, common) = c.requires.stage in
    places_ordered c.args.self.now.seat pair i j c.basis.result.now claim c.claimed_places-i.ensures c.basis.ensures.value

pub next_third-requires-clause-within : goal.next_third-requires-clause-within
next_third-requires-clause-within c =
    let (i, j) = c.claimed_places-i.result in
    let (pair, claim, common) = c.requires.stage in
    second_within c.args.self.now.seat pair i j c.basis.result.now claim c.claimed_places-i.ensures c.basis.ensures.value

pub try_third-requires-clause-works : goal.try_third-requires-clause-works
try_third-requires-clause-works c = record { table = c.requires.table; leads = c.requires.leads; stage = c.requires.stage }

pub try_third-requires-clause-third : goal.try_third-requires-clause-third
try_third-requires-clause-third c =
    let (i, j) = c.claimed_places-i.result in
    let (pair, claim, common) = c.requires.stage in
    has_third c.args.self.now.seat pair i j c.basis.result.now claim c.claimed_places-i.ensures c.basis.ensures.value c.args.from c.in-Some.k c.in-Some.ensures.found.least_third

pub try_third-requires-clause-few : goal.try_third-requires-clause-few
try_third-requires-clause-few c = c.in-Some.ensures.found.few

pub returns-in-None : goal.returns-in-None
returns-in-None c = stays c.args.self.now.seat c.args.self.now.finder Ready c.requires.leads c.requires.stage
