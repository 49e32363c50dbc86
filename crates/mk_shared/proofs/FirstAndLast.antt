-- The first seat of a completion, and the ledger at its end.
use Rattle.std.proofs.Common.{◌≡◌, ℕ, ◌<◌, ◌≤◌, ⊎_elim, zero, suc, None, [], length, take, refl, sym, ap, ◌∙◌, arith}
use Rattle.std.proofs.lemmas.Bool.{cases_lt}
use Rattle.std.proofs.lemmas.List.{append-nil, length-map, take_all}
use Rattle.mk_model.specs.CoreStates.{claim_of}
use Rattle.mk_move.specs.Moves.{Weighed}
use Rattle.mk_move.specs.MoveLists.{BasisView, vectors_of}
use Rattle.mk_ledger.specs.Ledgers.{LedgerView}
use Rattle.mk_core.specs.Jobs.{JobView}
use Rattle.mk_turn.specs.Turns.{AllJoined, Closes, beginning}
use Rattle.mk_shared.specs.LedgerTurns.{ledger_meaning, outset_of}
use Rattle.mk_shared.specs.SharedSeats.{Sight, AgreesWithCopy}
use Rattle.mk_shared.specs.SharedAnswers.{ledger_begun}

-- what the first seat knows agrees with a copy of the start
pub first_agrees : (job : JobView) (workers : ℕ) (x : LedgerView) → 1 ≤ workers → x.basis ≡ job.start → x.state.workers ≡ workers →
    AgreesWithCopy (beginning ledger_meaning x workers) job.start
first_agrees job workers x some basis count = record {
  no_turn = refl;
  not_raised = refl;
  first_moves = ([], ap (λ (b : BasisView). b.moves) basis ∙ sym (append-nil job.start.moves));
  known = omega (arith, ap (λ (b : BasisView). length b.moves) basis);
  outset = outset_of x;
  set_out = refl;
  workers = count;
  priority = ap (λ (b : BasisView). b.priority) (sym basis);
  grading = ap (λ (b : BasisView). b.grading) (sym basis);
  within = some;
  made_within = some;
}

-- the ledger that a job begins with has the job and its workers
pub outset_begun : (job : JobView) (workers : ℕ) → outset_of (ledger_begun job workers) ≡ record { job = job; workers = workers }
outset_begun job workers =
    let moves : take (length (vectors_of job.start.moves)) job.start.moves ≡ job.start.moves = take_all
    (length (vectors_of job.start.moves)) job.start.moves (omega (arith, length-map job.start.moves (λ (m : Weighed). m.entries))) in
    rw moves refl

-- once every seat was joined, no worker of the ledger has a claim
pub none_claimed : (x : LedgerView) (v : Sight) → Closes ledger_meaning x v → v.number ≡ 0 → v.claim ≡ None → AllJoined v → (worker : ℕ) →
    claim_of x.state worker ≡ None
none_claimed x v closes first idle joined zero = ap (claim_of x.state) (sym first) ∙ closes.knows.claims ∙ idle
none_claimed x v closes first idle joined (suc k) = ⊎_elim made (λ l. (closes.unmade (suc k) l).claim) (cases_lt (suc k) v.made)
  where
    made : suc k < v.made → claim_of x.state (suc k) ≡ None
    made l = let j = joined (suc k) (omega arith) l in ap (claim_of x.state) (sym j.number) ∙ (closes.joined j.place j.kept j.at).claim
