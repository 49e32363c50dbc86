-- The fields of a ledger that begins.
use Rattle.std.proofs.Common.{◌≡◌, inl, ℕ, ◌≤◌, false, List, [], length, get_or, replicate, Option, None, ℤ, arith, refl, sym, ap, ◌∙◌, subst, ⊎_elim}
use Rattle.std.proofs.lemmas.Bool.{cases_lt, false≢true}
use Rattle.std.proofs.lemmas.Option.{none-some}
use Rattle.std.proofs.lemmas.List.{length-map, length-replicate, get_or-replicate, get_or_past}
use Rattle.mk_model.specs.CoreStates.{Pair, Settle, Halt, CoreState, new_state, IsSettled, IsClaimed}
use Rattle.mk_model.specs.Legal.{IsLegal}
use Rattle.mk_model.proofs.Lists.{Contains-none}
use Rattle.mk_model.proofs.LegalEvents.{new_is_legal}
use Rattle.mk_move.specs.Moves.{Weighed}
use Rattle.mk_move.specs.MoveLists.{IsBasis, vectors_of}
use Rattle.mk_ledger.specs.PairFlags.{pairs_of}
use Rattle.mk_ledger.specs.Ledgers.{number_of, AreFlagged, AreInOrder}
use Rattle.mk_ledger.specs.LedgerFields.{ledger_of, AreFields}
use Rattle.mk_ledger.specs.declared.ledger.Ledger.TheInside.{Inside}

-- a place of a list of one value alone
same_everywhere : {X : Type 0} (n i : ℕ) (x : X) → get_or (replicate n x) i x ≡ x
same_everywhere n i x =
    ⊎_elim (λ l. get_or-replicate n i x x l) (λ l. get_or_past (replicate n x) i x (omega (arith, l, length-replicate n x))) (cases_lt i n)

module _ (start : List (List ℤ)) (budget limit workers : ℕ) where
  abbrev first_state : CoreState
  first_state = new_state start budget limit workers

  not_settled : (pair : Pair) → ¬ (IsSettled first_state.journal pair)
  not_settled pair (entry, h, e) = Contains-none entry h

  not_claimed : (pair : Pair) → ¬ (IsClaimed first_state pair)
  not_claimed pair (worker, e) = none-some pair (sym (same_everywhere workers worker None) ∙ e)

  pub new_in_order : AreInOrder first_state
  new_in_order = record {
    made = omega arith;
    settled = λ pair s. absurd (not_settled pair s);
    claimed = λ pair s. absurd (not_claimed pair s);
    before = inl (record { none_given_up = refl; taken = λ pair h l. absurd (omega (arith, l)) });
  }

  pub new_flagged : AreFlagged first_state (replicate (pairs_of (length start)) false)
  new_flagged = record {
    count = length-replicate (pairs_of (length start)) false;
    each = λ pair h. (
      λ e. absurd (false≢true (sym (same_everywhere (pairs_of (length start)) (number_of pair) false) ∙ e)),
      λ s. absurd
          (not_settled pair s),
    );
  }

-- the parts of a state that begins
pub begun : (start : List (List ℤ)) (budget limit workers start_length next : ℕ) (journal : List Settle) (claims : List (Option Pair))
    (halts : List (Option Halt)) →
    start_length ≡ length start → journal ≡ [] → claims ≡ replicate workers None → next ≡ 0 → halts ≡ replicate workers None →
    record {
      start_length = start_length;
      basis = start;
      journal = journal;
      claims = claims;
      claims_made = next;
      claims_given_up = 0;
      halts = halts;
      first_halted = None;
      budget = budget;
      limit = limit;
      workers = workers;
    } ≡ new_state start budget limit workers
begun start budget limit workers start_length next journal claims halts a b c d e = rw (a, b, c, d, e)

-- no more moves than the limit, which 65,536 bounds, and 1 to 64 workers
pub record AreBounds (moves limit workers : ℕ) : Type 0 where
  pub room : moves ≤ limit
  pub bounded : limit ≤ 65536
  pub some : 1 ≤ workers
  pub few : workers ≤ 64

pub new_fields : (fields : Inside) →
    (ledger_of fields).state ≡ new_state (vectors_of fields.basis.moves) fields.budget fields.limit fields.workers →
    IsBasis fields.basis → AreBounds (length fields.basis.moves) fields.limit fields.workers →
    fields.settled.moves ≡ length fields.basis.moves → fields.settled.flags ≡ replicate (pairs_of (length fields.basis.moves)) false →
    AreFields fields
new_fields fields e basis bounds moves flags = record {
  ledger = record {
    basis = basis;
    moves = refl;
    legal = subst (IsLegal (length fields.basis.grading) fields.basis.priority) (sym e)
        (new_is_legal (length fields.basis.grading) fields.basis.priority start fields.budget fields.limit fields.workers
        (omega (arith, size, bounds.room)));
    limit = bounds.bounded;
    some = bounds.some;
    workers = bounds.few;
  };
  flags_moves = moves;
  flagged = subst (λ state. AreFlagged state fields.settled.flags) (sym e)
      (subst (AreFlagged (new_state start fields.budget fields.limit fields.workers)) (sym here)
      (new_flagged start fields.budget fields.limit fields.workers));
  in_order = subst AreInOrder (sym e) (new_in_order start fields.budget fields.limit fields.workers);
}
  where
    start : List (List ℤ)
    start = vectors_of fields.basis.moves

    size : length start ≡ length fields.basis.moves
    size = length-map fields.basis.moves (λ (m : Weighed). m.entries)

    here : fields.settled.flags ≡ replicate (pairs_of (length start)) false
    here = flags ∙ ap (λ n. replicate (pairs_of n) false) (sym size)
