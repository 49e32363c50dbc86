-- The fields of a ledger where a worker halts.
use Rattle.std.proofs.Common.{◌≡◌, ℕ, ◌+◌, ◌^◌, ◌<◌, Bool, length, get_or, Option, Some, None, arith, refl, sym, ap, ◌∙◌, subst}
use Rattle.std.specs.Vec.{with_item}
use Rattle.std.specs.Option.{is_some, option_or}
use Rattle.std.proofs.lemmas.List.{get_or_default}
use mir.Val.{bool_byte}
use Rattle.mk_model.specs.CoreStates.{Pair, Halt, CoreState, claim_of, halt_of}
use Rattle.mk_model.specs.Events.{IsHaltCause, IsHalting, with_halt, given_up, first_of}
use Rattle.mk_model.specs.Events.Event.{Halts}
use Rattle.mk_model.specs.Legal.{IsLegal}
use Rattle.mk_model.proofs.LegalEvents.{events_keep}
use Rattle.mk_ledger.specs.declared.ledger.Ledger.TheInside.{Inside}
use Rattle.mk_ledger.specs.PairFlags.{pairs_of}
use Rattle.mk_ledger.specs.Ledgers.{LedgerView, AreFlagged, AreInOrder}
use Rattle.mk_ledger.specs.LedgerFields.{ledger_of, AreFields}
use Rattle.mk_ledger.proofs.PairNumbers.{pairs_of_least}
use Rattle.mk_ledger.proofs.Haltings.{halt_keeps_order, halt_keeps_flags}

-- ---- what the code computes
counts_given_up : (o : Option Pair) → bool_byte (is_some o) ≡ given_up o
counts_given_up None = refl
counts_given_up (Some pair) = refl

keeps_first : (o : Option ℕ) (worker : ℕ) → option_or o (Some worker) ≡ first_of o worker
keeps_first None worker = refl
keeps_first (Some earlier) worker = refl

all_pairs_few : pairs_of 65536 < 2 ^ 64
unfolding pairs_of
all_pairs_few = omega arith

module _ (fields : Inside) (kept : AreFields fields) (ledger : LedgerView) (seen : ledger_of fields ≡ ledger) (worker : ℕ) (halt : Halt)
    (within : worker < ledger.state.workers) (no_halt : halt_of ledger.state worker ≡ None)
    (cause : IsHaltCause ledger.state worker halt) where
  abbrev state : CoreState
  state = (ledger_of fields).state

  halting : IsHalting state worker halt (with_halt state worker halt)
  halting = subst (λ l. IsHalting l.state worker halt (with_halt l.state worker halt)) (sym seen) (record {
    worker_within = within;
    no_halt = no_halt;
    cause = cause;
    changed = refl;
  })

  legal_after : IsLegal (length fields.basis.grading) fields.basis.priority (with_halt state worker halt)
  legal_after = events_keep (length fields.basis.grading) fields.basis.priority state (Halts worker halt)
      (with_halt state worker halt) kept.ledger.legal halting

  module _ (read : Option Pair) (some : Bool) (count : ℕ) (is_read : read ≡ get_or fields.claims.items worker read)
      (tested : some ≡ is_some read) (counted : count ≡ bool_byte some) where
    count_is : count ≡ given_up (claim_of state worker)
    count_is =
        let inside : worker < length fields.claims.items = omega (arith, kept.ledger.legal.claims_by_workers, halting.worker_within) in
        counted ∙ ap bool_byte tested ∙ counts_given_up read
        ∙ ap given_up (is_read ∙ get_or_default fields.claims.items worker read None inside)

    pub halt_fits : fields.given_up + count < 2 ^ 64
    halt_fits =
        omega (
          arith,
          count_is,
          legal_after.claims_counted,
          kept.in_order.made,
          pairs_of_least (length state.basis) 65536
              (omega (arith, kept.ledger.legal.basis_within, kept.ledger.limit)),
          all_pairs_few,
        )

    module _ (first : Option ℕ) (is_first : first ≡ option_or fields.first (Some worker)) where
      abbrev after : Inside
      after = record fields {
        claims = with_item fields.claims worker None;
        given_up = fields.given_up + count;
        halts = with_item fields.halts worker (Some halt);
        first = first;
      }

      halted : (ledger_of after).state ≡ with_halt state worker halt
      halted = ap (λ g. record (ledger_of after).state { claims_given_up = fields.given_up + g }) count_is
          ∙ ap (λ f. record (with_halt state worker halt) { first_halted = f }) (is_first ∙ keeps_first fields.first worker)

      pub halt_keeps : AreFields after
      halt_keeps = record {
        ledger = record {
          basis = kept.ledger.basis;
          moves = refl;
          legal = subst (IsLegal (length fields.basis.grading) fields.basis.priority) (sym halted) legal_after;
          limit = kept.ledger.limit;
          some = kept.ledger.some;
          workers = kept.ledger.workers;
        };
        flags_moves = kept.flags_moves;
        flagged = subst (λ s. AreFlagged s fields.settled.flags) (sym halted)
            (halt_keeps_flags fields.settled.flags kept.flagged worker halt);
        in_order = subst AreInOrder (sym halted) (halt_keeps_order kept.ledger.legal kept.in_order worker halt);
      }

      pub halt_happens : IsHalting ledger.state worker halt (ledger_of after).state
      halt_happens =
          subst (λ l. IsHalting l.state worker halt (ledger_of after).state) seen
          (record { worker_within = halting.worker_within; no_halt = halting.no_halt; cause = halting.cause; changed = halted })
