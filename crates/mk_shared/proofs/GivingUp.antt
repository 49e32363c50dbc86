-- Each event keeps that a halt gives up a claim.
use Rattle.std.proofs.Common.{◌≡◌, ◌≢◌, ◌⊎◌, inl, inr, ℕ, zero, suc, List, Option, ◌+◌, ◌<◌, ◌≤◌, Result, Ok, Err, replicate, None, Some, get_or, set, refl, sym, ap, ◌∙◌, subst, arith}
use Rattle.std.proofs.lemmas.Option.{none-some}
use Rattle.mk_model.specs.CoreStates.{Way, Halt, CoreState, claim_of}
use Rattle.mk_model.specs.CoreStates.Halt.{Overflow, Full, Memory}
use Rattle.mk_model.specs.Events.{IsSettling, IsHalting, IsHaltCause, given_up}
use Rattle.mk_model.specs.Legal.{IsLegal}
use Rattle.mk_model.proofs.LegalEvents.{written}
use Rattle.mk_move.specs.Moves.{Weighed}
use Rattle.mk_ledger.specs.declared.claims.Claim.{Claim}
use Rattle.mk_ledger.specs.declared.claims.Claim.TheVariants.{Claimed, NotYet, Ended, OverBudget, Stopped}
use Rattle.mk_ledger.specs.declared.ledger.ChainFault.{ChainFault}
use Rattle.mk_ledger.specs.declared.ledger.ChainFault.TheVariants as chain
use Rattle.mk_ledger.specs.declared.ledger.PlaceFault.{PlaceFault}
use Rattle.mk_ledger.specs.declared.ledger.PlaceFault.TheVariants as place
use Rattle.mk_ledger.specs.Claims.{AnswersClaim}
use Rattle.mk_ledger.specs.Ledgers.{LedgerView, IsLedger}
use Rattle.mk_ledger.specs.Settlings.{AnswersChain, IsPlacing}
use Rattle.mk_shared.specs.GivenUp.{HaveGivenUp}

-- a halt for another cause than want of memory gives a claim up
gives_one_up : (s : CoreState) (worker : ℕ) (halt : Halt) → IsHaltCause s worker halt → halt ≢ Memory → given_up (claim_of s worker) ≡ 1
gives_one_up s worker (Overflow stop) cause other = ap given_up cause.0
gives_one_up s worker (Full pair) cause other = ap given_up cause.0
gives_one_up s worker Memory cause other = absurd (other refl)

module _ (s t : CoreState) (before : HaveGivenUp s) where
  pub same_given_up : t ≡ s → HaveGivenUp t
  same_given_up e = subst HaveGivenUp (sym e) before

  pub claim_given_up : (worker : ℕ) (answer : Claim) → AnswersClaim s worker answer t → HaveGivenUp t
  claim_given_up worker (Claimed i j) h = subst HaveGivenUp (sym h.changed) before
  claim_given_up worker Ended h = same_given_up h.2
  claim_given_up worker (OverBudget made) h = same_given_up h.2
  claim_given_up worker (NotYet other i j) h = same_given_up h.2
  claim_given_up worker (Stopped other) h = same_given_up h.1

  pub settle_given_up : {n : ℕ} {priority : List ℕ} {worker : ℕ} {way : Way} → IsSettling n priority s worker way t → HaveGivenUp t
  settle_given_up h = subst HaveGivenUp (sym h.changed) before

  pub halt_given_up : {n : ℕ} {priority : List ℕ} → IsLegal n priority s → (worker : ℕ) (halt : Halt) → IsHalting s worker halt t →
      HaveGivenUp t
  halt_given_up legal worker halt h = subst HaveGivenUp (sym h.changed) after
    where
      after : (k : ℕ) (kept : Halt) → get_or (set s.halts worker (Some halt)) k None ≡ Some kept → kept ≢ Memory →
          1 ≤ s.claims_given_up + given_up (claim_of s worker)
      after k kept e other = go (written s.halts worker k halt kept
          (subst (λ l. worker < l) (sym legal.halts_by_workers) h.worker_within) e)
        where
          go : ((k ≡ worker) × (halt ≡ kept)) ⊎ ((k ≡ worker → ⊥) × (get_or s.halts k None ≡ Some kept)) →
              1 ≤ s.claims_given_up + given_up (claim_of s worker)
          go (inl (f, g)) = omega (arith, gives_one_up s worker halt h.cause (λ m. other (sym g ∙ m)))
          go (inr (f, g)) = omega (arith, before k kept g other)

module _ (x y : LedgerView) (before : HaveGivenUp x.state) where
  pub chain_given_up : (worker third : ℕ) (answer : Result Unit ChainFault) → AnswersChain x worker third answer y → HaveGivenUp y.state
  chain_given_up worker third (Ok done) h = settle_given_up x.state y.state before h.0
  chain_given_up worker third (Err chain.Memory) h = same_given_up x.state y.state before (ap (λ (l : LedgerView). l.state) h.1)
  chain_given_up worker third (Err (chain.Unsettled i j)) h = same_given_up x.state y.state before (ap (λ (l : LedgerView). l.state) h.1)

  pub place_given_up : IsLedger x → (worker front : ℕ) (m : Weighed) (answer : Result ℕ PlaceFault) → IsPlacing x worker front m answer y →
      HaveGivenUp y.state
  place_given_up legal worker front m (Ok at) h = settle_given_up x.state y.state before h.settling
  place_given_up legal worker front m (Err (place.Memory given)) h = same_given_up x.state y.state before
      (ap (λ (l : LedgerView). l.state) h.3)
  place_given_up legal worker front m (Err (place.Behind count given)) h = same_given_up x.state y.state before
      (ap (λ (l : LedgerView). l.state) h.3)
  place_given_up legal worker front m (Err place.BasisFull) h = halt_given_up x.state y.state before legal.legal worker
      (Full h.2.pair) h.2.halting

-- where no worker has a halt, none gave up a claim
pub none_given_up : (state : CoreState) → state.halts ≡ replicate state.workers None → HaveGivenUp state
none_given_up state e worker halt f other =
    absurd (none-some halt (sym (ap (λ hs. get_or hs worker None) e ∙ no_halt_at state.workers worker) ∙ f))
  where
    no_halt_at : (k worker : ℕ) → ◌≡◌ {A = Option Halt} (get_or (replicate k None) worker None) None
    no_halt_at zero worker = refl
    no_halt_at (suc k) zero = refl
    no_halt_at (suc k) (suc worker) = no_halt_at k worker
