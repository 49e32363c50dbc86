-- A ledger keeps the laws of a value that is changed in turns.
use Rattle.std.proofs.Common.{◌≡◌, ◌≢◌, ◌⊎◌, inl, inr, ℕ, ◌+◌, ◌<◌, ◌≤◌, eqb, cond, Contains, ℤ, List, [], ◌∷◌, ◌++◌, length, take, None}
use Rattle.std.proofs.Common.{Some, refl, sym, ap, ◌∙◌, subst, length-append}
use Rattle.std.proofs.Math.Nat.{lt_irrefl, le-add_right}
use Rattle.std.proofs.Math.Numerals.{lt-add-one}
use Rattle.std.proofs.lemmas.Bool.{cases_eq, ne_eqb}
use Rattle.std.proofs.lemmas.Option.{none-some, same_Some}
use Rattle.std.proofs.lemmas.List.{append-nil, get_or-set_same, get_or-set_other, length-map, take-append-le}
use Rattle.std.proofs.lemmas.List.Elements.{filter-append, Contains-append_left, Contains-push}
use Rattle.mk_model.specs.CoreStates.{Pair, pair_of, Settle, settle, Halt, CoreState, claim_of, halt_of}
use Rattle.mk_model.specs.Events.{Event, Happens, first_of}
use Rattle.mk_model.specs.Events.Event.{Claims, Settles, Halts}
use Rattle.mk_model.specs.Legal.{IsLegal, IsEnded}
use Rattle.mk_model.proofs.LegalEvents.{cleared_none}
use Rattle.mk_ledger.specs.declared.claims.Claim.{Claim}
use Rattle.mk_ledger.specs.declared.claims.Claim.TheVariants.{Claimed, NotYet, Ended, OverBudget, Stopped}
use Rattle.mk_ledger.specs.Claims.{AnswersClaim}
use Rattle.mk_ledger.specs.Ledgers.{LedgerView, IsLedger}
use Rattle.mk_move.specs.Moves.{Weighed}
use Rattle.mk_core.specs.GrownBases.{IsLonger}
use Rattle.mk_turn.specs.Meanings.{Laws}
use Rattle.mk_shared.specs.declared.state.Outset.{Outset}
use Rattle.mk_shared.specs.LedgerTurns.{ledger_meaning, entries_by, outset_of, acting_worker, IsHeldOrLeft, StaysTrue, BearsOut}

no_next : (n : ℕ) → n ≡ n + 1 → ⊥
no_next n e = lt_irrefl n (subst (λ k. n < k) (sym e) (lt-add-one n))

-- an entry of another worker is none of this one's
none_more : (journal : List Settle) (entry : Settle) (k : ℕ) → entry.worker ≢ k →
    entries_by k (journal ++ entry ∷ []) ≡ entries_by k journal
none_more journal entry k apart =
    filter-append (λ (e : Settle). eqb e.worker k) journal (entry ∷ [])
    ∙ ap (λ b. entries_by k journal ++ cond b (entry ∷ []) []) (ne_eqb entry.worker k apart)
    ∙ append-nil (entries_by k journal)

-- ---- one event of a state
module _ (n : ℕ) (priority : List ℕ) (s t : CoreState) where
  -- an event changes a state
  pub distinct : IsLegal n priority s → (event : Event) → Happens n priority s event t → s ≡ t → ⊥
  distinct legal (Claims worker) h e = no_next s.claims_made (ap (λ (u : CoreState). u.claims_made) (e ∙ h.changed))
  distinct legal (Settles worker way) h e =
      no_next (length s.journal) (ap (λ (u : CoreState). length u.journal) (e ∙ h.changed)
      ∙ length-append s.journal (settle worker h.pair way ∷ []))
  distinct legal (Halts worker halt) h e = none-some halt
      (sym h.no_halt ∙ ap (λ (u : CoreState). halt_of u worker) (e ∙ h.changed)
      ∙ get_or-set_same s.halts worker (Some halt) None (subst (λ k. worker < k) (sym legal.halts_by_workers) h.worker_within))

  -- the claims and the entries of other workers stay
  other_claim : (event : Event) → Happens n priority s event t → (k : ℕ) → k ≢ acting_worker event → claim_of t k ≡ claim_of s k
  other_claim (Claims worker) h k apart = ap (λ (u : CoreState). claim_of u k) h.changed
      ∙ get_or-set_other s.claims worker k (Some h.pair) None apart
  other_claim (Settles worker way) h k apart = ap (λ (u : CoreState). claim_of u k) h.changed
      ∙ get_or-set_other s.claims worker k None None apart
  other_claim (Halts worker halt) h k apart = ap (λ (u : CoreState). claim_of u k) h.changed
      ∙ get_or-set_other s.claims worker k None None apart

  other_entries : (event : Event) → Happens n priority s event t → (k : ℕ) → k ≢ acting_worker event →
      entries_by k t.journal ≡ entries_by k s.journal
  other_entries (Claims worker) h k apart = ap (λ (u : CoreState). entries_by k u.journal) h.changed
  other_entries (Settles worker way) h k apart = ap (λ (u : CoreState). entries_by k u.journal) h.changed
      ∙ none_more s.journal (settle worker h.pair way)
      k (λ e. apart (sym e))
  other_entries (Halts worker halt) h k apart = ap (λ (u : CoreState). entries_by k u.journal) h.changed

  -- what is fixed stays
  record IsFixed : Type 0 where
    pub start_length : t.start_length ≡ s.start_length
    pub budget : t.budget ≡ s.budget
    pub limit : t.limit ≡ s.limit
    pub workers : t.workers ≡ s.workers

  fixed : (event : Event) → Happens n priority s event t → IsFixed
  fixed (Claims worker) h = record {
    start_length = ap (λ (u : CoreState). u.start_length) h.changed;
    budget = ap (λ (u : CoreState). u.budget) h.changed;
    limit = ap (λ (u : CoreState). u.limit) h.changed;
    workers = ap (λ (u : CoreState). u.workers) h.changed;
  }
  fixed (Settles worker way) h = record {
    start_length = ap (λ (u : CoreState). u.start_length) h.changed;
    budget = ap (λ (u : CoreState). u.budget) h.changed;
    limit = ap (λ (u : CoreState). u.limit) h.changed;
    workers = ap (λ (u : CoreState). u.workers) h.changed;
  }
  fixed (Halts worker halt) h = record {
    start_length = ap (λ (u : CoreState). u.start_length) h.changed;
    budget = ap (λ (u : CoreState). u.budget) h.changed;
    limit = ap (λ (u : CoreState). u.limit) h.changed;
    workers = ap (λ (u : CoreState). u.workers) h.changed;
  }

  -- ---- what was answered stays true
  still_ended : (event : Event) → Happens n priority s event t → IsEnded s → IsEnded t
  still_ended (Claims worker) h b = absurd (h.free.unsettled (b.all_settled h.pair h.free.of_basis))
  still_ended (Settles worker way) h b = absurd (none-some h.pair (sym (b.none_claimed worker) ∙ h.claimed))
  still_ended (Halts worker halt) h b =
      subst IsEnded (sym h.changed) (record {
        all_settled = b.all_settled;
        none_claimed = λ k. cleared_none s.claims worker k (b.none_claimed k);
      })

  still_used_up : (made : ℕ) (event : Event) → Happens n priority s event t → StaysTrue (OverBudget made) s → StaysTrue (OverBudget made) t
  still_used_up made (Claims worker) h b = absurd (lt_irrefl s.budget (subst (λ k. k < s.budget) b.1 h.within_budget))
  still_used_up made (Settles worker way) h b = subst (StaysTrue (OverBudget made)) (sym h.changed) b
  still_used_up made (Halts worker halt) h b = subst (StaysTrue (OverBudget made)) (sym h.changed) b

  still_stopped : (other : ℕ) (event : Event) → Happens n priority s event t → s.first_halted ≡ Some other → t.first_halted ≡ Some other
  still_stopped other (Claims worker) h b = absurd (none-some other (sym h.no_halt ∙ b))
  still_stopped other (Settles worker way) h b = ap (λ (u : CoreState). u.first_halted) h.changed ∙ b
  still_stopped other (Halts worker halt) h b = ap (λ (u : CoreState). u.first_halted) h.changed ∙ ap (λ o. first_of o worker) b

  module _ (legal : IsLegal n priority s) where
    own_claim : (event : Event) → Happens n priority s event t → (pair : Pair) → claim_of s (acting_worker event) ≡ Some pair →
        IsHeldOrLeft t (acting_worker event) pair
    own_claim (Claims worker) h pair c = absurd (none-some pair (sym h.no_claim ∙ c))
    own_claim (Settles worker way) h pair c = inr (inl (
      settle worker h.pair way,
      subst (λ (u : CoreState). Contains u.journal (settle worker h.pair way)) (sym h.changed)
          (Contains-push s.journal (settle worker h.pair way)),
      refl,
      same_Some h.pair pair (sym h.claimed ∙ c),
    ))
    own_claim (Halts worker halt) h pair c = inr (inr (
      halt,
      ap (λ (u : CoreState). halt_of u worker) h.changed ∙ get_or-set_same s.halts worker (Some halt) None
          (subst (λ k. worker < k) (sym legal.halts_by_workers) h.worker_within),
    ))

    still_there : (event : Event) → Happens n priority s event t → (entry : Settle) → Contains s.journal entry → Contains t.journal entry
    still_there (Claims worker) h entry c = subst (λ (u : CoreState). Contains u.journal entry) (sym h.changed) c
    still_there (Settles worker way) h entry c = subst (λ (u : CoreState). Contains u.journal entry) (sym h.changed)
        (Contains-append_left s.journal (settle worker h.pair way ∷ []) entry c)
    still_there (Halts worker halt) h entry c = subst (λ (u : CoreState). Contains u.journal entry) (sym h.changed) c

    still_halted : (event : Event) → Happens n priority s event t → (other : ℕ) (kept : Halt) → halt_of s other ≡ Some kept →
        halt_of t other ≡ Some kept
    still_halted (Claims worker) h other kept c = ap (λ (u : CoreState). halt_of u other) h.changed ∙ c
    still_halted (Settles worker way) h other kept c = ap (λ (u : CoreState). halt_of u other) h.changed ∙ c
    still_halted (Halts worker halt) h other kept c = go (cases_eq other worker)
      where
        go : (other ≡ worker) ⊎ (other ≡ worker → ⊥) → halt_of t other ≡ Some kept
        go (inl e) = absurd (none-some kept (sym h.no_halt ∙ ap (halt_of s) (sym e) ∙ c))
        go (inr apart) = ap (λ (u : CoreState). halt_of u other) h.changed ∙ get_or-set_other s.halts worker other (Some halt) None apart
            ∙ c

    still_held : (event : Event) → Happens n priority s event t → (other : ℕ) (pair : Pair) → IsHeldOrLeft s other pair →
        IsHeldOrLeft t other pair
    still_held event h other pair (inl c) = go (cases_eq other (acting_worker event))
      where
        go : (other ≡ acting_worker event) ⊎ (other ≡ acting_worker event → ⊥) → IsHeldOrLeft t other pair
        go (inl e) = subst (λ k. IsHeldOrLeft t k pair) (sym e) (own_claim event h pair (ap (claim_of s) (sym e) ∙ c))
        go (inr apart) = inl (other_claim event h other apart ∙ c)
    still_held event h other pair (inr (inl (entry, c, e, f))) = inr (inl (entry, still_there event h entry c, e, f))
    still_held event h other pair (inr (inr (kept, c))) = inr (inr (kept, still_halted event h other kept c))

    stays_true : (answer : Claim) (event : Event) → Happens n priority s event t → StaysTrue answer s → StaysTrue answer t
    stays_true (Claimed i j) event h b = tt
    stays_true Ended event h b = still_ended event h b
    stays_true (OverBudget made) event h b = still_used_up made event h b
    stays_true (Stopped other) event h b = still_stopped other event h b
    stays_true (NotYet other i j) event h b = still_held event h other (pair_of i j) b

-- ---- ledgers
-- what a ledger answers is true of it
true_now : (state : CoreState) (worker : ℕ) (answer : Claim) → AnswersClaim state worker answer state → StaysTrue answer state
true_now state worker (Claimed i j) h = tt
true_now state worker Ended h = h.1
true_now state worker (OverBudget made) h = (h.1.all, h.1.used_up)
true_now state worker (Stopped other) h = h.0
true_now state worker (NotYet other i j) h = inl h.1.held

-- what is fixed, from its parts
abbrev outset_with : List Weighed → List ℕ → List ℤ → ℕ → ℕ → ℕ → Outset
outset_with moves priority grading budget limit workers =
    record {
      job = record {
        start = record { moves = moves; priority = priority; grading = grading };
        budget = budget;
        basis_limit = limit;
      };
      workers = workers;
    }

same_outset : (x y : LedgerView) → IsFixed (length x.basis.grading) x.basis.priority x.state y.state → IsLonger x.basis y.basis →
    x.state.start_length ≤ length x.basis.moves → outset_of y ≡ outset_of x
same_outset x y f g within =
    ap (λ k. outset_with (take k y.basis.moves) y.basis.priority y.basis.grading y.state.budget y.state.limit y.state.workers)
    f.start_length
    ∙ ap (λ ms. outset_with (take x.state.start_length ms) y.basis.priority y.basis.grading y.state.budget y.state.limit y.state.workers)
    g.moves
    ∙ ap (λ ms. outset_with ms y.basis.priority y.basis.grading y.state.budget y.state.limit y.state.workers)
    (take-append-le x.state.start_length x.basis.moves g.more within)
    ∙ ap (λ p. outset_with (take x.state.start_length x.basis.moves) p y.basis.grading y.state.budget y.state.limit y.state.workers)
    g.priority
    ∙ ap (λ w. outset_with (take x.state.start_length x.basis.moves) x.basis.priority w y.state.budget y.state.limit y.state.workers)
    g.grading
    ∙ ap (λ b. outset_with (take x.state.start_length x.basis.moves) x.basis.priority x.basis.grading b y.state.limit y.state.workers)
    f.budget
    ∙ ap (λ l. outset_with (take x.state.start_length x.basis.moves) x.basis.priority x.basis.grading x.state.budget l y.state.workers)
    f.limit
    ∙ ap (λ k. outset_with (take x.state.start_length x.basis.moves) x.basis.priority x.basis.grading x.state.budget x.state.limit k)
    f.workers

start_within : (x : LedgerView) → IsLedger x → x.state.start_length ≤ length x.basis.moves
start_within x kept = subst (λ k. x.state.start_length ≤ k) (ap length kept.moves ∙ length-map x.basis.moves (λ m. m.entries))
    kept.legal.start_within

pub ledger_laws : Laws ledger_meaning
ledger_laws = record {
  changes = λ n x y e same. distinct (length x.basis.grading) x.basis.priority x.state y.state e.legal.legal e.event e.happens
      (ap (λ (l : LedgerView). l.state) same);
  same_claim = λ n k x y e apart. other_claim (length x.basis.grading) x.basis.priority x.state y.state e.event e.happens k
      (λ f. apart (f ∙ e.by));
  same_entries = λ n k x y e apart. other_entries (length x.basis.grading) x.basis.priority x.state y.state e.event e.happens k
      (λ f. apart (f ∙ e.by));
  grows = λ n x y e. (e.longer.more, e.longer.moves);
  longer = λ n x y e. subst (λ k. length x.basis.moves ≤ k) (sym (ap length e.longer.moves ∙ length-append x.basis.moves e.longer.more))
      (le-add_right (length x.basis.moves) (length e.longer.more));
  same_fixed = λ n x y e. same_outset x y (fixed (length x.basis.grading) x.basis.priority x.state y.state e.event e.happens) e.longer
      (start_within x e.legal);
  still_bears = λ n x y t e h worker answer a. stays_true (length x.basis.grading)
      x.basis.priority x.state y.state e.legal.legal answer e.event e.happens (h worker answer a);
  notice_holds = λ n x t e. subst (λ (noticed : LedgerView). BearsOut noticed x) (same_Some x t e)
      (λ worker answer a. true_now x.state worker answer a);
}
