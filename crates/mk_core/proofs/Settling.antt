-- The claimed pair of a ledger is settled by what the work on it left, or its worker halts.
use Rattle.std.proofs.Common.{◌≡◌, ◌⊎◌, inl, inr, ℕ, ◌+◌, ◌<◌, ◌^◌, List, [], ◌∷◌, ◌++◌, length, take, slice_get, Option, None, Some, Ok, Err, All, ℤ, arith, ap, refl, sym, ◌∙◌, subst}
use Rattle.std.proofs.lemmas.Option.{none-some}
use Rattle.std.proofs.lemmas.List.{length-map, length_push, take_all, take_at}
use Rattle.mk_model.specs.Vectors.{zeros, negate}
use Rattle.mk_model.specs.CoreStates.{Pair, Way, OverflowStop, Halt, halt_of, difference, IsPairOf}
use Rattle.mk_model.specs.CoreStates.Way.{Place}
use Rattle.mk_model.specs.CoreStates.Halt.{Overflow, Full}
use Rattle.mk_model.specs.Events.{HaveCommonColumn, IsSettling, IsHalting, IsHaltCause}
use Rattle.mk_model.specs.Overflows.{IsGenuineOverflow}
use Rattle.mk_model.specs.Reductions.{Reduct, IsNormal}
use Rattle.mk_model.specs.Orders.{lead}
use Rattle.mk_model.proofs.VectorAlgebra.{length-negate}
use Rattle.mk_move.specs.Moves.{Weighed, IsGraded, IsRowOriented}
use Rattle.mk_move.specs.MoveLists.{BasisView, BelongsTo, IsBasis, vectors_of}
use Rattle.mk_reduce.specs.Leads.{leads_of}
use Rattle.mk_reduce.specs.Works.{IsRest}
use Rattle.mk_ledger.specs.Ledgers.{LedgerView, IsLedger}
use Rattle.mk_ledger.specs.Settlings.{IsZeroClaim, IsReductOfClaim, IsPlacing}
use Rattle.mk_ledger.specs.declared.ledger.PlaceFault.TheVariants.{BasisFull}
use Rattle.mk_core.specs.GoingOn.{FirstClaims, GoesOnUnclaimed}
use Rattle.mk_reduce.specs.Remainders.{IsNormalRest}
use Rattle.mk_core.proofs.Leads.{leads_more, first_leads_columns}
use Rattle.mk_core.proofs.Endings.{some_held}
use Rattle.mk_core.proofs.GoingOn.{settling_goes_on, halting_goes_on, none_claims}

-- ---- what is left, oriented
-- an oriented rest belongs to the list
pub belongs_oriented : (p : List ℕ) (w : List ℤ) (before after : Weighed) → length p ≡ length w → IsRest w before → IsRowOriented before.entries p after.entries → IsGraded w after → BelongsTo p w after
belongs_oriented p w before after l rest h graded = record { columns = same h.turned.either ∙ rest.columns ∙ sym l; graded = graded; oriented = h.turned.oriented }
  where
    same : (after.entries ≡ before.entries) ⊎ (after.entries ≡ negate before.entries) → length after.entries ≡ length before.entries
    same (inl e) = ap length e
    same (inr e) = ap length e ∙ length-negate before.entries

module _ (ledger : LedgerView) (kept : IsLedger ledger) where
  as_many : length ledger.state.basis ≡ length ledger.basis.moves
  as_many = ap length kept.moves ∙ length-map ledger.basis.moves (λ m. m.entries)

  pub reduct_of_claim : (pair : Pair) (before after : Weighed) (front : ℕ) → front ≡ length ledger.basis.moves → FirstClaims ledger.state pair → IsNormalRest ledger.basis pair before →
      IsRowOriented before.entries ledger.basis.priority after.entries → IsReductOfClaim ledger.state 0 front after.entries
  reduct_of_claim pair before after front e claims rest h = record {
    pair = pair;
    claimed = claims.claimed;
    front_within = omega (arith, as_many);
    rest = before.entries;
    reduct = subst (λ moves. Reduct moves (difference moves pair) before.entries) (sym kept.moves) rest.reduct;
    sign = h.turned.either;
    normal = subst (λ moves. IsNormal moves before.entries) (sym whole) rest.normal;
  }
    where
      whole : take front ledger.state.basis ≡ vectors_of ledger.basis.moves
      whole = take_all front ledger.state.basis (omega (arith, as_many)) ∙ kept.moves

  pub zero_claim : (pair : Pair) → FirstClaims ledger.state pair → Reduct (vectors_of ledger.basis.moves) (difference (vectors_of ledger.basis.moves) pair) (zeros (length ledger.basis.grading)) →
      IsZeroClaim (length ledger.basis.grading) ledger.state 0
  zero_claim pair claims zero = record {
    pair = pair;
    claimed = claims.claimed;
    reduct = subst (λ moves. Reduct moves (difference moves pair) (zeros (length ledger.basis.grading))) (sym kept.moves) zero;
  }

  -- ---- what a worker that has a claim may do
  pub claimed_pair : (pair : Pair) → FirstClaims ledger.state pair → IsPairOf (vectors_of ledger.basis.moves) pair
  claimed_pair pair claims = subst (λ moves. IsPairOf moves pair) kept.moves ((kept.legal.claims_unsettled 0 pair claims.claimed).0)

  pub overflow_cause : (stop : OverflowStop) (pair : Pair) → FirstClaims ledger.state pair → stop.pair ≡ pair → IsGenuineOverflow (vectors_of ledger.basis.moves) stop →
      HaveCommonColumn ledger.state.basis pair → IsHaltCause ledger.state 0 (Overflow stop)
  overflow_cause stop pair claims e genuine common = (
    claims.claimed ∙ ap Some (sym e),
    (subst (λ moves. IsGenuineOverflow moves stop) (sym kept.moves) genuine, subst (HaveCommonColumn ledger.state.basis) (sym e) common),
  )

  pub not_halted : (pair : Pair) → FirstClaims ledger.state pair → halt_of ledger.state 0 ≡ None
  not_halted pair claims = go (halt_of ledger.state 0) refl
    where
      go : (halt : Option Halt) → halt_of ledger.state 0 ≡ halt → halt ≡ None
      go None e = refl
      go (Some halt) e = absurd (none-some pair (sym (kept.legal.halted_without_claim 0 halt e) ∙ claims.claimed))

  -- ---- what is then
  module _ (after : LedgerView) (pair : Pair) (claims : FirstClaims ledger.state pair) where
    -- the claim is one more than the pairs that are settled
    one_left : length ledger.state.journal < ledger.state.budget
    one_left = omega (arith, kept.legal.claims_counted, kept.legal.claims_within, some_held ledger.state.claims pair claims.claimed)

    pub settling_unclaimed : (n : ℕ) (priority : List ℕ) (way : Way) → IsSettling n priority ledger.state 0 way after.state → after.basis.priority ≡ ledger.basis.priority → after.basis.grading ≡ ledger.basis.grading → GoesOnUnclaimed ledger after
    settling_unclaimed n priority way h p w = record {
      goes_on = settling_goes_on ledger after n priority way kept.legal.start_within claims.no_halt h p w;
      unclaimed = none_claims ledger.state after.state pair claims (ap (λ s. s.claims) h.changed);
    }

    pub halting_unclaimed : (halt : Halt) → IsHalting ledger.state 0 halt after.state → after.basis ≡ ledger.basis → GoesOnUnclaimed ledger after
    halting_unclaimed halt h e = record {
      goes_on = halting_goes_on ledger after halt claims.no_halt one_left h e;
      unclaimed = none_claims ledger.state after.state pair claims (ap (λ s. s.claims) h.changed);
    }

    -- a move is placed
    pub placed_unclaimed : (front place : ℕ) (m : Weighed) → IsPlacing ledger 0 front m (Ok place) after → GoesOnUnclaimed ledger after
    placed_unclaimed front place m h =
        settling_unclaimed (length ledger.basis.grading) ledger.basis.priority (Place place) h.settling (ap (λ b. b.priority) h.pushed) (ap (λ b. b.grading) h.pushed)

    -- the basis is full
    pub full_unclaimed : (front : ℕ) (m : Weighed) → IsPlacing ledger 0 front m (Err BasisFull) after → GoesOnUnclaimed ledger after
    full_unclaimed front m (e, f, h, b) = halting_unclaimed (Full h.pair) h.halting b

-- ---- the finder's leads, where the move of a place is new
module _ (basis after : BasisView) (m : Weighed) (longer : after ≡ record basis { moves = basis.moves ++ m ∷ [] }) (kept : IsBasis after) where
  earlier : take (length basis.moves) after.moves ≡ basis.moves
  earlier = ap (λ b. take (length basis.moves) b.moves) longer ∙ take_at basis.moves (m ∷ []) (length basis.moves) refl

  count : length after.moves ≡ length basis.moves + 1
  count = ap (λ b. length b.moves) longer ∙ length_push basis.moves m

  pub placed_within : (place : ℕ) → place ≡ length basis.moves → place < length after.moves
  placed_within place e = omega (arith, count)

  pub placed_columns : (place : ℕ) (new : Weighed) → place ≡ length basis.moves → BelongsTo after.priority after.grading new → All (λ lead. length lead ≡ length new.entries) (leads_of basis.moves)
  placed_columns place new e h =
      subst (λ moves. All (λ (lead : List ℤ). length lead ≡ length new.entries) (leads_of moves)) earlier (first_leads_columns after (length basis.moves) new kept h)

  pub placed_room : length (leads_of basis.moves) + 1 < 2 ^ 32
  placed_room = omega (arith, kept.few, count, length-map basis.moves (λ m. lead m.entries))

  pub placed_leads : (place : ℕ) (new : Weighed) → place ≡ length basis.moves → slice_get after.moves place ≡ Some new → leads_of basis.moves ++ lead new.entries ∷ [] ≡ leads_of after.moves
  placed_leads place new e h =
      ap (λ moves. leads_of moves ++ lead new.entries ∷ []) (sym earlier)
      ∙ sym (leads_more after.moves (length basis.moves) new (ap (slice_get after.moves) (sym e) ∙ h))
      ∙ ap leads_of (take_all (length basis.moves + 1) after.moves (omega (arith, count)))
