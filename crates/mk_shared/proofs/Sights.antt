-- What a seat knows after a turn of it.
use Rattle.std.proofs.Common.{◌≡◌, ◌≢◌, ℕ, ◌+◌, ◌<◌, ◌≤◌, eqb, false, List, [], ◌∷◌, ◌++◌, length, Option, None, Some, refl, sym, ap, ◌∙◌, subst, arith, append_assoc, length-append}
use Rattle.std.proofs.lemmas.Option.{same_Some}
use Rattle.std.proofs.lemmas.List.{append-nil, get_or-set_same}
use Rattle.std.proofs.lemmas.List.Elements.{filter-append}
use Rattle.std.proofs.lemmas.Bool.{eq-eqb}
use Rattle.std.proofs.Math.Nat.{le_trans}
use Rattle.atomic_table.specs.Seated.{TableId}
use Rattle.mk_model.specs.CoreStates.{Pair, Way, Settle, settle, Halt, CoreState, claim_of}
use Rattle.mk_model.specs.CoreStates.Way.{Place}
use Rattle.mk_model.specs.Events.{Event, Happens, IsClaim, IsSettling, IsHalting, with_claim}
use Rattle.mk_model.specs.Events.Event.{Claims, Settles, Halts}
use Rattle.mk_model.proofs.LegalEvents.{cleared_here}
use Rattle.mk_move.specs.Moves.{Weighed}
use Rattle.mk_move.specs.MoveLists.{BasisView}
use Rattle.mk_ledger.specs.Ledgers.{LedgerView, IsLedger}
use Rattle.mk_ledger.specs.Settlings.{with_placed}
use Rattle.mk_turn.specs.Meanings.{BeginsWith}
use Rattle.mk_turn.specs.Turns.{Knows, Gave, took, raised}
use Rattle.mk_shared.specs.LedgerTurns.{ledger_meaning, entries_by}
use Rattle.mk_shared.specs.LedgerLaws.{distinct}
use Rattle.mk_shared.specs.SharedSeats.{Sight, SeatView, AgreesWithCopy, after_look, after_claim, after_settle, after_place, after_halt}

-- one more entry of the worker is its last one
one_more_by : (journal : List Settle) (entry : Settle) (worker : ℕ) → entry.worker ≡ worker →
    entries_by worker (journal ++ entry ∷ []) ≡ entries_by worker journal ++ entry ∷ []
one_more_by journal entry worker e =
    filter-append (λ (s : Settle). eqb s.worker worker) journal (entry ∷ []) ∙ rw (e, eq-eqb worker worker refl) refl

-- ---- what a give leaves
-- the nine parts that a give may change, taken from another sight
abbrev with_parts : Sight → Sight → Sight
with_parts v z = record v {
  taken = z.taken;
  raised = z.raised;
  known = z.known;
  claim = z.claim;
  entries = z.entries;
  seen = z.seen;
  notices = z.notices;
  gives = z.gives;
  last = z.last;
}

record SameParts (w z : Sight) : Type 0 where
  pub taken : w.taken ≡ z.taken
  pub raised : w.raised ≡ z.raised
  pub known : w.known ≡ z.known
  pub claim : w.claim ≡ z.claim
  pub entries : w.entries ≡ z.entries
  pub seen : w.seen ≡ z.seen
  pub notices : w.notices ≡ z.notices
  pub gives : w.gives ≡ z.gives
  pub last : w.last ≡ z.last

same_parts : (w z : Sight) → SameParts w z → w ≡ with_parts w z
same_parts w z e =
    ap (λ a. record w { taken = a }) e.taken
    ∙ ap (λ a. record w { taken = z.taken; raised = a }) e.raised
    ∙ ap (λ a. record w { taken = z.taken; raised = z.raised; known = a }) e.known
    ∙ ap (λ a. record w { taken = z.taken; raised = z.raised; known = z.known; claim = a }) e.claim
    ∙ ap (λ a. record w { taken = z.taken; raised = z.raised; known = z.known; claim = z.claim; entries = a }) e.entries
    ∙ ap (λ a. record w { taken = z.taken; raised = z.raised; known = z.known; claim = z.claim; entries = z.entries; seen = a }) e.seen
    ∙ ap (λ a. record w {
      taken = z.taken;
      raised = z.raised;
      known = z.known;
      claim = z.claim;
      entries = z.entries;
      seen = z.seen;
      notices = a;
    }) e.notices
    ∙ ap (λ a. record w {
      taken = z.taken;
      raised = z.raised;
      known = z.known;
      claim = z.claim;
      entries = z.entries;
      seen = z.seen;
      notices = z.notices;
      gives = a;
    }) e.gives
    ∙ ap (λ a. record w {
      taken = z.taken;
      raised = z.raised;
      known = z.known;
      claim = z.claim;
      entries = z.entries;
      seen = z.seen;
      notices = z.notices;
      gives = z.gives;
      last = a;
    }) e.last

-- who gave, and then has the parts of z, is at z
gave_is : (t w z : Sight) (x y : LedgerView) → Gave ledger_meaning t x y w → with_parts t z ≡ z → SameParts w z → w ≡ z
gave_is t w z x y g f e = same_parts w z e ∙ ap (λ (u : Sight). with_parts u z) g.others ∙ f

module _ (v : Sight) (idle : v.taken ≡ None) (down : v.raised ≡ false) (x : LedgerView) (knows : Knows ledger_meaning x v) (w : Sight) where
  pub look_back : Gave ledger_meaning (took ledger_meaning x v) x x w → w ≡ after_look x v
  look_back g = gave_is (took ledger_meaning x v) w (after_look x v) x x g refl (record {
    taken = g.taken ∙ sym idle;
    raised = g.raised ∙ sym down;
    known = g.known;
    claim = g.claim ∙ knows.claims;
    entries = g.entries ∙ knows.own;
    seen = (g.unchanged refl).0;
    notices = (g.unchanged refl).1;
    gives = g.gives;
    last = g.last;
  })

  -- the ledger was changed by one event, and its basis is as before
  module _ (legal : IsLedger x) (y : LedgerView) where
    -- an event changes the ledger
    pub apart_by : (event : Event) → Happens (length x.basis.grading) x.basis.priority x.state event y.state → x ≢ y
    apart_by event h e = distinct (length x.basis.grading) x.basis.priority x.state y.state legal.legal event h
        (ap (λ (l : LedgerView). l.state) e)

    as_many : y.basis ≡ x.basis → length y.basis.moves ≡ length x.basis.moves
    as_many same = ap (λ (b : BasisView). length b.moves) same

    own_entries : y.state.journal ≡ x.state.journal → entries_by v.number y.state.journal ≡ v.entries
    own_entries e = ap (entries_by v.number) e ∙ knows.own

    own_entry : (pair : Pair) (way : Way) → y.state.journal ≡ x.state.journal ++ settle v.number pair way ∷ [] →
        entries_by v.number y.state.journal ≡ v.entries ++ settle v.number pair way ∷ []
    own_entry pair way e =
        ap (entries_by v.number) e
        ∙ one_more_by x.state.journal (settle v.number pair way) v.number refl
        ∙ ap (λ (es : List Settle). es ++ settle v.number pair way ∷ []) knows.own

    same_state : (state : CoreState) → y ≡ record x { state = state } → (y.state ≡ state) × (y.basis ≡ x.basis)
    same_state state e = (ap (λ (l : LedgerView). l.state) e, ap (λ (l : LedgerView). l.basis) e)

    pub claim_back : (pair : Pair) → IsClaim x.state v.number (with_claim x.state v.number pair) →
        y ≡ record x { state = with_claim x.state v.number pair }
        → Gave ledger_meaning (took ledger_meaning x v) x y w → w ≡ after_claim x pair v
    claim_back pair h e g = let (state, same) = same_state (with_claim x.state v.number pair) e in
        let other : x ≢ y = apart_by (Claims v.number) (subst (IsClaim x.state v.number) (sym state) h) in
        gave_is (took ledger_meaning x v) w (after_claim x pair v) x y g refl (record {
          taken = g.taken ∙ sym idle;
          raised = g.raised ∙ sym down;
          known = g.known ∙ as_many same;
          claim = g.claim ∙ ap (λ (s : CoreState). claim_of s v.number) state
              ∙ get_or-set_same x.state.claims v.number (Some pair) None
              (subst (λ k. v.number < k) (sym legal.legal.claims_by_workers) h.worker_within);
          entries = g.entries ∙ own_entries (ap (λ (s : CoreState). s.journal) state);
          seen = g.as_long other (omega (arith, as_many same));
          notices = g.changed other;
          gives = g.gives;
          last = g.last;
        })

    pub settle_back : (pair : Pair) (way : Way) → v.claim ≡ Some pair →
        (h : IsSettling (length x.basis.grading) x.basis.priority x.state v.number way y.state) → y.basis ≡ x.basis
        → Gave ledger_meaning (took ledger_meaning x v) x y w → w ≡ after_settle x pair way v
    settle_back pair way mine h same g =
        let other : x ≢ y = apart_by (Settles v.number way) h in
        let is : h.pair ≡ pair = same_Some h.pair pair (sym h.claimed ∙ knows.claims ∙ mine) in
        gave_is (took ledger_meaning x v) w (after_settle x pair way v) x y g refl (record {
          taken = g.taken ∙ sym idle;
          raised = g.raised ∙ sym down;
          known = g.known ∙ as_many same;
          claim = g.claim ∙ ap (λ (s : CoreState). claim_of s v.number) h.changed ∙ cleared_here x.state.claims v.number;
          entries = g.entries ∙ own_entry pair way (ap (λ (s : CoreState). s.journal) h.changed
              ∙ ap (λ p. x.state.journal ++ settle v.number p way ∷ []) is);
          seen = g.as_long other (omega (arith, as_many same));
          notices = g.changed other;
          gives = g.gives;
          last = g.last;
        })

    pub halt_back : (halt : Halt) → (h : IsHalting x.state v.number halt y.state) → y.basis ≡ x.basis
        → Gave ledger_meaning (took ledger_meaning x v) x y w → w ≡ after_halt x v
    halt_back halt h same g =
        let other : x ≢ y = apart_by (Halts v.number halt) h in
        gave_is (took ledger_meaning x v) w (after_halt x v) x y g refl (record {
          taken = g.taken ∙ sym idle;
          raised = g.raised ∙ sym down;
          known = g.known ∙ as_many same;
          claim = g.claim ∙ ap (λ (s : CoreState). claim_of s v.number) h.changed ∙ cleared_here x.state.claims v.number;
          entries = g.entries ∙ own_entries (ap (λ (s : CoreState). s.journal) h.changed);
          seen = g.as_long other (omega (arith, as_many same));
          notices = g.changed other;
          gives = g.gives;
          last = g.last;
        })

    pub place_back : (pair : Pair) (m : Weighed) → v.claim ≡ Some pair
        → (h : IsSettling (length x.basis.grading) x.basis.priority x.state v.number (Place (length x.basis.moves)) y.state) →
        y.basis ≡ with_placed x.basis m
        → Gave ledger_meaning (raised ledger_meaning (took ledger_meaning x v)) x y w → w ≡ after_place x pair m v
    place_back pair m mine h pushed g =
        let other : x ≢ y = apart_by (Settles v.number (Place (length x.basis.moves))) h in
        let is : h.pair ≡ pair = same_Some h.pair pair (sym h.claimed ∙ knows.claims ∙ mine) in
        let more : length y.basis.moves ≡ length x.basis.moves + 1 = ap (λ (b : BasisView). length b.moves) pushed
        ∙ length-append x.basis.moves (m ∷ []) in
        gave_is (raised ledger_meaning (took ledger_meaning x v)) w (after_place x pair m v) x y g refl (record {
          taken = g.taken ∙ sym idle;
          raised = g.raised ∙ sym down;
          known = g.known ∙ more;
          claim = g.claim ∙ ap (λ (s : CoreState). claim_of s v.number) h.changed ∙ cleared_here x.state.claims v.number;
          entries = g.entries ∙ own_entry pair (Place (length x.basis.moves))
              (ap (λ (s : CoreState). s.journal) h.changed ∙ ap (λ p. x.state.journal ++ settle v.number p
              (Place (length x.basis.moves)) ∷ []) is);
          seen = g.longer (omega (arith, more)) ∙ ap (λ (b : BasisView). b.moves) pushed;
          notices = g.changed other;
          gives = g.gives;
          last = g.last;
        })

-- ---- what always holds of a seat, after a turn
module _ (v : Sight) (copy : BasisView) (agrees : AgreesWithCopy v copy) where
  pub agrees_then : (known : ℕ) (claim : Option Pair) (entries : List Settle) (seen : List Weighed) (notices : List LedgerView) (gives : ℕ)
      (last : Option LedgerView) (misses : ℕ)
      → BeginsWith seen copy.moves → length copy.moves ≤ known
      → AgreesWithCopy (record v {
        known = known;
        claim = claim;
        entries = entries;
        seen = seen;
        notices = notices;
        gives = gives;
        last = last;
        misses = misses;
      }) copy
  agrees_then known claim entries seen notices gives last misses begins enough = record {
    no_turn = agrees.no_turn;
    not_raised = agrees.not_raised;
    first_moves = begins;
    known = enough;
    outset = agrees.outset;
    set_out = agrees.set_out;
    workers = agrees.workers;
    priority = agrees.priority;
    grading = agrees.grading;
    within = agrees.within;
    made_within = agrees.made_within;
  }

  module _ (x : LedgerView) (knows : Knows ledger_meaning x v) (known : v.known ≤ length x.basis.moves) where
    begins_then : (seen more : List Weighed) → seen ≡ x.basis.moves ++ more → BeginsWith seen copy.moves
    begins_then seen more e = (
      agrees.first_moves.0 ++ (knows.saw.0 ++ more),
      e ∙ ap (λ ms. ms ++ more) (knows.saw.1 ∙ ap (λ ms. ms ++ knows.saw.0) agrees.first_moves.1)
          ∙ append_assoc (copy.moves ++ agrees.first_moves.0) knows.saw.0 more
          ∙ append_assoc copy.moves agrees.first_moves.0 (knows.saw.0 ++ more),
    )

    enough : length copy.moves ≤ length x.basis.moves
    enough = le_trans agrees.known known

    pub look_agrees : AgreesWithCopy (after_look x v) copy
    look_agrees = agrees_then _ _ _ _ _ _ _ _ (begins_then x.basis.moves [] (sym (append-nil x.basis.moves))) enough

    pub claim_agrees : (pair : Pair) → AgreesWithCopy (after_claim x pair v) copy
    claim_agrees pair = agrees_then _ _ _ _ _ _ _ _ agrees.first_moves enough

    pub settle_agrees : (pair : Pair) (way : Way) → AgreesWithCopy (after_settle x pair way v) copy
    settle_agrees pair way = agrees_then _ _ _ _ _ _ _ _ agrees.first_moves enough

    pub halt_agrees : AgreesWithCopy (after_halt x v) copy
    halt_agrees = agrees_then _ _ _ _ _ _ _ _ agrees.first_moves enough

    pub place_agrees : (pair : Pair) (m : Weighed) → AgreesWithCopy (after_place x pair m v) copy
    place_agrees pair m = agrees_then _ _ _ _ _ _ _ _ (begins_then (x.basis.moves ++ m ∷ []) (m ∷ []) refl) (le_trans enough (omega arith))

-- a seat whose sight is another
pub seat_now : (s : SeatView) (table : TableId) (w z : Sight) → table ≡ s.table → w ≡ z →
    record s { table = table; sight = w } ≡ record s { sight = z }
seat_now s table w z e f = ap (λ (t : TableId). record s { table = t; sight = w }) e ∙ ap (λ (u : Sight). record s { sight = u }) f
