-- The rule of the turn: what each seat knows of the value that is changed in turns, and what it knows after each step. Word 0 is 0 while
-- the turn is free, and one more than the number of the seat that has it. Word 1 is the published length. The one slot has the value while
-- the turn is free.
use Rattle.std.specs.Prelude.{◌≡◌, ◌≢◌, ◌⊎◌, ℕ, ◌+◌, ◌^◌, ◌<◌, ◌≤◌, Bool, true, false, if◌then◌else◌, List, [], ◌∷◌, ◌++◌, length}
use Rattle.std.specs.Prelude.{slice_index, Option, Some, None}
use mathlib.Core.Option.{some}
use lib.ListN.{get_elem?}
use Rattle.atomic_table.specs.Table.{State, Me, Step}
use Rattle.mk_turn.specs.declared.view.View.{View}
use Rattle.mk_turn.specs.declared.view.JoinedSeat.{JoinedSeat}
use Rattle.mk_turn.specs.Meanings.{Meaning, Follows, BeginsWith}

abbrev pub one_if : Bool → ℕ
one_if b = if b then 1 else 0

-- the slots that a seat has out
abbrev pub in_hand : {S : Type 0} → Option S → List (ℕ × Option S)
in_hand None = []
in_hand (Some x) = (0, None) ∷ []

abbrev pub with_notice : {N : Type 0} → List N → Option N → List N
with_notice ts None = ts
with_notice ts (Some t) = ts ++ t ∷ []

module _ {S C E G F N W : Type 0} where
  -- a seat that isn't spent has this number
  pub record IsLive (views : List (View S C E G F N W)) (n : ℕ) : Type 0 where
    pub seat : ℕ
    pub view : View S C E G F N W
    pub at : get_elem? views seat ≡ some view
    pub awake : view.spent ≡ false
    pub number : view.number ≡ n

  -- the first seat joined the one of this number
  pub record IsJoined (v : View S C E G F N W) (n : ℕ) : Type 0 where
    pub place : ℕ
    pub kept : JoinedSeat E
    pub at : get_elem? v.joined place ≡ some kept
    pub number : kept.number ≡ n

module _ {S C E G F N W : Type 0} (m : Meaning S C E G F N W) where
  -- what a seat that isn't spent knows of the present value
  pub record Knows (now : S) (v : View S C E G F N W) : Type 0 where
    pub claims : m.claim v.number now ≡ v.claim
    pub own : m.entries v.number now ≡ v.entries
    pub saw : BeginsWith (m.grown now) v.seen
    pub fixed : Some (m.fixed now) ≡ v.fixed
    pub notices : (k : ℕ) (t : N) → get_elem? v.notices k ≡ some t → m.bears t now

  -- the number has neither a claim nor an entry
  pub record IsUnused (now : S) (n : ℕ) : Type 0 where
    pub claim : m.claim n now ≡ None
    pub entries : m.entries n now ≡ []

  -- the number of a seat that was joined has no claim, and has the entries that were kept
  pub record IsLeft (now : S) (kept : JoinedSeat E) : Type 0 where
    pub claim : m.claim kept.number now ≡ None
    pub entries : m.entries kept.number now ≡ kept.entries

  -- the turn is free
  pub record Free (now : S) (s : State (Option S) (View S C E G F N W)) : Type 0 where
    pub word : slice_index s.words 0 ≡ 0
    pub home : get_elem? s.homes 0 ≡ some (some (Some now))
    pub published : slice_index s.words 1 ≡ m.len now
    pub no_holder : (j : ℕ) (v : View S C E G F N W) → get_elem? s.views j ≡ some v → v.taken ≡ None

  -- one seat has the turn
  pub record Held (now : S) (s : State (Option S) (View S C E G F N W)) : Type 0 where
    pub seat : ℕ
    pub by : View S C E G F N W
    pub at : get_elem? s.views seat ≡ some by
    pub awake : by.spent ≡ false
    pub word : slice_index s.words 0 ≡ by.number + 1
    pub took : by.taken ≡ Some now
    pub published : slice_index s.words 1 ≡ m.len now + one_if by.raised
    pub no_other : (j : ℕ) (v : View S C E G F N W) → get_elem? s.views j ≡ some v → j ≢ seat → v.taken ≡ None

  -- The first seat knows how many were made and which were joined. Seats that aren't spent differ in number. A number not made has neither
  -- claim nor entries, and one that was joined has no claim
  pub record Seated (seats : ℕ) (now : S) (views : List (View S C E G F N W)) : Type 0 where
    pub first : View S C E G F N W
    pub at : get_elem? views 0 ≡ some first
    pub awake : first.spent ≡ false
    pub number : first.number ≡ 0
    pub room : first.made ≤ seats
    pub left : (k : ℕ) (p : JoinedSeat E) → get_elem? first.joined k ≡ some p → IsLeft now p
    pub left_below : (k : ℕ) (p : JoinedSeat E) → get_elem? first.joined k ≡ some p → p.number < first.made
    pub unmade : (n : ℕ) → first.made ≤ n → IsUnused now n
    pub below : (j : ℕ) (v : View S C E G F N W) → get_elem? views j ≡ some v → v.spent ≡ false → v.number < first.made
    pub apart : (i j : ℕ) (v w : View S C E G F N W) → get_elem? views i ≡ some v → get_elem? views j ≡ some w → v.spent ≡ false →
        w.spent ≡ false → v.number ≡ w.number → i ≡ j
    pub still_here : (j : ℕ) (v : View S C E G F N W) → get_elem? views j ≡ some v → v.spent ≡ false → (k : ℕ) (p : JoinedSeat E) →
        get_elem? first.joined k ≡ some p → p.number ≢ v.number
    pub each_made : (n : ℕ) → n < first.made → IsLive views n ⊎ IsJoined first n

  pub record Standing (seats : ℕ) (s : State (Option S) (View S C E G F N W)) : Type 0 where
    pub now : S
    pub two_words : length s.words ≡ 2
    pub one_slot : length s.homes ≡ 1
    pub short : slice_index s.words 1 < 2 ^ 32
    pub turn : Free now s ⊎ Held now s
    pub knows : (j : ℕ) (v : View S C E G F N W) → get_elem? s.views j ≡ some v → v.spent ≡ false → Knows now v
    pub lengths : (j : ℕ) (v : View S C E G F N W) → get_elem? s.views j ≡ some v → v.spent ≡ false → v.known ≤ slice_index s.words 1
    pub rooms : (j : ℕ) (v : View S C E G F N W) → get_elem? s.views j ≡ some v → v.spent ≡ false → v.seats ≡ seats
    pub seated : Seated seats now s.views

  -- the view of the first seat
  abbrev pub beginning : S → ℕ → View S C E G F N W
  beginning x n = record {
    number = 0;
    spent = false;
    taken = None;
    raised = false;
    known = m.len x;
    claim = None;
    entries = [];
    seen = m.grown x;
    fixed = Some (m.fixed x);
    notices = [];
    gives = 0;
    last = None;
    misses = 0;
    last_word = 0;
    seats = n;
    made = 1;
    joined = [];
  }

  abbrev pub took : S → View S C E G F N W → View S C E G F N W
  took x v = record v { taken = Some x; raised = false; known = m.len x }

  -- after a try that read this word
  abbrev pub missed : ℕ → View S C E G F N W → View S C E G F N W
  missed word v = record v { misses = v.misses + 1; last_word = word }

  -- a try finds the turn free, and has a value that meets what its seat knows
  pub record Hits (me after : Me (Option S) (View S C E G F N W)) : Type 0 where
    pub value : S
    pub taken : after ≡ (took value me.0, (0, Some value) ∷ me.1)
    pub knows : Knows value me.0
    pub known : me.0.known ≤ m.len value

  -- it finds it held by another seat, and keeps the word that it read
  pub record Misses (me : Me (Option S) (View S C E G F N W)) (found : ℕ) (after : Me (Option S) (View S C E G F N W)) : Type 0 where
    pub counted : after ≡ (missed found me.0, me.1)
    pub of_a_seat : found ≤ me.0.seats
    pub of_another : found ≢ me.0.number + 1

  pub record Tries (st : Step (Option S)) (me : Me (Option S) (View S C E G F N W)) (found : ℕ)
      (after : Me (Option S) (View S C E G F N W)) : Type 0 where
    pub hits : found ≡ 0 → Hits me after
    pub misses : found ≢ 0 → Misses me found after

  -- What the view w of a seat is after it gave y, where it took x and its view was v
  pub record Gave (v : View S C E G F N W) (x y : S) (w : View S C E G F N W) : Type 0 where
    pub others : record w {
      taken = v.taken;
      raised = v.raised;
      known = v.known;
      claim = v.claim;
      entries = v.entries;
      seen = v.seen;
      notices = v.notices;
      gives = v.gives;
      last = v.last;
    } ≡ v
    pub taken : w.taken ≡ None
    pub raised : w.raised ≡ false
    pub known : w.known ≡ m.len y
    pub claim : w.claim ≡ m.claim v.number y
    pub entries : w.entries ≡ m.entries v.number y
    pub gives : w.gives ≡ v.gives + 1
    pub last : w.last ≡ Some (m.whole x)
    pub unchanged : x ≡ y → (w.seen ≡ m.grown y) × (w.notices ≡ with_notice v.notices (m.notice v.number y))
    pub changed : x ≢ y → w.notices ≡ v.notices
    pub longer : length (m.grown x) < length (m.grown y) → w.seen ≡ m.grown y
    pub as_long : x ≢ y → length (m.grown y) ≤ length (m.grown x) → w.seen ≡ v.seen

  abbrev pub given : Step (Option S) → Me (Option S) (View S C E G F N W) → ℕ → Me (Option S) (View S C E G F N W) → Type 0
  given st me n me' = (x y : S) → me.0.taken ≡ Some x → me.1 ≡ (0, Some y) ∷ [] → Gave me.0 x y me'.0 × (me'.1 ≡ [])

  -- The seat has the turn. The value is the one that it took or comes from it by one event of its number, and has the length that is
  -- published
  pub record CanGive (v : View S C E G F N W) (y : S) : Type 0 where
    pub value : S
    pub taken : v.taken ≡ Some value
    pub follows : Follows m v.number value y
    pub published : m.len y ≡ m.len value + one_if v.raised

  -- the seat has the turn, and this is one more than the length of the value that it took
  pub record CanRaise (v : View S C E G F N W) (n : ℕ) : Type 0 where
    pub value : S
    pub taken : v.taken ≡ Some value
    pub next : n ≡ m.len value + 1
    pub short : n < 2 ^ 32

  abbrev pub raised : View S C E G F N W → View S C E G F N W
  raised v = record v { raised = true }

  abbrev pub announced : Step (Option S) → Me (Option S) (View S C E G F N W) → ℕ → Me (Option S) (View S C E G F N W) → Type 0
  announced st me n me' = me' ≡ (raised me.0, me.1)

  -- it reads the published length
  pub record Looks (st : Step (Option S)) (me : Me (Option S) (View S C E G F N W)) (found : ℕ)
      (after : Me (Option S) (View S C E G F N W)) : Type 0 where
    pub learns : after ≡ (record me.0 { known = found }, me.1)
    pub rises : me.0.known ≤ found
    pub short : found < 2 ^ 32
    pub held : (x : S) → me.0.taken ≡ Some x → found ≡ m.len x + one_if me.0.raised

module _ {S C E G F N W : Type 0} where
  -- the first seat, after one more was made
  abbrev pub one_more : View S C E G F N W → View S C E G F N W
  one_more v = record v { made = v.made + 1 }

  -- the seat that the first one makes
  abbrev pub newcomer : View S C E G F N W → View S C E G F N W
  newcomer v = record v {
    number = v.made;
    taken = None;
    raised = false;
    claim = None;
    entries = [];
    notices = [];
    gives = 0;
    last = None;
    misses = 0;
    last_word = 0;
    made = 0;
    joined = [];
  }

  -- what the first seat keeps of another
  abbrev pub kept_of : View S C E G F N W → JoinedSeat E
  kept_of w = record { number = w.number; entries = w.entries }

  -- the first seat, after another was joined
  abbrev pub joining : View S C E G F N W → View S C E G F N W → View S C E G F N W
  joining v w = record v { notices = v.notices ++ w.notices; joined = v.joined ++ kept_of w ∷ [] }

  abbrev pub spent_view : View S C E G F N W
  spent_view = record {
    number = 0;
    spent = true;
    taken = None;
    raised = false;
    known = 0;
    claim = None;
    entries = [];
    seen = [];
    fixed = None;
    notices = [];
    gives = 0;
    last = None;
    misses = 0;
    last_word = 0;
    seats = 0;
    made = 0;
    joined = [];
  }

  -- each number that was made is the first, or was joined
  abbrev pub AllJoined : View S C E G F N W → Type 0
  AllJoined v = (n : ℕ) → 0 < n → n < v.made → IsJoined v n

  -- The value at the end is what the seat knows, with the entries of each number that was joined. No other number has a claim or an entry
  pub record Closes (m : Meaning S C E G F N W) (x : S) (v : View S C E G F N W) : Type 0 where
    pub knows : Knows m x v
    pub length_known : v.known ≤ m.len x
    pub joined : (k : ℕ) (p : JoinedSeat E) → get_elem? v.joined k ≡ some p → IsLeft m x p
    pub unmade : (n : ℕ) → v.made ≤ n → IsUnused m x n
