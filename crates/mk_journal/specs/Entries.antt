-- The entries of a journal as what was settled.
use Rattle.std.specs.Prelude.{◌≡◌, ℕ, List, map, All}
use Rattle.mk_model.specs.CoreStates.{pair_of, Way, Settle, settle}
use Rattle.mk_model.specs.CoreStates.Way.{Coprime, Chain, Zero, Place}
use Rattle.mk_journal.specs.declared.journal.JournalEntry.{JournalEntry}
use Rattle.mk_journal.specs.declared.journal.Kind.{Kind}
use Rattle.mk_journal.specs.declared.journal.Kind.TheVariants as kind

-- the way of a kind, with the third move or the new place
abbrev pub way_of : Kind → ℕ → Way
way_of kind.Coprime third = Coprime
way_of kind.Chain third = Chain third
way_of kind.Zero third = Zero
way_of kind.Place third = Place third

-- an entry as what was settled
abbrev pub settle_of : JournalEntry → Settle
settle_of entry = settle entry.worker (pair_of entry.i entry.j) (way_of entry.kind entry.third)

-- the entries as what was settled
abbrev pub settles_of : List JournalEntry → List Settle
settles_of entries = map settle_of entries

-- the third move or the new place of a way, and 0 where it has neither
abbrev pub third_of : Way → ℕ
third_of Coprime = 0
third_of (Chain third) = third
third_of Zero = 0
third_of (Place place) = place

-- the third of an entry is that of its way
abbrev pub HasItsThird : JournalEntry → Type 0
HasItsThird entry = entry.third ≡ third_of (settle_of entry).way

-- the third of each entry is that of its way
abbrev pub HaveTheirThirds : List JournalEntry → Type 0
HaveTheirThirds entries = All HasItsThird entries
