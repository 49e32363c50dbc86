-- What the entries of a held lead are, and which vectors it divides.
use Rattle.std.proofs.Common.{◌≡◌, ◌⊎◌, inl, inr, ℕ, ◌<◌, ◌≤◌, List, [], ◌∷◌, length, All, arith, sym, ◌∙◌, subst, ℤ, pos, ◌≤ℤ◌, ◌<ℤ◌}
use Rattle.std.specs.Int.{bit_at, int_max}
use Rattle.std.proofs.lemmas.Int.{ints, clamps, by_lt_z}
use Rattle.std.proofs.lemmas.Bool.{cases_lt, cases_eq}
use Rattle.std.specs.List.{AllByRecursion as ByRecursion}
use Rattle.std.proofs.lemmas.List.{get_or_past}
use Rattle.std.proofs.lemmas.List.Elements.{All-weaker, recursion_from_All}
use Rattle.std.proofs.lemmas.List.FromFn.{length-map-range_with_len, get_or-map-range_with_len}
use Rattle.mk_model.specs.Vectors.{entry, positive_part, IsEntry}
use Rattle.mk_model.specs.Reductions.{Divides}
use Rattle.mk_model.proofs.VectorAlgebra.{entry-positive_part, length-positive_part, same_vectors}
use Rattle.mk_move.specs.Masks.{HasPositive, IsMask, entry_by_mask, least_unmasked}
use Rattle.mk_support.specs.declared.held.ColumnEntry.{ColumnEntry}
use Rattle.mk_move.proofs.MaskEntries.{least_positive, given_below, given_within}
use Rattle.mk_support.specs.HeldLeads.{listed_or, lead_of, IsEntryOf, IsHeld, ListsFrom, Fits}

-- ---- the entries of the lead
pub length-lead_of : (n mask : ℕ) (listed : List ColumnEntry) → length (lead_of n mask listed) ≡ n
unfolding lead_of
length-lead_of n mask listed = length-map-range_with_len (λ c. listed_or listed c (entry_by_mask n mask c)) 0 n

entry-lead_of : (n mask : ℕ) (listed : List ColumnEntry) (c : ℕ) → c < n → entry (lead_of n mask listed) c ≡ listed_or listed c (entry_by_mask n mask c)
unfolding lead_of
entry-lead_of n mask listed c l = get_or-map-range_with_len (λ (k : ℕ). listed_or listed k (entry_by_mask n mask k)) 0 n c c (pos 0) l (omega arith)

-- the lead of a row, by its mask and the entries that are listed
pub lead_is_part : (row : List ℤ) (mask : ℕ) (listed : List ColumnEntry) → ListsFrom row (least_unmasked (length row)) (length row) listed → IsMask (positive_part row) mask → lead_of (length row) mask listed ≡ positive_part row
lead_is_part row mask listed h m =
    same_vectors (lead_of (length row) mask listed) (positive_part row) (length-lead_of (length row) mask listed ∙ sym (length-positive_part row)) (λ c. at c (cases_lt c (length row)))
  where
    value : (c : ℕ) → c < length row → (least_unmasked (length row) ≤ℤ entry row c) ⊎ (entry row c <ℤ least_unmasked (length row)) → listed_or listed c (entry_by_mask (length row) mask c) ≡ int_max (entry row c) (pos 0)
    value c l (inl k) = h.larger c l k (entry_by_mask (length row) mask c) ∙ omega (arith, ints, clamps, k, least_positive (length row))
    value c l (inr k) = h.others c (inr k) (entry_by_mask (length row) mask c) ∙ given_below row mask c m k

    at : (c : ℕ) → (c < length row) ⊎ (length row ≤ c) → entry (lead_of (length row) mask listed) c ≡ entry (positive_part row) c
    at c (inl l) =
        entry-lead_of (length row) mask listed c l
        ∙ value c l (by_lt_z (entry row c) (least_unmasked (length row)) (λ k. inr k) (λ k. inl k)) ∙ sym (entry-positive_part row c)
    at c (inr l) = get_or_past (lead_of (length row) mask listed) c (pos 0) (omega (arith, length-lead_of (length row) mask listed)) ∙ sym (get_or_past (positive_part row) c (pos 0) (omega (arith, length-positive_part row)))

-- the listed entries of a row are those of its positive part
pub held_of_row : (row : List ℤ) (mask : ℕ) (listed : List ColumnEntry) → All IsEntry row → ListsFrom row (least_unmasked (length row)) (length row) listed → IsMask (positive_part row) mask → IsHeld mask listed (positive_part row)
held_of_row row mask listed range h m = record {
  mask = m;
  listed = All-weaker Own (IsEntryOf (positive_part row)) own listed h.own;
}
  where
    Own : ColumnEntry → Type 0
    Own e = (e.column < length row) × (e.entry ≡ entry row e.column) × (least_unmasked (length row) ≤ℤ e.entry)

    own : (e : ColumnEntry) → Own e → IsEntryOf (positive_part row) e
    own e o =
        let positive : pos 0 <ℤ e.entry = omega (arith, ints, o.2, least_positive (length row)) in
        record {
          column = omega (arith, o.0, length-positive_part row);
          value = omega (arith, ints, clamps, o.1, positive, entry-positive_part row e.column);
          positive = positive;
          range = subst IsEntry (sym o.1) (range e.column (pos 0) o.0);
        }

-- ---- what it divides
pub fits_from : (entries : List ColumnEntry) (bits : ℕ) (lead y : List ℤ) → IsHeld bits entries lead → Divides lead y → All (Fits y) entries
fits_from entries bits lead y h d =
    All-weaker (IsEntryOf lead) (Fits y) (λ e o. subst (λ (z : ℤ). z ≤ℤ entry y e.column) (sym o.value) (d.entries e.column)) entries h.listed

-- an entry that is listed or given is within another vector
listed_within : (entries : List ColumnEntry) (y : List ℤ) (c : ℕ) (other : ℤ) → All (Fits y) entries → other ≤ℤ entry y c → listed_or entries c other ≤ℤ entry y c
listed_within entries y c other h k = go entries (recursion_from_All (Fits y) entries h)
  where
    go : (entries : List ColumnEntry) → ByRecursion (Fits y) entries → listed_or entries c other ≤ℤ entry y c
    go [] h = k
    go (e ∷ entries) h = elim (cases_eq e.column c) [
      | inl same ↦
          let fits : e.entry ≤ℤ entry y c = subst (λ (i : ℕ). e.entry ≤ℤ entry y i) same h.0 in
          let is : listed_or (e ∷ entries) c other ≡ e.entry = grind arith in
          subst (λ (z : ℤ). z ≤ℤ entry y c) (sym is) fits
      | inr apart ↦
          let is : listed_or (e ∷ entries) c other ≡ listed_or entries c other = grind arith in
          subst (λ (z : ℤ). z ≤ℤ entry y c) (sym is) (go entries h.1)
    ]

pub divides_from : (n bits : ℕ) (entries : List ColumnEntry) (y : List ℤ) → length y ≡ n → ((c : ℕ) → pos 0 ≤ℤ entry y c) → ((c : ℕ) → bit_at bits c ≡ 1 → HasPositive y c) → All (Fits y) entries → Divides (lead_of n bits entries) y
divides_from n bits entries y same least some h = record { entries = λ c. at c (cases_lt c n) }
  where
    within : (c : ℕ) → entry_by_mask n bits c ≤ℤ entry y c
    within c = subst (λ (k : ℕ). entry_by_mask k bits c ≤ℤ entry y c) same (given_within bits c y least some)

    at : (c : ℕ) → (c < n) ⊎ (n ≤ c) → entry (lead_of n bits entries) c ≤ℤ entry y c
    at c (inl l) = subst (λ (z : ℤ). z ≤ℤ entry y c) (sym (entry-lead_of n bits entries c l)) (listed_within entries y c (entry_by_mask n bits c) h (within c))
    at c (inr l) = subst (λ (z : ℤ). z ≤ℤ entry y c) (sym (get_or_past (lead_of n bits entries) c (pos 0) (omega (arith, length-lead_of n bits entries)))) (least c)
