-- Divisions of leads, one column after another.
use Rattle.std.proofs.Common.{◌≡◌, ◌≢◌, ◌⊎◌, inl, inr, ℕ, zero, suc, ◌+◌, ◌*◌, ◌/◌, ◌<◌, ◌≤◌, min, List, length, All, arith, sym, ◌∙◌, ap, subst, ℤ, pos, negsuc, ◌≤ℤ◌, ◌<ℤ◌, refl}
use Rattle.std.specs.Int.{int_max, int_min}
use Rattle.std.proofs.lemmas.Int.{ints, clamps}
use Rattle.std.proofs.lemmas.Bool.{cases_lt}
use Rattle.std.proofs.lemmas.List.{get_or_past}
use Rattle.std.proofs.Math.Nat.{mul-le-mul_left, mul-le-mul_right, le-div_iff_mul-le}
use borrow.Author.Count.{below_more}
use borrow.Author.Differences.{up}
use Rattle.mk_model.specs.declared.TheConstants.{ENTRY_MAX}
use Rattle.mk_model.specs.Vectors.{entry, zeros, scale, positive_part, IsEntry}
use Rattle.mk_model.specs.Reductions.{Divides}
use Rattle.mk_model.specs.Pairs.{AreDisjoint}
use Rattle.mk_model.proofs.VectorAlgebra.{lengths, columns, positive_part_at, entry-positive_part, entry-negative_part, length-positive_part, length-negative_part, only_zeros}
use Rattle.mk_model.proofs.Integers.{max_zero, max_within}
use Rattle.mk_move.specs.declared.side.Side.{Side}
use Rattle.mk_move.specs.declared.side.Side.TheVariants.{Plus, Minus}
use Rattle.mk_move.specs.Sides.{part_of, entry_on, IsMostTimes}
use Rattle.mk_move.proofs.Entries.{most_entry}

pub entry-part_of : (side : Side) (x : List ℤ) (c : ℕ) → entry (part_of side x) c ≡ entry_on side (entry x c)
entry-part_of Plus x c = entry-positive_part x c
entry-part_of Minus x c = entry-negative_part x c

pub length-part_of : (side : Side) (x : List ℤ) → length (part_of side x) ≡ length x
length-part_of Plus x = length-positive_part x
length-part_of Minus x = length-negative_part x

pub entry_on_nonnegative : (side : Side) (a : ℤ) → pos 0 ≤ℤ entry_on side a
entry_on_nonnegative Plus a = omega (arith, ints, clamps)
entry_on_nonnegative Minus a = omega (arith, ints, clamps)

pub part_of_nonnegative : (side : Side) (x : List ℤ) (c : ℕ) → pos 0 ≤ℤ entry (part_of side x) c
part_of_nonnegative side x c = subst (λ (z : ℤ). pos 0 ≤ℤ z) (sym (entry-part_of side x c)) (entry_on_nonnegative side (entry x c))

pub part_of_past : (side : Side) (x : List ℤ) (c : ℕ) → length x ≤ c → entry (part_of side x) c ≡ pos 0
part_of_past side x c h = get_or_past (part_of side x) c (pos 0) (omega (arith, length-part_of side x))

-- ---- does it divide
-- in each column so far the entry is within the part
abbrev pub DividesUpTo : List ℤ → List ℤ → Side → ℕ → Type 0
DividesUpTo lead row side n = (c : ℕ) → c < n → entry (positive_part lead) c ≤ℤ entry (part_of side row) c

not_within : (a b : ℤ) → b <ℤ a → int_max a (pos 0) ≤ℤ b → ⊥
not_within a b h k = omega (arith, ints, clamps)

pub divides_here : (lead row : List ℤ) (side : Side) (n : ℕ) → entry lead n ≤ℤ entry_on side (entry row n) → entry (positive_part lead) n ≤ℤ entry (part_of side row) n
divides_here lead row side n k =
    simp (entry-positive_part, entry-part_of) (max_within (entry lead n) (entry_on side (entry row n)) (entry_on_nonnegative side (entry row n)) k)

pub divides_more : (lead row : List ℤ) (side : Side) (n : ℕ) → DividesUpTo lead row side n → entry lead n ≤ℤ entry_on side (entry row n) → DividesUpTo lead row side (n + 1)
divides_more lead row side n h k =
    below_more (λ c. entry (positive_part lead) c ≤ℤ entry (part_of side row) c) n h (divides_here lead row side n k)

pub divides_whole : (lead row : List ℤ) (side : Side) (n : ℕ) → length lead ≤ n → DividesUpTo lead row side n → Divides (positive_part lead) (part_of side row)
divides_whole lead row side n l h = record { entries = λ c. at c (cases_lt c n) }
  where
    at : (c : ℕ) → (c < n) ⊎ (n ≤ c) → entry (positive_part lead) c ≤ℤ entry (part_of side row) c
    at c (inl k) = h c k
    at c (inr k) = subst (λ (z : ℤ). z ≤ℤ entry (part_of side row) c) (sym (part_of_past Plus lead c (omega arith))) (part_of_nonnegative side row c)

pub divides_not : (lead row : List ℤ) (side : Side) (n : ℕ) → entry_on side (entry row n) <ℤ entry lead n → Divides (positive_part lead) (part_of side row) → ⊥
divides_not lead row side n h d = not_within (entry lead n) (entry_on side (entry row n)) h (simp (entry-positive_part, entry-part_of) at (d.entries n))

-- ---- are they disjoint
abbrev pub DisjointUpTo : List ℤ → List ℤ → ℕ → Type 0
DisjointUpTo a b n = (c : ℕ) → c < n → (entry (positive_part a) c ≡ pos 0) ⊎ (entry (positive_part b) c ≡ pos 0)

pub no_part : (x : List ℤ) (c : ℕ) → entry x c ≤ℤ pos 0 → entry (positive_part x) c ≡ pos 0
no_part x c h = entry-positive_part x c ∙ max_zero (entry x c) h

pub disjoint_more : (a b : List ℤ) (n : ℕ) → DisjointUpTo a b n → (entry a n ≤ℤ pos 0) ⊎ (entry b n ≤ℤ pos 0) → DisjointUpTo a b (n + 1)
disjoint_more a b n h k =
    below_more (λ c. (entry (positive_part a) c ≡ pos 0) ⊎ (entry (positive_part b) c ≡ pos 0)) n h
    (elim k [ inl p ↦ inl (no_part a n p) | inr p ↦ inr (no_part b n p) ])

pub disjoint_whole : (a b : List ℤ) (n : ℕ) → length a ≤ n → DisjointUpTo a b n → AreDisjoint (positive_part a) (positive_part b)
disjoint_whole a b n l h c = at (cases_lt c n)
  where
    at : (c < n) ⊎ (n ≤ c) → (entry (positive_part a) c ≡ pos 0) ⊎ (entry (positive_part b) c ≡ pos 0)
    at (inl k) = h c k
    at (inr k) = inl (part_of_past Plus a c (omega arith))

pub disjoint_not : (a b : List ℤ) (n : ℕ) → pos 0 <ℤ entry a n → pos 0 <ℤ entry b n → AreDisjoint (positive_part a) (positive_part b) → ⊥
disjoint_not a b n h k d = elim (d n) [
  | inl e ↦ omega (arith, ints, columns)
  | inr e ↦ omega (arith, ints, columns)
]

-- ---- how often it divides
-- the greatest number of times, as far as the columns say that are done
pub record IsTimesOver (lead row : List ℤ) (side : Side) (IsDone : ℕ → Type 0) (times : ℤ) : Type 0 where
  pub count : ℕ
  pub value : times ≡ pos count
  pub some : 1 ≤ count
  pub most : count ≤ most_entry
  pub below : (c : ℕ) → IsDone c → count * up (entry lead c) ≤ up (entry_on side (entry row c))
  pub greatest : (q : ℕ) → Divides (scale (pos q) (positive_part lead)) (part_of side row) → q ≤ count

-- as far as the columns so far say
abbrev pub IsTimesSoFar : List ℤ → List ℤ → Side → ℕ → ℤ → Type 0
IsTimesSoFar lead row side n times = IsTimesOver lead row side (λ c. c < n) times

-- so many times the entry of the lead
scaled_entry : (q : ℕ) (lead : List ℤ) (c : ℕ) → entry (scale (pos q) (positive_part lead)) c ≡ pos (q * up (entry lead c))
scaled_entry q lead c =
    let (p, r) = positive_part_at lead c in
    omega (arith, ints, columns, ap (λ z. q * z) p, ap (λ z. q * z) r)

-- an integer of at least 0 is a natural number
pub natural : (a : ℤ) → pos 0 ≤ℤ a → a ≡ pos (up a)
natural (pos n) h = refl
natural (negsuc n) h = absurd (omega (arith, ints))

part_entry : (side : Side) (row : List ℤ) (c : ℕ) → entry (part_of side row) c ≡ pos (up (entry_on side (entry row c)))
part_entry side row c = entry-part_of side row c ∙ natural (entry_on side (entry row c)) (entry_on_nonnegative side (entry row c))

times_at : (q : ℕ) (lead row : List ℤ) (side : Side) (c : ℕ) → Divides (scale (pos q) (positive_part lead)) (part_of side row) → q * up (entry lead c) ≤ up (entry_on side (entry row c))
times_at q lead row side c d =
    let h : pos (q * up (entry lead c)) ≤ℤ pos (up (entry_on side (entry row c))) = simp (scaled_entry, part_entry) at (d.entries c) in
    omega (arith, ints)

pub lead_at : (lead row : List ℤ) (side : Side) (c : ℕ) → Divides (positive_part lead) (part_of side row) → up (entry lead c) ≤ up (entry_on side (entry row c))
lead_at lead row side c d =
    let h : entry (positive_part lead) c ≤ℤ pos (up (entry_on side (entry row c))) = simp part_entry at (d.entries c) in
    omega (arith, ints, columns)

pub entry_on_range : (side : Side) (a : ℤ) → IsEntry a → IsEntry (entry_on side a)
entry_on_range Plus a h = (omega (arith, ints, clamps, h.0), omega (arith, ints, clamps, h.1))
entry_on_range Minus a h = (omega (arith, ints, clamps, h.1), omega (arith, ints, clamps, h.0))

pub up_most : (a : ℤ) (n : ℕ) → a ≤ℤ pos n → up a ≤ n
up_most (pos m) n h = omega (arith, ints)
up_most (negsuc m) n h = omega arith

pub entry_on_most : (side : Side) (a : ℤ) → IsEntry a → up (entry_on side a) ≤ most_entry
entry_on_most side a h = up_most (entry_on side a) most_entry (entry_on_range side a h).1

no_times : (q x : ℕ) → most_entry < q → q * x ≤ most_entry → x ≡ 0
no_times q zero h k = refl
no_times q (suc x) h k = absurd (omega arith)

pub times_at_first : (lead row : List ℤ) (side : Side) → All IsEntry row → positive_part lead ≢ zeros (length lead) → IsTimesSoFar lead row side 0 ENTRY_MAX
times_at_first lead row side range some = record {
  count = most_entry;
  value = refl;
  some = omega arith;
  most = omega arith;
  below = λ c h. absurd (omega arith);
  greatest = λ q d. at q d (cases_lt most_entry q);
}
  where
    most : (c : ℕ) → up (entry_on side (entry row c)) ≤ most_entry
    most c = elim (cases_lt c (length row)) [
      | inl l ↦ entry_on_most side (entry row c) (range c (pos 0) l)
      | inr l ↦ entry_on_most side (entry row c) (subst IsEntry (sym (get_or_past row c (pos 0) l)) (omega (arith, ints), omega (arith, ints)))
    ]

    at : (q : ℕ) → Divides (scale (pos q) (positive_part lead)) (part_of side row) → (most_entry < q) ⊎ (q ≤ most_entry) → q ≤ most_entry
    at q d (inr l) = l
    at q d (inl l) =
        let none : (c : ℕ) → entry (positive_part lead) c ≡ pos 0 =
        λ c. let z : up (entry lead c) ≡ 0 = no_times q (up (entry lead c)) l (omega (arith, times_at q lead row side c d, most c)) in omega (arith, ints, columns) in
        absurd (some (only_zeros (positive_part lead) none ∙ ap zeros (length-positive_part lead)))

pub times_same : (lead row : List ℤ) (side : Side) (n : ℕ) (times : ℤ) → entry lead n ≤ℤ pos 0 → IsTimesSoFar lead row side n times → IsTimesSoFar lead row side (n + 1) times
times_same lead row side n times l h = record {
  count = h.count;
  value = h.value;
  some = h.some;
  most = h.most;
  below = below_more (λ c. h.count * up (entry lead c) ≤ up (entry_on side (entry row c))) n h.below
      (let z : up (entry lead n) ≡ 0 = omega (arith, up_most (entry lead n) 0 l) in rw z (omega arith));
  greatest = h.greatest;
}

-- one column more is done, with b in the lead and a in the part
pub times_fewer : (lead row : List ℤ) (side : Side) (IsDone IsDoneThen : ℕ → Type 0) (n : ℕ) (times : ℤ) (a b : ℕ) → ((c : ℕ) → IsDoneThen c → IsDone c ⊎ (c ≡ n)) → entry lead n ≡ pos b → 1 ≤ b → entry_on side (entry row n) ≡ pos a →
    Divides (positive_part lead) (part_of side row) → IsTimesOver lead row side IsDone times → IsTimesOver lead row side IsDoneThen (int_min times (pos (a / b)))
times_fewer lead row side IsDone IsDoneThen n times a b more e positive f divides h = record {
  count = min h.count (a / b);
  value = ap (λ z. int_min z (pos (a / b))) h.value ∙ int_min-pos h.count (a / b);
  some = omega (arith, h.some, at_least);
  most = omega (arith, h.most);
  below = λ c then. at c (more c then);
  greatest = λ q d. both q (h.greatest q d) (quotient q (rw (e, f) at (times_at q lead row side n d)));
}
  where
    int_min-pos : (i j : ℕ) → int_min (pos i) (pos j) ≡ pos (min i j)
    int_min-pos i j = omega (arith, ints, clamps)

    within : b ≤ a
    within = rw (e, f) at (lead_at lead row side n divides)

    quotient : (q : ℕ) → q * b ≤ a → q ≤ a / b
    quotient q k = (le-div_iff_mul-le positive).1 k

    at_least : 1 ≤ a / b
    at_least = quotient 1 (omega (arith, within))

    before : (c : ℕ) → IsDone c → min h.count (a / b) * up (entry lead c) ≤ up (entry_on side (entry row c))
    before c l = omega (arith, h.below c l, mul-le-mul_left (up (entry lead c)) (least h.count (a / b)))
      where
        least : (i j : ℕ) → min i j ≤ i
        least i j = omega arith

    here : min h.count (a / b) * up (entry lead n) ≤ up (entry_on side (entry row n))
    here = rw (e, f) (omega (arith, mul-le-mul_left b (least h.count (a / b))))
      where
        least : (i j : ℕ) → min i j ≤ j
        least i j = omega arith

    at : (c : ℕ) → IsDone c ⊎ (c ≡ n) → min h.count (a / b) * up (entry lead c) ≤ up (entry_on side (entry row c))
    at c (inl done) = before c done
    at c (inr same) = subst (λ m. min h.count (a / b) * up (entry lead m) ≤ up (entry_on side (entry row m))) (sym same) here

    both : (q : ℕ) → q ≤ h.count → q ≤ a / b → q ≤ min h.count (a / b)
    both q k l = omega arith

-- a column with b in the lead and a in the part
pub times_less : (lead row : List ℤ) (side : Side) (n : ℕ) (times : ℤ) (a b : ℕ) → entry lead n ≡ pos b → 1 ≤ b → entry_on side (entry row n) ≡ pos a → Divides (positive_part lead) (part_of side row) → IsTimesSoFar lead row side n times → IsTimesSoFar lead row side (n + 1) (int_min times (pos (a / b)))
times_less lead row side n times a b e positive f divides h = times_fewer lead row side (λ c. c < n) (λ c. c < n + 1) n times a b one_more e positive f divides h
  where
    one_more : (c : ℕ) → c < n + 1 → (c < n) ⊎ (c ≡ n)
    one_more c l = elim (cases_lt c n) [ inl k ↦ inl k | inr k ↦ inr (omega (arith, l, k)) ]

-- so many times are no more than an entry may be
pub times_range : (lead row : List ℤ) (side : Side) (IsDone : ℕ → Type 0) (times : ℤ) → IsTimesOver lead row side IsDone times → IsEntry times
times_range lead row side IsDone times h =
    let range : IsEntry (pos h.count) = (omega (arith, ints), omega (arith, ints, h.most)) in
    subst IsEntry (sym h.value) range

pub times_whole : (lead row : List ℤ) (side : Side) (n : ℕ) (times : ℤ) → length lead ≤ n → IsTimesSoFar lead row side n times → IsMostTimes (positive_part lead) (part_of side row) times
times_whole lead row side n times l h = record {
  count = h.count;
  value = h.value;
  some = h.some;
  divides = record { entries = λ c. at c (cases_lt c n) };
  greatest = h.greatest;
}
  where
    ordered : (i j : ℕ) → i ≤ j → pos i ≤ℤ pos j
    ordered i j k = omega (arith, ints)

    at : (c : ℕ) → (c < n) ⊎ (n ≤ c) → entry (scale (pos h.count) (positive_part lead)) c ≤ℤ entry (part_of side row) c
    at c (inl k) = simp (scaled_entry, part_entry) (ordered _ _ (h.below c k))
    at c (inr k) =
        subst (λ (z : ℤ). z ≤ℤ entry (part_of side row) c) (sym (get_or_past (scale (pos h.count) (positive_part lead)) c (pos 0) (omega (arith, lengths)))) (part_of_nonnegative side row c)

-- ---- on one side alone
no_more : (i x : ℕ) → 1 ≤ i → i * x ≤ 0 → x ≡ 0
no_more i zero h l = refl
no_more i (suc x) h l = absurd (omega (arith, mul-le-mul_right i (one_more x)))
  where
    one_more : (x : ℕ) → 1 ≤ suc x
    one_more x = omega arith

-- a lead that has a greatest number of times on one side has none on the other
pub not_on_both : (lead row : List ℤ) (one other : Side) (times : ℤ) (q : ℕ) → ((a : ℤ) → (entry_on one a ≡ pos 0) ⊎ (entry_on other a ≡ pos 0)) →
    IsMostTimes (positive_part lead) (part_of one row) times → 1 ≤ q → Divides (scale (pos q) (positive_part lead)) (part_of other row) → ⊥
not_on_both lead row one other times q apart h some d = none_more (h.greatest (suc h.count) (record { entries = zero_divides }))
  where
    none_more : suc h.count ≤ h.count → ⊥
    none_more l = omega arith

    zero_lead : (c : ℕ) → up (entry lead c) ≡ 0
    zero_lead c = elim (apart (entry row c)) [
      | inl e ↦ no_more h.count (up (entry lead c)) h.some (rw e at (times_at h.count lead row one c h.divides))
      | inr e ↦ no_more q (up (entry lead c)) some (rw e at (times_at q lead row other c d))
    ]

    zero_divides : (c : ℕ) → entry (scale (pos (suc h.count)) (positive_part lead)) c ≤ℤ entry (part_of one row) c
    zero_divides c =
        let zero : suc h.count * up (entry lead c) ≡ 0 = rw (zero_lead c) (omega arith) in
        subst (λ (z : ℤ). z ≤ℤ entry (part_of one row) c) (sym (scaled_entry (suc h.count) lead c ∙ ap pos zero)) (part_of_nonnegative one row c)
