-- The masks of leads beside their moves: how they grow by a move, and which third moves they leave out.
use Rattle.std.proofs.Common.{◌≡◌, ◌≢◌, ◌⊎◌, inl, inr, ℕ, ◌+◌, ◌<◌, ◌≤◌, ◌^◌, Bool, true, false, IsTrue, List, [], ◌∷◌, ◌++◌, length, get_or, All, arith, sym, ap, ◌∙◌, ℤ, pos, ◌≤ℤ◌}
use mir.Val.{Fits}
use Rattle.std.specs.Int.{w64, bit_not}
use Rattle.std.specs.Int.RustNames.{bit_and, bit_or}
use Rattle.std.proofs.lemmas.Bool.{cases_lt, false≢true}
use Rattle.std.proofs.lemmas.Int.{ints, clamps}
use Rattle.std.proofs.lemmas.List.{length-append, length-map, map-append, get_or-map, get_or_append_left, get_or_past}
use Rattle.std.proofs.lemmas.Nat.{or_lt}
use Rattle.std.proofs.Math.Seq.{get_or-append_seam}
use Rattle.mk_model.specs.CoreStates.{move_at}
use Rattle.mk_model.specs.Orders.{lead}
use Rattle.mk_model.specs.Reductions.{lcm, Divides}
use Rattle.mk_model.specs.Vectors.{entry}
use Rattle.mk_model.proofs.VectorAlgebra.{entry-positive_part, length-positive_part}
use Rattle.mk_model.proofs.Divisors.{length-lcm}
use Rattle.mk_move.specs.Chains.{DividesBetween}
use Rattle.mk_move.specs.Masks.{IsMask, IsAtMostOne, HasExactMask}
use Rattle.mk_move.specs.Moves.{Weighed}
use Rattle.mk_move.specs.MoveLists.{BasisView, IsBasis, AreLeadMasks, AreExact, vectors_of}
use Rattle.mk_move.proofs.Chains.{lcm_nonnegative, mask_of_lcm}
use Rattle.mk_move.proofs.MaskTests.{apart_disjoint, not_dividing, exact_divides}
use Rattle.mk_move.proofs.Divisions.{part_of_past, part_of_nonnegative}
use Rattle.mk_move.specs.declared.side.Side.TheVariants.{Plus}
use Rattle.mk_model.specs.Pairs.{AreDisjoint}

-- ---- one move more
module _ (moves : List Weighed) (m : Weighed) where
  vectors_more : vectors_of (moves ++ m ∷ []) ≡ vectors_of moves ++ m.entries ∷ []
  vectors_more = map-append (λ (m : Weighed). m.entries) moves (m ∷ [])

  length_vectors : length (vectors_of moves) ≡ length moves
  length_vectors = length-map moves (λ (m : Weighed). m.entries)

  move_before : (k : ℕ) → k < length moves → move_at (vectors_of (moves ++ m ∷ [])) k ≡ move_at (vectors_of moves) k
  move_before k l = ap (λ v. move_at v k) vectors_more ∙ get_or_append_left (vectors_of moves) (m.entries ∷ []) [] k (omega (arith, l, length_vectors))

  move_behind : move_at (vectors_of (moves ++ m ∷ [])) (length moves) ≡ m.entries
  move_behind =
      ap (λ v. move_at v (length moves)) vectors_more ∙ ap (move_at (vectors_of moves ++ m.entries ∷ [])) (sym length_vectors)
      ∙ get_or-append_seam (vectors_of moves) m.entries [] []

pub lead_masks_more : (moves : List Weighed) (masks : List ℕ) (m : Weighed) (mask : ℕ) → AreLeadMasks moves masks → IsMask (lead m.entries) mask → AreLeadMasks (moves ++ m ∷ []) (masks ++ mask ∷ [])
lead_masks_more moves masks m mask h g = record {
  count = omega (arith, h.count, length-append masks (mask ∷ []), length-append moves (m ∷ []));
  each = λ k l. at k (cases_lt k (length moves)) (omega (arith, l, length-append moves (m ∷ [])));
}
  where
    at : (k : ℕ) → (k < length moves) ⊎ (length moves ≤ k) → k < length moves + 1 → IsMask (lead (move_at (vectors_of (moves ++ m ∷ [])) k)) (get_or (masks ++ mask ∷ []) k 0)
    at k (inl l) _ =
        rw (move_before moves m k l, get_or_append_left masks (mask ∷ []) 0 k (omega (arith, l, h.count))) (h.each k l)
    at k (inr l) few =
        let here : k ≡ length moves = omega (arith, l, few) in
        let mask_is : get_or (masks ++ mask ∷ []) k 0 ≡ mask = ap (λ n. get_or (masks ++ mask ∷ []) n 0) (here ∙ sym h.count) ∙ get_or-append_seam masks mask [] 0 in
        let move_is : move_at (vectors_of (moves ++ m ∷ [])) k ≡ m.entries = ap (move_at (vectors_of (moves ++ m ∷ []))) here ∙ move_behind moves m in
        rw (move_is, mask_is) g

-- no entry of the lead is above 1 where none of the move is
pub squarefree_lead : (x : List ℤ) → All IsAtMostOne x → (c : ℕ) → IsAtMostOne (entry (lead x) c)
squarefree_lead x h c = at (cases_lt c (length x))
  where
    at : (c < length x) ⊎ (length x ≤ c) → IsAtMostOne (entry (lead x) c)
    at (inl l) = let few : entry x c ≤ℤ pos 1 = h c (pos 0) l in omega (arith, ints, clamps, entry-positive_part x c, few)
    at (inr l) = omega (arith, ints, part_of_past Plus x c l)

pub exact_more : (moves : List Weighed) (flags : List Bool) (m : Weighed) (flag : Bool) → AreExact moves flags → (IsTrue flag → HasExactMask (lead m.entries)) → AreExact (moves ++ m ∷ []) (flags ++ flag ∷ [])
exact_more moves flags m flag h g = record {
  count = omega (arith, h.count, length-append flags (flag ∷ []), length-append moves (m ∷ []));
  each = λ k set. at k (cases_lt k (length moves)) (cases_lt k (length moves + 1)) set;
}
  where
    at : (k : ℕ) → (k < length moves) ⊎ (length moves ≤ k) → (k < length moves + 1) ⊎ (length moves + 1 ≤ k) → get_or (flags ++ flag ∷ []) k false ≡ true → HasExactMask (lead (move_at (vectors_of (moves ++ m ∷ [])) k))
    at k (inl l) _ set =
        rw (move_before moves m k l) (h.each k (sym (get_or_append_left flags (flag ∷ []) false k (omega (arith, l, h.count))) ∙ set))
    at k (inr l) (inl few) set =
        let here : k ≡ length moves = omega (arith, l, few) in
        let flag_is : get_or (flags ++ flag ∷ []) k false ≡ flag = ap (λ n. get_or (flags ++ flag ∷ []) n false) (here ∙ sym h.count) ∙ get_or-append_seam flags flag [] false in
        let move_is : move_at (vectors_of (moves ++ m ∷ [])) k ≡ m.entries = ap (move_at (vectors_of (moves ++ m ∷ []))) here ∙ move_behind moves m in
        rw move_is (g (sym flag_is ∙ set))
    at k (inr _) (inr l) set =
        let past = get_or_past (flags ++ flag ∷ []) k false (omega (arith, l, h.count, length-append flags (flag ∷ []))) in
        absurd (false≢true (sym past ∙ set))

-- ---- third moves that the masks leave out
-- the moves of a basis have as many columns as its list
columns_at : (basis : BasisView) (k : ℕ) → IsBasis basis → k < length basis.moves → length (move_at (vectors_of basis.moves) k) ≡ length basis.priority
columns_at basis k h l =
    ap length (get_or-map (λ (m : Weighed). m.entries) basis.moves k nothing [] l) ∙ (h.moves k nothing l).columns
  where
    nothing : Weighed
    nothing = record { entries = []; weight = pos 0 }

-- a third lead beside two others, with their masks
module _ (basis : BasisView) (masks : List ℕ) (i j k : ℕ) (h : IsBasis basis) (g : AreLeadMasks basis.moves masks) (first : i < length basis.moves) (second : j < length basis.moves) (third : k < length basis.moves)
    (fits : (n : ℕ) → Fits w64 (get_or masks n 0)) where
  bound : (n : ℕ) → get_or masks n 0 < 2 ^ 64
  bound n = omega (arith, fits n)

  abbrev a : List ℤ
  a = lead (move_at (vectors_of basis.moves) i)

  abbrev b : List ℤ
  b = lead (move_at (vectors_of basis.moves) j)

  abbrev v : List ℤ
  v = lead (move_at (vectors_of basis.moves) k)

  lead_columns : (c : ℕ) → c < length basis.moves → length (lead (move_at (vectors_of basis.moves) c)) ≡ length basis.priority
  lead_columns c l = length-positive_part (move_at (vectors_of basis.moves) c) ∙ columns_at basis c h l

  lengths : (length a ≡ length basis.priority) × (length b ≡ length basis.priority) × (length v ≡ length basis.priority)
  lengths = (lead_columns i first, lead_columns j second, lead_columns k third)

  as_many : length v ≡ length (lcm a b)
  as_many = omega (arith, lengths, length-lcm a b)

  room : bit_or (get_or masks i 0) (get_or masks j 0) < 2 ^ 64
  room = or_lt 64 (get_or masks i 0) (get_or masks j 0) (bound i) (bound j)

  mask_is : IsMask (lcm a b) (bit_or (get_or masks i 0) (get_or masks j 0))
  mask_is = mask_of_lcm a b _ _ (omega (arith, lengths)) (g.each i first) (g.each j second)

  -- a mask that isn't within those of two others: the lead doesn't divide the least common multiple of the two
  pub not_between : bit_and (get_or masks k 0) (bit_not w64 (bit_or (get_or masks i 0) (get_or masks j 0))) ≢ 0 → DividesBetween (vectors_of basis.moves) i j k → ⊥
  not_between some = not_dividing v (lcm a b) (get_or masks k 0) (bit_or (get_or masks i 0) (get_or masks j 0)) (bound k) room as_many (g.each k third) mask_is some

  -- a mask that is, and is exact: the lead divides it
  pub exact_between : HasExactMask v → bit_and (get_or masks k 0) (bit_not w64 (bit_or (get_or masks i 0) (get_or masks j 0))) ≡ 0 → DividesBetween (vectors_of basis.moves) i j k
  exact_between exact none =
      exact_divides v (lcm a b) (get_or masks k 0) (bit_or (get_or masks i 0) (get_or masks j 0)) room as_many exact
      (lcm_nonnegative (move_at (vectors_of basis.moves) i) (move_at (vectors_of basis.moves) j)) (g.each k third) mask_is none

-- masks without a bit in common: the leads are disjoint
pub disjoint_by_masks : (basis : BasisView) (masks : List ℕ) (i j : ℕ) → IsBasis basis → AreLeadMasks basis.moves masks → i < length basis.moves → j < length basis.moves →
    bit_and (get_or masks i 0) (get_or masks j 0) ≡ 0 → AreDisjoint (lead (move_at (vectors_of basis.moves) i)) (lead (move_at (vectors_of basis.moves) j))
disjoint_by_masks basis masks i j h g first second none =
    let a = move_at (vectors_of basis.moves) i in
    let b = move_at (vectors_of basis.moves) j in
    apart_disjoint (lead a) (lead b) (get_or masks i 0) (get_or masks j 0)
    (length-positive_part a ∙ columns_at basis i h first ∙ sym (length-positive_part b ∙ columns_at basis j h second))
    (part_of_nonnegative Plus a) (part_of_nonnegative Plus b) (g.each i first) (g.each j second) none

-- a mask that isn't within another: the lead doesn't divide the other
pub not_dividing_by_masks : (basis : BasisView) (masks : List ℕ) (k j : ℕ) → IsBasis basis → AreLeadMasks basis.moves masks → k < length basis.moves → j < length basis.moves → ((n : ℕ) → Fits w64 (get_or masks n 0)) →
    bit_and (get_or masks k 0) (bit_not w64 (get_or masks j 0)) ≢ 0 → Divides (lead (move_at (vectors_of basis.moves) k)) (lead (move_at (vectors_of basis.moves) j)) → ⊥
not_dividing_by_masks basis masks k j h g first second fits some =
    let v = move_at (vectors_of basis.moves) k in
    let m = move_at (vectors_of basis.moves) j in
    not_dividing (lead v) (lead m) (get_or masks k 0) (get_or masks j 0) (omega (arith, fits k)) (omega (arith, fits j))
    (length-positive_part v ∙ columns_at basis k h first ∙ sym (length-positive_part m ∙ columns_at basis j h second)) (g.each k first) (g.each j second) some
