-- Columns that moves free: one column and one move after another.
use Rattle.std.proofs.Common.{◌≡◌, ◌⊎◌, inl, inr, ℕ, suc, ◌+◌, ◌≤◌, ◌<◌, Bool, true, false, not, ◌&&◌, ◌||◌, if◌then◌else◌, List, [], ◌++◌, length, set, take, drop, Some, slice_get, ℤ, pos, neg_ℤ, ◌<ℤ◌, All, arith, ap, refl, sym, ◌∙◌, subst, length-set}
use Rattle.std.specs.Ordering.{int_eq}
use Rattle.std.specs.Int.{int_max}
use Rattle.std.proofs.lemmas.Int.{ints, clamps, by_lt_z}
use Rattle.std.proofs.lemmas.Bool.{cases_eq, both_ways}
use Rattle.std.proofs.lemmas.Bool.Decides.{Decides-int_eq}
use Rattle.std.proofs.lemmas.List.{get_or-set_same, get_or-set_other, ext_get_or, drop_more, drop_all, take_all, append-nil}
use Rattle.mk_model.specs.Vectors.{entry, negate, positive_part, negative_part}
use Rattle.mk_model.specs.Orders.{standard, first_along, oriented_by}
use Rattle.mk_model.specs.Lattices.{lattice_of, InLattice, HasGrading}
use Rattle.mk_model.specs.Saturation.{ConnectedUpTo}
use Rattle.mk_model.specs.FreeColumns.{is_left, columns_left, is_within, without_support, freed_by, freed_by_row, freed_by_rows}
use Rattle.mk_model.proofs.FreeColumns.{range_all, range_fails, length-without_support, without_support_at, length-freed_by_rows, oriented_as_it_is, oriented_as_negative, moves_freed}
use Rattle.mk_model.proofs.VectorAlgebra.{entry-positive_part, entry-negative_part, negate-negate, positive_part-negate}
use Rattle.mk_model.proofs.LatticeLaws.{InLattice-row}
use Rattle.mk_model.proofs.NormalForms.{All-from_contains}
use Rattle.mk_model.proofs.Integers.{max_zero}
use Rattle.mk_move.specs.Moves.{Weighed}
use Rattle.mk_move.specs.MoveLists.{vectors_of}
use Rattle.mk_move.specs.Sides.{part_of}
use Rattle.mk_move.specs.declared.side.Side.{Side}
use Rattle.mk_move.specs.declared.side.Side.TheVariants.{Plus, Minus}
use Rattle.mk_move.proofs.MoveVectors.{length-vectors_of, vector_at}
use Rattle.mk_saturate.specs.Freed.{other_side, turned_to, freed_on}
use Rattle.mk_saturate.specs.Saturations.{SaturationView, IsSaturation}
use Rattle.mk_saturate.proofs.Beginnings.{basis_graded}
use Rattle.mk_saturate.proofs.ColumnsLeft.{column_fewer}
use Rattle.mk_saturate.proofs.RowsTurned.{got_within}

-- ---- answers of tests
pub on_false : (r b : Bool) → r ≡ not b → r ≡ true → b ≡ false
on_false r true e f = absurd (both_ways r e f)
on_false r false e f = refl

pub on_true : (r b : Bool) → r ≡ not b → r ≡ false → b ≡ true
on_true r true e f = refl
on_true r false e f = absurd (both_ways r f e)

-- ---- is each column of a part left
-- each column before one is left or has no entry
pub record AreLeftUpTo (left : List Bool) (x : List ℤ) (k : ℕ) : Type 0 where
  pub each : (c : ℕ) → c < k → (is_left left c || int_eq (entry x c) (pos 0)) ≡ true

pub within_all : (x : List ℤ) (left : List Bool) (k : ℕ) → length x ≤ k → AreLeftUpTo left x k → is_within x left ≡ true
unfolding is_within
within_all x left k l h = range_all (λ c. is_left left c || int_eq (entry x c) (pos 0)) 0 (length x) (λ c _ m. h.each c (omega (arith, l, m)))

pub within_fails : (x : List ℤ) (left : List Bool) (c : ℕ) → c < length x → is_left left c ≡ false → int_eq (entry x c) (pos 0) ≡ false → is_within x left ≡ false
unfolding is_within
within_fails x left c l e f = range_fails (λ c. is_left left c || int_eq (entry x c) (pos 0)) (length x) c l (rw (e, f) refl)

pub left_more : (left : List Bool) (x : List ℤ) (k : ℕ) → AreLeftUpTo left x k → (is_left left k || int_eq (entry x k) (pos 0)) ≡ true → AreLeftUpTo left x (k + 1)
left_more left x k h e = record { each = λ c l. go c l (cases_eq c k) }
  where
    go : (c : ℕ) → c < k + 1 → (c ≡ k) ⊎ (c ≡ k → ⊥) → (is_left left c || int_eq (entry x c) (pos 0)) ≡ true
    go c l (inl s) = subst (λ c. (is_left left c || int_eq (entry x c) (pos 0)) ≡ true) (sym s) e
    go c l (inr d) = h.each c (omega (arith, l, d))

-- ---- a part is taken out of the columns that are left
-- up to one column they are taken out, and the others are as before
pub record AreTakenUpTo (x : List ℤ) (before now : List Bool) (k taken : ℕ) : Type 0 where
  pub columns : length now ≡ length before
  pub done : (c : ℕ) → c < k → is_left now c ≡ (is_left before c && int_eq (entry x c) (pos 0))
  pub onwards : (c : ℕ) → k ≤ c → is_left now c ≡ is_left before c
  pub count : length (columns_left before) ≡ taken + length (columns_left now)

pub none_taken : (x : List ℤ) (left : List Bool) → AreTakenUpTo x left left 0 0
none_taken x left = record { columns = refl; done = λ c l. absurd (omega (arith, l)); onwards = λ c l. refl; count = omega arith }

-- a column that stays as it is
pub taken_past : (x : List ℤ) (before now : List Bool) (k taken : ℕ) → AreTakenUpTo x before now k taken → (is_left now k ≡ false) ⊎ (int_eq (entry x k) (pos 0) ≡ true) → AreTakenUpTo x before now (k + 1) taken
taken_past x before now k taken h e = record {
  columns = h.columns;
  done = λ c l. go c l (cases_eq c k);
  onwards = λ c l. h.onwards c (omega (arith, l));
  count = h.count;
}
  where
    here : (is_left now k ≡ false) ⊎ (int_eq (entry x k) (pos 0) ≡ true) → is_left now k ≡ (is_left before k && int_eq (entry x k) (pos 0))
    here (inl f) = let g : is_left before k ≡ false = sym (h.onwards k (omega arith)) ∙ f in rw g f
    here (inr f) = rw f (stays (is_left before k) (h.onwards k (omega arith)))
      where
        stays : (b : Bool) → is_left now k ≡ b → is_left now k ≡ (b && true)
        stays true g = g
        stays false g = g

    go : (c : ℕ) → c < k + 1 → (c ≡ k) ⊎ (c ≡ k → ⊥) → is_left now c ≡ (is_left before c && int_eq (entry x c) (pos 0))
    go c l (inl s) = subst (λ c. is_left now c ≡ (is_left before c && int_eq (entry x c) (pos 0))) (sym s) (here e)
    go c l (inr d) = h.done c (omega (arith, l, d))

-- a column that is taken out
pub taken_out : (x : List ℤ) (before now : List Bool) (k taken : ℕ) → AreTakenUpTo x before now k taken → is_left now k ≡ true → int_eq (entry x k) (pos 0) ≡ false → k < length now → AreTakenUpTo x before (set now k false) (k + 1) (taken + 1)
taken_out x before now k taken h e f l = record {
  columns = length-set now k false ∙ h.columns;
  done = λ c m. go c m (cases_eq c k);
  onwards = λ c m. get_or-set_other now k c false false (λ (s : c ≡ k). absurd (omega (arith, m, s))) ∙ h.onwards c (omega (arith, m));
  count = omega (arith, h.count, column_fewer now k e);
}
  where
    no : (b : Bool) → (b && false) ≡ false
    no true = refl
    no false = refl

    go : (c : ℕ) → c < k + 1 → (c ≡ k) ⊎ (c ≡ k → ⊥) → is_left (set now k false) c ≡ (is_left before c && int_eq (entry x c) (pos 0))
    go c m (inl s) =
        subst (λ c. is_left (set now k false) c ≡ (is_left before c && int_eq (entry x c) (pos 0))) (sym s)
        (get_or-set_same now k false false l ∙ sym (ap (λ b. is_left before k && b) f ∙ no (is_left before k)))
    go c m (inr d) = get_or-set_other now k c false false d ∙ h.done c (omega (arith, m, d))

pub taken_all : (x : List ℤ) (before now : List Bool) (k taken : ℕ) → length before ≤ k → AreTakenUpTo x before now k taken → now ≡ without_support x before
taken_all x before now k taken l h =
    ext_get_or false now (without_support x before) (h.columns ∙ sym (length-without_support x before))
    (λ c m. h.done c (omega (arith, l, m, h.columns)) ∙ sym (without_support_at x before c))

-- ---- the two sides of a move
pub freed_on_side : (side : Side) (u : List ℤ) (left : List Bool) → freed_on side u left ≡ (if is_within (part_of (other_side side) u) left then without_support (part_of side u) left else left)
freed_on_side Plus u left = refl
freed_on_side Minus u left =
    rw (positive_part-negate u, sym (positive_part-negate (negate u)) ∙ ap positive_part (negate-negate u)) refl

pub freed_within : (side o : Side) (u : List ℤ) (left : List Bool) → o ≡ other_side side → is_within (part_of o u) left ≡ true → freed_on side u left ≡ without_support (part_of side u) left
freed_within side o u left e h =
    freed_on_side side u left ∙ ap (λ (b : Bool). if b then without_support (part_of side u) left else left) (sym (ap (λ o. is_within (part_of o u) left) e) ∙ h)

pub freed_without : (side o : Side) (u : List ℤ) (left : List Bool) → o ≡ other_side side → is_within (part_of o u) left ≡ false → freed_on side u left ≡ left
freed_without side o u left e h =
    freed_on_side side u left ∙ ap (λ (b : Bool). if b then without_support (part_of side u) left else left) (sym (ap (λ o. is_within (part_of o u) left) e) ∙ h)

pub freed_both : (p : List ℕ) (u : List ℤ) (side : Side) (left middle after : List Bool) → oriented_by p u ≡ turned_to side u → middle ≡ freed_on side u left → after ≡ freed_on (other_side side) u middle → after ≡ freed_by_row p u left
freed_both p u side left middle after o e f = f ∙ ap (freed_on (other_side side) u) e ∙ other side ∙ ap (λ v. freed_by (negate v) (freed_by v left)) (sym o)
  where
    other : (side : Side) → freed_on (other_side side) u (freed_on side u left) ≡ freed_by (negate (turned_to side u)) (freed_by (turned_to side u) left)
    other Plus = refl
    other Minus = ap (λ v. freed_by v (freed_by (negate u) left)) (sym (negate-negate u))

-- ---- the side of the lead
-- from the last column down to this many there is no entry
pub record NoneBehind (u : List ℤ) (columns : ℕ) : Type 0 where
  pub first : first_along (standard (length u)) u ≡ first_along (standard columns) u

pub first_at : (u : List ℤ) (m : ℕ) → NoneBehind u (suc m) → (entry u m ≡ pos 0 → ⊥) → first_along (standard (length u)) u ≡ entry u m
first_at u m h d = h.first ∙ go (int_eq (entry u m) (pos 0)) refl
  where
    go : (t : Bool) → int_eq (entry u m) (pos 0) ≡ t → first_along (standard (suc m)) u ≡ entry u m
    go true e = absurd (d ((Decides-int_eq (entry u m) (pos 0)).0 e))
    go false e = rw e refl

pub none_more : (u : List ℤ) (m : ℕ) → NoneBehind u (suc m) → entry u m ≡ pos 0 → NoneBehind u m
none_more u m h z = record { first = h.first ∙ past }
  where
    past : first_along (standard (suc m)) u ≡ first_along (standard m) u
    past = rw ((Decides-int_eq (entry u m) (pos 0)).1 z) refl

pub lead_plus : (u : List ℤ) (m : ℕ) → NoneBehind u (suc m) → int_eq (entry (negative_part u) m) (pos 0) ≡ false → oriented_by (standard (length u)) u ≡ turned_to Plus u
lead_plus u m h e = oriented_as_it_is (standard (length u)) u (omega (arith, ints, first_at u m h (λ z. omega (arith, ints, z, negative)), negative))
  where
    negative : entry u m <ℤ pos 0
    negative = by_lt_z (entry u m) (pos 0) (λ l. l)
        (λ l. absurd (both_ways (int_eq (entry (negative_part u) m) (pos 0)) e ((Decides-int_eq (entry (negative_part u) m) (pos 0)).1 (entry-negative_part u m ∙ max_zero (neg_ℤ (entry u m)) (omega (arith, ints, l))))))

pub lead_minus : (u : List ℤ) (m : ℕ) → NoneBehind u (suc m) → int_eq (entry (positive_part u) m) (pos 0) ≡ false → oriented_by (standard (length u)) u ≡ turned_to Minus u
lead_minus u m h e = oriented_as_negative (standard (length u)) u (omega (arith, ints, first_at u m h (λ z. omega (arith, ints, z, positive)), positive))
  where
    positive : pos 0 <ℤ entry u m
    positive = by_lt_z (pos 0) (entry u m) (λ l. l)
        (λ l. absurd (both_ways (int_eq (entry (positive_part u) m) (pos 0)) e ((Decides-int_eq (entry (positive_part u) m) (pos 0)).1 (entry-positive_part u m ∙ max_zero (entry u m) l))))

pub none_of_parts : (u : List ℤ) (m : ℕ) → int_eq (entry (negative_part u) m) (pos 0) ≡ true → int_eq (entry (positive_part u) m) (pos 0) ≡ true → entry u m ≡ pos 0
none_of_parts u m e f =
    zero_of_parts (entry u m) (sym (entry-negative_part u m) ∙ (Decides-int_eq (entry (negative_part u) m) (pos 0)).0 e) (sym (entry-positive_part u m) ∙ (Decides-int_eq (entry (positive_part u) m) (pos 0)).0 f)
  where
    zero_of_parts : (a : ℤ) → int_max (neg_ℤ a) (pos 0) ≡ pos 0 → int_max a (pos 0) ≡ pos 0 → a ≡ pos 0
    zero_of_parts a h k = omega (arith, ints, clamps, h, k)

pub lead_of_none : (u : List ℤ) (columns : ℕ) → columns ≡ 0 → NoneBehind u columns → oriented_by (standard (length u)) u ≡ turned_to Plus u
lead_of_none u columns z h =
    let first : first_along (standard (length u)) u ≡ pos 0 = h.first ∙ ap (λ n. first_along (standard n) u) z in
    oriented_as_it_is (standard (length u)) u (omega (arith, ints, first))

-- ---- one move after another
pub freed_more : (p : List ℕ) (moves : List Weighed) (k : ℕ) (m : Weighed) (left after all : List Bool) → slice_get moves k ≡ Some m → freed_by_rows p (drop k (vectors_of moves)) left ≡ all → after ≡ freed_by_row p m.entries left → freed_by_rows p (drop (k + 1) (vectors_of moves)) after ≡ all
freed_more p moves k m left after all at h e =
    ap (freed_by_rows p (drop (k + 1) (vectors_of moves))) (e ∙ ap (λ row. freed_by_row p row left) (sym (vector_at moves k m at)))
    ∙ sym (ap (λ rows. freed_by_rows p rows left) (drop_more (vectors_of moves) k [] (omega (arith, got_within moves k m at, length-vectors_of moves)))) ∙ h

-- ---- a saturation whose free columns left
pub freed_saturation : (s : SaturationView) → IsSaturation s → (left : List Bool) → left ≡ freed_by_rows (standard (length s.basis.grading)) (vectors_of s.basis.moves) s.left → IsSaturation (record { basis = s.basis; left = left })
freed_saturation s h left e = record {
  kept = h.kept;
  columns = ap length e ∙ length-freed_by_rows p moves s.left ∙ h.columns;
  few = h.few;
  connected = subst (λ (flags : List Bool). ConnectedUpTo n moves (is_left flags) moves) (sym e) (moves_freed g moves in_lattice p s.left h.connected);
}
  where
    n : ℕ
    n = length s.basis.grading

    p : List ℕ
    p = standard n

    moves : List (List ℤ)
    moves = vectors_of s.basis.moves

    g : HasGrading (lattice_of n moves s.basis.grading)
    g = basis_graded s.basis h.kept

    in_lattice : All (InLattice n moves) moves
    in_lattice = All-from_contains (InLattice n moves) moves (λ move c. InLattice-row n moves move g.rows_columns c)

-- a slice of the same length, written back over the whole list
pub written_whole : (items new : List Bool) (len : ℕ) → len ≡ length items → length new ≡ length items → take len (new ++ drop (length new) items) ≡ new
written_whole items new len l size = ap (take len) (ap (λ rest. new ++ rest) (drop_all (length new) items (omega (arith, size))) ∙ append-nil new) ∙ take_all len new (omega (arith, l, size))
