-- Free columns: what leaves the unsaturated columns with a vector, and that moves stay connected up to those that are left.
use Rattle.std.proofs.Common.{◌≡◌, ◌⊎◌, inl, inr, ℕ, zero, suc, ◌+◌, ◌<◌, ◌≤◌, Bool, true, false, ◌&&◌, ◌||◌, ◌==◌, not, List, [], ◌∷◌}
use Rattle.std.proofs.Common.{length, ℤ, pos, ◌<ℤ◌, ◌≤ℤ◌, neg_ℤ, All, Contains, arith, ap, refl, sym, ◌∙◌, subst, ⊎_elim}
use Rattle.std.specs.Prelude.{int_le}
use Rattle.std.specs.List.{AllZip, list_all, range_with_len}
use Rattle.std.specs.Ordering.{int_eq}
use Rattle.std.proofs.lemmas.Int.{ints, by_lt_z}
use Rattle.std.proofs.lemmas.Bool.{cases_eq, cases_lt, and_cases, or_cases, both_ways}
use Rattle.std.proofs.lemmas.Bool.Decides.{Decides-int_eq, Decides-eqb}
use Rattle.std.proofs.lemmas.List.{get_or_past}
use Rattle.std.proofs.lemmas.List.Folds.{list_all_at}
use Rattle.std.proofs.lemmas.List.FromFn.{get_or-range_with_len, length-range_with_len, get_or-map-range_with_len}
use Rattle.std.proofs.lemmas.List.FromFn.{length-map-range_with_len}
use Rattle.mk_model.specs.Vectors.{entry, negate, positive_part, negative_part}
use Rattle.mk_model.specs.Lattices.{lattice_of, InLattice, HasGrading}
use Rattle.mk_model.specs.Orders.{IsOriented, IsRowTurned, first_along, oriented_by}
use Rattle.mk_model.specs.Saturation.{IsSupported, without_column, ConnectedUpTo}
use Rattle.mk_model.specs.FreeColumns.{is_left, is_within, without_support, freed_by, freed_by_row, freed_by_rows}
use Rattle.mk_model.proofs.VectorAlgebra.{lengths, columns, entry-negate, entry-positive_part, entry-negative_part, negate-negate}
use Rattle.mk_model.proofs.Lists.{Contains-here, Contains-there}
use Rattle.mk_model.proofs.Connections.{connected_in_columns, free_column_leaves}
use Rattle.mk_model.proofs.Integers.{max_zero}

-- ---- rows as they are oriented by a list
first_negative : (p : List ℕ) (x : List ℤ) → IsOriented p x → first_along p x <ℤ pos 0
first_negative [] x h = absurd h
first_negative (c ∷ p) x (inl h) = go (int_eq (entry x c) (pos 0)) refl
  where
    negative : entry x c <ℤ pos 0
    negative = omega (arith, ints, columns, h)

    go : (t : Bool) → int_eq (entry x c) (pos 0) ≡ t → first_along (c ∷ p) x <ℤ pos 0
    go true e = let z : entry x c ≡ pos 0 = (Decides-int_eq (entry x c) (pos 0)).0 e in absurd (omega (arith, ints, negative, z))
    go false e = rw e negative
first_negative (c ∷ p) x (inr (same, h)) =
    let z : entry x c ≡ pos 0 = omega (arith, ints, columns, same) in
    rw ((Decides-int_eq (entry x c) (pos 0)).1 z) (first_negative p x h)

first_negate : (p : List ℕ) (x : List ℤ) → first_along p (negate x) ≡ neg_ℤ (first_along p x)
first_negate [] x = refl
first_negate (c ∷ p) x = go (int_eq (entry x c) (pos 0)) refl (first_negate p x)
  where
    go : (t : Bool) → int_eq (entry x c) (pos 0) ≡ t → first_along p (negate x) ≡ neg_ℤ (first_along p x) →
        first_along (c ∷ p) (negate x) ≡ neg_ℤ (first_along (c ∷ p) x)
    go true e rest =
        let z : entry (negate x) c ≡ pos 0 = omega (arith, ints, entry-negate x c, (Decides-int_eq (entry x c) (pos 0)).0 e) in
        rw (e, (Decides-int_eq (entry (negate x) c) (pos 0)).1 z) rest
    go false e rest = other (int_eq (entry (negate x) c) (pos 0)) refl
      where
        other : (t : Bool) → int_eq (entry (negate x) c) (pos 0) ≡ t → first_along (c ∷ p) (negate x) ≡ neg_ℤ (first_along (c ∷ p) x)
        other true f =
            let z : entry x c ≡ pos 0 = omega (arith, ints, entry-negate x c, (Decides-int_eq (entry (negate x) c) (pos 0)).0 f) in
            absurd (both_ways (int_eq (entry x c) (pos 0)) e ((Decides-int_eq (entry x c) (pos 0)).1 z))
        other false f = rw (e, f) (entry-negate x c)

le_true : (a b : ℤ) → a ≤ℤ b → int_le a b ≡ true
le_true a b h = grind (arith, ints)

le_false : (a b : ℤ) → b <ℤ a → int_le a b ≡ false
le_false a b h = grind (arith, ints)

pub oriented_as_it_is : (p : List ℕ) (row : List ℤ) → first_along p row ≤ℤ pos 0 → oriented_by p row ≡ row
oriented_as_it_is p row h = rw (le_true (first_along p row) (pos 0) h) refl

pub oriented_as_negative : (p : List ℕ) (row : List ℤ) → pos 0 <ℤ first_along p row → oriented_by p row ≡ negate row
oriented_as_negative p row h = rw (le_false (first_along p row) (pos 0) h) refl

pub oriented_turned : (p : List ℕ) (row move : List ℤ) → IsRowTurned p row move → oriented_by p row ≡ move
oriented_turned p row move t = go t.either
  where
    negative : first_along p move <ℤ pos 0
    negative = first_negative p move t.oriented

    go : (move ≡ row) ⊎ (move ≡ negate row) → oriented_by p row ≡ move
    go (inl e) = oriented_as_it_is p row (omega (arith, ints, ap (first_along p) e, negative)) ∙ sym e
    go (inr e) = oriented_as_negative p row (omega (arith, ints, ap (first_along p) e, first_negate p row, negative)) ∙ sym e

-- rows free what they free as they are turned
pub freed_by_turned : (p : List ℕ) (rows moves : List (List ℤ)) (left : List Bool) → AllZip (IsRowTurned p) rows moves →
    freed_by_rows p rows left ≡ freed_by_rows p moves left
freed_by_turned p [] [] left z = refl
freed_by_turned p [] (m ∷ moves) left z = absurd z
freed_by_turned p (row ∷ rows) [] left z = absurd z
freed_by_turned p (row ∷ rows) (m ∷ moves) left (t, z) =
    freed_by_turned p rows moves (freed_by_row p row left) z
    ∙ ap (λ u. freed_by_rows p moves (freed_by (negate u) (freed_by u left)))
    (oriented_turned p row m t ∙ sym (oriented_turned p m m (record { either = inl refl; oriented = t.oriented })))

-- ---- a test of each column
pub range_all : (p : ℕ → Bool) (a n : ℕ) → ((c : ℕ) → a ≤ c → c < a + n → p c ≡ true) → list_all p (range_with_len a n) ≡ true
range_all p a zero h = refl
range_all p a (suc n) h = rw (h a (omega arith) (omega arith)) (range_all p (a + 1) n (λ c l k. h c (omega (arith, l)) (omega (arith, k))))

pub range_fails : (p : ℕ → Bool) (n c : ℕ) → c < n → p c ≡ false → list_all p (range_with_len 0 n) ≡ false
range_fails p n c l e =
    list_all_at p (range_with_len 0 n) c 0 (omega (arith, l, length-range_with_len 0 n))
    (ap p (get_or-range_with_len 0 n c 0 l ∙ omega arith) ∙ e)

range_at : (p : ℕ → Bool) (n c : ℕ) → c < n → list_all p (range_with_len 0 n) ≡ true → p c ≡ true
range_at p n c l e = go (p c) refl
  where
    go : (t : Bool) → p c ≡ t → p c ≡ true
    go true f = f
    go false f = absurd (both_ways (list_all p (range_with_len 0 n)) (range_fails p n c l f) e)

-- ---- the support of a vector within the unsaturated columns, and taken out of them
within_supported : (x : List ℤ) (left : List Bool) → is_within x left ≡ true → IsSupported (is_left left) x
unfolding is_within
within_supported x left h c e = go (cases_lt c (length x))
  where
    go : (c < length x) ⊎ (length x ≤ c) → entry x c ≡ pos 0
    go (inl l) =
        ⊎_elim (λ t. absurd (both_ways (is_left left c) e t)) (λ t. (Decides-int_eq (entry x c) (pos 0)).0 t)
        (or_cases (is_left left c) (int_eq (entry x c) (pos 0)) (range_at (λ c. is_left left c || int_eq (entry x c) (pos 0))
        (length x) c l h))
    go (inr l) = get_or_past x c (pos 0) l

pub length-without_support : (x : List ℤ) (left : List Bool) → length (without_support x left) ≡ length left
unfolding without_support
length-without_support x left = length-map-range_with_len (λ c. is_left left c && int_eq (entry x c) (pos 0)) 0 (length left)

pub without_support_at : (x : List ℤ) (left : List Bool) (c : ℕ) →
    is_left (without_support x left) c ≡ (is_left left c && int_eq (entry x c) (pos 0))
unfolding without_support
without_support_at x left c = go (cases_lt c (length left))
  where
    go : (c < length left) ⊎ (length left ≤ c) → is_left (without_support x left) c ≡ (is_left left c && int_eq (entry x c) (pos 0))
    go (inl l) = get_or-map-range_with_len (λ c. is_left left c && int_eq (entry x c) (pos 0)) 0 (length left) c c false l (omega arith)
    go (inr l) =
        let e : is_left left c ≡ false = get_or_past left c false l in
        rw e (get_or_past (without_support x left) c false (omega (arith, l, length-without_support x left)))

pub length-freed_by : (u : List ℤ) (left : List Bool) → length (freed_by u left) ≡ length left
length-freed_by u left = go (is_within (negative_part u) left) refl
  where
    go : (t : Bool) → is_within (negative_part u) left ≡ t → length (freed_by u left) ≡ length left
    go true e = rw e (length-without_support (positive_part u) left)
    go false e = rw e refl

pub length-freed_by_row : (p : List ℕ) (row : List ℤ) (left : List Bool) → length (freed_by_row p row left) ≡ length left
length-freed_by_row p row left = length-freed_by (negate (oriented_by p row)) (freed_by (oriented_by p row) left)
    ∙ length-freed_by (oriented_by p row) left

pub length-freed_by_rows : (p : List ℕ) (rows : List (List ℤ)) (left : List Bool) → length (freed_by_rows p rows left) ≡ length left
length-freed_by_rows p [] left = refl
length-freed_by_rows p (row ∷ rows) left = length-freed_by_rows p rows (freed_by_row p row left) ∙ length-freed_by_row p row left

-- ---- the moves stay connected
abbrev with_column : (ℕ → Bool) → ℕ → ℕ → Bool
with_column columns k c = columns c || (c == k)

or_false : (a b : Bool) → (a || b) ≡ false → (a ≡ false) × (b ≡ false)
or_false true b e = absurd (both_ways true e refl)
or_false false b e = (refl, e)

module _ {n : ℕ} {rows : List (List ℤ)} {w : List ℤ} (g : HasGrading (lattice_of n rows w)) (moves : List (List ℤ))
    (a : All (InLattice n rows) moves) where
  module _ (u : List ℤ) (m : Contains moves u ⊎ Contains moves (negate u)) (unsaturated : ℕ → Bool)
      (s : IsSupported unsaturated (negative_part u)) (connected : ConnectedUpTo n rows unsaturated moves) where
    -- a column that is not among the fewer is not unsaturated, or is one of the positive support before the k-th
    support_leaves : (k : ℕ) (fewer : ℕ → Bool) → ((c : ℕ) → fewer c ≡ false → (unsaturated c ≡ false) ⊎ ((c < k) × (pos 1 ≤ℤ entry u c))) →
        ConnectedUpTo n rows fewer moves
    support_leaves zero fewer f =
        connected_in_columns n rows moves unsaturated fewer (λ c l e. ⊎_elim (λ t. t) (λ (k, _). absurd (omega (arith, k))) (f c e))
        connected
    support_leaves (suc k) fewer f = by_lt_z (pos 0) (entry u k) (leaves (support_leaves k)) (stays (support_leaves k))
      where
        stays : ((fewer : ℕ → Bool) → ((c : ℕ) → fewer c ≡ false → (unsaturated c ≡ false) ⊎ ((c < k) × (pos 1 ≤ℤ entry u c))) →
            ConnectedUpTo n rows fewer moves) → entry u k ≤ℤ pos 0 → ConnectedUpTo n rows fewer moves
        stays rest z = rest fewer (λ c e. before c (cases_eq c k) (f c e))
          where
            before : (c : ℕ) → (c ≡ k) ⊎ (c ≡ k → ⊥) → (unsaturated c ≡ false) ⊎ ((c < suc k) × (pos 1 ≤ℤ entry u c)) →
                (unsaturated c ≡ false) ⊎ ((c < k) × (pos 1 ≤ℤ entry u c))
            before c t (inl h) = inl h
            before c (inl t) (inr (l, h)) = absurd (omega (arith, ints, z, h, ap (entry u) t))
            before c (inr t) (inr (l, h)) = inr (omega (arith, l, t), h)

        leaves : ((fewer : ℕ → Bool) → ((c : ℕ) → fewer c ≡ false → (unsaturated c ≡ false) ⊎ ((c < k) × (pos 1 ≤ℤ entry u c))) →
            ConnectedUpTo n rows fewer moves) → pos 0 <ℤ entry u k → ConnectedUpTo n rows fewer moves
        leaves rest h = connected_in_columns n rows moves (without_column (with_column fewer k) k) fewer
            (λ c l e. gone c e (cases_eq c k)) without
          where
            outside : (c : ℕ) → with_column fewer k c ≡ false → (unsaturated c ≡ false) ⊎ ((c < k) × (pos 1 ≤ℤ entry u c))
            outside c e = before (or_false (fewer c) (c == k) e)
              where
                before : (fewer c ≡ false) × ((c == k) ≡ false) → (unsaturated c ≡ false) ⊎ ((c < k) × (pos 1 ≤ℤ entry u c))
                before (e, d) =
                    ⊎_elim inl (λ (l, h). inr (omega (arith, l, λ (t : c ≡ k). both_ways (c == k) d ((Decides-eqb c k).1 t)), h)) (f c e)

            supported : IsSupported (with_column fewer k) (negative_part u)
            supported c e = ⊎_elim (s c) (λ (l, h). entry-negative_part u c ∙ max_zero (neg_ℤ (entry u c)) (omega (arith, ints, h)))
                (outside c e)

            without : ConnectedUpTo n rows (without_column (with_column fewer k) k) moves
            without = free_column_leaves g moves a u m (with_column fewer k) supported k (omega (arith, ints, h))
                (rest (with_column fewer k) outside)

            gone : (c : ℕ) → fewer c ≡ false → (c ≡ k) ⊎ (c ≡ k → ⊥) → without_column (with_column fewer k) k c ≡ false
            gone c e (inl t) = rw ((Decides-eqb c k).1 t) (rw e refl)
            gone c e (inr t) = rw e (no (c == k))
              where
                no : (b : Bool) → (b && not b) ≡ false
                no true = refl
                no false = refl

  freed_connected : (u : List ℤ) → Contains moves u ⊎ Contains moves (negate u) → (left : List Bool) →
      ConnectedUpTo n rows (is_left left) moves → ConnectedUpTo n rows (is_left (freed_by u left)) moves
  freed_connected u m left connected = go (is_within (negative_part u) left) refl
    where
      go : (t : Bool) → is_within (negative_part u) left ≡ t → ConnectedUpTo n rows (is_left (freed_by u left)) moves
      go true e =
          rw e (support_leaves u m (is_left left) (within_supported (negative_part u) left e) connected (length u)
          (is_left (without_support (positive_part u) left))
          (λ c f. gone c (and_cases (is_left left c) (int_eq (entry (positive_part u) c) (pos 0))
          (sym (without_support_at (positive_part u) left c) ∙ f)) (cases_lt c (length u)) (cases_eq_z (entry (positive_part u) c))))
        where
          cases_eq_z : (z : ℤ) → (int_eq z (pos 0) ≡ true) ⊎ (z ≡ pos 0 → ⊥)
          cases_eq_z z = by_test (int_eq z (pos 0)) refl
            where
              by_test : (t : Bool) → int_eq z (pos 0) ≡ t → (int_eq z (pos 0) ≡ true) ⊎ (z ≡ pos 0 → ⊥)
              by_test true f = inl f
              by_test false f = inr (λ k. both_ways (int_eq z (pos 0)) f ((Decides-int_eq z (pos 0)).1 k))

          gone : (c : ℕ) → (is_left left c ≡ false) ⊎ (int_eq (entry (positive_part u) c) (pos 0) ≡ false) → (c < length u)
              ⊎ (length u ≤ c) →
              (int_eq (entry (positive_part u) c) (pos 0) ≡ true) ⊎ (entry (positive_part u) c ≡ pos 0 → ⊥) → (is_left left c ≡ false)
              ⊎ ((c < length u) × (pos 1 ≤ℤ entry u c))
          gone c (inl f) l z = inl f
          gone c (inr f) l (inl z) = absurd (both_ways (int_eq (entry (positive_part u) c) (pos 0)) f z)
          gone c (inr f) (inl l) (inr z) = by_lt_z (pos 0) (entry u c) (λ k. inr (l, omega (arith, ints, k)))
              (λ k. absurd (z (entry-positive_part u c ∙ max_zero (entry u c) k)))
          gone c (inr f) (inr l) (inr z) = absurd (z (get_or_past (positive_part u) c (pos 0) (omega (arith, lengths, l))))
      go false e = rw e connected

  row_freed : (p : List ℕ) (row : List ℤ) → Contains moves row ⊎ Contains moves (negate row) → (left : List Bool) →
      ConnectedUpTo n rows (is_left left) moves → ConnectedUpTo n rows (is_left (freed_by_row p row left)) moves
  row_freed p row m left connected = by_lt_z (pos 0) (first_along p row) turned plain
    where
      both : (u : List ℤ) → Contains moves u ⊎ Contains moves (negate u) → Contains moves (negate u) ⊎ Contains moves (negate (negate u)) →
          ConnectedUpTo n rows (is_left (freed_by (negate u) (freed_by u left))) moves
      both u h k = freed_connected (negate u) k (freed_by u left) (freed_connected u h left connected)

      other : Contains moves (negate row) ⊎ Contains moves (negate (negate row))
      other = ⊎_elim (λ h. inr (subst (Contains moves) (sym (negate-negate row)) h)) inl m

      again : Contains moves (negate (negate row)) ⊎ Contains moves (negate (negate (negate row)))
      again = ⊎_elim (λ h. inl (subst (Contains moves) (sym (negate-negate row)) h))
          (λ h. inr (subst (Contains moves) (sym (negate-negate (negate row))) h)) m

      plain : first_along p row ≤ℤ pos 0 → ConnectedUpTo n rows (is_left (freed_by_row p row left)) moves
      plain h = rw (oriented_as_it_is p row h) (both row m other)

      turned : pos 0 <ℤ first_along p row → ConnectedUpTo n rows (is_left (freed_by_row p row left)) moves
      turned h = rw (oriented_as_negative p row h) (both (negate row) other again)

  rows_freed : (p : List ℕ) (some : List (List ℤ)) → ((row : List ℤ) → Contains some row → Contains moves row ⊎ Contains moves (negate row))
      → (left : List Bool) →
      ConnectedUpTo n rows (is_left left) moves → ConnectedUpTo n rows (is_left (freed_by_rows p some left)) moves
  rows_freed p [] f left connected = connected
  rows_freed p (row ∷ some) f left connected =
      rows_freed p some (λ other h. f other (Contains-there row some other h)) (freed_by_row p row left)
      (row_freed p row (f row (Contains-here row some)) left connected)

  pub moves_freed : (p : List ℕ) (left : List Bool) → ConnectedUpTo n rows (is_left left) moves →
      ConnectedUpTo n rows (is_left (freed_by_rows p moves left)) moves
  moves_freed p left connected = rows_freed p moves (λ row h. inl h) left connected
