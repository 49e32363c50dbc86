-- Lists that are connected up to columns: what keeps them so, and how columns leave.
use Rattle.std.proofs.Common.{◌≡◌, ◌⊎◌, inl, inr, ℕ, zero, suc, ◌*◌, ◌≤◌, ◌<◌, Bool, false, List, [], ◌∷◌, length, set, ℤ, pos, ◌*ℤ◌, neg_ℤ}
use Rattle.std.proofs.Common.{◌≤ℤ◌, All, Contains, arith, ap, refl, sym, ◌∙◌, subst, ⊎_elim}
use Rattle.std.specs.Int.{int_max}
use Rattle.std.proofs.lemmas.Int.{ints, clamps}
use Rattle.std.proofs.lemmas.Bool.{cases_eq, cases_lt, and_cases, not-false, eqb-true}
use Rattle.std.proofs.lemmas.List.{get_or_past}
use Rattle.std.proofs.Common.{length-set}
use Rattle.std.proofs.lemmas.List.Elements.{All-contains}
use borrow.Author.Differences.{up}
use lib.IntN.{*ℤ_comm, *ℤ-zero}
use Rattle.mk_model.specs.Vectors.{entry, zeros, add, subtract, negate, scale, positive_part, negative_part, IsPoint}
use Rattle.mk_model.specs.Lattices.{lattice_of, InLattice, HasGrading}
use Rattle.mk_model.specs.Walks.{Members, Joined}
use Rattle.mk_model.specs.Orders.{IsBelow, IsOriented, lead}
use Rattle.mk_model.specs.Bases.{IsMarkov}
use Rattle.mk_model.specs.Reductions.{Reaches, IsDescent}
use Rattle.mk_model.specs.Reductions.Reaches.{here, go}
use Rattle.mk_model.specs.Pairs.{AreOrientedMoves, EveryPairJoined}
use Rattle.mk_model.specs.Saturation.{IsSupported, without_column, JoinedUpTo, ConnectedUpTo}
use Rattle.mk_model.proofs.Integers.{product_nonnegative, product_at_least}
use Rattle.mk_model.proofs.VectorAlgebra.{lengths, columns, entries, same_vectors, entry-scale, entry-zeros, add-zeros, add_at, subtract_at}
use Rattle.mk_model.proofs.VectorAlgebra.{positive_part_at, negative_part_at, add_assoc, negate-subtract, negate-scale, scale-negate}
use Rattle.mk_model.proofs.VectorAlgebra.{IsPoint-add, IsPoint-positive_part, IsPoint-negative_part}
use Rattle.mk_model.proofs.LatticeLaws.{InLattice-columns}
use Rattle.mk_model.proofs.WalkLaws.{walk_append, walk_back, walk_along}
use Rattle.mk_model.proofs.Translation.{joined_translate, subtract-exchange_last}
use Rattle.mk_model.proofs.Ranks.{down_of_nonnegative}
use Rattle.mk_model.proofs.Confluence.{descent_point, confluence}
use Rattle.mk_model.proofs.NormalForms.{reach_joined}

-- ---- the vector without its entry in one column
abbrev erased : List ℤ → ℕ → List ℤ
erased t i = set t i (pos 0)

erased_there : (t : List ℤ) (i : ℕ) → entry (erased t i) i ≡ pos 0
erased_there [] i = refl
erased_there (a ∷ t) zero = refl
erased_there (a ∷ t) (suc i) = erased_there t i

erased_elsewhere : (t : List ℤ) (i c : ℕ) → (c ≡ i → ⊥) → entry (erased t i) c ≡ entry t c
erased_elsewhere [] i c e = refl
erased_elsewhere (a ∷ t) zero zero e = absurd (e refl)
erased_elsewhere (a ∷ t) zero (suc c) e = refl
erased_elsewhere (a ∷ t) (suc i) zero e = refl
erased_elsewhere (a ∷ t) (suc i) (suc c) e = erased_elsewhere t i c (λ f. e (ap suc f))

IsPoint-erased : {n : ℕ} {t : List ℤ} (i : ℕ) → IsPoint n t → IsPoint n (erased t i)
IsPoint-erased {n} {t} i q = record { columns = length-set t i (pos 0) ∙ q.columns; nonnegative = λ c. cases c (cases_eq c i) }
  where
    cases : (c : ℕ) → (c ≡ i) ⊎ (c ≡ i → ⊥) → pos 0 ≤ℤ entry (erased t i) c
    cases c (inl e) = let f : entry (erased t i) c ≡ pos 0 = ap (λ k. entry (erased t i) k) e ∙ erased_there t i in omega (arith, ints)
    cases c (inr e) = omega (arith, ints, erased_elsewhere t i c e, q.nonnegative c)

-- outside the set without a column: outside the set, or that column
without_column_cases : (unsaturated : ℕ → Bool) (i c : ℕ) → without_column unsaturated i c ≡ false → (unsaturated c ≡ false) ⊎ (c ≡ i)
without_column_cases unsaturated i c e = ⊎_elim inl (λ f. inr (eqb-true c i (not-false _ f))) (and_cases (unsaturated c) _ e)

-- ---- a list that joins what the list joins
pub connected_by_others : (n : ℕ) (rows : List (List ℤ)) (unsaturated : ℕ → Bool) (moves others : List (List ℤ)) →
    ((x y : List ℤ) → Joined n (Members moves) x y → Joined n (Members others) x y) → ConnectedUpTo n rows unsaturated moves →
    ConnectedUpTo n rows unsaturated others
connected_by_others n rows unsaturated moves others f connected x y q r h =
    let j = connected x y q r h in
    record { added = j.added; point = j.point; supported = j.supported; joined = f _ _ j.joined }

-- where no column is left, the moves are a Markov basis
pub markov_from_connected : (n : ℕ) (rows : List (List ℤ)) (unsaturated : ℕ → Bool) (moves : List (List ℤ)) →
    ((c : ℕ) → c < n → unsaturated c ≡ false) → All (InLattice n rows) moves → ConnectedUpTo n rows unsaturated moves →
    IsMarkov n rows moves
markov_from_connected n rows unsaturated moves none a connected =
    record { in_lattice = a; joins = λ x y q r h. joins x y q r (connected x y q r h) }
  where
    joins : (x y : List ℤ) → IsPoint n x → IsPoint n y → JoinedUpTo n unsaturated moves x y → Joined n (Members moves) x y
    joins x y q r j = ends (same x q) (same y r) j.joined
      where
        zero_at : (c : ℕ) → (c < n) ⊎ (n ≤ c) → entry j.added c ≡ pos 0
        zero_at c (inl l) = j.supported c (none c l)
        zero_at c (inr l) = get_or_past j.added c (pos 0) (omega (arith, j.point.columns))

        same : (x : List ℤ) → IsPoint n x → add x j.added ≡ x
        same x q = same_vectors _ _ (omega (arith, lengths, q.columns, j.point.columns))
            (λ c. omega (arith, ints, columns, zero_at c (cases_lt c n)))

        ends : {a b : List ℤ} → a ≡ x → b ≡ y → Joined n (Members moves) a b → Joined n (Members moves) x y
        ends e f walk = rw (e, f) at walk

-- and a Markov basis is connected up to any columns: the vector 0 is added
pub connected_from_markov : (n : ℕ) (rows : List (List ℤ)) (unsaturated : ℕ → Bool) (moves : List (List ℤ)) → IsMarkov n rows moves →
    ConnectedUpTo n rows unsaturated moves
connected_from_markov n rows unsaturated moves markov x y q r h = record {
  added = zeros n;
  point = record { columns = omega (arith, lengths); nonnegative = λ c. omega (arith, ints, columns) };
  supported = λ c f. entry-zeros n c;
  joined = rw (add-zeros x n (omega (arith, q.columns)), add-zeros y n (omega (arith, r.columns))) (markov.joins x y q r h);
}

-- ---- up to more columns
pub connected_in_columns : (n : ℕ) (rows moves : List (List ℤ)) (unsaturated wider : ℕ → Bool) →
    ((c : ℕ) → c < n → wider c ≡ false → unsaturated c ≡ false) → ConnectedUpTo n rows unsaturated moves → ConnectedUpTo n rows wider moves
connected_in_columns n rows moves unsaturated wider f connected x y q r h = go (connected x y q r h)
  where
    go : JoinedUpTo n unsaturated moves x y → JoinedUpTo n wider moves x y
    go j = record { added = j.added; point = j.point; supported = λ c e. support c e (cases_lt c n); joined = j.joined }
      where
        support : (c : ℕ) → wider c ≡ false → (c < n) ⊎ (n ≤ c) → entry j.added c ≡ pos 0
        support c e (inl l) = j.supported c (f c l e)
        support c e (inr l) = get_or_past j.added c (pos 0) (omega (arith, j.point.columns))

-- ---- a column leaves after completion for a priority list that begins with it
module _ {n : ℕ} {rows : List (List ℤ)} {w : List ℤ} {i : ℕ} {p : List ℕ} {moves : List (List ℤ)}
    (o : AreOrientedMoves (lattice_of n rows w) (i ∷ p) moves) where
  -- leads have no entry in the column
  lead_free : (v : List ℤ) → Contains moves v → entry (lead v) i ≤ℤ pos 0
  lead_free v h = simp entries (clamp (entry v i) (simp entries at (below (All-contains (IsOriented (i ∷ p)) moves v o.oriented h))))
    where
      below : IsBelow (i ∷ p) (negative_part v) (positive_part v) → entry (positive_part v) i ≤ℤ entry (negative_part v) i
      below (inl k) = omega (arith, ints)
      below (inr (e, k)) = omega (arith, ints)

      clamp : (a : ℤ) → int_max a (pos 0) ≤ℤ int_max (neg_ℤ a) (pos 0) → int_max a (pos 0) ≤ℤ pos 0
      clamp a k = omega (arith, ints, clamps)

  -- steps down with a vector added that has entries in that column alone, are steps down without it
  module _ (e : List ℤ) (columns_e : length e ≡ n) (only : (c : ℕ) → (c ≡ i → ⊥) → entry e c ≡ pos 0) where
    record Without (u z : List ℤ) : Type 0 where
      pub end : List ℤ
      pub point : IsPoint n end
      pub with : z ≡ add end e
      pub reach : Reaches (IsDescent moves) u end

    steps_without : {x z : List ℤ} (u : List ℤ) → IsPoint n u → x ≡ add u e → Reaches (IsDescent moves) x z → Without u z
    steps_without u q f here = record { end = u; point = q; with = f; reach = here }
    steps_without u q f (go {x = x} {y = y} d r) =
        let rest = steps_without (subtract u d.move) (descent_point o q step)
        (d.below ∙ ap (λ v. subtract v d.move) f ∙ sym (subtract-exchange_last u d.move e)) r in
        record { end = rest.end; point = rest.point; with = rest.with; reach = go step rest.reach }
      where
        cases : (c : ℕ) → (c ≡ i) ⊎ (c ≡ i → ⊥) → entry (lead d.move) c ≤ℤ entry u c
        cases c (inl g) = subst (λ c. entry (lead d.move) c ≤ℤ entry u c) (sym g)
            (omega (arith, ints, lead_free d.move d.member, q.nonnegative i))
        cases c (inr g) = omega (arith, ints, columns, only c g, d.divides.entries c, ap (λ v. entry v c) f)

        step : IsDescent moves u (subtract u d.move)
        step = record { move = d.move; member = d.member; below = refl; divides = record { entries = λ c. cases c (cases_eq c i) } }

    same_without : (u v : List ℤ) → IsPoint n u → IsPoint n v → add u e ≡ add v e → u ≡ v
    same_without u v q r f = same_vectors u v (q.columns ∙ sym r.columns) (λ c. omega (arith, ints, columns, ap (λ z. entry z c) f))

    -- so two vectors that are joined with it added, are joined without it
    joined_without : EveryPairJoined n (i ∷ p) moves → (u v : List ℤ) → IsPoint n u → IsPoint n v →
        Joined n (Members moves) (add u e) (add v e) → Joined n (Members moves) u v
    joined_without pairs u v q r j =
        let m = confluence o pairs (add u e) (add v e) j in
        let a = steps_without u q refl m.from_first in
        let b = steps_without v r refl m.from_second in
        let same : b.end ≡ a.end = same_without b.end a.end b.point a.point (sym b.with ∙ a.with) in
        walk_append (reach_joined o q a.reach) (walk_back (subst (Joined n (Members moves) v) same (reach_joined o r b.reach)))

  pub column_leaves : EveryPairJoined n (i ∷ p) moves → (unsaturated : ℕ → Bool) → ConnectedUpTo n rows unsaturated moves →
      ConnectedUpTo n rows (without_column unsaturated i) moves
  column_leaves pairs unsaturated connected x y q r h = split (connected x y q r h)
    where
      split : JoinedUpTo n unsaturated moves x y → JoinedUpTo n (without_column unsaturated i) moves x y
      split j = record {
        added = rest;
        point = rest_point;
        supported = λ c f. support c (cases_eq c i)
            (without_column_cases unsaturated i c f);
        joined = joined;
      }
        where
          rest : List ℤ
          rest = erased j.added i

          rest_point : IsPoint n rest
          rest_point = IsPoint-erased i j.point

          e : List ℤ
          e = subtract j.added rest

          only : (c : ℕ) → (c ≡ i → ⊥) → entry e c ≡ pos 0
          only c f = omega (arith, ints, columns, erased_elsewhere j.added i c f)

          support : (c : ℕ) → (c ≡ i) ⊎ (c ≡ i → ⊥) → (unsaturated c ≡ false) ⊎ (c ≡ i) → entry rest c ≡ pos 0
          support c (inl g) f = ap (λ k. entry rest k) g ∙ erased_there j.added i
          support c (inr g) (inl f) = erased_elsewhere j.added i c g ∙ j.supported c f
          support c (inr g) (inr f) = absurd (g f)

          whole : (x : List ℤ) → IsPoint n x → add x j.added ≡ add (add x rest) e
          whole x q = same_vectors _ _ (omega (arith, lengths, q.columns, j.point.columns, rest_point.columns))
              (λ c. omega (arith, ints, columns))

          joined : Joined n (Members moves) (add x rest) (add y rest)
          joined =
              joined_without e (omega (arith, lengths, j.point.columns, rest_point.columns)) only pairs (add x rest) (add y rest)
              (IsPoint-add q rest_point) (IsPoint-add r rest_point)
              (rw (whole x q, whole y r) at j.joined)

-- ---- a free column leaves
IsPoint-scale : {n : ℕ} {x : List ℤ} (k : ℕ) → IsPoint n x → IsPoint n (scale (pos k) x)
IsPoint-scale {n} {x} k q = record {
  columns = omega (arith, lengths, q.columns);
  nonnegative = λ c. simp entries (product_nonnegative (pos k) (entry x c) (omega (arith, ints)) (q.nonnegative c));
}

times_zero : (k : ℕ) (v : List ℤ) (c : ℕ) → entry v c ≡ pos 0 → entry (scale (pos k) v) c ≡ pos 0
times_zero k v c e = entry-scale (pos k) v c ∙ ap (λ a. pos k *ℤ a) e ∙ *ℤ-zero (pos k)

regroup : (x t r s : List ℤ) → length x ≡ length t → length r ≡ length t → length s ≡ length t →
    add (add x t) (subtract (add r s) t) ≡ add (add x r) s
regroup x t r s a b c = same_vectors _ _ (omega (arith, lengths)) (λ c. omega (arith, ints, columns))

module _ {n : ℕ} {rows : List (List ℤ)} {w : List ℤ} (g : HasGrading (lattice_of n rows w)) (moves : List (List ℤ))
    (in_lattice : All (InLattice n rows) moves) where
  member_length : (m : List ℤ) → Contains moves m → length m ≡ n
  member_length m h = InLattice-columns n rows m g.rows_columns (All-contains (InLattice n rows) moves m in_lattice h)

  signed_length : (u : List ℤ) → Contains moves u ⊎ Contains moves (negate u) → length u ≡ n
  signed_length u (inl h) = member_length u h
  signed_length u (inr h) = omega (arith, lengths, member_length (negate u) h)

  -- so many times the positive part, joined to so many times the negative part
  parts_joined : (u : List ℤ) → Contains moves u ⊎ Contains moves (negate u) → (k : ℕ) (z : List ℤ) → IsPoint n z →
      Joined n (Members moves) (add z (scale (pos k) (positive_part u))) (add z (scale (pos k) (negative_part u)))
  parts_joined u m k z q = cases m
    where
      l : length u ≡ n
      l = signed_length u m

      a : List ℤ
      a = add z (scale (pos k) (positive_part u))

      b : List ℤ
      b = add z (scale (pos k) (negative_part u))

      a_point : IsPoint n a
      a_point = IsPoint-add q (IsPoint-scale k (IsPoint-positive_part u l))

      b_point : IsPoint n b
      b_point = IsPoint-add q (IsPoint-scale k (IsPoint-negative_part u l))

      difference : subtract a b ≡ scale (pos k) u
      difference = same_vectors _ _ (omega (arith, lengths, q.columns, l))
          (λ c. let (e, f) = positive_part_at u c in let (d, f') = negative_part_at u c in
          omega (arith, ints, columns, ap (λ z. k * z) e, ap (λ z. k * z) f, ap (λ z. k * z) d, ap (λ z. k * z) f'))

      back : subtract b a ≡ scale (pos k) (negate u)
      back = sym (negate-subtract a b) ∙ ap negate difference ∙ negate-scale (pos k) u ∙ sym (scale-negate (pos k) u)

      cases : Contains moves u ⊎ Contains moves (negate u) → Joined n (Members moves) a b
      cases (inl h) = walk_along u h (pos k) a b a_point b_point (omega (arith, l)) difference
      cases (inr h) = walk_back (walk_along (negate u) h (pos k) b a b_point a_point (omega (arith, lengths, l)) back)

  pub free_column_leaves : (u : List ℤ) → Contains moves u ⊎ Contains moves (negate u) → (unsaturated : ℕ → Bool) →
      IsSupported unsaturated (negative_part u) → (i : ℕ) → pos 1 ≤ℤ entry u i → ConnectedUpTo n rows unsaturated moves →
      ConnectedUpTo n rows (without_column unsaturated i) moves
  free_column_leaves u m unsaturated s i l connected x y q r h = turn (connected x y q r h)
    where
      turn : JoinedUpTo n unsaturated moves x y → JoinedUpTo n (without_column unsaturated i) moves x y
      turn j = record {
        added = added;
        point = added_point;
        supported = λ c f. support c (cases_eq c i)
            (without_column_cases unsaturated i c f);
        joined = joined;
      }
        where
          tail_zero : entry (negative_part u) i ≡ pos 0
          tail_zero = omega (arith, ints, columns, l, down_of_nonnegative (entry u i) (omega (arith, ints)))

          k : ℕ
          k = up (entry j.added i)

          rest : List ℤ
          rest = erased j.added i

          rest_point : IsPoint n rest
          rest_point = IsPoint-erased i j.point

          added : List ℤ
          added = add rest (scale (pos k) (negative_part u))

          added_point : IsPoint n added
          added_point = IsPoint-add rest_point (IsPoint-scale k (IsPoint-negative_part u (signed_length u m)))

          support : (c : ℕ) → (c ≡ i) ⊎ (c ≡ i → ⊥) → (unsaturated c ≡ false) ⊎ (c ≡ i) → entry added c ≡ pos 0
          support c (inl e) f = subst (λ c. entry added c ≡ pos 0) (sym e)
              (omega (
                arith,
                ints,
                add_at rest (scale (pos k) (negative_part u)) i,
                erased_there j.added i,
                times_zero k (negative_part u) i tail_zero,
              ))
          support c (inr e) (inl f) = omega (
            arith,
            ints,
            add_at rest (scale (pos k) (negative_part u)) c,
            erased_elsewhere j.added i c e,
            j.supported c f,
            times_zero k (negative_part u) c (s c f),
          )
          support c (inr e) (inr f) = absurd (e f)

          taken : List ℤ
          taken = scale (pos k) (positive_part u)

          taken_point : IsPoint n taken
          taken_point = IsPoint-scale k (IsPoint-positive_part u (signed_length u m))

          enough : entry j.added i ≤ℤ entry taken i
          enough =
              let e : pos k ≤ℤ (entry (positive_part u) i *ℤ pos k) = product_at_least (entry (positive_part u) i) (pos k)
              (omega (arith, ints, columns, l)) (omega (arith, ints)) in
              omega (
                arith,
                ints,
                e,
                *ℤ_comm (entry (positive_part u) i) (pos k),
                entry-scale (pos k) (positive_part u) i,
                down_of_nonnegative (entry j.added i) (j.point.nonnegative i),
              )

          more : List ℤ
          more = subtract (add rest taken) j.added

          more_point : IsPoint n more
          more_point = record {
            columns = omega (arith, lengths, rest_point.columns, taken_point.columns, j.point.columns);
            nonnegative = λ c. cases c (cases_eq c i);
          }
            where
              cases : (c : ℕ) → (c ≡ i) ⊎ (c ≡ i → ⊥) → pos 0 ≤ℤ entry more c
              cases c (inl e) = subst (λ c. pos 0 ≤ℤ entry more c) (sym e)
                  (omega (arith, ints, subtract_at (add rest taken) j.added i, add_at rest taken i, erased_there j.added i, enough))
              cases c (inr e) = omega (
                arith,
                ints,
                subtract_at (add rest taken) j.added c,
                add_at rest taken c,
                erased_elsewhere j.added i c e,
                taken_point.nonnegative c,
              )

          start : (x : List ℤ) → IsPoint n x → Joined n (Members moves) (add x added) (add (add x rest) taken)
          start x q = walk_back (rw (add_assoc x rest (scale (pos k) (negative_part u))) at
              (parts_joined u m k (add x rest) (IsPoint-add q rest_point)))

          whole : (x : List ℤ) → IsPoint n x → add (add x j.added) more ≡ add (add x rest) taken
          whole x q = regroup x j.added rest taken (q.columns ∙ sym j.point.columns) (rest_point.columns ∙ sym j.point.columns)
              (taken_point.columns ∙ sym j.point.columns)

          joined : Joined n (Members moves) (add x added) (add y added)
          joined = walk_append (start x q) (walk_append (rw (whole x q, whole y r) at (joined_translate more more_point j.joined))
              (walk_back (start y r)))
