-- A lattice of at most one nonzero row gives no cause to stop: there is no pair, and no tail that is reduced.
use Rattle.std.proofs.Common.{◌≡◌, ◌⊎◌, inl, inr, ℕ, zero, suc, ◌≤◌, ◌<◌, ◌*◌, true, false, List, [], ◌∷◌, length, ℤ, pos, negsuc, neg_ℤ}
use Rattle.std.proofs.Common.{◌*ℤ◌, ◌≤ℤ◌, ◌<ℤ◌, All, arith, ap, refl, sym, ◌∙◌, subst}
use Rattle.std.specs.Int.{int_max}
use Rattle.std.proofs.lemmas.Nat.{mul-le}
use Rattle.std.specs.List.{list_all, AllZip}
use Rattle.std.specs.Ordering.{int_eq}
use Rattle.std.proofs.lemmas.Int.{ints}
use Rattle.std.proofs.lemmas.Bool.{cases_Bool, cases_lt, both_ways}
use Rattle.std.proofs.lemmas.Bool.Decides.{Decides-by_and, Decides-int_eq}
use Rattle.std.proofs.lemmas.List.{get_or_default, get_or_past}
use Rattle.std.proofs.lemmas.List.Elements.{All-cons, All-head, All-tail, All-nil}
use Rattle.mk_model.specs.Books.{PlainPhase, PlainBook, PlainStop, IsPhaseAlong, Saturate, SaturateLattice, StandsAt, HasStopped, state_in}
use Rattle.mk_model.specs.Books.PlainPlace.{AtPair, AtTail, AtWeight}
use Rattle.mk_model.specs.Books.PlainStop.{Overflow, Budget, Full}
use Rattle.mk_model.specs.CoreStates.{Pair, Settle, OverflowStop, move_at, start_of, IsPairOf}
use Rattle.mk_model.specs.Lattices.{Lattice, InLattice, HasGrading, is_zero, nonzero_rows}
use Rattle.mk_model.specs.Legal.{Replays}
use Rattle.mk_model.specs.Orders.{standard, IsOriented, IsRowTurned, lead, ComesBefore}
use Rattle.mk_model.specs.Overflows.{IsTailOverflow}
use Rattle.mk_model.specs.ReducedBases.{IsLeast, IsReducedMove, IsReducedBasis}
use Rattle.mk_model.specs.Reductions.{Divides, TailReduct}
use Rattle.mk_model.specs.Reductions.Reaches.{here, go}
use Rattle.mk_model.specs.Saturation.{drop_redundant}
use Rattle.mk_model.specs.Vectors.{entry, zeros, negate, scale, positive_part, negative_part, weight}
use Rattle.mk_model.proofs.Integers.{product_at_least, clamped, max_zero}
use Rattle.mk_model.proofs.LatticeLaws.{nonzero_rows-skip, nonzero_rows-keep, combination_of_no_row, combination_of_one_row}
use Rattle.mk_model.proofs.Lists.{Contains-none, Contains-cases}
use Rattle.mk_model.proofs.MoveLaws.{IsMove-lead, IsMove-lead_weight}
use Rattle.mk_model.proofs.OrderLaws.{IsOriented-not_zero, IsOriented-not_negated, IsOriented-scale_back, ComesBefore-irreflexive}
use Rattle.mk_model.proofs.ReducedLaws.{reduced_move, reduced_ends}
use Rattle.mk_model.proofs.VectorAlgebra.{columns, lengths, entry-scale, entry-positive_part, entry-negative_part, only_zeros, weight-zeros}
use Rattle.mk_model.proofs.VectorAlgebra.{weight-negate, weight-parts, entry_within_weight, scale-negsuc, scale-zero, positive_part-scale}

-- ---- lists of at most one row
-- a row of so many columns with product 0, not all of whose entries are 0
pub record IsGradedRow (n : ℕ) (w row : List ℤ) : Type 0 where
  pub columns : length row ≡ n
  pub product : weight w row ≡ pos 0
  pub not_zero : ¬ ((c : ℕ) → entry row c ≡ pos 0)

abbrev IsOneRow : ℕ → List ℤ → List (List ℤ) → Type 0
IsOneRow n w [] = Unit {0}
IsOneRow n w (row ∷ []) = IsGradedRow n w row
IsOneRow n w (row ∷ other ∷ rows) = ⊥

one_row_few : (n : ℕ) (w : List ℤ) (rows : List (List ℤ)) → IsOneRow n w rows → length rows ≤ 1
one_row_few n w [] h = omega arith
one_row_few n w (row ∷ []) h = omega arith
one_row_few n w (row ∷ other ∷ rows) h = absurd h

-- so there is no pair of it
no_pair : (n : ℕ) (w : List ℤ) (rows : List (List ℤ)) (pair : Pair) → IsOneRow n w rows → IsPairOf rows pair → ⊥
no_pair n w rows pair h p = omega (arith, one_row_few n w rows h, p.ordered, p.within)

-- ---- the nonzero rows of a lattice
not_all_zero : (row : List ℤ) → is_zero row ≡ false → ((c : ℕ) → entry row c ≡ pos 0) → ⊥
not_all_zero row e z = both_ways (is_zero row) e ((Decides-by_and (λ a. int_eq a (pos 0)) (λ a. a ≡ pos 0)
    (list_all (λ a. int_eq a (pos 0))) (λ a. Decides-int_eq a (pos 0)) refl (λ _ _. refl) row).1
    (λ c d l. get_or_default row c d (pos 0) l ∙ z c))

rows_are_graded : (n : ℕ) (w : List ℤ) (rows : List (List ℤ)) → All (λ row. length row ≡ n) rows → All (λ row. weight w row ≡ pos 0) rows →
    All (IsGradedRow n w) (nonzero_rows rows)
rows_are_graded n w [] a b = All-nil (IsGradedRow n w)
rows_are_graded n w (row ∷ rows) a b =
    cases (cases_Bool (is_zero row)) (rows_are_graded n w rows (All-tail (λ row. length row ≡ n) row rows a)
    (All-tail (λ row. weight w row ≡ pos 0) row rows b))
  where
    cases : (is_zero row ≡ true) ⊎ (is_zero row ≡ false) → All (IsGradedRow n w) (nonzero_rows rows) →
        All (IsGradedRow n w) (nonzero_rows (row ∷ rows))
    cases (inl e) rest = subst (All (IsGradedRow n w)) (sym (nonzero_rows-skip row rows e)) rest
    cases (inr e) rest = subst (All (IsGradedRow n w)) (sym (nonzero_rows-keep row rows e))
        (All-cons (IsGradedRow n w) row (nonzero_rows rows) (record {
          columns = All-head (λ row. length row ≡ n) row rows a;
          product = All-head (λ row. weight w row ≡ pos 0) row rows b;
          not_zero = not_all_zero row e;
        }) rest)

one_row : (n : ℕ) (w : List ℤ) (rows : List (List ℤ)) → All (IsGradedRow n w) rows → length rows ≤ 1 → IsOneRow n w rows
one_row n w [] a l = tt
one_row n w (row ∷ []) a l = All-head (IsGradedRow n w) row [] a
one_row n w (row ∷ other ∷ rows) a l = absurd (omega (arith, l))

-- ---- phases of one row
turned_row : (n : ℕ) (w : List ℤ) (list : List ℕ) (row move : List ℤ) → IsGradedRow n w row → IsRowTurned list row move →
    IsGradedRow n w move
turned_row n w list row move h t = cases t.either
  where
    cases : (move ≡ row) ⊎ (move ≡ negate row) → IsGradedRow n w move
    cases (inl e) = subst (IsGradedRow n w) (sym e) h
    cases (inr e) = subst (IsGradedRow n w) (sym e) (record {
      columns = omega (arith, lengths, h.columns);
      product = weight-negate w row ∙ ap neg_ℤ h.product;
      not_zero = λ z. h.not_zero (λ c. omega (arith, ints, columns, z c));
    })

turned_rows : (n : ℕ) (w : List ℤ) (list : List ℕ) (rows moves : List (List ℤ)) → IsOneRow n w rows → AllZip (IsRowTurned list) rows moves →
    IsOneRow n w moves
turned_rows n w list [] [] h z = tt
turned_rows n w list [] (move ∷ moves) h z = absurd z
turned_rows n w list (row ∷ []) [] h z = absurd z
turned_rows n w list (row ∷ []) (move ∷ []) h (t, z) = turned_row n w list row move h t
turned_rows n w list (row ∷ []) (move ∷ other ∷ moves) h (t, z) = absurd z
turned_rows n w list (row ∷ other ∷ rows) moves h z = absurd h

nothing_replayed : (n : ℕ) (w : List ℤ) (list : List ℕ) (limit : ℕ) (start basis : List (List ℤ)) (journal : List Settle) →
    IsOneRow n w start → Replays n list limit [] start journal basis → basis ≡ start
nothing_replayed n w list limit start basis [] h e = e
nothing_replayed n w list limit start basis (first ∷ journal) h (after, next, more) = absurd (no_pair n w start first.pair h next.of_moves)

phase_of_one_row : (n : ℕ) (w : List ℤ) (moves : List (List ℤ)) (list : List ℕ) (phase : PlainPhase) → IsOneRow n w moves →
    IsPhaseAlong n moves list phase → IsOneRow n w phase.basis
phase_of_one_row n w moves list phase h along =
    let start = turned_rows n w list moves (start_of (state_in phase)) h along.begun in
    subst (IsOneRow n w) (sym (nothing_replayed n w list 65536 (start_of (state_in phase))
    phase.basis phase.journal start along.legal.replays)) start

dropped_one_row : (n : ℕ) (w : List ℤ) (moves : List (List ℤ)) → IsOneRow n w moves → IsOneRow n w (drop_redundant moves)
dropped_one_row n w [] h = tt
dropped_one_row n w (row ∷ []) h = h
dropped_one_row n w (row ∷ other ∷ rows) h = absurd h

saturate_one_row : (n : ℕ) (w : List ℤ) (moves : List (List ℤ)) (lists : List (List ℕ)) (phases : List PlainPhase) (rest : List (List ℤ))
    (left : List (List ℕ)) →
    IsOneRow n w moves → Saturate n moves lists phases rest left → IsOneRow n w rest
saturate_one_row n w moves lists [] rest left h (e, _) = subst (IsOneRow n w) (sym e) h
saturate_one_row n w moves [] (phase ∷ phases) rest left h s = absurd s
saturate_one_row n w moves (list ∷ lists) (phase ∷ phases) rest left h (along, ended, s) =
    saturate_one_row n w (drop_redundant phase.basis) lists phases rest left
    (dropped_one_row n w phase.basis (phase_of_one_row n w moves list phase h along)) s

-- ---- the tail of one row
-- so many times a positive number is more than 0
times_positive : (count : ℕ) (a : ℤ) → pos 0 <ℤ a → (pos (suc count) *ℤ a) ≤ℤ pos 0 → ⊥
times_positive count (pos zero) l k = omega (arith, ints, l)
times_positive count (pos (suc a)) l k = omega (
  arith,
  ints,
  k,
  product_at_least (pos (suc count)) (pos (suc a)) (omega (arith, ints)) (omega (arith, ints)),
)
times_positive count (negsuc a) l k = omega (arith, ints, l)

cases_positive : (a : ℤ) → (pos 0 <ℤ a) ⊎ (a ≤ℤ pos 0)
cases_positive (pos zero) = inr (omega (arith, ints))
cases_positive (pos (suc a)) = inl (omega (arith, ints))
cases_positive (negsuc a) = inr (omega (arith, ints))

lesser_product : (i j a : ℕ) → i < j → suc i * suc a < suc j * suc a
lesser_product i j a l = grind (arith)

max_positive : (a : ℤ) → pos 0 <ℤ a → int_max a (pos 0) ≡ a
max_positive (pos a) l = omega (arith, ints, clamped (pos a))
max_positive (negsuc a) l = absurd (omega (arith, ints, l))

max_negative : (a : ℤ) → pos 0 <ℤ a → int_max (neg_ℤ a) (pos 0) ≡ pos 0
max_negative (pos zero) l = omega (arith, ints, l)
max_negative (pos (suc a)) l = omega (arith, ints, clamped (negsuc a))
max_negative (negsuc a) l = absurd (omega (arith, ints, l))

zero_from_both : (a : ℤ) → a ≤ℤ pos 0 → int_max (neg_ℤ a) (pos 0) ≤ℤ pos 0 → a ≡ pos 0
zero_from_both (pos zero) l k = refl
zero_from_both (pos (suc a)) l k = absurd (omega (arith, ints, l))
zero_from_both (negsuc a) l k = absurd (omega (arith, ints, k, clamped (pos (suc a))))

-- of a number that isn't negative more times are more
lesser_times : (i j : ℕ) (a : ℤ) → i < j → pos 0 ≤ℤ a → (pos (suc i) *ℤ a) ≤ℤ (pos (suc j) *ℤ a)
lesser_times i j (pos a) l p = omega (arith, ints, mul-le (suc i) a (suc j) a (omega (arith, l)) (omega arith))
lesser_times i j (negsuc a) l p = absurd (omega (arith, ints, p))

none_times : (i j : ℕ) (a : ℤ) → i < j → pos 0 ≤ℤ a → pos (suc i) *ℤ a ≡ pos (suc j) *ℤ a → pos (suc i) *ℤ a ≡ pos 0
none_times i j (pos zero) l p e = omega (arith, ints)
none_times i j (pos (suc a)) l p e = absurd (omega (arith, ints, e, lesser_product i j a l))
none_times i j (negsuc a) l p e = absurd (omega (arith, ints, p))

module _ (lattice : Lattice) (g : HasGrading lattice) where
  abbrev n : ℕ
  n = lattice.columns

  abbrev w : List ℤ
  w = lattice.grading

  -- the lead of a graded row divides its tail no times
  lead_not_in_tail : (row : List ℤ) (count : ℕ) → IsGradedRow n w row → 1 ≤ count →
      Divides (scale (pos count) (lead row)) (negative_part row) → ⊥
  lead_not_in_tail row zero h l d = absurd (omega (arith, l))
  lead_not_in_tail row (suc count) h l d = h.not_zero all_zero
    where
      no_lead : (c : ℕ) → entry row c ≤ℤ pos 0
      no_lead c = go (cases_positive (entry row c))
        where
          go : (pos 0 <ℤ entry row c) ⊎ (entry row c ≤ℤ pos 0) → entry row c ≤ℤ pos 0
          go (inl p) =
              let same = entry-scale (pos (suc count)) (lead row) c ∙ ap (λ a. pos (suc count) *ℤ a)
              (entry-positive_part row c ∙ max_positive (entry row c) p) in
              let none = entry-negative_part row c ∙ max_negative (entry row c) p in
              let k = subst (λ a. a ≤ℤ pos 0) same (subst (λ a. entry (scale (pos (suc count)) (lead row)) c ≤ℤ a) none (d.entries c)) in
              absurd (times_positive count (entry row c) p k)
          go (inr p) = p

      lead_zero : weight w (positive_part row) ≡ pos 0
      lead_zero = ap (weight w) (only_zeros (positive_part row) (λ c. entry-positive_part row c ∙ max_zero (entry row c) (no_lead c)))
          ∙ weight-zeros w (length (positive_part row))

      tail_zero : weight w (negative_part row) ≡ pos 0
      tail_zero = omega (arith, ints, lead_zero, weight-parts w row, h.product)

      all_zero : (c : ℕ) → entry row c ≡ pos 0
      all_zero c = go (cases_lt c (length row))
        where
          go : (c < length row) ⊎ (length row ≤ c) → entry row c ≡ pos 0
          go (inl l) =
              let within = entry_within_weight w (negative_part row) c (λ c k. g.positive c (omega (arith, k, g.columns)))
              (λ c. omega (arith, ints, columns)) (omega (arith, l, h.columns, g.columns)) in
              zero_from_both (entry row c) (no_lead c) (subst (λ a. a ≤ℤ pos 0) (entry-negative_part row c)
              (subst (λ a. entry (negative_part row) c ≤ℤ a) tail_zero within))
          go (inr l) = get_or_past row c (pos 0) l

  no_tail_step : (moves : List (List ℤ)) (index : ℕ) (stop : OverflowStop) → IsOneRow n w moves → IsTailOverflow moves index stop → ⊥
  no_tail_step [] index stop h t = omega (arith, t.of_list)
  no_tail_step (row ∷ other ∷ rows) index stop h t = h
  no_tail_step (row ∷ []) (suc index) stop h t = omega (arith, t.of_list)
  no_tail_step (row ∷ []) zero stop h t = go_on t.from t.reached t.divides
    where
      at_place : move_at (row ∷ []) t.place ≡ row
      at_place = let first : t.place ≡ 0 = omega (arith, t.within) in ap (move_at (row ∷ [])) first

      go_on : (from : List ℤ) → TailReduct (row ∷ []) row from → Divides (scale (pos t.count) (lead (move_at (row ∷ []) t.place)))
          (negative_part from) → ⊥
      go_on from here d = lead_not_in_tail row t.count h t.some (subst
          (λ m. Divides (scale (pos t.count) (lead m)) (negative_part row)) at_place d)
      go_on from (go step more) d =
          elim (Contains-cases row [] step.move step.member) [
            | inl e ↦ lead_not_in_tail row step.times h step.some (subst
                (λ m. Divides (scale (pos step.times) (lead m)) (negative_part row)) (sym e) step.divides)
            | inr c ↦ Contains-none step.move c
          ]

  -- ---- two moves of the reduced basis
  -- the multiples of one vector, by different numbers
  module _ (m a b : List ℤ) (i j : ℕ) (of_a : a ≡ scale (pos (suc i)) m) (of_b : b ≡ scale (pos (suc j)) m) (less : i < j) where
    lead_of_a : (c : ℕ) → entry (lead a) c ≡ pos (suc i) *ℤ entry (lead m) c
    lead_of_a c = ap (λ x. entry (lead x) c) of_a ∙ ap (λ x. entry x c) (positive_part-scale (suc i) m)
        ∙ entry-scale (pos (suc i)) (lead m) c

    lead_of_b : (c : ℕ) → entry (lead b) c ≡ pos (suc j) *ℤ entry (lead m) c
    lead_of_b c = ap (λ x. entry (lead x) c) of_b ∙ ap (λ x. entry x c) (positive_part-scale (suc j) m)
        ∙ entry-scale (pos (suc j)) (lead m) c

    pub lesser_divides : Divides (lead a) (lead b)
    lesser_divides = record {
      entries = λ c. rw (lead_of_a c, lead_of_b c)
          (lesser_times i j (entry (lead m) c) less (omega (arith, ints, columns)));
    }

    pub lesser_differs : (pos 1 ≤ℤ weight w (lead a)) → lead a ≡ lead b → ⊥
    lesser_differs heavy e = omega (arith, ints, heavy, light)
      where
        each : (c : ℕ) → entry (lead a) c ≡ pos 0
        each c = lead_of_a c ∙ none_times i j (entry (lead m) c) less (omega (arith, ints, columns))
            (sym (lead_of_a c) ∙ ap (λ x. entry x c) e ∙ lead_of_b c)

        light : weight w (lead a) ≡ pos 0
        light = ap (weight w) (only_zeros (lead a) each) ∙ weight-zeros w (length (lead a))

  -- of two reduced moves neither lead divides the other, unless they are equal
  reduced_apart : (a b : List ℤ) → IsReducedMove n lattice.rows a → IsReducedMove n lattice.rows b → Divides (lead a) (lead b) →
      (lead a ≡ lead b → ⊥) → ⊥
  reduced_apart a b r s d apart =
      let from_a = (reduced_ends g r).0 in
      let from_b = (reduced_ends g s).0 in
      r.not_least (subst (IsLeast n lattice.rows) (sym from_a)
      (s.divisors (lead a) (IsMove-lead g (reduced_move g r)) (subst (Divides (lead a)) (sym from_b) d) (λ e. apart (e ∙ from_b))))

  multiples_of : (m a b : List ℤ) (i j : ℕ) → a ≡ scale (pos (suc i)) m → b ≡ scale (pos (suc j)) m → IsReducedMove n lattice.rows a →
      IsReducedMove n lattice.rows b → ComesBefore n w a b → ⊥
  multiples_of m a b i j e f r s before = go_by (cases_lt i j) (cases_lt j i)
    where
      go_by : (i < j) ⊎ (j ≤ i) → (j < i) ⊎ (i ≤ j) → ⊥
      go_by (inl l) k = reduced_apart a b r s (lesser_divides m a b i j e f l)
          (lesser_differs m a b i j e f l (IsMove-lead_weight g (reduced_move g r)))
      go_by (inr l) (inl k) = reduced_apart b a s r (lesser_divides m b a j i f e k)
          (lesser_differs m b a j i f e k (IsMove-lead_weight g (reduced_move g s)))
      go_by (inr l) (inr k) =
          let same : i ≡ j = omega (arith, l, k) in
          ComesBefore-irreflexive n w a (subst (ComesBefore n w a) (f ∙ ap (λ k. scale (pos (suc k)) m) (sym same) ∙ sym e) before)

  oriented_by : (k : ℤ) (row a : List ℤ) → a ≡ scale k row → IsReducedMove n lattice.rows a → IsOriented (standard n) (scale k row)
  oriented_by k row a e r = subst (IsOriented (standard n)) e (reduced_move g r).oriented

  not_zero_times : (row a : List ℤ) → a ≡ scale (pos 0) row → IsReducedMove n lattice.rows a → ⊥
  not_zero_times row a e r = IsOriented-not_zero (standard n) (scale (pos 0) row) (λ c. omega (arith, ints, columns))
      (oriented_by (pos 0) row a e r)

  two_multiples : (row a b : List ℤ) (k l : ℤ) → a ≡ scale k row → b ≡ scale l row → IsReducedMove n lattice.rows a →
      IsReducedMove n lattice.rows b → ComesBefore n w a b → ⊥
  two_multiples row a b (pos zero) l e f r s before = not_zero_times row a e r
  two_multiples row a b (pos (suc i)) (pos zero) e f r s before = not_zero_times row b f s
  two_multiples row a b (negsuc i) (pos zero) e f r s before = not_zero_times row b f s
  two_multiples row a b (pos (suc i)) (pos (suc j)) e f r s before = multiples_of row a b i j e f r s before
  two_multiples row a b (negsuc i) (negsuc j) e f r s before = multiples_of (negate row) a b i j (e ∙ scale-negsuc i row)
      (f ∙ scale-negsuc j row) r s before
  two_multiples row a b (pos (suc i)) (negsuc j) e f r s before =
      IsOriented-not_negated (standard n) row (IsOriented-scale_back (standard n) i row (oriented_by (pos (suc i)) row a e r))
      (IsOriented-scale_back (standard n) j (negate row) (subst (IsOriented (standard n)) (scale-negsuc j row)
      (oriented_by (negsuc j) row b f s)))
  two_multiples row a b (negsuc i) (pos (suc j)) e f r s before =
      IsOriented-not_negated (standard n) row (IsOriented-scale_back (standard n) j row (oriented_by (pos (suc j)) row b f s))
      (IsOriented-scale_back (standard n) i (negate row) (subst (IsOriented (standard n)) (scale-negsuc i row)
      (oriented_by (negsuc i) row a e r)))

  -- every vector of the lattice is a multiple of one
  abbrev AreMultiples : List ℤ → Type 0
  AreMultiples row = (x : List ℤ) → InLattice n lattice.rows x → (k : ℤ) × (x ≡ scale k row)

  one_multiplied : (rows : List (List ℤ)) → nonzero_rows lattice.rows ≡ rows → length rows ≤ 1 → (row : List ℤ) × AreMultiples row
  one_multiplied [] e l = (
    zeros n,
    λ x (f, d). (
      pos 0,
      d ∙ combination_of_no_row n f lattice.rows g.rows_columns e
          ∙ sym (scale-zero (pos 0) n),
    ),
  )
  one_multiplied (row ∷ []) e l = (row, λ x (f, d). let (k, h) = combination_of_one_row n f lattice.rows row g.rows_columns e in (k, d ∙ h))
  one_multiplied (row ∷ other ∷ rows) e l = absurd (omega (arith, l))

  no_reduced_pair : (moves : List (List ℤ)) (pair : Pair) → length (nonzero_rows lattice.rows) ≤ 1 → IsReducedBasis lattice moves →
      IsPairOf moves pair → ⊥
  no_reduced_pair moves pair few basis p =
      let (row, multiples) = one_multiplied (nonzero_rows lattice.rows) refl few in
      let a = move_at moves pair.first in
      let b = move_at moves pair.second in
      let r : IsReducedMove n lattice.rows a = basis.each pair.first [] (omega (arith, p.ordered, p.within)) in
      let s : IsReducedMove n lattice.rows b = basis.each pair.second [] p.within in
      let (k, e) = multiples a (reduced_move g r).in_lattice in
      let (l, f) = multiples b (reduced_move g s).in_lattice in
      two_multiples row a b k l e f r s (basis.ascending pair.first pair.second [] p.ordered p.within)

  -- ---- no stop
  module _ (few : length (nonzero_rows lattice.rows) ≤ 1) where
    start_row : IsOneRow n w (nonzero_rows lattice.rows)
    start_row = one_row n w (nonzero_rows lattice.rows) (rows_are_graded n w lattice.rows g.rows_columns g.rows_weight) few

    reached_row : (phases : List PlainPhase) (rest : List (List ℤ)) (left : List (List ℕ)) → SaturateLattice lattice phases rest left →
        IsOneRow n w rest
    reached_row phases rest left s = saturate_one_row n w (nonzero_rows lattice.rows) _ phases rest left start_row s

    -- no phase has a pair
    none_stands : (book : PlainBook) (number : ℕ) (phase : PlainPhase) (pair : Pair) → StandsAt lattice book number phase →
        IsPairOf phase.basis pair → ⊥
    none_stands book number phase pair s p =
        no_pair n w phase.basis pair (phase_of_one_row n w s.moves s.list phase
        (reached_row s.earlier s.moves (s.list ∷ s.left) s.before) s.along) p

    pub no_stop : (budget : ℕ) (book : PlainBook) (stop : PlainStop) → HasStopped lattice budget book stop → ⊥
    no_stop budget book (Overflow (AtPair number) stop) (phase, s, free, genuine, less) =
        none_stands book number phase stop.pair s free.of_basis
    no_stop budget book (Overflow (AtTail index) stop) s = no_tail_step s.rest index stop
        (reached_row book.phases s.rest [] s.phases) s.genuine
    no_stop budget book (Overflow AtWeight stop) s = no_reduced_pair s.done.basis stop.pair few s.done.reduced s.of_weight.of_list
    no_stop budget book (Budget settled) (e, f, (number, phase, s, (pair, free))) = none_stands book number phase pair s free.of_basis
    no_stop budget book (Full number pair) (phase, s, full, free, less) = none_stands book number phase pair s free.of_basis
