-- What a tableau's rows and right sides say of the first rows: which vectors solve them, and the basic solution.
use Rattle.std.proofs.Common.{◌≡◌, ◌≢◌, ◌==◌, ◌⊎◌, inl, inr, ℕ, zero, suc, ◌+◌, ◌<◌, ◌≤◌, if◌then◌else◌, List, [], ◌∷◌, length, get_or, ℤ, pos, ◌+ℤ◌, ◌-ℤ◌, ◌*ℤ◌, arith, ap, refl, sym, ◌∙◌}
use Rattle.std.proofs.lemmas.Int.{ints}
use Rattle.std.proofs.lemmas.Bool.{cases_eq}
use Rattle.std.proofs.lemmas.Bool.Decides.{nat_tests}
use lib.IntN.{*ℤ-zero, *ℤ_comm}
use Rattle.mk_model.specs.Vectors.{entry}
use Rattle.mk_model.specs.Tableaux.{Tableau, tableau_row, first_tableau, IsCleared, IsPivot, Pivots, first, next, basic_value}
use Rattle.mk_model.proofs.LatticeLaws.{AllColumns}
use Rattle.mk_model.proofs.Integers.{*ℤ-swap}
use Rattle.mk_model.proofs.ExactPivots.{cancel}
use Rattle.mk_model.proofs.Products.{dot, dot-none, dot-row, dot-put}
use Rattle.mk_model.proofs.TableauShapes.{Keeps, kept}
use Rattle.mk_model.proofs.TableauBases.{Based}

-- ---- vectors with product 0 with each row, in the first columns
pub record Solves (all : ℕ) (t : Tableau) (y : ℕ → ℤ) : Type 0 where
  pub product : (i : ℕ) → i < length t.rows → dot all (entry (tableau_row t i)) y ≡ pos 0

zero_factor : (p a : ℤ) → a ≡ pos 0 → p *ℤ a ≡ pos 0
zero_factor p a e = ap (λ z. p *ℤ z) e ∙ *ℤ-zero p

module _ (n m : ℕ) (t u : Tableau) (keeps : Keeps n m t) (pivot : IsPivot n t u) (all : ℕ) (y : ℕ → ℤ) where
  lower : pivot.place < m
  lower = rw (← keeps.height) pivot.leaving.within

  -- a cleared row's product
  cleared_product : (row cleared : List ℤ) → all ≤ length row → IsCleared t.denominator pivot.column (tableau_row t pivot.place) row cleared →
      t.denominator *ℤ dot all (entry cleared) y
      ≡ (entry (tableau_row t pivot.place) pivot.column *ℤ dot all (entry row) y) -ℤ (entry row pivot.column *ℤ dot all (entry (tableau_row t pivot.place)) y)
  cleared_product row cleared w h =
      dot-row all t.denominator (entry (tableau_row t pivot.place) pivot.column) (entry row pivot.column) (entry cleared) (entry row) (entry (tableau_row t pivot.place)) y
      (λ c l. h.entries c (omega arith) ∙ ap (λ z. z -ℤ (entry row pivot.column *ℤ entry (tableau_row t pivot.place) c)) (*ℤ_comm (entry row c) (entry (tableau_row t pivot.place) pivot.column)))

  wide : (i : ℕ) → i < m → all ≤ n + suc m → all ≤ length (tableau_row t i)
  wide i l w = rw (keeps.width i l) w

  forward : all ≤ n + suc m → Solves all t y → Solves all u y
  forward w s = record { product = λ i l. go i (rw (← pivot.height) l) (cases_eq i pivot.place) }
    where
      go : (i : ℕ) → i < length t.rows → (i ≡ pivot.place) ⊎ (i ≢ pivot.place) → dot all (entry (tableau_row u i)) y ≡ pos 0
      go i l (inl e) = rw (e, pivot.stays) (s.product pivot.place pivot.leaving.within)
      go i l (inr h) =
          let k = cleared_product (tableau_row t i) (tableau_row u i) (wide i (rw (← keeps.height) l) w) (pivot.others i l h) in
          let a = zero_factor (entry (tableau_row t pivot.place) pivot.column) (dot all (entry (tableau_row t i)) y) (s.product i l) in
          let b = zero_factor (entry (tableau_row t i) pivot.column) (dot all (entry (tableau_row t pivot.place)) y) (s.product pivot.place pivot.leaving.within) in
          cancel t.denominator (dot all (entry (tableau_row u i)) y) (pos 0) keeps.positive (omega (arith, ints, k, a, b, *ℤ-zero t.denominator))

  backward : all ≤ n + suc m → Solves all u y → Solves all t y
  backward w s = record { product = λ i l. go i l (cases_eq i pivot.place) }
    where
      there : dot all (entry (tableau_row t pivot.place)) y ≡ pos 0
      there = rw (← pivot.stays) (s.product pivot.place (rw pivot.height pivot.leaving.within))

      go : (i : ℕ) → i < length t.rows → (i ≡ pivot.place) ⊎ (i ≢ pivot.place) → dot all (entry (tableau_row t i)) y ≡ pos 0
      go i l (inl e) = rw e there
      go i l (inr h) =
          let k = cleared_product (tableau_row t i) (tableau_row u i) (wide i (rw (← keeps.height) l) w) (pivot.others i l h) in
          let a = zero_factor t.denominator (dot all (entry (tableau_row u i)) y) (s.product i (rw pivot.height l)) in
          let b = zero_factor (entry (tableau_row t i) pivot.column) (dot all (entry (tableau_row t pivot.place)) y) there in
          cancel (entry (tableau_row t pivot.place) pivot.column) (dot all (entry (tableau_row t i)) y) (pos 0) pivot.leaving.above
          (omega (arith, ints, k, a, b, *ℤ-zero (entry (tableau_row t pivot.place) pivot.column)))

  -- the costs of a solution, over the denominator, stay the same
  costs_forward : (z : ℤ) → all ≤ n + m → Solves all t y → dot all (entry t.costs) y ≡ t.denominator *ℤ z → dot all (entry u.costs) y ≡ u.denominator *ℤ z
  costs_forward z w s e =
      let p = entry (tableau_row t pivot.place) pivot.column in
      let k = cleared_product t.costs u.costs (rw keeps.costs_width w) pivot.costs in
      let b = zero_factor (entry t.costs pivot.column) (dot all (entry (tableau_row t pivot.place)) y) (s.product pivot.place pivot.leaving.within) in
      rw pivot.denominator
      (cancel t.denominator (dot all (entry u.costs) y) (p *ℤ z) keeps.positive
      (omega (arith, ints, k, b, ap (λ q. p *ℤ q) e, *ℤ-swap p t.denominator z)))

module _ (n : ℕ) (sides : List ℤ) (rows : List (List ℤ)) (a : AllColumns n rows) (all : ℕ) (y : ℕ → ℤ) where
  -- what solves a later tableau solves the first
  pub solves_first : all ≤ n + suc (length rows) → (made : ℕ) (t : Tableau) → Pivots n sides rows made t → Solves all t y → Solves all (first_tableau n sides rows) y
  solves_first w made t first s = s
  solves_first w made t (next {t = before} p f h) s =
      solves_first w _ before p (backward n (length rows) before t (kept n sides rows a _ before p) h all y w s)

  -- and the other way round
  pub solves_later : all ≤ n + suc (length rows) → (made : ℕ) (t : Tableau) → Pivots n sides rows made t → Solves all (first_tableau n sides rows) y → Solves all t y
  solves_later w made t first s = s
  solves_later w made t (next {t = before} p f h) s =
      forward n (length rows) before t (kept n sides rows a _ before p) h all y w (solves_later w _ before p s)

  pub costs_later : all ≤ n + length rows → (z : ℤ) → dot all (entry (first_tableau n sides rows).costs) y ≡ pos 1 *ℤ z → (made : ℕ) (t : Tableau) → Pivots n sides rows made t →
      Solves all (first_tableau n sides rows) y → dot all (entry t.costs) y ≡ t.denominator *ℤ z
  costs_later w z e made t first s = e
  costs_later w z e made t (next {t = before} p f h) s =
      costs_forward n (length rows) before t (kept n sides rows a _ before p) h all y z w (solves_later (omega arith) _ before p s) (costs_later w z e _ before p s)

-- ---- the basic solution
abbrev pub Apart : List ℕ → Type 0
Apart bases = (i k : ℕ) → i < length bases → k < length bases → i ≢ k → get_or bases i 0 ≢ get_or bases k 0

apart_tail : (b : ℕ) (bases : List ℕ) → Apart (b ∷ bases) → Apart bases
apart_tail b bases h i k l q d = h (suc i) (suc k) (omega arith) (omega arith) (λ e. d (omega arith))

pub value_here : (b c : ℕ) (x y : ℤ) → b ≡ c → (if b == c then x else y) ≡ x
value_here b c x y e = grind (arith, nat_tests)

pub value_there : (b c : ℕ) (x y : ℤ) → b ≢ c → (if b == c then x else y) ≡ y
value_there b c x y e = grind (arith, nat_tests)

pub value_absent : (last : ℕ) (rows : List (List ℤ)) (bases : List ℕ) (c : ℕ) → ((k : ℕ) → k < length bases → get_or bases k 0 ≢ c) → basic_value last rows bases c ≡ pos 0
value_absent last [] bases c h = refl
value_absent last (row ∷ rows) [] c h = refl
value_absent last (row ∷ rows) (b ∷ bases) c h =
    value_there b c (entry row last) (basic_value last rows bases c) (h 0 (omega arith)) ∙ value_absent last rows bases c (λ k l. h (suc k) (omega arith))

pub value_at_base : (last : ℕ) (rows : List (List ℤ)) (bases : List ℕ) (i : ℕ) → Apart bases → i < length rows → i < length bases →
    basic_value last rows bases (get_or bases i 0) ≡ entry (get_or rows i []) last
value_at_base last [] bases i h l q = absurd (omega arith)
value_at_base last (row ∷ rows) [] i h l q = absurd (omega arith)
value_at_base last (row ∷ rows) (b ∷ bases) zero h l q = value_here b b (entry row last) (basic_value last rows bases b) refl
value_at_base last (row ∷ rows) (b ∷ bases) (suc i) h l q =
    value_there b (get_or bases i 0) (entry row last) _ (h 0 (suc i) (omega arith) (omega arith) (λ e. absurd (omega arith)))
    ∙ value_at_base last rows bases i (apart_tail b bases h) (omega arith) (omega arith)

-- a row's entries at the bases, each times the right side there
total : (ℕ → ℤ) → ℕ → List (List ℤ) → List ℕ → ℤ
total u last [] bases = pos 0
total u last (row ∷ rows) [] = pos 0
total u last (row ∷ rows) (b ∷ bases) = (u b *ℤ entry row last) +ℤ total u last rows bases

dot_values : (n last : ℕ) (u : ℕ → ℤ) (rows : List (List ℤ)) (bases : List ℕ) → Apart bases → ((k : ℕ) → k < length bases → get_or bases k 0 < n) →
    dot n u (basic_value last rows bases) ≡ total u last rows bases
unfolding total
dot_values n last u [] bases h w = dot-none n u (λ c. pos 0) (λ c l. *ℤ-zero (u c))
dot_values n last u (row ∷ rows) [] h w = dot-none n u (λ c. pos 0) (λ c l. *ℤ-zero (u c))
dot_values n last u (row ∷ rows) (b ∷ bases) h w =
    let k = dot_values n last u rows bases (apart_tail b bases h) (λ k l. w (suc k) (omega arith)) in
    let none = value_absent last rows bases b (λ k l e. h (suc k) 0 (omega arith) (omega arith) (λ z. absurd (omega arith)) e) in
    let p = dot-put n b (entry row last) u (basic_value last rows bases) (basic_value last (row ∷ rows) (b ∷ bases)) (w 0 (omega arith))
    (value_here b b (entry row last) (basic_value last rows bases b) refl) none
    (λ c d. value_there b c (entry row last) (basic_value last rows bases c) (λ e. d (sym e))) in
    omega (arith, ints, p, k)

total_none : (u : ℕ → ℤ) (last : ℕ) (rows : List (List ℤ)) (bases : List ℕ) → ((i : ℕ) → i < length bases → u (get_or bases i 0) ≡ pos 0) → total u last rows bases ≡ pos 0
unfolding total
total_none u last [] bases h = refl
total_none u last (row ∷ rows) [] h = refl
total_none u last (row ∷ rows) (b ∷ bases) h =
    let k = total_none u last rows bases (λ i l. h (suc i) (omega arith)) in
    let z = ap (λ w. w *ℤ entry row last) (h 0 (omega arith)) in
    omega (arith, ints, k, z, *ℤ_comm (pos 0) (entry row last), *ℤ-zero (entry row last))

total_one : (u : ℕ → ℤ) (last : ℕ) (rows : List (List ℤ)) (bases : List ℕ) (k : ℕ) → k < length rows → k < length bases →
    ((i : ℕ) → i < length bases → i ≢ k → u (get_or bases i 0) ≡ pos 0) → total u last rows bases ≡ u (get_or bases k 0) *ℤ entry (get_or rows k []) last
unfolding total
total_one u last [] bases k l q h = absurd (omega arith)
total_one u last (row ∷ rows) [] k l q h = absurd (omega arith)
total_one u last (row ∷ rows) (b ∷ bases) zero l q h =
    let k = total_none u last rows bases (λ i l. h (suc i) (omega arith) (λ e. absurd (omega arith))) in
    omega (arith, ints, k)
total_one u last (row ∷ rows) (b ∷ bases) (suc k) l q h =
    let r = total_one u last rows bases k (omega arith) (omega arith) (λ i l d. h (suc i) (omega arith) (λ e. d (omega arith))) in
    let z = ap (λ w. w *ℤ entry row last) (h 0 (omega arith) (λ e. absurd (omega arith))) in
    omega (arith, ints, r, z, *ℤ_comm (pos 0) (entry row last), *ℤ-zero (entry row last))

module _ (n m : ℕ) (t : Tableau) (keeps : Keeps n m t) (based : Based n m t) where
  pub value : ℕ → ℤ
  value c = basic_value (n + m) t.rows t.bases c

  pub bases_apart : Apart t.bases
  bases_apart i k l q d e =
      let a = based.own i (rw (← based.bases) l) in
      let b = based.others i k (rw (← based.bases) l) (rw (← based.bases) q) d in
      let z = ap (λ c. entry (tableau_row t i) c) e in
      absurd (omega (arith, ints, keeps.positive, a, b, z))

  bases_within : (k : ℕ) → k < length t.bases → get_or t.bases k 0 < n + m
  bases_within k l = based.within k (rw (← based.bases) l)

  module _ (last : ℕ) where
    -- Put what the rows have in one column to their bases: the product with a row is the denominator times what the row has
    -- there, and that with the costs is 0.
    pub row_value : (k : ℕ) → k < m → dot (n + m) (entry (tableau_row t k)) (λ c. basic_value last t.rows t.bases c) ≡ t.denominator *ℤ entry (tableau_row t k) last
    row_value k l =
        dot_values (n + m) last (entry (tableau_row t k)) t.rows t.bases bases_apart bases_within
        ∙ total_one (entry (tableau_row t k)) last t.rows t.bases k (rw keeps.height l) (rw based.bases l) (λ i q d. based.others k i l (rw (← based.bases) q) (λ e. d (sym e)))
        ∙ ap (λ z. z *ℤ entry (tableau_row t k) last) (based.own k l)

    pub costs_value : dot (n + m) (entry t.costs) (λ c. basic_value last t.rows t.bases c) ≡ pos 0
    costs_value =
        dot_values (n + m) last (entry t.costs) t.rows t.bases bases_apart bases_within
        ∙ total_none (entry t.costs) last t.rows t.bases (λ i l. based.cost i (rw (← based.bases) l))
