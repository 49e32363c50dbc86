-- Why the divisions of pivots leave no remainder: with the denominator d, the minors of any k + 1 rows are multiples of
-- the k-th power of d, and a pivot keeps that.
use Rattle.std.proofs.Common.{◌≡◌, ◌⊎◌, inl, inr, ℕ, zero, suc, ◌<◌, Bool, false, List, [], ◌∷◌, length, replicate, ℤ, pos, negsuc, ◌-ℤ◌, ◌*ℤ◌, neg_ℤ, ◌<ℤ◌, arith, ap, refl, sym, ◌∙◌, subst}
use Rattle.std.proofs.lemmas.Int.{ints}
use Rattle.std.proofs.lemmas.List.{length-replicate}
use lib.IntN.{*ℤ-zero, *ℤ_comm}
use Rattle.mk_model.specs.Vectors.{entry}
use Rattle.mk_model.proofs.Integers.{*ℤ-neg_ℤ, neg_ℤ-*ℤ, *ℤ-assoc, *ℤ-swap, one-*ℤ, same_from_product}
use Rattle.mk_model.proofs.Minors.{*ℤ-less, less-*ℤ, expand, empty_minor, minor, contract, expand-same, expand-row, expand-twice, expand-swap, contract-less, contract-expand, contract-same, contract-none}

-- ---- powers
unfoldable pub power : ℤ → ℕ → ℤ
power d zero = pos 1
power d (suc k) = d *ℤ power d k

product_positive : (a b : ℤ) → pos 0 <ℤ a → pos 0 <ℤ b → pos 0 <ℤ (a *ℤ b)
product_positive (pos zero) b h j = absurd (omega (arith, ints))
product_positive (pos (suc k)) (pos zero) h j = absurd (omega (arith, ints))
product_positive (pos (suc k)) (pos (suc l)) h j = omega (arith, ints)
product_positive (pos (suc k)) (negsuc b) h j = absurd (omega (arith, ints))
product_positive (negsuc k) b h j = absurd (omega (arith, ints))

power_positive : (d : ℤ) (k : ℕ) → pos 0 <ℤ d → pos 0 <ℤ power d k
unfolding power
power_positive d zero h = omega (arith, ints)
power_positive d (suc k) h = product_positive d (power d k) h (power_positive d k h)

pub cancel : (a x y : ℤ) → pos 0 <ℤ a → a *ℤ x ≡ a *ℤ y → x ≡ y
cancel (pos zero) x y h e = absurd (omega (arith, ints))
cancel (pos (suc k)) x y h e = same_from_product k x y e
cancel (negsuc k) x y h e = absurd (omega (arith, ints))

-- a times y is b times a times x: y is b times x
cancel_in : (a b x y : ℤ) → pos 0 <ℤ a → a *ℤ y ≡ b *ℤ (a *ℤ x) → y ≡ b *ℤ x
cancel_in a b x y h e = cancel a y (b *ℤ x) h (e ∙ *ℤ-swap b a x)

-- ---- families of rows
unfoldable pub Each : (List ℤ → Type 0) → List (List ℤ) → Type 0
Each P [] = Unit {0}
Each P (v ∷ rows) = P v × Each P rows

-- the minors of any k + 1 rows of the family are multiples of the k-th power of d
abbrev pub Exact : ℕ → ℤ → (List ℤ → Type 0) → Type 0
Exact n d P = (k : ℕ) (rows : List (List ℤ)) → length rows ≡ suc k → Each P rows →
    (x : List Bool → ℤ) × ((s : List Bool) → length s ≡ n → minor rows s ≡ power d k *ℤ x s)

one_power : (k : ℕ) (a : ℤ) → power (pos 1) k *ℤ a ≡ a
unfolding power
one_power zero a = one-*ℤ a
one_power (suc k) a = *ℤ-assoc (pos 1) (power (pos 1) k) a ∙ one-*ℤ (power (pos 1) k *ℤ a) ∙ one_power k a

pub exact_at_first : (n : ℕ) (P : List ℤ → Type 0) → Exact n (pos 1) P
exact_at_first n P k rows l each = (minor rows, λ s e. sym (one_power k (minor rows s)))

-- a factor 0 on one side
expand-none : (v : ℕ → ℤ) (x : List Bool → ℤ) (s : List Bool) → ((t : List Bool) → length t ≡ length s → x t ≡ pos 0) → expand v x s ≡ pos 0
expand-none v x s h =
    let e = expand-same (pos 1) (pos 0) v x x s (λ t l. one-*ℤ (x t) ∙ h t l ∙ sym (zero-*ℤ (x t))) in
    sym (one-*ℤ (expand v x s)) ∙ e ∙ zero-*ℤ (expand v x s)
  where
    zero-*ℤ : (a : ℤ) → pos 0 *ℤ a ≡ pos 0
    zero-*ℤ a = *ℤ_comm (pos 0) a ∙ *ℤ-zero a

expand-factor : (b : ℤ) (v : ℕ → ℤ) (x z : List Bool → ℤ) (s : List Bool) → ((t : List Bool) → length t ≡ length s → x t ≡ b *ℤ z t) → expand v x s ≡ b *ℤ expand v z s
expand-factor b v x z s h = sym (one-*ℤ (expand v x s)) ∙ expand-same (pos 1) b v x z s (λ t l. one-*ℤ (x t) ∙ h t l)

contract-factor : (b : ℤ) (e : ℕ) (x z : List Bool → ℤ) (s : List Bool) → ((t : List Bool) → length t ≡ length s → x t ≡ b *ℤ z t) → contract e x s ≡ b *ℤ contract e z s
contract-factor b e x z s h = sym (one-*ℤ (contract e x s)) ∙ contract-same (pos 1) b e x z s (λ t l. one-*ℤ (x t) ∙ h t l)

-- ---- one pivot, in a family of rows: r is the pivot row, e the entering column
module _ (n : ℕ) (d p : ℤ) (e : ℕ) (r : List ℤ) (P : List ℤ → Type 0) where
  abbrev pub ClearedFrom : List ℤ → List ℤ → Type 0
  ClearedFrom g v = (c : ℕ) → c < n → d *ℤ entry g c ≡ (p *ℤ entry v c) -ℤ (entry v e *ℤ entry r c)

  -- rows after the pivot, none of them r, and the rows that they come from
  data AllCleared : List (List ℤ) → List (List ℤ) → Type 0 where
    none : AllCleared [] []
    more : {g v : List ℤ} {left right : List (List ℤ)} → P v → ClearedFrom g v → AllCleared left right → AllCleared (g ∷ left) (v ∷ right)

  each_before : {left right : List (List ℤ)} → AllCleared left right → Each P right
  unfolding Each
  each_before none = tt
  each_before (more m h a) = (m, each_before a)

  as_many : {left right : List (List ℤ)} → AllCleared left right → length right ≡ length left
  as_many none = refl
  as_many (more m h a) = ap suc (as_many a)

  chained : (a q f x y z : ℤ) → d *ℤ x ≡ (p *ℤ z) -ℤ (f *ℤ pos 0) → a *ℤ z ≡ q *ℤ y → (d *ℤ a) *ℤ neg_ℤ x ≡ (p *ℤ q) *ℤ neg_ℤ y
  chained a q f x y z h k =
      omega (arith, ints, *ℤ-neg_ℤ (d *ℤ a) x, *ℤ-neg_ℤ (p *ℤ q) y, *ℤ-assoc d a x, *ℤ-swap d a x, ap (λ w. a *ℤ w) h, *ℤ-less a (p *ℤ z) (f *ℤ pos 0), *ℤ-zero f, *ℤ-zero a, ap (λ w. a *ℤ w) (*ℤ-zero f), *ℤ-swap a p z, ap (λ w. p *ℤ w) k, *ℤ-assoc p q y)

  -- with the pivot row on top
  with_pivot : {left right : List (List ℤ)} → AllCleared left right → (s : List Bool) → length s ≡ n →
      power d (length left) *ℤ expand (entry r) (minor left) s ≡ power p (length left) *ℤ expand (entry r) (minor right) s
  unfolding power minor
  with_pivot none s l = refl
  with_pivot (more {g} {v} {left} {right} m h a) s l =
      let y = expand (entry r) (minor left) in
      let z = expand (entry r) (minor right) in
      let one = expand-row d p (entry v e) (entry g) (entry v) (entry r) y s (λ c b. h c (rw l at b)) in
      let two = expand-same (power d (length left)) (power p (length left)) (entry v) y z s (λ t k. with_pivot a t (k ∙ l)) in
      let three = rw (expand-twice (entry r) (minor left) s) at one in
      rw (expand-swap (entry r) (entry g) (minor left) s, expand-swap (entry r) (entry v) (minor right) s)
      (chained (power d (length left)) (power p (length left)) (entry v e) (expand (entry g) y s) (expand (entry v) z s) (expand (entry v) y s) three two)

  module _ (d_positive : pos 0 <ℤ d) (p_positive : pos 0 <ℤ p) (within : e < n) (pivot : entry r e ≡ p) (member : P r) (exact : Exact n d P) where
    -- the pivot row over k rows that come from the family: a multiple of the k-th power of p
    pivot_over : {left right : List (List ℤ)} → AllCleared left right →
        (x : List Bool → ℤ) × ((s : List Bool) → length s ≡ n → expand (entry r) (minor left) s ≡ power p (length left) *ℤ x s)
    unfolding minor Each
    pivot_over {left} {right} a =
        let (x, h) = exact (length right) (r ∷ right) refl (member, each_before a) in (
          x,
          λ s l. cancel_in (power d (length left)) (power p (length left)) (x s) (expand (entry r) (minor left) s) (power_positive d (length left) d_positive)
              (with_pivot a s l ∙ ap (λ z. power p (length left) *ℤ z) (h s l ∙ ap (λ k. power d k *ℤ x s) (as_many a))),
        )

    -- no entry of a cleared row in the entering column
    cleared_there : (g v : List ℤ) → ClearedFrom g v → entry g e ≡ pos 0
    cleared_there g v h =
        cancel d (entry g e) (pos 0) d_positive
        (h e within ∙ omega (arith, ints, ap (λ z. entry v e *ℤ z) pivot, *ℤ_comm (entry v e) p, *ℤ-zero d))

    flat : {left right : List (List ℤ)} → AllCleared left right → (s : List Bool) → length s ≡ n → contract e (minor left) s ≡ pos 0
    unfolding minor
    flat none s l = contract-none e s
    flat (more {g} {v} {left} {right} m h a) s l =
        let k = contract-expand e (entry g) (minor left) s (rw l within) in
        let z = expand-none (entry g) (contract e (minor left)) s (λ t q. flat a t (q ∙ l)) in
        let o = ap (λ w. w *ℤ minor left s) (cleared_there g v h) in
        omega (arith, ints, k, z, o, *ℤ_comm (pos 0) (minor left s), *ℤ-zero (minor left s))

    -- one row at least, and the pivot row not among them
    without_pivot : (k : ℕ) {left right : List (List ℤ)} → AllCleared left right → length left ≡ suc k →
        (x : List Bool → ℤ) × ((s : List Bool) → length s ≡ n → minor left s ≡ power p k *ℤ x s)
    unfolding power
    without_pivot k {left} {right} a count =
        let (x, h) = pivot_over a in (
          contract e x,
          λ s l.
              let one = contract-factor (power p (suc k)) e (expand (entry r) (minor left)) x s (λ t q. h t (q ∙ l) ∙ ap (λ j. power p j *ℤ x t) count) in
              let two = contract-expand e (entry r) (minor left) s (rw l within) in
              let three = expand-none (entry r) (contract e (minor left)) s (λ t q. flat a t (q ∙ l)) in
              let four = ap (λ w. w *ℤ minor left s) pivot in
              cancel p (minor left s) (power p k *ℤ contract e x s) p_positive
              (omega (arith, ints, one, two, three, four, *ℤ-assoc p (power p k) (contract e x s))),
        )

    -- what rows after the pivot are: rows that come from others, and maybe the pivot row once, on top but for the sign
    data Sorted : List (List ℤ) → Type 0 where
      apart : {left right : List (List ℤ)} → AllCleared left right → Sorted left
      topped : {rows left right : List (List ℤ)} (sign : ℤ) → AllCleared left right → length rows ≡ suc (length left) →
          ((s : List Bool) → length s ≡ n → minor rows s ≡ sign *ℤ expand (entry r) (minor left) s) → Sorted rows
      nothing : {rows : List (List ℤ)} → ((s : List Bool) → length s ≡ n → minor rows s ≡ pos 0) → Sorted rows

    sorted_more : (g v : List ℤ) (rows : List (List ℤ)) → P v → ClearedFrom g v → Sorted rows → Sorted (g ∷ rows)
    unfolding minor
    sorted_more g v rows m h (apart a) = apart (more m h a)
    sorted_more g v rows m h (topped {left = left} sign a count e) =
        topped {left = g ∷ left} (neg_ℤ sign) (more m h a) (ap suc count) (λ s l.
        expand-factor sign (entry g) (minor rows) (expand (entry r) (minor left)) s (λ t q. e t (q ∙ l))
        ∙ ap (λ z. sign *ℤ z) (expand-swap (entry g) (entry r) (minor left) s)
        ∙ *ℤ-neg_ℤ sign (expand (entry r) (expand (entry g) (minor left)) s)
        ∙ sym (neg_ℤ-*ℤ sign (expand (entry r) (expand (entry g) (minor left)) s)))
    sorted_more g v rows m h (nothing e) = nothing (λ s l. expand-none (entry g) (minor rows) s (λ t q. e t (q ∙ l)))

    sorted_pivot : (rows : List (List ℤ)) → Sorted rows → Sorted (r ∷ rows)
    unfolding minor
    sorted_pivot rows (apart a) = topped (pos 1) a refl (λ s l. sym (one-*ℤ _))
    sorted_pivot rows (topped {left = left} sign a count e) =
        nothing (λ s l.
        expand-factor sign (entry r) (minor rows) (expand (entry r) (minor left)) s (λ t q. e t (q ∙ l))
        ∙ ap (λ z. sign *ℤ z) (expand-twice (entry r) (minor left) s) ∙ *ℤ-zero sign)
    sorted_pivot rows (nothing e) = nothing (λ s l. expand-none (entry r) (minor rows) s (λ t q. e t (q ∙ l)))

    module _ (Q : List ℤ → Type 0) (from : (g : List ℤ) → Q g → (g ≡ r) ⊎ ((v : List ℤ) × P v × ClearedFrom g v)) where
      sorted_one : (g : List ℤ) (rows : List (List ℤ)) → (g ≡ r) ⊎ ((v : List ℤ) × P v × ClearedFrom g v) → Sorted rows → Sorted (g ∷ rows)
      sorted_one g rows (inl same) q = subst (λ v. Sorted (v ∷ rows)) (sym same) (sorted_pivot rows q)
      sorted_one g rows (inr (v, m, h)) q = sorted_more g v rows m h q

      sorted : (rows : List (List ℤ)) → Each Q rows → Sorted rows
      unfolding Each
      sorted [] q = apart none
      sorted (g ∷ rows) (q, qs) = sorted_one g rows (from g q) (sorted rows qs)

      exact_sorted : (k : ℕ) (rows : List (List ℤ)) → length rows ≡ suc k → Sorted rows →
          (x : List Bool → ℤ) × ((s : List Bool) → length s ≡ n → minor rows s ≡ power p k *ℤ x s)
      exact_sorted k rows l (apart a) = without_pivot k a l
      exact_sorted k rows l (topped {left = left} sign a count e) =
          let (x, h) = pivot_over a in
          let same : length left ≡ k = omega arith in (
            (λ s. sign *ℤ x s),
            λ s q.
                e s q ∙ ap (λ z. sign *ℤ z) (h s q ∙ ap (λ j. power p j *ℤ x s) same) ∙ *ℤ-swap sign (power p k) (x s),
          )
      exact_sorted k rows l (nothing e) = ((λ s. pos 0), λ s q. e s q ∙ sym (*ℤ-zero (power p k)))

      pub exact_after : Exact n p Q
      exact_after k rows l q = exact_sorted k rows l (sorted rows q)

-- ---- what a pivot divides
flags : ℕ → List Bool
flags n = replicate n false

empty_at_flags : (n : ℕ) → empty_minor (flags n) ≡ pos 1
unfolding flags empty_minor
empty_at_flags zero = refl
empty_at_flags (suc n) = empty_at_flags n

module _ (n : ℕ) (d : ℤ) (P : List ℤ → Type 0) (exact : Exact n d P) where
  entry_alone : (v : List ℤ) (c : ℕ) (s : List Bool) → c < n → length s ≡ n → contract c (expand (entry v) empty_minor) s ≡ entry v c *ℤ empty_minor s
  entry_alone v c s b l =
      let h = contract-expand c (entry v) empty_minor s (rw l b) in
      let z = expand-none (entry v) (contract c empty_minor) s (λ t q. contract-none c t) in
      omega (arith, ints, h, z)

  pub divided : (r v : List ℤ) (e c : ℕ) → P r → P v → e < n → c < n →
      (a : ℤ) × (d *ℤ a ≡ (entry v c *ℤ entry r e) -ℤ (entry v e *ℤ entry r c))
  unfolding minor Each power flags
  divided r v e c pr pv eb cb =
      let (x, h) = exact 1 (r ∷ v ∷ []) refl (pr, (pv, tt)) in
      (contract c (contract e x) (flags n), go x h)
    where
      alone : List ℤ → List Bool → ℤ
      alone u = expand (entry u) empty_minor

      once : (t : List Bool) → length t ≡ n → contract e (expand (entry r) (alone v)) t ≡ (entry r e *ℤ alone v t) -ℤ (entry v e *ℤ alone r t)
      once t l =
          let k = contract-expand e (entry r) (alone v) t (rw l eb) in
          let z = expand-factor (entry v e) (entry r) (contract e (alone v)) empty_minor t (λ u q. entry_alone v e u eb (q ∙ l)) in
          omega (arith, ints, k, z)

      twice : (s : List Bool) → length s ≡ n → contract c (contract e (expand (entry r) (alone v))) s ≡ ((entry r e *ℤ entry v c) -ℤ (entry v e *ℤ entry r c)) *ℤ empty_minor s
      twice s l =
          let k = contract-factor (pos 1) c (contract e (expand (entry r) (alone v))) (λ t. (entry r e *ℤ alone v t) -ℤ (entry v e *ℤ alone r t)) s (λ t q. once t (q ∙ l) ∙ sym (one-*ℤ _)) in
          let m = contract-less (entry r e) c (alone v) (λ t. entry v e *ℤ alone r t) s in
          let w = contract-factor (entry v e) c (λ t. entry v e *ℤ alone r t) (alone r) s (λ t q. refl) in
          let a = ap (λ z. entry r e *ℤ z) (entry_alone v c s cb l) in
          let b = ap (λ z. entry v e *ℤ z) (entry_alone r c s cb l) in
          let o = empty_minor s in
          let y = one-*ℤ (contract c (λ t. (entry r e *ℤ alone v t) -ℤ (entry v e *ℤ alone r t)) s) in
          omega (arith, ints, k, y, m, w, a, b, less-*ℤ (entry r e *ℤ entry v c) (entry v e *ℤ entry r c) o, *ℤ-assoc (entry r e) (entry v c) o, *ℤ-assoc (entry v e) (entry r c) o)

      go : (x : List Bool → ℤ) → ((s : List Bool) → length s ≡ n → minor (r ∷ v ∷ []) s ≡ power d 1 *ℤ x s) →
          d *ℤ contract c (contract e x) (flags n) ≡ (entry v c *ℤ entry r e) -ℤ (entry v e *ℤ entry r c)
      go x h =
          let l : length (flags n) ≡ n = length-replicate n false in
          let y = contract c (contract e x) (flags n) in
          let k = contract-factor (power d 1) c (contract e (minor (r ∷ v ∷ []))) (contract e x) (flags n) (λ t q.
          contract-factor (power d 1) e (minor (r ∷ v ∷ [])) x t (λ u a. h u (a ∙ (q ∙ l)))) in
          let m = twice (flags n) l in
          let z = (entry r e *ℤ entry v c) -ℤ (entry v e *ℤ entry r c) in
          let one = ap (λ w. z *ℤ w) (empty_at_flags n) in
          omega (arith, ints, k, m, one, *ℤ_comm z (pos 1), one-*ℤ z, *ℤ-assoc d (pos 1) y, ap (λ w. d *ℤ w) (one-*ℤ y), *ℤ_comm (entry v c) (entry r e))
