-- A row minus a multiple of another, one column after another.
use Rattle.std.proofs.Common.{◌≡◌, ℕ, ◌+◌, ◌<◌, ◌≤◌, refl, set, List, length, sym, ◌∙◌, ap, subst, arith, ℤ, pos, ◌-ℤ◌, ◌*ℤ◌}
use Rattle.std.proofs.lemmas.Int.{ints}
use borrow.Author.Count.{below_more}
use Rattle.std.proofs.lemmas.List.{ext_get_or, get_or_default, length-set, get_or-set_same, get_or-set_other}
use Rattle.mk_model.specs.Vectors.{entry, scale, weight, IsEntry}
use Rattle.mk_model.proofs.VectorAlgebra.{lengths, entry-subtract, entry-scale, weight-subtract, weight-scale}
use Rattle.mk_move.specs.Steps.{minus_times, GivesEntries, GivesEntry}

pub entry-minus_times : (x y : List ℤ) (times : ℤ) (c : ℕ) → entry (minus_times x times y) c ≡ entry x c -ℤ (times *ℤ entry y c)
entry-minus_times x y times c = entry-subtract x (scale times y) c ∙ ap (λ z. entry x c -ℤ z) (entry-scale times y c)

-- the multiple is taken off the entries so far, and the others are as they were
pub record IsTakenOff (x y : List ℤ) (times : ℤ) (n : ℕ) (row : List ℤ) : Type 0 where
  pub columns : length row ≡ length x
  pub entries : (c : ℕ) → c < n → entry row c ≡ entry x c -ℤ (times *ℤ entry y c)
  pub range : (c : ℕ) → c < n → IsEntry (entry row c)
  pub left : (c : ℕ) → n ≤ c → entry row c ≡ entry x c

pub none_taken : (x y : List ℤ) (times : ℤ) → IsTakenOff x y times 0 x
none_taken x y times = record {
  columns = refl;
  entries = λ c l. absurd (omega arith);
  range = λ c l. absurd (omega arith);
  left = λ c l. refl;
}

pub one_taken : (x y : List ℤ) (times : ℤ) (n : ℕ) (row : List ℤ) (value : ℤ) → n < length x → IsTakenOff x y times n row → GivesEntry (entry x n -ℤ (times *ℤ entry y n)) value → IsTakenOff x y times (n + 1) (set row n value)
one_taken x y times n row value l h e = record {
  columns = length-set row n value ∙ h.columns;
  entries = below_more (λ c. entry (set row n value) c ≡ entry x c -ℤ (times *ℤ entry y c)) n (λ c k. before c k ∙ h.entries c k) (here ∙ e.same);
  range = below_more (λ c. IsEntry (entry (set row n value) c)) n (λ c k. subst IsEntry (sym (before c k)) (h.range c k)) (subst IsEntry (sym here) e.range);
  left = λ c k. get_or-set_other row n c value (pos 0) (λ d. omega arith) ∙ h.left c (omega arith);
}
  where
    before : (c : ℕ) → c < n → entry (set row n value) c ≡ entry row c
    before c k = get_or-set_other row n c value (pos 0) (λ d. omega arith)

    here : entry (set row n value) n ≡ value
    here = get_or-set_same row n value (pos 0) (omega (arith, h.columns))

pub all_taken : (x y : List ℤ) (times : ℤ) (n : ℕ) (row : List ℤ) → length x ≡ n → length y ≡ n → IsTakenOff x y times n row → GivesEntries x y times row
all_taken x y times n row l k h = record {
  value = ext_get_or (pos 0) row (minus_times x times y) (omega (arith, lengths, h.columns)) (λ c i. h.entries c (omega (arith, h.columns)) ∙ sym (entry-minus_times x y times c));
  range = λ c d i. subst IsEntry (get_or_default row c (pos 0) d i) (h.range c (omega (arith, h.columns)));
}

pub taken_lesser : (x y : List ℤ) (times : ℤ) (n : ℕ) (row : List ℤ) → IsTakenOff x y times n row → (c : ℕ) → c < n → IsEntry (entry x c -ℤ (times *ℤ entry y c))
taken_lesser x y times n row h c l = subst IsEntry (h.entries c l) (h.range c l)

-- the product of a difference
pub weight-minus_times : (w x y : List ℤ) (times : ℤ) → length x ≡ length y → weight w x ≡ pos 0 → weight w y ≡ pos 0 → weight w (minus_times x times y) ≡ pos 0
weight-minus_times w x y times l h k =
    weight-subtract w x (scale times y) (omega (arith, lengths)) ∙ ap (λ z. weight w x -ℤ z) (weight-scale w times y ∙ ap (λ z. times *ℤ z) k) ∙ ap (λ z. z -ℤ (times *ℤ pos 0)) h ∙ omega (arith, ints)

pub length-given : (x y : List ℤ) (times : ℤ) (given : List ℤ) → length x ≡ length y → GivesEntries x y times given → length given ≡ length x
length-given x y times given l h = ap length h.value ∙ omega (arith, lengths)
