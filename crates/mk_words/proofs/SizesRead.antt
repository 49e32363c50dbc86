-- Sizes that are written with `x` between them.
use Rattle.std.proofs.Common.{◌≡◌, ◌≢◌, ◌<◌, ◌≤◌, ◌*◌, ℕ, suc, true, List, [], ◌∷◌, ◌++◌, Option, Some, None, Result, Ok, Err, length, get_or, refl, sym, ap, subst, ◌∙◌, length-append, arith, IfOk, MatchOption, All}
use Rattle.std.specs.List.{AllZip, AllPass}
use Rattle.std.specs.Char.{is_ascii_digit}
use Rattle.std.proofs.Math.Seq.{get_or-append_seam}
use Rattle.std.proofs.lemmas.List.Elements.{All-get_or, All-nil, All-cons}
use Rattle.std.proofs.lemmas.Bool.{false≢true}
use Rattle.mk_words.specs.Words.{Word}
use Rattle.mk_words.specs.SmallSizes.{product, AreSmallSizes}
use Rattle.mk_words.specs.Requests.{IsNumberIn, with_crosses, WriteSizes, AreSizes}

-- no byte of the word is an `x`
abbrev pub HasNoCross : Word → Type 0
HasNoCross word = (k : ℕ) → k < length word → get_or word k 0 ≢ 120

digits_no_cross : (word : Word) → AllPass is_ascii_digit word → HasNoCross word
digits_no_cross word each k lt e = false≢true (ap is_ascii_digit (sym e) ∙ All-get_or (λ b. is_ascii_digit b ≡ true) word k 0 lt each)

number_no_cross : (least most : ℕ) (word : Word) (n : ℕ) → IsNumberIn least most word n → HasNoCross word
number_no_cross least most word n is = digits_no_cross word is.digits.each

length_with : (a b : Word) → length a < length (a ++ 120 ∷ b)
length_with a b = omega (arith, length-append a (120 ∷ b))

no_cut : (word a b : Word) → HasNoCross word → word ≡ a ++ 120 ∷ b → ⊥
no_cut word a b none e =
    subst (λ (w : Word). HasNoCross w) e none (length a) (omega (arith, length_with a b)) (get_or-append_seam a 120 b 0)

-- a word is cut at its first cross in one way
record AreSameHalves (a c b d : Word) : Type 0 where
  front : a ≡ c
  behind : b ≡ d

cut_same : (a c b d : Word) → HasNoCross a → HasNoCross c → a ++ 120 ∷ b ≡ c ++ 120 ∷ d → AreSameHalves a c b d
cut_same [] [] b d p q e = record { front = refl; behind = cc }
cut_same [] (y ∷ c) b d p q e = let head : y ≡ 120 = cc in absurd (q 0 (omega arith) head)
cut_same (x ∷ a) [] b d p q e = let head : x ≡ 120 = cc in absurd (p 0 (omega arith) head)
cut_same (x ∷ a) (y ∷ c) b d p q e =
    let head : x ≡ y = cc in
    let tail : a ++ 120 ∷ b ≡ c ++ 120 ∷ d = cc in
    let more = cut_same a c b d (λ k lt is. p (suc k) (omega arith) is) (λ k lt is. q (suc k) (omega arith) is) tail in
    let first : a ≡ c = more.front in
    record { front = cc; behind = more.behind }

no_sizes_by : (word : Word) → HasNoCross word → (words : List Word) (numbers : List ℕ) → word ≡ with_crosses words → WriteSizes words numbers → ⊥
no_sizes_by word none [] [] e sizes = let some = sizes.some in absurd (omega arith)
no_sizes_by word none [] (n ∷ numbers) e sizes = absurd sizes.each
no_sizes_by word none (u ∷ []) [] e sizes = absurd sizes.each
no_sizes_by word none (u ∷ []) (n ∷ []) e sizes = let some = sizes.some in absurd (omega arith)
no_sizes_by word none (u ∷ []) (n ∷ m ∷ numbers) e sizes = absurd sizes.each.1
no_sizes_by word none (u ∷ v ∷ words) numbers e sizes = no_cut word u (with_crosses (v ∷ words)) none e

two_sizes_by : (word first rest : Word) → word ≡ first ++ 120 ∷ rest → HasNoCross first → HasNoCross rest → (words : List Word) (numbers : List ℕ) → word ≡ with_crosses words → WriteSizes words numbers → WriteSizes (first ∷ rest ∷ []) numbers
two_sizes_by word first rest e p q [] [] is sizes = let some = sizes.some in absurd (omega arith)
two_sizes_by word first rest e p q [] (n ∷ numbers) is sizes = absurd sizes.each
two_sizes_by word first rest e p q (u ∷ words) [] is sizes = absurd sizes.each
two_sizes_by word first rest e p q (u ∷ []) (n ∷ []) is sizes = let some = sizes.some in absurd (omega arith)
two_sizes_by word first rest e p q (u ∷ []) (n ∷ m ∷ numbers) is sizes = absurd sizes.each.1
two_sizes_by word first rest e p q (u ∷ v ∷ []) (n ∷ numbers) is sizes =
    let same = cut_same u first v rest (number_no_cross 2 16 u n sizes.each.0) p (sym is ∙ e) in
    subst (λ (words : List Word). WriteSizes words (n ∷ numbers)) (ap (λ x. x ∷ v ∷ []) same.front ∙ ap (λ x. first ∷ x ∷ []) same.behind) sizes
two_sizes_by word first rest e p q (u ∷ v ∷ w ∷ words) (n ∷ numbers) is sizes =
    let same = cut_same u first (with_crosses (v ∷ w ∷ words)) rest (number_no_cross 2 16 u n sizes.each.0) p (sym is ∙ e) in
    absurd (no_cut rest v (with_crosses (w ∷ words)) q (sym same.behind))

three_sizes_by : (word first rest second third : Word) → word ≡ first ++ 120 ∷ rest → HasNoCross first → rest ≡ second ++ 120 ∷ third → HasNoCross second → (words : List Word) (numbers : List ℕ) → word ≡ with_crosses words → WriteSizes words numbers → WriteSizes (first ∷ second ∷ third ∷ []) numbers
three_sizes_by word first rest second third e p f q [] [] is sizes = let some = sizes.some in absurd (omega arith)
three_sizes_by word first rest second third e p f q [] (n ∷ numbers) is sizes = absurd sizes.each
three_sizes_by word first rest second third e p f q (u ∷ words) [] is sizes = absurd sizes.each
three_sizes_by word first rest second third e p f q (u ∷ []) (n ∷ []) is sizes = let some = sizes.some in absurd (omega arith)
three_sizes_by word first rest second third e p f q (u ∷ []) (n ∷ m ∷ numbers) is sizes = absurd sizes.each.1
three_sizes_by word first rest second third e p f q (u ∷ v ∷ words) (n ∷ []) is sizes = absurd sizes.each.1
three_sizes_by word first rest second third e p f q (u ∷ v ∷ []) (n ∷ m ∷ numbers) is sizes =
    let same = cut_same u first v rest (number_no_cross 2 16 u n sizes.each.0) p (sym is ∙ e) in
    absurd (no_cut v second third (number_no_cross 2 16 v m sizes.each.1.0) (same.behind ∙ f))
three_sizes_by word first rest second third e p f q (u ∷ v ∷ w ∷ []) (n ∷ m ∷ numbers) is sizes =
    let same = cut_same u first (v ++ 120 ∷ w) rest (number_no_cross 2 16 u n sizes.each.0) p (sym is ∙ e) in
    let more = cut_same v second w third (number_no_cross 2 16 v m sizes.each.1.0) q (same.behind ∙ f) in
    subst (λ (words : List Word). WriteSizes words (n ∷ m ∷ numbers)) (ap (λ x. x ∷ v ∷ w ∷ []) same.front ∙ ap (λ x. first ∷ x ∷ w ∷ []) more.front ∙ ap (λ x. first ∷ second ∷ x ∷ []) more.behind) sizes
three_sizes_by word first rest second third e p f q (u ∷ v ∷ w ∷ x ∷ words) (n ∷ m ∷ []) is sizes = absurd sizes.each.1.1
three_sizes_by word first rest second third e p f q (u ∷ v ∷ w ∷ x ∷ words) (n ∷ m ∷ k ∷ []) is sizes = absurd sizes.each.1.1.1
three_sizes_by word first rest second third e p f q (u ∷ v ∷ w ∷ x ∷ words) (n ∷ m ∷ k ∷ l ∷ numbers) is sizes = let few = sizes.few in absurd (omega arith)

same_number : (least most : ℕ) (word : Word) (a b : ℕ) → IsNumberIn least most word a → IsNumberIn least most word b → a ≡ b
same_number least most word a b p q = p.value ∙ sym q.value

too_large_by : (u v w : Word) (a b c : ℕ) → IsNumberIn 2 16 u a → IsNumberIn 2 16 v b → IsNumberIn 2 16 w c → 512 < a * b * c → (numbers : List ℕ) → AllZip (IsNumberIn 2 16) (u ∷ v ∷ w ∷ []) numbers → product numbers ≤ 512 → ⊥
too_large_by u v w a b c p q r large [] each small = each
too_large_by u v w a b c p q r large (n ∷ []) each small = each.1
too_large_by u v w a b c p q r large (n ∷ m ∷ []) each small = each.1.1
too_large_by u v w a b c p q r large (n ∷ m ∷ k ∷ []) each small =
    let one : n ≡ a = same_number 2 16 u n a each.0 p in
    let two : m ≡ b = same_number 2 16 v m b each.1.0 q in
    let three : k ≡ c = same_number 2 16 w k c each.1.1.0 r in
    let is : n * (m * (k * 1)) ≡ a * (b * (c * 1)) = cc in absurd (omega arith)
too_large_by u v w a b c p q r large (n ∷ m ∷ k ∷ l ∷ numbers) each small = each.1.1.1

-- a word without a cross writes no sizes
pub no_sizes : (word : Word) → HasNoCross word → (numbers : List ℕ) → AreSizes word numbers → ⊥
no_sizes word none numbers sizes = no_sizes_by word none sizes.words numbers sizes.crossed sizes.sizes

pub two_sizes : (word first rest : Word) → word ≡ first ++ 120 ∷ rest → HasNoCross first → HasNoCross rest → (numbers : List ℕ) → AreSizes word numbers → WriteSizes (first ∷ rest ∷ []) numbers
two_sizes word first rest e p q numbers sizes = two_sizes_by word first rest e p q sizes.words numbers sizes.crossed sizes.sizes

pub three_sizes : (word first rest second third : Word) → word ≡ first ++ 120 ∷ rest → HasNoCross first → rest ≡ second ++ 120 ∷ third → HasNoCross second → (numbers : List ℕ) → AreSizes word numbers → WriteSizes (first ∷ second ∷ third ∷ []) numbers
three_sizes word first rest second third e p f q numbers sizes = three_sizes_by word first rest second third e p f q sizes.words numbers sizes.crossed sizes.sizes

-- what holds of the sizes that are found holds in other words
pub sizes_as : {V E : Type 0} (r : Result (Option V) E) (items : V → List ℕ) (P Q : List ℕ → Type 0) → ((n : List ℕ) → P n → Q n) → ((n : List ℕ) → Q n → P n) → IfOk r (λ found. MatchOption found ((n : List ℕ) → P n → ⊥) (λ s. P (items s))) → IfOk r (λ found. MatchOption found ((n : List ℕ) → Q n → ⊥) (λ s. Q (items s)))
sizes_as (Ok None) items P Q to back h = λ n q. h n (back n q)
sizes_as (Ok (Some v)) items P Q to back h = to (items v) h
sizes_as (Err e) items P Q to back h = h

pub sizes_too_large : (u v w : Word) (a b c : ℕ) → IsNumberIn 2 16 u a → IsNumberIn 2 16 v b → IsNumberIn 2 16 w c → 512 < a * b * c → (numbers : List ℕ) → WriteSizes (u ∷ v ∷ w ∷ []) numbers → ⊥
sizes_too_large u v w a b c p q r large numbers sizes = too_large_by u v w a b c p q r large numbers sizes.each sizes.small

-- a word writes the same sizes only
same_numbers : (words : List Word) (one other : List ℕ) → AllZip (IsNumberIn 2 16) words one → AllZip (IsNumberIn 2 16) words other → one ≡ other
same_numbers [] [] [] p q = refl
same_numbers [] [] (n ∷ other) p q = absurd q
same_numbers [] (n ∷ one) other p q = absurd p
same_numbers (w ∷ words) [] other p q = absurd p
same_numbers (w ∷ words) (n ∷ one) [] p q = absurd q
same_numbers (w ∷ words) (n ∷ one) (m ∷ other) p q =
    ap (λ x. x ∷ one) (same_number 2 16 w n m p.0 q.0) ∙ ap (λ x. m ∷ x) (same_numbers words one other p.1 q.1)

abbrev HaveNoCross : List Word → Type 0
HaveNoCross [] = Unit {0}
HaveNoCross (w ∷ words) = HasNoCross w × HaveNoCross words

have_no_cross : (words : List Word) (numbers : List ℕ) → AllZip (IsNumberIn 2 16) words numbers → HaveNoCross words
have_no_cross [] numbers p = tt
have_no_cross (w ∷ words) [] p = absurd p
have_no_cross (w ∷ words) (n ∷ numbers) p = (number_no_cross 2 16 w n p.0, have_no_cross words numbers p.1)

same_crossed : (u v : Word) (one other : List Word) → HaveNoCross (u ∷ one) → HaveNoCross (v ∷ other) → with_crosses (u ∷ one) ≡ with_crosses (v ∷ other) → u ∷ one ≡ v ∷ other
same_crossed u v [] [] p q e = ap (λ x. x ∷ []) e
same_crossed u v [] (w ∷ other) p q e = absurd (no_cut u v (with_crosses (w ∷ other)) p.0 e)
same_crossed u v (w ∷ one) [] p q e = absurd (no_cut v u (with_crosses (w ∷ one)) q.0 (sym e))
same_crossed u v (w ∷ one) (x ∷ other) p q e =
    let same = cut_same u v (with_crosses (w ∷ one)) (with_crosses (x ∷ other)) p.0 q.0 e in
    ap (λ y. y ∷ w ∷ one) same.front ∙ ap (λ y. v ∷ y) (same_crossed w x one other p.1 q.1 same.behind)

no_words : (numbers : List ℕ) → WriteSizes [] numbers → ⊥
no_words [] sizes = let some = sizes.some in absurd (omega arith)
no_words (n ∷ numbers) sizes = sizes.each

same_words : (one other : List Word) (m n : List ℕ) → WriteSizes one m → WriteSizes other n → with_crosses one ≡ with_crosses other → one ≡ other
same_words [] other m n p q e = absurd (no_words m p)
same_words (u ∷ one) [] m n p q e = absurd (no_words n q)
same_words (u ∷ one) (v ∷ other) m n p q e =
    same_crossed u v one other (have_no_cross (u ∷ one) m p.each) (have_no_cross (v ∷ other) n q.each) e

pub same_sizes : (word : Word) (m n : List ℕ) → AreSizes word m → AreSizes word n → m ≡ n
same_sizes word m n p q =
    same_numbers q.words m n (subst (λ (words : List Word). AllZip (IsNumberIn 2 16) words m) (same_words p.words q.words m n p.sizes q.sizes (sym p.crossed ∙ q.crossed)) p.sizes.each) q.sizes.each

numbers_small : (words : List Word) (numbers : List ℕ) → AllZip (IsNumberIn 2 16) words numbers → All (λ n. (2 ≤ n) × (n ≤ 16)) numbers
numbers_small [] [] p = All-nil _
numbers_small [] (n ∷ numbers) p = absurd p
numbers_small (w ∷ words) [] p = absurd p
numbers_small (w ∷ words) (n ∷ numbers) p = All-cons (λ m. (2 ≤ m) × (m ≤ 16)) n numbers (p.0.above, p.0.below) (numbers_small words numbers p.1)

-- sizes that a word writes are small
pub sizes_small : (word : Word) (numbers : List ℕ) → AreSizes word numbers → AreSmallSizes numbers
sizes_small word numbers sizes = record { some = sizes.sizes.some; few = sizes.sizes.few; each = numbers_small sizes.words numbers sizes.sizes.each; small = sizes.sizes.small }
