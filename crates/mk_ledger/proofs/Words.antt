-- The bits of words: what setting one, and words of zeros behind them, leave of the others.
use Rattle.std.proofs.Common.{◌≡◌, ◌≢◌, ◌⊎◌, inl, inr, ℕ, zero, suc, ◌+◌, ◌-◌, ◌*◌, ◌/◌, ◌%◌, ◌^◌, ◌<◌, ◌≤◌, ◌==◌, Bool, true, false, List, [], ◌∷◌, ◌++◌, length, get_or, set, take, replicate, arith, refl, sym, ap, ◌∙◌, subst, ⊎_elim, length-set, length-append, append_assoc, append-nil}
use Rattle.std.proofs.Math.Seq.{take-append_seam}
use Rattle.std.specs.Int.{bit_at, w64}
use Rattle.std.specs.Int.RustNames.{bit_or, bit_and}
use Rattle.std.proofs.lemmas.Nat.{div_below, mod_below, div-add-mod'}
use Rattle.std.proofs.lemmas.Nat.Bits.{shr_and_one, bit_at_set_same, bit_at_set_other, bit_at-zero}
use Rattle.std.proofs.lemmas.Bool.{cases_lt, cases_eq}
use Rattle.std.proofs.lemmas.List.{get_or-set_same, get_or-set_other, get_or_past, get_or_default, get_or_append_left, get_or-append_right, get_or-replicate, length-replicate}
use Rattle.std.proofs.lemmas.List.FromFn.{length-map-range_with_len, get_or-map-range_with_len, map-range_with_len_more}
use Rattle.mk_ledger.specs.PairFlags.{pairs_of, pair_number, flag_at, flags_of, AreWords}
use Rattle.mk_ledger.proofs.PairNumbers.{number_below, pairs_of_more}

-- the words with the bit of a number set
abbrev pub with_bit : List ℕ → ℕ → List ℕ
with_bit words number = set words (number / 64) (bit_or (get_or words (number / 64) 0) (1 * 2 ^ (number % 64) % 2 ^ 64))

pub flag_set_same : (words : List ℕ) (number : ℕ) → number / 64 < length words → flag_at (with_bit words number) number ≡ true
unfolding flag_at
flag_set_same words number l =
    ap (λ w. bit_at w (number % 64) == 1) (get_or-set_same words (number / 64) (bit_or (get_or words (number / 64) 0)
    (1 * 2 ^ (number % 64) % 2 ^ 64)) 0 l)
    ∙ ap (λ b. b == 1) (bit_at_set_same w64 (get_or words (number / 64) 0) (number % 64) (mod_below number 64 (omega arith)))

pub flag_set_other : (words : List ℕ) (number k : ℕ) → number / 64 < length words → k ≢ number →
    flag_at (with_bit words number) k ≡ flag_at words k
unfolding flag_at
flag_set_other words number k l ne = go (cases_eq (k / 64) (number / 64))
  where
    go : (k / 64 ≡ number / 64) ⊎ (k / 64 ≢ number / 64) → flag_at (with_bit words number) k ≡ flag_at words k
    go (inl e) =
        let apart : k % 64 ≢ number % 64 = λ f. ne (omega (arith, e, f, div-add-mod' k 64, div-add-mod' number 64)) in
        ap (λ p. bit_at (get_or (with_bit words number) p 0) (k % 64) == 1) e
        ∙ ap (λ w. bit_at w (k % 64) == 1) (get_or-set_same words (number / 64) (bit_or (get_or words (number / 64) 0)
        (1 * 2 ^ (number % 64) % 2 ^ 64)) 0 l)
        ∙ ap (λ b. b == 1) (bit_at_set_other w64 (get_or words (number / 64) 0) (number % 64) (mod_below number 64 (omega arith))
        (k % 64) apart)
        ∙ sym (ap (λ p. bit_at (get_or words p 0) (k % 64) == 1) e)
    go (inr f) = ap (λ w. bit_at w (k % 64) == 1) (get_or-set_other words (number / 64) (k / 64) (bit_or (get_or words (number / 64) 0)
        (1 * 2 ^ (number % 64) % 2 ^ 64)) 0 f)

-- past the words no bit is set
pub get_or_zeros : (words : List ℕ) (n p : ℕ) → get_or (words ++ replicate n 0) p 0 ≡ get_or words p 0
get_or_zeros words n p = go (cases_lt p (length words))
  where
    behind : length words ≤ p → get_or (replicate n 0) (p - length words) 0 ≡ zero
    behind l = let z : ℕ =
        0 in ⊎_elim (λ h. get_or-replicate n (p - length words) 0 0 h) (λ h. get_or_past (replicate n 0) (p - length words) 0
        (subst (λ k. k ≤ p - length words) (sym (length-replicate n 0)) h)) (cases_lt (p - length words) n)

    go : (p < length words) ⊎ (length words ≤ p) → get_or (words ++ replicate n 0) p 0 ≡ get_or words p 0
    go (inl l) = get_or_append_left words (replicate n 0) 0 p l
    go (inr l) = get_or-append_right words (replicate n 0) (length words) p 0 refl l ∙ behind l ∙ sym (get_or_past words p 0 l)

pub flag_zeros : (words : List ℕ) (n k : ℕ) → flag_at (words ++ replicate n 0) k ≡ flag_at words k
unfolding flag_at
flag_zeros words n k = ap (λ w. bit_at w (k % 64) == 1) (get_or_zeros words n (k / 64))

pub flag_without_words : (k : ℕ) → flag_at [] k ≡ false
unfolding flag_at
flag_without_words k = ap (λ b. b == 1) (bit_at-zero (k % 64))

-- ---- the flags below a count
pub flag_below : (words : List ℕ) (count k : ℕ) → k < count → get_or (flags_of words count) k false ≡ flag_at words k
flag_below words count k l = get_or-map-range_with_len (flag_at words) 0 count k k false l (omega arith)

-- words whose bits below a count are the same have the same flags
pub same_flags : (words others : List ℕ) (count : ℕ) → ((k : ℕ) → k < count → flag_at words k ≡ flag_at others k) →
    flags_of words count ≡ flags_of others count
same_flags words others zero h = refl
same_flags words others (suc count) h =
    let e : count + 1 ≡ suc count = omega arith in
    let step : flags_of words (count + 1) ≡ flags_of others (count + 1) =
    map-range_with_len_more (flag_at words) 0 count count (omega arith)
    ∙ ap (λ xs. xs ++ flag_at words count ∷ []) (same_flags words others count (λ k l. h k (omega arith)))
    ∙ ap (λ b. flags_of others count ++ b ∷ []) (h count (omega arith))
    ∙ sym (map-range_with_len_more (flag_at others) 0 count count (omega arith)) in
    subst (λ n. flags_of words n ≡ flags_of others n) e step

same_from_flags : (xs ys : List Bool) → length xs ≡ length ys → ((k : ℕ) → k < length xs → get_or xs k false ≡ get_or ys k false) → xs ≡ ys
same_from_flags [] [] e h = refl
same_from_flags [] (y ∷ ys) e h = absurd (omega arith)
same_from_flags (x ∷ xs) [] e h = absurd (omega arith)
same_from_flags (x ∷ xs) (y ∷ ys) e h =
    ap (λ z. z ∷ xs) (h 0 (omega arith)) ∙ ap (λ zs. y ∷ zs) (same_from_flags xs ys (omega arith) (λ k l. h (suc k) (omega arith)))

one_more : (n : ℕ) → replicate n false ++ false ∷ [] ≡ replicate (suc n) false
one_more zero = refl
one_more (suc n) = ap (λ xs. false ∷ xs) (one_more n)

-- a flag that is set
pub flags_set : (words : List ℕ) (count number : ℕ) → number < count → number / 64 < length words →
    flags_of (with_bit words number) count ≡ set (flags_of words count) number true
flags_set words count number l within =
    let size : length (flags_of words count) ≡ count = length-map-range_with_len (flag_at words) 0 count in
    let sized : length (flags_of (with_bit words number) count) ≡ count =
    length-map-range_with_len (flag_at (with_bit words number)) 0 count in
    same_from_flags (flags_of (with_bit words number) count) (set (flags_of words count) number true)
    (sized ∙ sym size ∙ sym (length-set (flags_of words count) number true))
    (λ k h. let here : k < count = omega (arith, h, sized) in
    flag_below (with_bit words number) count k here ∙ ⊎_elim
    (λ e. ap (flag_at (with_bit words number)) e ∙ flag_set_same words number within
    ∙ sym (ap (λ p. get_or (set (flags_of words count) number true) p false) e
    ∙ get_or-set_same (flags_of words count) number true false (omega (arith, l, size))))
    (λ f. flag_set_other words number k within f ∙ sym (get_or-set_other (flags_of words count) number k true false f
    ∙ flag_below words count k here))
    (cases_eq k number))

-- flags behind a count that are all clear
pub flags_clear : (words : List ℕ) (count more : ℕ) → ((k : ℕ) → count ≤ k → flag_at words k ≡ false) →
    flags_of words (count + more) ≡ flags_of words count ++ replicate more false
flags_clear words count zero h = let e : count + zero ≡ count =
    omega arith in ap (flags_of words) e ∙ sym (append-nil (flags_of words count))
flags_clear words count (suc more) h =
    let e : count + suc more ≡ count + more + 1 = omega arith in
    ap (flags_of words) e
    ∙ map-range_with_len_more (flag_at words) 0 (count + more) (count + more) (omega arith)
    ∙ ap (λ b. flags_of words (count + more) ++ b ∷ []) (h (count + more) (omega arith))
    ∙ ap (λ xs. xs ++ false ∷ []) (flags_clear words count more h)
    ∙ append_assoc (flags_of words count) (replicate more false) (false ∷ [])
    ∙ ap (λ xs. flags_of words count ++ xs) (one_more more)

-- ---- the words of pairs
pub word_within : (words : List ℕ) (moves i j : ℕ) → AreWords words moves → i < j → j < moves → pair_number i j / 64 < length words
word_within words moves i j h l k =
    div_below (pair_number i j) 64 (length words) (omega arith) (omega (arith, h.room, number_below i j moves l k))

-- what the code reads, and what it writes
pub flag_read : (words : List ℕ) (moves i j word : ℕ) → AreWords words moves → i < j → j < moves →
    word ≡ get_or words (pair_number i j / 64) word →
    (bit_and (word / 2 ^ (pair_number i j % 64)) 1 == 1) ≡ get_or (flags_of words (pairs_of moves)) (pair_number i j) false
unfolding flag_at
flag_read words moves i j word h l k e =
    ap (λ b. b == 1) (shr_and_one word (pair_number i j % 64))
    ∙ ap (λ w. bit_at w (pair_number i j % 64) == 1) (e
    ∙ get_or_default words (pair_number i j / 64) word 0 (word_within words moves i j h l k))
    ∙ sym (flag_below words (pairs_of moves) (pair_number i j) (number_below i j moves l k))

pub words_written : (words : List ℕ) (moves i j word : ℕ) → AreWords words moves → i < j → j < moves →
    word ≡ get_or words (pair_number i j / 64) word →
    set words (pair_number i j / 64) (bit_or word (1 * 2 ^ (pair_number i j % 64) % 2 ^ 64)) ≡ with_bit words (pair_number i j)
words_written words moves i j word h l k e =
    ap (λ w. set words (pair_number i j / 64) (bit_or w (1 * 2 ^ (pair_number i j % 64) % 2 ^ 64))) (e
    ∙ get_or_default words (pair_number i j / 64) word 0 (word_within words moves i j h l k))

pub marked : (words : List ℕ) (moves i j : ℕ) → AreWords words moves → i < j → j < moves → AreWords (with_bit words (pair_number i j)) moves
marked words moves i j h l k =
    let number : ℕ = pair_number i j in
    let word : ℕ = bit_or (get_or words (number / 64) 0) (1 * 2 ^ (number % 64) % 2 ^ 64) in
    record {
      few = h.few;
      room = subst (λ n. pairs_of moves ≤ n * 64) (sym (length-set words (number / 64) word)) h.room;
      clear = λ p q. flag_set_other words number p (word_within words moves i j h l k)
          (λ e. omega (arith, e, number_below i j moves l k, q)) ∙ h.clear p q;
    }

pub grown : (words others : List ℕ) (moves n : ℕ) → AreWords words moves → moves < 65536 → others ≡ words ++ replicate n 0 →
    pairs_of (moves + 1) ≤ length others * 64 → AreWords others (moves + 1)
grown words others moves n h l e room = record {
  few = omega (arith, l);
  room = room;
  clear = λ p q. ap (λ ws. flag_at ws p) e ∙ flag_zeros words n p ∙ h.clear p (omega (arith, q, pairs_of_more moves));
}

pub flags_grown : (words others : List ℕ) (moves n : ℕ) → AreWords words moves → others ≡ words ++ replicate n 0 →
    flags_of others (pairs_of (moves + 1)) ≡ flags_of words (pairs_of moves) ++ replicate moves false
flags_grown words others moves n h e =
    ap (flags_of others) (pairs_of_more moves)
    ∙ same_flags others words (pairs_of moves + moves) (λ k l. ap (λ ws. flag_at ws k) e ∙ flag_zeros words n k)
    ∙ flags_clear words (pairs_of moves) moves h.clear

-- zeros behind the words until there are so many
pub filled_room : (words others : List ℕ) (pairs : ℕ) → others ≡ words ++ replicate ((pairs + 63) / 64 - length words) 0 →
    pairs ≤ length others * 64
filled_room words others pairs e =
    let n : ℕ = (pairs + 63) / 64 - length words in
    let size : length others ≡ length words + n =
    ap length e ∙ length-append words (replicate n 0) ∙ ap (λ k. length words + k) (length-replicate n 0) in
    omega (arith, size, div-add-mod' (pairs + 63) 64, mod_below (pairs + 63) 64 (omega arith))

-- ---- words of zeros alone
zeros_alone : (old words : List ℕ) (n k : ℕ) → old ≡ [] → words ≡ old ++ replicate n 0 → flag_at words k ≡ false
zeros_alone old words n k none e = ap (λ ws. flag_at ws k) e ∙ flag_zeros old n k ∙ ap (λ ws. flag_at ws k) none ∙ flag_without_words k

pub fresh : (old words : List ℕ) (moves : ℕ) → moves ≤ 65536 → old ≡ [] →
    words ≡ old ++ replicate ((pairs_of moves + 63) / 64 - length old) 0 → AreWords words moves
fresh old words moves l none e = record {
  few = l;
  room = filled_room old words (pairs_of moves) e;
  clear = λ k _. zeros_alone old words ((pairs_of moves + 63) / 64 - length old) k none e;
}

pub flags_fresh : (old words : List ℕ) (n count : ℕ) → old ≡ [] → words ≡ old ++ replicate n 0 →
    flags_of words count ≡ replicate count false
flags_fresh old words n count none e =
    let z : 0 + count ≡ count = omega arith in
    ap (flags_of words) (sym z) ∙ flags_clear words 0 count (λ k _. zeros_alone old words n k none e)

-- ---- one move fewer, of whose pairs none is settled
module _ (words : List ℕ) (moves : ℕ) (h : AreWords words moves) (some : 0 < moves) (clear : (k : ℕ) → pairs_of (moves - 1) ≤ k →
    get_or (flags_of words (pairs_of moves)) k false ≡ false) where
  shrunk_clear : (k : ℕ) → pairs_of (moves - 1) ≤ k → flag_at words k ≡ false
  shrunk_clear k l = ⊎_elim (λ below. sym (flag_below words (pairs_of moves) k below) ∙ clear k l) (λ past. h.clear k past)
      (cases_lt k (pairs_of moves))

  last_pairs : pairs_of moves ≡ pairs_of (moves - 1) + (moves - 1)
  last_pairs = let e : moves ≡ moves - 1 + 1 = omega arith in ap pairs_of e ∙ pairs_of_more (moves - 1)

  pub shrunk : AreWords words (moves - 1)
  shrunk = record { few = omega (arith, h.few); room = omega (arith, h.room, last_pairs); clear = shrunk_clear }

  pub flags_shrunk : flags_of words (pairs_of (moves - 1)) ≡ take (pairs_of (moves - 1)) (flags_of words (pairs_of moves))
  flags_shrunk =
      let count : ℕ = pairs_of (moves - 1) in
      let size : length (flags_of words count) ≡ count = length-map-range_with_len (flag_at words) 0 count in
      sym (ap (λ n. take count (flags_of words n)) last_pairs ∙ ap (take count) (flags_clear words count (moves - 1) shrunk_clear)
      ∙ ap (λ n. take n (flags_of words count ++ replicate (moves - 1) false)) (sym size)
      ∙ take-append_seam (flags_of words count) (replicate (moves - 1) false))
