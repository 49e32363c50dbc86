use Rattle.std.proofs.Common.{◌≡◌, ◌≢◌, ◌⊎◌, inl, inr, IsTrue, ◌<◌, ◌*◌, ℕ, suc, ◌+◌, ◌-◌, ◌/◌, ◌%◌, nat_lt, arith, ap, sym}
use Rattle.std.proofs.lemmas.Bool.Decides.{nat_tests}
use Rattle.mk_grader.proofs.fractions.+is_smaller.Goals as goal

-- by the quotients
smaller_quotient : (a b c d q s r t : ℕ) → a ≡ b * q + r → c ≡ d * s + t → r < b → 0 < d → q < s → a * d < c * b
smaller_quotient a b c d q s r t e f l p h =
    let k : ℕ = b - suc r in
    let m : ℕ = s - suc q in
    let kb : b ≡ suc r + (b - suc r) = omega arith in
    let ms : s ≡ suc q + (s - suc q) = omega arith in
    let one = ap (λ z. z * d) e in
    let two = ap (λ z. z * b) f in
    let three = ap (λ z. z * d) kb in
    let four = ap (λ z. d * b * z) ms in
    omega (arith, one, two, three, four)

-- by the rests
same_quotient : (a b c d q r t : ℕ) → a ≡ b * q + r → c ≡ d * q + t → (a * d < c * b → r * d < t * b) × (r * d < t * b → a * d < c * b)
same_quotient a b c d q r t e f =
    let one = ap (λ z. z * d) e in
    let two = ap (λ z. z * b) f in
    ((λ h. omega (arith, one, two)), λ h. omega (arith, one, two))

module _ (a b c d : ℕ) (first : 0 < b) (second : 0 < d) where
  divided : a ≡ b * (a / b) + a % b
  divided = omega arith

  other_divided : c ≡ d * (c / d) + c % d
  other_divided = omega arith

  rest_below : a % b < b
  rest_below = omega arith

  left_below : c % d < d
  left_below = omega arith

  by_quotients : a / b ≢ c / d → (IsTrue (nat_lt (a / b) (c / d)) → a * d < c * b) × (a * d < c * b → IsTrue (nat_lt (a / b) (c / d)))
  by_quotients h = go (cases (a / b) (c / d) h)
    where
      cases : (x y : ℕ) → x ≢ y → (x < y) ⊎ (y < x)
      cases x y d = grind arith

      test : (x y : ℕ) → x < y → IsTrue (nat_lt x y)
      test x y l = grind (arith, nat_tests)

      untest : (x y : ℕ) → y < x → ¬ (IsTrue (nat_lt x y))
      untest x y l = grind (arith, nat_tests)

      go : (a / b < c / d) ⊎ (c / d < a / b) → (IsTrue (nat_lt (a / b) (c / d)) → a * d < c * b) × (a * d < c * b → IsTrue (nat_lt (a / b) (c / d)))
      go (inl l) = ((λ t. smaller_quotient a b c d (a / b) (c / d) (a % b) (c % d) divided other_divided rest_below second l), λ t. test (a / b) (c / d) l)
      go (inr l) =
          let k = smaller_quotient c d a b (c / d) (a / b) (c % d) (a % b) other_divided divided left_below first l in
          ((λ t. absurd (untest (a / b) (c / d) l t)), λ t. absurd (omega (arith, k, t)))

  by_rests : a / b ≡ c / d → (a * d < c * b → a % b * d < c % d * b) × (a % b * d < c % d * b → a * d < c * b)
  by_rests h = same_quotient a b c d (a / b) (a % b) (c % d) divided (rw (sym h) at other_divided)

pub returns-then-quotient-other : goal.returns-then-quotient-other
returns-then-quotient-other t c = by_quotients c.args.a c.args.b c.args.c c.args.d c.requires.first c.requires.second c.if-quotient-other.true

pub returns-then-left-eq0 : goal.returns-then-left-eq0
returns-then-left-eq0 t c =
    let (one, two) = by_rests c.args.a c.args.b c.args.c c.args.d c.requires.first c.requires.second c.if-quotient-other.false in
    ((λ h. absurd (grind arith)), λ h. let k = one h in let z = ap (λ w. w * c.args.b) c.if-left-eq0.true in absurd (omega (arith, k, z)))

pub returns-then-rest-eq0 : goal.returns-then-rest-eq0
returns-then-rest-eq0 t c =
    let (one, two) = by_rests c.args.a c.args.b c.args.c c.args.d c.requires.first c.requires.second c.if-quotient-other.false in
    let more : c.args.c % c.args.d ≡ suc (c.args.c % c.args.d - 1) = omega arith in
    let none = ap (λ w. w * c.args.d) c.if-rest-eq0.true in
    let some = ap (λ w. w * c.args.b) more in
    ((λ h. two (omega (arith, none, some))), λ h. grind arith)

pub returns : goal.returns
returns t c =
    let (one, two) = by_rests c.args.a c.args.b c.args.c c.args.d c.requires.first c.requires.second c.if-quotient-other.false in
    ((λ h. two (omega (arith, c.is_smaller.ensures.0 h))), λ h. c.is_smaller.ensures.1 (omega (arith, one h)))
