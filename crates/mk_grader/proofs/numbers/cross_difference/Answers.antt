use Rattle.std.proofs.Common.{◌≡◌, ℤ, Option, Some, None, IfSome, IfNone, ◌-ℤ◌, ◌*ℤ◌, FitsSigned, rules}
use Rattle.std.specs.Int.{w128}
use Rattle.std.proofs.Math.Facts.{to_z-of_z}
use Rattle.mk_grader.specs.Ranges.{IsInRange, IsComputed}
use Rattle.mk_grader.proofs.numbers.cross_difference.Goals as goal

value_of : (r : Option ℤ) (a p f g x y : ℤ) → x ≡ a *ℤ p → y ≡ f *ℤ g → IfSome r (λ z. z ≡ x -ℤ y) → IfSome r (λ z. z ≡ (a *ℤ p) -ℤ (f *ℤ g))
value_of None a p f g x y e d h = tt
value_of (Some z) a p f g x y e d h = rw (e, d) at h

computed : (r : Option ℤ) (a p f g x y : ℤ) → x ≡ a *ℤ p → y ≡ f *ℤ g → IsInRange x → IsInRange y →
    IfSome r (λ z. z ≡ x -ℤ y) → IfSome r IsInRange → IfSome r (λ _. IsComputed a p f g)
computed None a p f g x y e d i j h k = tt
computed (Some z) a p f g x y e d i j h k = record { product = rw e at i; other = rw d at j; difference = rw (h, e, d) at k }

not_computed : (r : Option ℤ) (a p f g x y : ℤ) → x ≡ a *ℤ p → y ≡ f *ℤ g → IfNone r (¬ (IsInRange (x -ℤ y))) → IfNone r (¬ (IsComputed a p f g))
not_computed None a p f g x y e d h = λ c. h (rw (e, d) c.difference)
not_computed (Some z) a p f g x y e d h = tt

pub returns-clause-value : goal.returns-clause-value
returns-clause-value c =
    let fa : FitsSigned w128 c.args.a = search rules in
    let fp : FitsSigned w128 c.args.p = search rules in
    let ff : FitsSigned w128 c.args.f = search rules in
    let fg : FitsSigned w128 c.args.g = search rules in
    let fx : FitsSigned w128 c.in-Some.first = search rules in
    let fy : FitsSigned w128 c.in-Some-product.second = search rules in
    let one = simp to_z-of_z at c.in-Some.ensures.value in
    let two = simp to_z-of_z at c.in-Some-product.ensures.value in
    value_of c.difference.result c.args.a c.args.p c.args.f c.args.g c.in-Some.first c.in-Some-product.second one two (simp to_z-of_z at c.difference.ensures.value)

pub returns-clause-some : goal.returns-clause-some
returns-clause-some c =
    let fa : FitsSigned w128 c.args.a = search rules in
    let fp : FitsSigned w128 c.args.p = search rules in
    let ff : FitsSigned w128 c.args.f = search rules in
    let fg : FitsSigned w128 c.args.g = search rules in
    let fx : FitsSigned w128 c.in-Some.first = search rules in
    let fy : FitsSigned w128 c.in-Some-product.second = search rules in
    let one = simp to_z-of_z at c.in-Some.ensures.value in
    let two = simp to_z-of_z at c.in-Some-product.ensures.value in
    computed c.difference.result c.args.a c.args.p c.args.f c.args.g c.in-Some.first c.in-Some-product.second one two c.in-Some.ensures.range c.in-Some-product.ensures.range
    (simp to_z-of_z at c.difference.ensures.value) c.difference.ensures.range

pub returns-clause-none : goal.returns-clause-none
returns-clause-none c =
    let fa : FitsSigned w128 c.args.a = search rules in
    let fp : FitsSigned w128 c.args.p = search rules in
    let ff : FitsSigned w128 c.args.f = search rules in
    let fg : FitsSigned w128 c.args.g = search rules in
    let fx : FitsSigned w128 c.in-Some.first = search rules in
    let fy : FitsSigned w128 c.in-Some-product.second = search rules in
    let one = simp to_z-of_z at c.in-Some.ensures.value in
    let two = simp to_z-of_z at c.in-Some-product.ensures.value in
    not_computed c.difference.result c.args.a c.args.p c.args.f c.args.g c.in-Some.first c.in-Some-product.second one two (simp to_z-of_z at c.difference.ensures.none)
