-- Changes of a folder that tells what it holds, one after another, and the faults behind them.
use Rattle.std.proofs.Common.{◌≡◌, ℕ, ◌+◌, List, ◌++◌, take, drop, Option, Some, None, Result, IsErrOf, inl, inr, arith, ap, sym, subst, ◌∙◌, append_assoc}
use Rattle.std.proofs.Math.Seq.{take-add}
use Rattle.mk_desk.specs.Folders.{Desk, State, HasCause, OnlyFaultsRose, WhereTold, Rose, said}
use Rattle.mk_desk.specs.declared.folder.DeskFault.{DeskFault}
use Rattle.mk_desk.specs.declared.folder.DeskFault.TheVariants.{Failed}
use Rattle.mk_desk.specs.declared.folder.Channel.{Channel}
use Rattle.mk_desk.specs.declared.folder.Channel.TheVariants.{Out, Err as OnErrors}

-- one change after another
pub where_told_then : (a b c : Option Desk) (P Q R : Desk → Desk → Type 0) → WhereTold a b P → WhereTold b c Q → ((x y z : Desk) → P x y → Q y z → R x z) → WhereTold a c R
where_told_then None None None P Q R p q r = tt
where_told_then None None (Some z) P Q R p q r = q
where_told_then None (Some y) c P Q R p q r = absurd p
where_told_then (Some x) None c P Q R p q r = absurd p
where_told_then (Some x) (Some y) None P Q R p q r = q
where_told_then (Some x) (Some y) (Some z) P Q R p q r = r x y z p q

-- a change said more weakly
pub where_told_weaker : (a b : Option Desk) (P R : Desk → Desk → Type 0) → WhereTold a b P → ((x y : Desk) → P x y → R x y) → WhereTold a b R
where_told_weaker None None P R p r = tt
where_told_weaker None (Some y) P R p r = p
where_told_weaker (Some x) None P R p r = p
where_told_weaker (Some x) (Some y) P R p r = r x y p

-- a change that holds of equal desks, where nothing was called
pub where_told_same : (a : Option Desk) (P : Desk → Desk → Type 0) → ((x : Desk) → P x x) → WhereTold a a P
where_told_same None P p = tt
where_told_same (Some x) P p = p x

-- a call that could change the faults alone, and did not fail, changed nothing
pub nothing_rose : {T : Type 0} (a b : State) (result : Result T DeskFault) → OnlyFaultsRose a b → HasCause Failed a b result → (IsErrOf result Failed → ⊥) → b ≡ a
nothing_rose a b result only cause not_failed = only ∙ ap (λ n. record a { faults = n }) (cause.quiet not_failed)

-- a call's cause, said from a state of as many faults
pub cause_from : {T E : Type 0} {failure : E} (a b c : State) (result : Result T E) → b.faults ≡ a.faults → HasCause failure b c result → HasCause failure a c result
cause_from a b c result same cause = record {
  later = let up = cause.later in omega arith;
  failed = λ failed. subst (λ n. Rose n c.faults) same (cause.failed failed);
  quiet = λ not_failed. cause.quiet not_failed ∙ same;
}

-- no count of faults rises to 0
pub none_rose : (a b : ℕ) → b ≡ 0 → Rose a b → ⊥
none_rose a b none (inl rose) = omega (arith, none, rose)
none_rose a b none (inr last) = cc

-- no call fails where no fault is counted
pub never_failed : {T E : Type 0} {failure : E} (a b : State) (result : Result T E) → b.faults ≡ 0 → HasCause failure a b result → IsErrOf result failure → ⊥
never_failed a b result none cause failed = none_rose a.faults b.faults none (cause.failed failed)

-- an answer that is not that failure, where no fault was counted
pub no_failure : {T E : Type 0} {failure : E} (a b : State) (result : Result T E) → b.faults ≡ a.faults → (IsErrOf result failure → ⊥) → HasCause failure a b result
no_failure a b result same not_failed = record {
  later = omega arith;
  failed = λ failed. absurd (not_failed failed);
  quiet = λ _. same;
}

-- made, then the front of what is left, is a longer front
pub puts_more : (done n : ℕ) (piece rest : List ℕ) → rest ≡ drop done piece → (x y z : Desk)
    → y ≡ record x { made = x.made ++ take done piece }
    → z ≡ record y { made = y.made ++ take n rest }
    → z ≡ record x { made = x.made ++ take (done + n) piece }
puts_more done n piece rest e x y z p q =
    q ∙ ap (λ (w : Desk). record w { made = w.made ++ take n rest }) p
    ∙ ap (λ bytes. record x { made = bytes }) (append_assoc x.made _ _ ∙ ap (λ bytes. x.made ++ bytes) (ap (λ bytes. take done piece ++ take n bytes) e ∙ sym (take-add done n piece)))

-- to say one piece and then another is to say both
pub said_twice : (channel : Channel) (xs ys : List ℕ) (x : Desk) → said channel ys (said channel xs x) ≡ said channel (xs ++ ys) x
said_twice Out xs ys x = ap (λ bytes. record x { out = bytes }) (append_assoc x.out xs ys)
said_twice OnErrors xs ys x = ap (λ bytes. record x { errors = bytes }) (append_assoc x.errors xs ys)

-- said, then the front of what is left, is a longer front
pub says_more : (channel : Channel) (done n : ℕ) (piece rest : List ℕ) → rest ≡ drop done piece → (x y z : Desk)
    → y ≡ said channel (take done piece) x
    → z ≡ said channel (take n rest) y
    → z ≡ said channel (take (done + n) piece) x
says_more channel done n piece rest e x y z p q =
    q ∙ ap (said channel (take n rest)) p ∙ said_twice channel _ _ x
    ∙ ap (λ bytes. said channel bytes x) (ap (λ bytes. take done piece ++ take n bytes) e ∙ sym (take-add done n piece))
