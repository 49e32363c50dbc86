use Rattle.std.proofs.Common.{◌≡◌, ◌-◌, ◌∷◌, length, take, drop, Err, ap, subst, sym, arith}
use Rattle.std.proofs.lemmas.Grind.{common_steps}
use Rattle.mk_files.specs.declared.numbers.NumberFault.TheVariants.{OutOfRange}
use Rattle.mk_files.specs.Numbers.{NumberBeyond}
use Rattle.mk_files.proofs.ErrorsPassed.{passed_on}
use Rattle.mk_files.proofs.NumbersRead.{minus_beyond, other_beyond}
use Rattle.mk_files.proofs.numbers.number_of.Goals as goal

pub returns-in_err-entry_of_digits-in-45-clause-out_of_range :
    goal.returns-in_err-entry_of_digits-in-45-clause-out_of_range
returns-in_err-entry_of_digits-in-45-clause-out_of_range c =
    λ is.
    let token = c.args.token.now in
    let e = passed_on c.from_residual.result c.in_err-entry_of_digits-in-45.field-0.0 OutOfRange c.from_residual.ensures.1 is in
    let whole : token ≡ 45 ∷ take (length token - 1) (drop 1 token) = grind (arith, common_steps) in
    subst NumberBeyond (sym whole) (minus_beyond _ (c.in_err-entry_of_digits-in-45.ensures.out_of_range (ap Err e)))

pub returns-in_default-clause-out_of_range : goal.returns-in_default-clause-out_of_range
returns-in_default-clause-out_of_range c =
    λ e. other_beyond c.args.token.now c.without_plus_sign.result.now c.without_plus_sign.ensures (c.entry_of_digits-in_default.ensures.out_of_range e)
