use Rattle.std.proofs.Common.{◌<◌, ◌≡◌, ◌+◌, pos, get_or, arith, rules, refl, sym, ◌∙◌, ap, subst, ◌<ℤ◌}
use mir.Val.{to_z, SFits}
use borrow.Author.Differences.{up}
use Rattle.std.specs.Int.{int_min}
use Rattle.std.proofs.lemmas.Int.{ints, to_z-of_z}
use Rattle.mk_move.specs.Sides.{entry_on}
use Rattle.mk_move.proofs.Entries.{as_entry, entry_width, entry_read}
use Rattle.mk_move.proofs.Readings.{less, not_less, part_read, quotient_read}
use Rattle.mk_move.proofs.Divisions.{IsTimesSoFar, times_at_first, times_same, times_less, times_range, times_whole, natural, entry_on_nonnegative, entry_on_most}
use Rattle.mk_move.proofs.leads.most_times.Goals as goal
use Rattle.mk_move.proofs.leads.most_times.Goals.{then-entry-gt0, else-entry-gt0}

pub loop-column-init : goal.loop-column-init
loop-column-init c = times_at_first c.args.lead.now c.args.row.now c.args.side c.requires.entries c.requires.not_zero

pub loop-column-preserved : goal.loop-column-preserved
loop-column-preserved c =
    let n = c.loop-column.column in
    let lead = get_or c.args.lead.now n (pos 0) in
    let part = entry_on c.args.side (get_or c.args.row.now n (pos 0)) in
    let times = to_z entry_width c.loop-column.times-bits in
    let lead_is : as_entry lead ≡ lead = entry_read lead (c.requires.lead n (pos 0) (omega arith)) in
    elim c.if-entry-gt0.branch [
      | then-entry-gt0 w ↦
          (let positive : pos 0 <ℤ lead = less _ _ (pos 0) _ refl lead_is w.if-entry-gt0.true in
          let lead_nat : lead ≡ pos (up lead) = natural lead (omega (arith, ints)) in
          let part_nat : part ≡ pos (up part) = natural part (entry_on_nonnegative c.args.side (get_or c.args.row.now n (pos 0))) in
          let range = c.requires.entries n (pos 0) (omega arith) in
          let part_is : as_entry w.entry_of.result ≡ part = part_read c.args.side (get_or c.args.row.now n (pos 0)) w.entry_of.result range w.entry_of.ensures in
          let fits : SFits entry_width w.min-times.result = search rules in
          subst (IsTimesSoFar c.args.lead.now c.args.row.now c.args.side (n + 1))
          (sym (w.times-is ∙ to_z-of_z entry_width w.min-times.result fits ∙ w.min-times.ensures.value
          ∙ ap (int_min times) (quotient_read _ _ (up part) (up lead) (part_is ∙ part_nat) (lead_is ∙ lead_nat) (entry_on_most c.args.side (get_or c.args.row.now n (pos 0)) range))))
          (times_less c.args.lead.now c.args.row.now c.args.side n times (up part) (up lead) lead_nat (omega (arith, ints)) part_nat c.requires.divides c.loop-column.invariant))
      | else-entry-gt0 w ↦
          subst (IsTimesSoFar c.args.lead.now c.args.row.now c.args.side (n + 1)) (sym w.times-is)
          (times_same c.args.lead.now c.args.row.now c.args.side n times (not_less _ _ (pos 0) _ refl lead_is w.if-entry-gt0.false) c.loop-column.invariant)
    ]

pub returns-clause-range : goal.returns-clause-range
returns-clause-range c =
    times_range c.args.lead.now c.args.row.now c.args.side (λ n. n < c.loop-column.column) (to_z entry_width c.loop-column.times-bits) c.loop-column.invariant

pub returns-clause-most : goal.returns-clause-most
returns-clause-most c =
    times_whole c.args.lead.now c.args.row.now c.args.side c.loop-column.column (to_z entry_width c.loop-column.times-bits) (omega arith) c.loop-column.invariant
