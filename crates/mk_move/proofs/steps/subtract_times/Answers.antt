use Rattle.std.proofs.Common.{◌≡◌, ◌≢◌, ◌≤◌, List, All, length, arith, rules, sym, ap, subst, ◌∙◌, ℤ, IsTrue, false}
use mir.Syntax.{w128}
use mir.Val.{SFits}
use Rattle.std.proofs.lemmas.Int.{to_z-of_z}
use Rattle.mk_model.specs.Vectors.{zeros, weight, positive_part, IsEntry}
use Rattle.mk_move.specs.Moves.{Weighed, IsMoveKept}
use Rattle.mk_move.specs.Steps.{GivesEntries}
use Rattle.mk_move.proofs.Entries.{entry_read}
use Rattle.mk_move.proofs.Differences.{length-given, weight-minus_times}
use Rattle.mk_move.proofs.steps.subtract_times.Goals as goal
use Rattle.mk_move.proofs.steps.subtract_times.Goals.{In_ok-entries, After-lead_weight-weight}

given : (c : In_ok-entries) → GivesEntries c.args.u.now.entries c.args.v.now.entries c.args.times c.in_ok-entries.entries.items
given c =
    subst (λ (z : ℤ). GivesEntries c.args.u.now.entries c.args.v.now.entries z c.in_ok-entries.entries.items) (entry_read c.args.times c.requires.times)
    (rw (c.entries.ensures.value, c.entries-2.ensures.value) at c.in_ok-entries.ensures)

columns : (c : In_ok-entries) → length c.in_ok-entries.entries.items ≡ length c.args.u.now.entries
columns c = length-given c.args.u.now.entries c.args.v.now.entries c.args.times c.in_ok-entries.entries.items (omega arith) (given c)

pub returns-then-is_zero : goal.returns-then-is_zero
returns-then-is_zero c =
    let at = (goal.at.returns-then-is_zero c).In_ok-entries in
    let zero : c.in_ok-entries.entries.items ≡ zeros (length c.in_ok-entries.entries.items) = rw c.as_slice.ensures at (c.if-is_zero.ensures.0 (search rules)) in
    sym (given at).value ∙ zero ∙ ap zeros (columns at)

pub lead_weight-weight-requires-clause-columns : goal.lead_weight-weight-requires-clause-columns
lead_weight-weight-requires-clause-columns c =
    ap length c.as_slice-2.ensures ∙ columns (goal.at.lead_weight-weight-requires-clause-columns c).In_ok-entries ∙ c.requires.columns

none : IsTrue false → ⊥
none h = search rules

-- the difference, which isn't zero, may be kept
kept : (c : After-lead_weight-weight) → length c.in_ok-entries.entries.items ≡ length c.args.u.now.entries → All IsEntry c.in_ok-entries.entries.items →
    (weight : ℤ) → IsMoveKept (record { entries = c.in_ok-entries.entries.items; weight = weight })
kept c as_many range weight = record {
  columns = omega (arith, as_many, c.entries.ensures.kept.columns);
  not_zero = λ z. none (c.if-is_zero.ensures.1 (c.as_slice.ensures ∙ z ∙ sym (ap (λ x. zeros (length x)) c.as_slice.ensures)));
  entries = range;
}

-- what is kept of a move is said of its entries alone
kept_entries : (m : Weighed) (entries : List ℤ) (weight : ℤ) → m.entries ≡ entries → IsMoveKept (record { entries = entries; weight = weight }) → IsMoveKept m
kept_entries m entries weight e h = record {
  columns = subst (λ (x : List ℤ). length x ≤ 512) (sym e) h.columns;
  not_zero = subst (λ (x : List ℤ). x ≢ zeros (length x)) (sym e) h.not_zero;
  entries = subst (All IsEntry) (sym e) h.entries;
}

pub of_entries-requires : goal.of_entries-requires
of_entries-requires c =
    let at = (goal.at.of_entries-requires c).In_ok-entries in
    kept (goal.at.of_entries-requires c).After-lead_weight-weight (columns at) (given at).range _

pub returns : goal.returns
returns c =
    let at = (goal.at.returns c).In_ok-entries in
    let w = c.args.grading.now in
    let fits : SFits w128 c.lead_weight-weight.result = search rules in
    let same = c.of_entries.ensures.entries ∙ (given at).value in
    record {
      entries = same;
      graded = record {
        product = ap (weight w) same ∙ weight-minus_times w c.args.u.now.entries c.args.v.now.entries c.args.times (omega arith) c.requires.left c.requires.right;
        weight = c.of_entries.ensures.weight ∙ to_z-of_z w128 c.lead_weight-weight.result fits ∙ c.lead_weight-weight.ensures.value ∙ ap (λ x. weight w (positive_part x)) (c.as_slice-2.ensures ∙ sym c.of_entries.ensures.entries);
      };
      kept = kept_entries _ _ _ c.of_entries.ensures.entries (kept (goal.at.returns c).After-lead_weight-weight (columns at) (given at).range c.of_entries.result.weight);
    }
