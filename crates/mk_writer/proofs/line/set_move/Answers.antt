use Rattle.std.proofs.Common.{◌≡◌, ◌++◌, List, ℕ, ap, ◌∙◌, arith, get_or, pos}
use Rattle.std.proofs.lemmas.List.Elements.{All-get_or}
use Rattle.std.specs.Fmt.{signed_decimal}
use Rattle.mk_model.specs.Vectors.{IsEntry}
use Rattle.mk_move.proofs.Entries.{as_entry, entry_read}
use Rattle.mk_writer.specs.Lines.{space_before}
use Rattle.mk_writer.proofs.MoveLines.{one_entry_more}
use Rattle.mk_writer.proofs.line.set_move.Goals as goal

pub loop-column-preserved : goal.loop-column-preserved
loop-column-preserved c =
    let entries = c.args.next.now.entries in
    let column = c.loop-column.column in
    let in_range : IsEntry (get_or entries column (pos 0)) = All-get_or IsEntry entries column (pos 0) (omega arith) c.columns-column-end.ensures.kept.entries in
    let entry : as_entry c.entry.result ≡ get_or entries column (pos 0) = ap (λ z. as_entry z) c.entry.ensures ∙ entry_read _ in_range in
    record {
      text =
          c.push_entry.ensures.text
          ∙ ap (λ z. c.loop-column.line.items ++ (space_before column ++ signed_decimal z)) entry
          ∙ ap (λ (t : List ℕ). t ++ (space_before column ++ signed_decimal (get_or entries column (pos 0)))) c.loop-column.invariant.text
          ∙ one_entry_more entries column (omega arith);
      len = omega arith;
      room = omega arith;
    }
