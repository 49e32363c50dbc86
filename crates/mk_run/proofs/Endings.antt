-- What a run says and leaves, one call after another.
use Rattle.std.proofs.Common.{◌≡◌, ◌⊎◌, ℕ, List, [], ◌++◌, length, take, Result, Ok, Err, IsErr, refl, ap, sym, ◌∙◌, inl, inr, arith, append-nil}
use Rattle.std.proofs.lemmas.Bool.{false≢true}
use Rattle.std.proofs.lemmas.List.{take_all}
use Rattle.std.specs.FinMap.{insert}
use Rattle.mk_move.specs.MoveLists.{MoveListView}
use Rattle.mk_desk.specs.Folders.{Desk}
use Rattle.mk_desk.specs.Transfers.{SaysAll}
use Rattle.mk_desk.specs.declared.folder.DeskFault.{DeskFault}
use Rattle.mk_desk.specs.declared.folder.Channel.TheVariants.{Err as OnErrors}
use Rattle.mk_writer.specs.Writing.{text_of, WritesMoves}
use Rattle.mk_run.specs.Runs.{mar_name, SaysLine}
use Rattle.mk_run.specs.Stages.{WritesAnswer}

-- only the errors changed, and so, read with the rest that is left
errors_changed : (line : List ℕ) (x y : Desk) → y ≡ record x { errors = x.errors ++ line } → y ≡ record x { rest = y.rest; errors = x.errors ++ line }
errors_changed line x y e = e ∙ ap (λ rest. record x { rest = rest; errors = x.errors ++ line }) (sym (ap (λ (d : Desk). d.rest) e))

-- a line that was said whole, or cut where the folder refused
pub line_said : (line : List ℕ) (rose : Type 0) (result : Result Unit DeskFault) → ((fault : DeskFault) → result ≡ Err fault → rose) → (x y : Desk) → SaysAll OnErrors line result x y → SaysLine line rose x y
line_said line rose (Ok done) r x y h = record {
  count = length line;
  whole = inl (omega arith);
  change = errors_changed (take (length line) line) x y (h ∙ ap (λ t. record x { errors = x.errors ++ t }) (sym (take_all (length line) line (omega arith))));
}
line_said line rose (Err fault) r x y h = record {
  count = h.0;
  whole = inr (r fault refl);
  change = errors_changed (take h.0 line) x y h.1;
}

-- nothing was said, for want of memory
pub nothing_said : (line : List ℕ) (rose : Type 0) → rose → (x : Desk) → SaysLine line rose x x
nothing_said line rose r x = record {
  count = 0;
  whole = inr r;
  change = ap (λ t. record x { errors = t }) (sym (append-nil x.errors));
}

-- ---- the answer's file
module _ (project : List ℕ) (list : MoveListView) where
  abbrev text : List ℕ
  text = text_of list

  pub writing_refused : (result : Result Unit DeskFault) → IsErr result → (x y : Desk) → (y ≡ x) ⊎ ((count : ℕ) × (y ≡ record x { made_name = mar_name project; made = take count text })) → WritesAnswer project list result x y
  writing_refused (Ok done) e x y h = absurd (false≢true e)
  writing_refused (Err fault) e x y h = h

  -- begun, and then a piece
  made_so : (name piece : List ℕ) → name ≡ mar_name project → (x y z : Desk) → y ≡ record x { made_name = name; made = [] } → z ≡ record y { made = y.made ++ piece } → z ≡ record x { made_name = mar_name project; made = piece }
  made_so name piece same x y z p q =
      q ∙ ap (λ (d : Desk). record d { made = d.made ++ piece }) p ∙ ap (λ n. record x { made_name = n; made = piece }) same

  pub front_made : (result : Result Unit DeskFault) → IsErr result → (name : List ℕ) → name ≡ mar_name project → (x y z : Desk) → y ≡ record x { made_name = name; made = [] } → (count : ℕ) × (z ≡ record y { made = y.made ++ take count text }) → WritesAnswer project list result x z
  front_made result e name same x y z p q =
      writing_refused result e x z (inr (q.0, made_so name (take q.0 text) same x y z p q.1))

  pub whole_made : (result : Result Unit DeskFault) → IsErr result → (name : List ℕ) → name ≡ mar_name project → (x y z w : Desk) → y ≡ record x { made_name = name; made = [] } → z ≡ record y { made = y.made ++ text } → w ≡ z → WritesAnswer project list result x w
  whole_made result e name same x y z w p q r =
      let cut : take (length text) text ≡ text = take_all (length text) text (omega arith) in
      front_made result e name same x y w p (length text, r ∙ q ∙ ap (λ t. record y { made = y.made ++ t }) (sym cut))

  pub file_ended : (name : List ℕ) → name ≡ mar_name project → (x y z w : Desk) → y ≡ record x { made_name = name; made = [] } → z ≡ record y { made = y.made ++ text } → w ≡ record z { files = insert z.files z.made_name z.made } → WritesAnswer project list (Ok tt) x w
  file_ended name same x y z w p q r =
      let ended : w ≡ record x { files = insert x.files (mar_name project) text; made_name = mar_name project; made = text } =
      r ∙ ap (λ (d : Desk). record d { files = insert d.files d.made_name d.made }) (made_so name text same x y z p q) in
      ended
      ∙ ap (λ n. record x { files = insert x.files (mar_name project) text; made_name = n; made = text }) (sym (ap (λ (d : Desk). d.made_name) ended))
      ∙ ap (λ m. record x { files = insert x.files (mar_name project) text; made_name = w.made_name; made = m }) (sym (ap (λ (d : Desk). d.made) ended))

  -- begun, and the text put whole or in part
  pub text_made : (name : List ℕ) → name ≡ mar_name project → (result : Result Unit DeskFault) → IsErr result → (x y z : Desk) → y ≡ record x { made_name = name; made = [] } → WritesMoves list result y z → WritesAnswer project list result x z
  text_made name same (Ok done) e x y z p q = absurd (false≢true e)
  text_made name same (Err fault) e x y z p q = front_made (Err fault) refl name same x y z p q
