-- The columns of a run, one after another.
use Rattle.std.proofs.Common.{◌≡◌, ◌⊎◌, inl, inr, ℕ, zero, suc, ◌+◌, ◌-◌, ◌≤◌, ◌<◌, ◌^◌, Bool, true, false, List, [], ◌∷◌, length, replicate, set, Option, Some, Err, ℤ, refl, arith, ap, sym, ◌∙◌, subst, length-set}
use Rattle.std.specs.List.{AllZip}
use Rattle.std.proofs.lemmas.Bool.{cases_lt, both_ways}
use Rattle.std.proofs.lemmas.List.{length-replicate}
use Rattle.std.proofs.lemmas.List.Elements.{All-nil}
use Rattle.mk_model.specs.Lattices.{nonzero_rows, SameLattice}
use Rattle.mk_model.specs.Orders.{standard, IsRowTurned}
use Rattle.mk_model.specs.Books.{lists_for}
use Rattle.mk_model.specs.FreeColumns.{is_left, columns_left, freed_by_rows, bound_columns}
use Rattle.mk_model.proofs.FreeColumns.{freed_by_turned, length-freed_by_rows}
use Rattle.mk_move.specs.MoveLists.{BasisView, vectors_of}
use Rattle.mk_move.specs.Priorities.{others}
use Rattle.mk_core.specs.Jobs.{JobView}
use Rattle.mk_saturate.specs.Starts.{IsStart}
use Rattle.mk_saturate.specs.Saturations.{SaturationView, IsLeastLeft, NoneLeft, IsJob, IsNextJob}
use Rattle.mk_saturate.proofs.ColumnsLeft.{column_fewer, least_first, none_left_over, left_short}
use Rattle.mk_solve.specs.Books.{Book, empty_book, settled_of}
use Rattle.mk_solve.specs.Solutions.{IsPhaseKept, Solves}
use Rattle.mk_solve.specs.Steps.{StopsIn, TakesPhase, IsLeastTaken, TakesColumn, TakesLast}
use Rattle.mk_solve.specs.declared.solving.RunStop.{RunStop}
use Rattle.mk_solve.specs.declared.solving.RunStop.TheVariants.{Memory, Stopped}
use Rattle.mk_solve.proofs.Sums.{none_settled, length-push}
use Rattle.mk_solve.proofs.Reached.{lattice_with, either_turned, IsReached, bases_kept, reached_solves, reached_on, stopped_solves}

-- The lists of the columns that are left are ahead, and for each column that was saturated by completion the book has a phase.
pub record IsSaturating (rows : List (List ℤ)) (w : List ℤ) (budget : ℕ) (saturation : SaturationView) (book : Book) : Type 0 where
  pub rest : List (List ℤ)
  pub columns : length book.phases + length (columns_left saturation.left) ≤ length w
  pub sized : length saturation.left ≡ length w
  pub reached : IsReached rows w budget rest saturation.basis book (lists_for (length w) (columns_left saturation.left))

-- ---- the run begins
pub nothing_kept : {upto : Option ℕ} (rows : List (List ℤ)) (w : List ℤ) (budget : ℕ) (book : Book) → book ≡ empty_book → Solves (lattice_with rows w) budget upto (Err Memory) book
nothing_kept {upto} rows w budget book e = subst (λ (b : Book). Solves (lattice_with rows w) budget upto (Err Memory) b) (sym e) (record {
  input = refl;
  settled = omega (arith, none_settled);
  bases = bases_kept w empty_book (All-nil (IsPhaseKept w)) refl;
  ends = (refl, record { rest = nonzero_rows rows; left = _; phases = (refl, refl); reduced = inl refl });
})

-- the free columns left those that are unsaturated
pub record IsFreed (started next : SaturationView) : Type 0 where
  pub freed : next ≡ record started { left = freed_by_rows (standard (length started.basis.grading)) (vectors_of started.basis.moves) started.left }

module _ (rows : List (List ℤ)) (w : List ℤ) (n : ℕ) (started : SaturationView) (same : length w ≡ n) (start : IsStart rows w (standard n) started.basis) (left : started.left ≡ replicate n true) where
  freed_from : (c : SaturationView) → IsFreed started c → c.left ≡ freed_by_rows (standard (length w)) (nonzero_rows rows) (replicate (length w) true)
  freed_from c f =
      ap (λ (s : SaturationView). s.left) f.freed
      ∙ ap (λ (v : List ℤ). freed_by_rows (standard (length v)) (vectors_of started.basis.moves) started.left) start.grading
      ∙ ap (λ (flags : List Bool). freed_by_rows (standard (length w)) (vectors_of started.basis.moves) flags) (left ∙ ap (λ k. replicate k true) (sym same))
      ∙ sym (freed_by_turned (standard (length w)) (nonzero_rows rows) (vectors_of started.basis.moves) (replicate (length w) true) (subst (λ k. AllZip (IsRowTurned (standard k)) (nonzero_rows rows) (vectors_of started.basis.moves)) (sym same) start.moves))

  columns_bound : (c : SaturationView) → IsFreed started c → columns_left c.left ≡ bound_columns (length w) rows
  unfolding bound_columns
  columns_bound c f = ap columns_left (freed_from c f)

  freed_sized : (c : SaturationView) → IsFreed started c → length c.left ≡ length w
  freed_sized c f = ap length (freed_from c f) ∙ length-freed_by_rows (standard (length w)) (nonzero_rows rows) (replicate (length w) true) ∙ length-replicate (length w) true

pub begins : (rows : List (List ℤ)) (w : List ℤ) (n budget : ℕ) (started next : SaturationView) (book : Book) → length w ≡ n → IsStart rows w (standard n) started.basis →
    started.left ≡ replicate n true → SameLattice n rows (vectors_of started.basis.moves) → IsFreed started next → book ≡ empty_book → IsSaturating rows w budget next book
begins rows w n budget started next book same start left lattice f e = subst (λ (b : Book). IsSaturating rows w budget next b) (sym e) (record {
  rest = nonzero_rows rows;
  columns = omega (arith, left_short next.left, sized);
  sized = sized;
  reached = subst (λ (b : BasisView). IsReached rows w budget (nonzero_rows rows) b empty_book (lists_for (length w) (columns_left next.left))) (sym (ap (λ (s : SaturationView). s.basis) f.freed)) (record {
    phases = (refl, ap (lists_for (length w)) (columns_bound rows w n started same start left next f));
    kept = All-nil (IsPhaseKept w);
    turned = either_turned (standard n) (nonzero_rows rows) (vectors_of started.basis.moves) start.moves;
    lattice = subst (λ k. SameLattice k rows (vectors_of started.basis.moves)) (sym same) lattice;
    grading = start.grading;
    input = refl;
    reduced = refl;
    stop = refl;
    within = omega (arith, none_settled);
  });
})
  where
    sized : length next.left ≡ length w
    sized = freed_sized rows w n started same start left next f

least_is_one : (left : List Bool) (column other : ℕ) → IsLeastLeft left column → IsLeastLeft left other → column ≡ other
least_is_one left column other h k = go (cases_lt column other) (cases_lt other column)
  where
    go : (column < other) ⊎ (other ≤ column) → (other < column) ⊎ (column ≤ other) → column ≡ other
    go (inl l) m = absurd (both_ways (is_left left column) (k.least column l) h.left_over)
    go (inr l) (inl m) = absurd (both_ways (is_left left other) (h.least other m) k.left_over)
    go (inr l) (inr m) = omega (arith, l, m)

module _ (rows : List (List ℤ)) (w : List ℤ) (budget : ℕ) (saturation : SaturationView) (book : Book) (h : IsSaturating rows w budget saturation book) where
  -- ---- the next column
  -- the run up to the next column, and the lists that are left behind it
  pub record IsAtColumn (job : JobView) (column : ℕ) : Type 0 where
    pub least : IsLeastLeft saturation.left column
    pub columns : length book.phases + suc (length (columns_left (set saturation.left column false))) ≤ length w
    pub over : IsJob saturation.basis (column ∷ others column (length w)) (budget - settled_of book.phases) job
    pub reached : IsReached rows w budget h.rest saturation.basis book ((column ∷ others column (length w)) ∷ lists_for (length w) (columns_left (set saturation.left column false)))

  pub at_column : (job : JobView) → IsNextJob saturation (budget - settled_of book.phases) (Some job) → (column : ℕ) × IsAtColumn job column
  at_column job (column, least, j) = (
    column,
    record {
      least = least;
      columns = omega (arith, h.columns, ap length first);
      over = subst (λ n. IsJob saturation.basis (column ∷ others column n) (budget - settled_of book.phases) job) (ap length h.reached.grading) j;
      reached = subst (λ columns. IsReached rows w budget h.rest saturation.basis book (lists_for (length w) columns)) first h.reached;
    },
  )
    where
      first : columns_left saturation.left ≡ column ∷ columns_left (set saturation.left column false)
      first = least_first saturation.left column least.left_over least.least

  pub room : (job : JobView) → IsNextJob saturation (budget - settled_of book.phases) (Some job) → length w ≤ 512 → length book.phases + 1 < 2 ^ 32
  room job next few = let (column, at) = at_column job next in omega (arith, at.columns, few)

  -- ---- the column is saturated, or its phase stopped
  pub column_done : (job : JobView) → IsNextJob saturation (budget - settled_of book.phases) (Some job) → (next : SaturationView) (after : Book) → TakesPhase job saturation.basis book next.basis after →
      IsLeastTaken saturation.left next.left → IsSaturating rows w budget next after
  column_done job n next after t (taken, least, e) = go (at_column job n)
    where
      phases : length after.phases ≡ length book.phases + 1
      phases = ap (λ (b : Book). length b.phases) t.kept ∙ length-push book.phases t.phase

      go : (column : ℕ) × IsAtColumn job column → IsSaturating rows w budget next after
      go (column, at) = record {
        rest = vectors_of next.basis.moves;
        columns = omega (arith, phases, at.columns, ap (λ (flags : List Bool). length (columns_left flags)) left);
        sized = ap length e ∙ length-set saturation.left taken false ∙ h.sized;
        reached =
            subst (λ (flags : List Bool). IsReached rows w budget (vectors_of next.basis.moves) next.basis after (lists_for (length w) (columns_left flags))) (sym left)
            (reached_on rows w budget h.rest saturation.basis book (column ∷ others column (length w)) _ at.reached job at.over next.basis after t);
      }
        where
          left : next.left ≡ set saturation.left column false
          left = e ∙ ap (λ c. set saturation.left c false) (least_is_one saturation.left taken column least at.least)

  pub column_stopped : {upto : Option ℕ} (job : JobView) → IsNextJob saturation (budget - settled_of book.phases) (Some job) → (after : Book) → StopsIn job book after → Solves (lattice_with rows w) budget upto (Err Stopped) after
  column_stopped job n after s =
      let (column, at) = at_column job n in
      stopped_solves rows w budget h.rest saturation.basis book (column ∷ others column (length w)) _ at.reached job at.over after s

  -- without memory the book is as before
  pub without_memory : {upto : Option ℕ} (after : Book) → after ≡ book → Solves (lattice_with rows w) budget upto (Err Memory) after
  without_memory {upto} after e = subst (λ (b : Book). Solves (lattice_with rows w) budget upto (Err Memory) b) (sym e) (reached_solves rows w budget h.rest saturation.basis book _ h.reached)

  pub column_refused : {upto : Option ℕ} (job : JobView) → IsNextJob saturation (budget - settled_of book.phases) (Some job) → (next : SaturationView) (after : Book) (fault : RunStop) →
      TakesColumn saturation job book (Err fault) next after → Solves (lattice_with rows w) budget upto (Err fault) after
  column_refused job n next after Memory e = without_memory after e
  column_refused job n next after Stopped s = column_stopped job n after s

  -- ---- no column is left
  reached_all : NoneLeft saturation.left → IsReached rows w budget h.rest saturation.basis book (standard (length w) ∷ [])
  reached_all none =
      subst (λ columns. IsReached rows w budget h.rest saturation.basis book (lists_for (length w) columns)) (none_left_over saturation.left none) h.reached

  last_job : (job : JobView) → IsJob saturation.basis (standard (length saturation.basis.grading)) (budget - settled_of book.phases) job → IsJob saturation.basis (standard (length w)) (budget - settled_of book.phases) job
  last_job job j = subst (λ n. IsJob saturation.basis (standard n) (budget - settled_of book.phases) job) (ap length h.reached.grading) j

  pub all_done : NoneLeft saturation.left → (job : JobView) → IsJob saturation.basis (standard (length saturation.basis.grading)) (budget - settled_of book.phases) job → (saturated : BasisView) (after : Book) →
      TakesPhase job saturation.basis book saturated after → IsReached rows w budget (vectors_of saturated.moves) saturated after []
  all_done none job j saturated after t =
      reached_on rows w budget h.rest saturation.basis book (standard (length w)) [] (reached_all none) job (last_job job j) saturated after t

  pub last_stopped : {upto : Option ℕ} → NoneLeft saturation.left → (job : JobView) → IsJob saturation.basis (standard (length saturation.basis.grading)) (budget - settled_of book.phases) job → (after : Book) →
      StopsIn job book after → Solves (lattice_with rows w) budget upto (Err Stopped) after
  last_stopped none job j after s =
      stopped_solves rows w budget h.rest saturation.basis book (standard (length w)) [] (reached_all none) job (last_job job j) after s

  pub last_refused : {upto : Option ℕ} → NoneLeft saturation.left → (job : JobView) → IsJob saturation.basis (standard (length saturation.basis.grading)) (budget - settled_of book.phases) job →
      (after : Book) (fault : RunStop) → TakesLast saturation.basis job book (Err fault) after → Solves (lattice_with rows w) budget upto (Err fault) after
  last_refused none job j after Memory e = without_memory after e
  last_refused none job j after Stopped s = last_stopped none job j after s

-- a column less is left
pub fewer : (left : List Bool) (after : List Bool) → IsLeastTaken left after → length (columns_left after) < length (columns_left left)
fewer left after (column, least, e) = omega (arith, column_fewer left column least.left_over, ap (λ (flags : List Bool). length (columns_left flags)) e)
