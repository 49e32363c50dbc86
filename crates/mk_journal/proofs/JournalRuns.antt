-- The entries of runs as the last run begins, grows, shrinks and ends, and where an entry stands among them.
use Rattle.std.proofs.Common.{◌≡◌, ℕ, suc, ◌+◌, ◌-◌, ◌<◌, ◌≤◌, List, [], ◌∷◌, ◌++◌, length, map, take, set, get_or, arith, refl, sym, ap, ◌∙◌, subst, ⊎_elim, length-append, append_assoc, append-nil}
use Rattle.std.specs.List.{range_with_len, slice_get}
use Rattle.std.specs.Prelude.{Some}
use Rattle.std.proofs.Math.Seq.{take-suc, take-length, take-append_seam}
use Rattle.std.proofs.lemmas.Grind.{flat_map-append, take-set_at}
use Rattle.std.proofs.lemmas.List.{take_all, length-set, get_or_default}
use Rattle.std.proofs.lemmas.List.Concat.{get_or-flat_map}
use Rattle.std.proofs.lemmas.List.FromFn.{length-map-range_with_len, get_or-map-range_with_len, map-range_with_len_more}
use Rattle.std.proofs.lemmas.Option.{slice_get-get_or}
use Rattle.std.proofs.lemmas.Bool.{cases_lt}
use Rattle.mk_journal.specs.declared.journal.Kind.{Kind}
use Rattle.mk_journal.specs.declared.journal.Kind.TheVariants as kind
use Rattle.mk_journal.specs.declared.journal.JournalEntry.{JournalEntry}
use Rattle.mk_journal.specs.declared.journal.Run.{Run}
use Rattle.mk_journal.specs.Entries.{third_of, way_of, HasItsThird}
use Rattle.mk_journal.specs.JournalRuns.{more_of, third_in, entry_in, entries_in, entries_of, IsContinuedBy}

-- ---- the entries of one run
length_in : (run : Run) → length (entries_in run) ≡ more_of run.kind run.number + 1
unfolding entries_in
length_in run = length-map-range_with_len (entry_in run) 0 (more_of run.kind run.number + 1)

entry_within : (run : Run) (before : ℕ) (d : JournalEntry) → before ≤ more_of run.kind run.number →
    get_or (entries_in run) before d ≡ entry_in run before
unfolding entries_in
entry_within run before d l =
    get_or-map-range_with_len (entry_in run) 0 (more_of run.kind run.number + 1) before before d (omega arith) (omega arith)

same_entry : (entry : JournalEntry) (i j third worker : ℕ) (k : Kind) → i ≡ entry.i → j ≡ entry.j → third ≡ entry.third →
    worker ≡ entry.worker → k ≡ entry.kind →
    record { i = i; j = j; third = third; worker = worker; kind = k } ≡ entry
same_entry entry i j third worker k ei ej et ew ek =
    ap (λ x. record { i = x; j = j; third = third; worker = worker; kind = k }) ei
    ∙ ap (λ x. record { i = entry.i; j = x; third = third; worker = worker; kind = k }) ej
    ∙ ap (λ x. record { i = entry.i; j = entry.j; third = x; worker = worker; kind = k }) et
    ∙ ap (λ x. record { i = entry.i; j = entry.j; third = entry.third; worker = x; kind = k }) ew
    ∙ ap (λ x. record { i = entry.i; j = entry.j; third = entry.third; worker = entry.worker; kind = x }) ek

-- an entry that has its third, as a run
third_kept : (k : Kind) (third : ℕ) → third ≡ third_of (way_of k third) → (more_of k third ≡ 0) × (third_in k third ≡ third)
third_kept kind.Coprime third h = (h, sym h)
third_kept kind.Chain third h = (refl, refl)
third_kept kind.Zero third h = (refl, refl)
third_kept kind.Place third h = (refl, refl)

abbrev run_of : JournalEntry → Run
run_of entry = record { i = entry.i; j = entry.j; number = entry.third; worker = entry.worker; kind = entry.kind }

pub alone : (entry : JournalEntry) → HasItsThird entry → entries_in (run_of entry) ≡ entry ∷ []
unfolding entries_in
alone entry h =
    let kept = third_kept entry.kind entry.third h in
    ap (λ n. map (entry_in (run_of entry)) (range_with_len 0 (n + 1))) kept.0
    ∙ ap (λ e. e ∷ []) (same_entry entry (entry.i + 0) entry.j (third_in entry.kind entry.third) entry.worker entry.kind
    (omega arith) refl kept.1 refl refl)

-- a run that an entry continues
abbrev pub with_number : Run → ℕ → Run
with_number run number = record run { number = number }

abbrev run_with : Run → ℕ → Kind → Run
run_with run number k = record { i = run.i; j = run.j; number = number; worker = run.worker; kind = k }

longer : (run : Run) (number : ℕ) → entries_in (run_with run (number + 1) kind.Coprime)
    ≡ entries_in (run_with run number kind.Coprime) ++ entry_in (run_with run number kind.Coprime) (number + 1) ∷ []
unfolding entries_in
longer run number = map-range_with_len_more (entry_in (run_with run number kind.Coprime)) 0 (number + 1) (number + 1) (omega arith)

continued : (run : Run) (entry : JournalEntry) → HasItsThird entry → IsContinuedBy run entry →
    entries_in (with_number run (run.number + 1)) ≡ entries_in run ++ entry ∷ []
continued run entry third h =
    subst (λ k. entries_in (run_with run (run.number + 1) k) ≡ entries_in (run_with run run.number k) ++ entry ∷ []) (sym h.run_kind)
    (longer run run.number ∙ ap (λ e. entries_in (run_with run run.number kind.Coprime) ++ e ∷ []) same)
  where
    none : 0 ≡ entry.third
    none = sym (third ∙ ap (λ k. third_of (way_of k entry.third)) h.entry_kind)

    same : entry_in (run_with run run.number kind.Coprime) (run.number + 1) ≡ entry
    same = same_entry entry (run.i + (run.number + 1)) run.j 0 run.worker kind.Coprime (omega (arith, h.next)) h.second none h.worker
        (sym h.entry_kind)

-- a run of more than one entry, without the last
only_disjoint : (k : Kind) (number : ℕ) → 0 < more_of k number → k ≡ kind.Coprime
only_disjoint kind.Coprime number l = refl
only_disjoint kind.Chain number l = absurd (omega arith)
only_disjoint kind.Zero number l = absurd (omega arith)
only_disjoint kind.Place number l = absurd (omega arith)

shorter : (run : Run) → 0 < more_of run.kind run.number → (last : JournalEntry) ×
    (entries_in run ≡ entries_in (with_number run (run.number - 1)) ++ last ∷ [])
shorter run l =
    subst (λ k. (last : JournalEntry) ×
    (entries_in (run_with run run.number k) ≡ entries_in (run_with run (run.number - 1) k) ++ last ∷ [])) (sym coprime) (
      entry_in (run_with run (run.number - 1) kind.Coprime) (run.number - 1 + 1),
      subst (λ n. entries_in (run_with run n kind.Coprime) ≡ entries_in (run_with run (run.number - 1) kind.Coprime) ++ entry_in
          (run_with run (run.number - 1) kind.Coprime) (run.number - 1 + 1) ∷ []) back (longer run (run.number - 1)),
    )
  where
    coprime : run.kind ≡ kind.Coprime
    coprime = only_disjoint run.kind run.number l

    some : 0 < run.number
    some = subst (λ k. 0 < more_of k run.number) coprime l

    back : run.number - 1 + 1 ≡ run.number
    back = omega (arith, some)

-- ---- the last of the runs
entries_behind : (runs : List Run) (run : Run) → entries_of (runs ++ run ∷ []) ≡ entries_of runs ++ entries_in run
entries_behind runs run = flat_map-append entries_in runs (run ∷ []) ∙ ap (λ l. entries_of runs ++ l) (append-nil (entries_in run))

abbrev front_of : List Run → List Run
front_of runs = take (length runs - 1) runs

last_apart : (runs : List Run) (d : Run) → 0 < length runs → runs ≡ front_of runs ++ get_or runs (length runs - 1) d ∷ []
last_apart runs d l =
    let e : suc (length runs - 1) ≡ length runs = omega (arith, l) in
    sym (take-length runs) ∙ ap (λ n. take n runs) (sym e) ∙ take-suc runs (length runs - 1) d (omega (arith, l))

last_written : (runs : List Run) (run : Run) → 0 < length runs → set runs (length runs - 1) run ≡ front_of runs ++ run ∷ []
last_written runs run l =
    sym (take_all (length runs) (set runs (length runs - 1) run) (omega (arith, length-set runs (length runs - 1) run)))
    ∙ take-set_at runs (length runs - 1) (length runs) run (omega (arith, l)) (omega (arith, l))

entries_apart : (runs : List Run) (d : Run) → 0 < length runs →
    entries_of runs ≡ entries_of (front_of runs) ++ entries_in (get_or runs (length runs - 1) d)
entries_apart runs d l = ap (λ rs. entries_of rs) (last_apart runs d l) ∙ entries_behind (front_of runs) (get_or runs (length runs - 1) d)

entries_written : (runs : List Run) (run : Run) → 0 < length runs →
    entries_of (set runs (length runs - 1) run) ≡ entries_of (front_of runs) ++ entries_in run
entries_written runs run l = ap (λ rs. entries_of rs) (last_written runs run l) ∙ entries_behind (front_of runs) run

-- the last run grows by an entry that continues it
pub entries_grown : (runs : List Run) (last : Run) (entry : JournalEntry) → 0 < length runs → last ≡ get_or runs (length runs - 1) last →
    HasItsThird entry → IsContinuedBy last entry →
    entries_of (set runs (length runs - 1) (with_number last (last.number + 1))) ≡ entries_of runs ++ entry ∷ []
entries_grown runs last entry l read third h =
    entries_written runs (with_number last (last.number + 1)) l
    ∙ ap (λ es. entries_of (front_of runs) ++ es) (continued last entry third h)
    ∙ sym (append_assoc (entries_of (front_of runs)) (entries_in last) (entry ∷ []))
    ∙ ap (λ es. es ++ entry ∷ []) (ap (λ (r : Run). entries_of (front_of runs) ++ entries_in r) read ∙ sym (entries_apart runs last l))

-- lists without their last entry
without_last : (es others : List JournalEntry) (last : JournalEntry) → es ≡ others ++ last ∷ [] → others ≡ take (length es - 1) es
without_last es others last e =
    let long : length es - 1 ≡ length others = omega (arith, ap length e, length-append others (last ∷ [])) in
    sym (ap (λ n. take n es) long ∙ ap (λ xs. take (length others) xs) e ∙ take-append_seam others (last ∷ []))

pub entries_shrunk : (runs : List Run) (last : Run) → 0 < length runs → last ≡ get_or runs (length runs - 1) last →
    0 < more_of last.kind last.number →
    entries_of (set runs (length runs - 1) (with_number last (last.number - 1))) ≡ take (length (entries_of runs) - 1) (entries_of runs)
entries_shrunk runs last l read more =
    let fewer = with_number last (last.number - 1) in
    let parts = shorter last more in
    entries_written runs fewer l
    ∙ without_last (entries_of runs) (entries_of (front_of runs) ++ entries_in fewer) parts.0
    (entries_apart runs last l ∙ ap (λ (r : Run). entries_of (front_of runs) ++ entries_in r) (sym read)
    ∙ ap (λ es. entries_of (front_of runs) ++ es) parts.1
    ∙ sym (append_assoc (entries_of (front_of runs)) (entries_in fewer) (parts.0 ∷ [])))

one_alone : (es : List JournalEntry) → length es ≡ 1 → (last : JournalEntry) × (es ≡ last ∷ [])
one_alone [] e = absurd (omega (arith, e))
one_alone (x ∷ []) e = (x, refl)
one_alone (x ∷ y ∷ es) e = absurd (omega (arith, e))

pub entries_popped : (runs : List Run) (last : Run) → 0 < length runs → last ≡ get_or runs (length runs - 1) last →
    more_of last.kind last.number ≡ 0 →
    entries_of (front_of runs) ≡ take (length (entries_of runs) - 1) (entries_of runs)
entries_popped runs last l read none =
    let one = one_alone (entries_in last) (length_in last ∙ ap (λ n. n + 1) none) in
    without_last (entries_of runs) (entries_of (front_of runs)) one.0
    (entries_apart runs last l ∙ ap (λ (r : Run). entries_of (front_of runs) ++ entries_in r) (sym read)
    ∙ ap (λ es. entries_of (front_of runs) ++ es) one.1)

-- ---- an entry by its number
pub entries_to : (runs : List Run) (place : ℕ) (run : Run) → place < length runs → run ≡ get_or runs place run →
    length (entries_of (take (place + 1) runs)) ≡ length (entries_of (take place runs)) + (more_of run.kind run.number + 1)
entries_to runs place run l read =
    let e : suc place ≡ place + 1 = omega arith in
    ap (λ n. length (entries_of (take n runs))) (sym e)
    ∙ ap (λ rs. length (entries_of rs)) (take-suc runs place run l)
    ∙ ap (λ (r : Run). length (entries_of (take place runs ++ r ∷ []))) (sym read)
    ∙ ap length (entries_behind (take place runs) run)
    ∙ length-append (entries_of (take place runs)) (entries_in run)
    ∙ ap (λ n. length (entries_of (take place runs)) + n) (length_in run)

-- A run that ends at this number or before it isn't the last.
pub not_last : (runs : List Run) (place n left : ℕ) (run : Run) → place < length runs → run ≡ get_or runs place run →
    left + length (entries_of (take place runs)) ≡ n →
    n < length (entries_of runs) → more_of run.kind run.number < left → place + 1 < length runs
not_last runs place n left run l read at within more =
    ⊎_elim (λ h. h) (λ h. absurd (omega (arith, entries_to runs place run l read, at, within, more, whole h)))
    (cases_lt (place + 1) (length runs))
  where
    whole : length runs ≤ place + 1 → length (entries_of (take (place + 1) runs)) ≡ length (entries_of runs)
    whole h = ap (λ rs. length (entries_of rs)) (take_all (place + 1) runs h)

pub entry_found : (runs : List Run) (place n left : ℕ) (run : Run) → place < length runs → run ≡ get_or runs place run →
    left + length (entries_of (take place runs)) ≡ n →
    n < length (entries_of runs) → left ≤ more_of run.kind run.number → slice_get (entries_of runs) n ≡ Some (entry_in run left)
entry_found runs place n left run l read at within most =
    let d = entry_in run left in
    let here : left < length (entries_in (get_or runs place run)) =
    subst (λ (r : Run). left < length (entries_in r)) read (omega (arith, most, length_in run)) in
    let sum : n ≡ length (entries_of (take place runs)) + left = omega (arith, at) in
    slice_get-get_or (entries_of runs) n d within
    ∙ ap (λ e. Some e) (
    ap (λ k. get_or (entries_of runs) k d) sum
    ∙ get_or-flat_map entries_in runs place left run d l here
    ∙ ap (λ (r : Run). get_or (entries_in r) left d) (sym read)
    ∙ entry_within run left d most)

-- ---- what is read at the end of the runs, and at a place
pub same_read : (runs : List Run) (place : ℕ) (a b : Run) → place < length runs → a ≡ get_or runs place a → b ≡ get_or runs place b → a ≡ b
same_read runs place a b l ea eb = ea ∙ get_or_default runs place a b l ∙ sym eb

-- what a place past the runs is read as
abbrev pub no_run : Run
no_run = record { i = 0; j = 0; number = 0; worker = 0; kind = kind.Coprime }

pub read_at : (runs : List Run) (place : ℕ) → place < length runs → get_or runs place no_run ≡ get_or runs place (get_or runs place no_run)
read_at runs place l = get_or_default runs place no_run (get_or runs place no_run) l
