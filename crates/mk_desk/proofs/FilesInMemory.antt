-- A map's files, by the bytes of their names.
use Rattle.std.proofs.Common.{◌≡◌, ℕ, Bool, cond, true, false, List, [], ◌∷◌, arith, ◌+◌, length, map, is_some, Option, None, Some, String, string_bytes, Vec, refl, sym, ap, ◌∙◌}
use Rattle.std.specs.declared.alloc.Global.{Global}
use Rattle.std.specs.Option.{option_map}
use Rattle.std.specs.Ordering.{nat_cmp, eq_by_cmp, is_eq}
use Rattle.std.specs.Cmp.{eq_by_cmp_equiv}
use Rattle.std.specs.Cmp.Lexicographic.{slice_cmp}
use Rattle.std.specs.Str.{bytes_eq}
use Rattle.std.specs.String.{string_cmp}
use Rattle.std.specs.Map.{lookup}
use Rattle.std.specs.List.{AllByRecursion}
use Rattle.std.specs.List.Sorted.{IsStrictlySortedBy}
use Rattle.std.specs.BTreeMap.{BTreeMap, get_by_text, is_at, Updates, IsOrdered, btree_map_len}
use Rattle.std.specs.FinMap.{FinMap, get, insert, len, from_entries, find, len-empty, len-insert, same_map, get-from_entries, get-insert, slice_cmp-IsAntisymmetric, nat_cmp-IsAntisymmetric}
use Rattle.std.proofs.lemmas.Cmp.{nat_list_cmp_total}
use Rattle.std.proofs.lemmas.Map.Text.{is_eq-slice_cmp, btree_map_updates_text}
use Rattle.std.specs.declared.cmp.Ordering.TheVariants.{Less}
use Rattle.mk_desk.specs.SureFolders.{files_of}

map_cond : (b : Bool) (x y : Option (Vec ℕ Global)) → cond b (option_map (λ v. v.items) x) (option_map (λ v. v.items) y) ≡ option_map (λ v. v.items) (cond b x y)
map_cond true x y = refl
map_cond false x y = refl

-- names that compare alike are equal, from either side
eq_names : (xs ys : List ℕ) → eq_by_cmp (slice_cmp nat_cmp) ys xs ≡ bytes_eq xs ys
eq_names xs ys = (eq_by_cmp_equiv nat_list_cmp_total).symm ys xs ∙ is_eq-slice_cmp xs ys

-- the bytes under a name, found in either
find_bytes : (es : List (String Global × Vec ℕ Global)) (q : List ℕ)
    → find (slice_cmp nat_cmp) q (map (λ e. (string_bytes e.0, e.1.items)) es)
    ≡ option_map (λ v. v.items) (lookup (is_at (λ k. slice_cmp nat_cmp q (string_bytes k))) es)
find_bytes [] q = refl
find_bytes (e ∷ es) q =
    ap (cond (eq_by_cmp (slice_cmp nat_cmp) q (string_bytes e.0)) (Some e.1.items)) (find_bytes es q)
    ∙ map_cond (eq_by_cmp (slice_cmp nat_cmp) q (string_bytes e.0)) (Some e.1) _

-- a file's bytes
pub get_file : (files : BTreeMap (String Global) (Vec ℕ Global)) (q : List ℕ) → get (files_of files) q ≡ option_map (λ v. v.items) (get_by_text files q)
unfolding files_of
get_file files q = get-from_entries nat_list_cmp_total _ q ∙ find_bytes files.entries q

-- the same entries are the same files
pub same_files : (m n : BTreeMap (String Global) (Vec ℕ Global)) → n.entries ≡ m.entries → files_of n ≡ files_of m
unfolding files_of
same_files m n same = ap (λ es. from_entries (map (λ (e : String Global × Vec ℕ Global). (string_bytes e.0, e.1.items)) es)) same

-- an entry that is inserted is a file that is inserted
pub insert_file : (m n : BTreeMap (String Global) (Vec ℕ Global)) (k : String Global) (v : Vec ℕ Global)
    → Updates string_cmp m n k (Some v) → files_of n ≡ insert (files_of m) (string_bytes k) v.items
insert_file m n k v updates =
    same_map nat_list_cmp_total (slice_cmp-IsAntisymmetric nat_cmp-IsAntisymmetric) (files_of n) (insert (files_of m) (string_bytes k) v.items) (λ q.
    get_file n q
    ∙ ap (option_map (λ w. w.items)) (btree_map_updates_text (string_bytes k) m n (Some v) updates q)
    ∙ sym (map_cond (bytes_eq (string_bytes k) q) (Some v) (get_by_text m q))
    ∙ sym (get-insert nat_list_cmp_total (files_of m) (string_bytes k) v.items q
    ∙ ap (λ b. cond b (Some v.items) (get (files_of m) q)) (eq_names (string_bytes k) q)
    ∙ ap (cond (bytes_eq (string_bytes k) q) (Some v.items)) (get_file m q)))

-- the bytes of names and files
abbrev texts : List (String Global × Vec ℕ Global) → List (List ℕ × List ℕ)
texts es = map (λ e. (string_bytes e.0, e.1.items)) es

-- a name below all that follow is not among them
not_later : (q : List ℕ) (es : List (String Global × Vec ℕ Global)) → AllByRecursion (λ k. slice_cmp nat_cmp q (string_bytes k) ≡ Less) (map (λ e. e.0) es)
    → find (slice_cmp nat_cmp) q (texts es) ≡ None
not_later q [] above = refl
not_later q (e ∷ es) above = ap (λ r. cond (is_eq r) (Some e.1.items) (find (slice_cmp nat_cmp) q (texts es))) above.0 ∙ not_later q es above.1

-- as many files as entries, whose names ascend
len_entries : (es : List (String Global × Vec ℕ Global)) → IsStrictlySortedBy string_cmp (map (λ e. e.0) es)
    → len (from_entries {R = slice_cmp nat_cmp} (texts es)) ≡ length es
unfolding IsStrictlySortedBy
len_entries [] sorted = len-empty (slice_cmp nat_cmp) (List ℕ)
len_entries (e ∷ es) sorted =
    let rest : FinMap (slice_cmp nat_cmp) (List ℕ) = from_entries (texts es) in
    let one_more : len (insert rest (string_bytes e.0) e.1.items) ≡ len rest + 1 =
    len-insert nat_list_cmp_total rest (string_bytes e.0) e.1.items
    ∙ ap (λ v. cond (is_some v) (len rest) (len rest + 1)) (get-from_entries nat_list_cmp_total (texts es) (string_bytes e.0) ∙ not_later (string_bytes e.0) es sorted.0) in
    one_more ∙ omega (arith, len_entries es sorted.1)

-- as many files as a map has entries
pub len_files : (files : BTreeMap (String Global) (Vec ℕ Global)) → IsOrdered string_cmp files → len (files_of files) ≡ btree_map_len files
unfolding files_of
len_files files ordered = len_entries files.entries ordered
