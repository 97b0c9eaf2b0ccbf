-- The files that are open, and a walk over the entries.
use Rattle.std.proofs.Common.{◌≡◌, ℕ, List, [], ◌∷◌, Bool, true, false, refl, ap, ap₂, sym, ◌∙◌, cond, length, arith}
use Rattle.std.specs.Prelude.{Some, not, ◌==◌}
use Rattle.std.specs.List.{filter, list_all}
use Rattle.std.proofs.lemmas.Bool.Decides.{nat_tests}
use Rattle.std.proofs.lemmas.List.Elements.{filter_agree}
use Rattle.std.specs.List.Sorted.{IsStrictlySortedBy}
use Rattle.std.specs.Map.{keys_of}
use Rattle.std.specs.BTreeMap.{BTreeMap}
use Rattle.std.specs.Ordering.{nat_cmp, eq_by_cmp, is_eq}
use Rattle.std.specs.Cmp.{eq_by_cmp_equiv}
use Rattle.std.specs.Cmp.Lexicographic.{slice_cmp, nat_list_cmp_total}
use Rattle.std.specs.FinMap.{get, keys, entries, find, get-entries, entries_sorted, is_sorted}
use Rattle.std.specs.FinMap.Entries.{below_all}
use Rattle.std.specs.declared.cmp.Ordering.TheVariants.{Less}
use Rattle.fs_ident.specs.Ident.{same}
use Rattle.fs_ident.specs.Maps.{map_of}
use Rattle.fs_ident.proofs.Booleans.{first, second, joined, less, holds}
use Rattle.fs_ident.proofs.MapsOf.{map_of_entries}
use Rattle.fs_model.specs.Step.{is_empty}
use Rattle.fs_record.specs.declared.record.Record.{Record}
use Rattle.fs_record.specs.Records.{RecordMap, node_of}
use Rattle.fs_record.proofs.NodeValues.{tied}
use Rattle.fs_record.specs.Opens.{is_open, open_files, are_apart}

-- a walk over the entries tells those that are open
abbrev pub opened : List (List ℕ × Record) → List (List ℕ)
opened [] = []
opened (e ∷ es) = cond (is_open (Some e.1.node)) (e.0 ∷ opened es) (opened es)

-- no item, in the two forms
pub none_is_empty : {X : Type 0} (xs : List X) → (length xs == 0) ≡ is_empty xs
none_is_empty [] = refl
none_is_empty (x ∷ xs) = grind (arith, nat_tests)

abbrev told : List (List ℕ × Record) → List ℕ → Bool
told es f = is_open (node_of (find (slice_cmp nat_cmp) f es))

-- a lesser entry in front is told of no file behind it
passed : (e : List ℕ × Record) (es fs : List (List ℕ × Record)) → below_all (slice_cmp nat_cmp) e.0 fs ≡ true → filter (told (e ∷ es)) (keys_of fs) ≡ filter (told es) (keys_of fs)
passed e es [] h = refl
passed e es (f ∷ fs) h =
    let p : slice_cmp nat_cmp e.0 f.0 ≡ Less = less _ (first _ _ h) in
    let q : eq_by_cmp (slice_cmp nat_cmp) f.0 e.0 ≡ false = (eq_by_cmp_equiv nat_list_cmp_total).symm f.0 e.0 ∙ ap is_eq p in
    ap₂ (λ b xs. cond (is_open (node_of (cond b (Some e.1) (find (slice_cmp nat_cmp) f.0 es)))) (f.0 ∷ xs) xs) q (passed e es fs (second _ _ h))

walked : (es : List (List ℕ × Record)) → is_sorted (slice_cmp nat_cmp) es ≡ true → filter (told es) (keys_of es) ≡ opened es
walked [] h = refl
walked (e ∷ es) h =
    ap₂ (λ b xs. cond (is_open (node_of (cond b (Some e.1) (find (slice_cmp nat_cmp) e.0 es)))) (e.0 ∷ xs) xs) ((eq_by_cmp_equiv nat_list_cmp_total).refl e.0) (passed e es es (first _ _ h) ∙ walked es (second _ _ h))

pub open_entries : (m : RecordMap) → open_files m ≡ opened (entries m)
open_entries m = filter_agree _ _ (λ f. ap (λ o. is_open (node_of o)) (get-entries m f)) (keys m) ∙ walked (entries m) (holds _ (entries_sorted m))

pub open_in : (m : BTreeMap (List ℕ) Record) → IsStrictlySortedBy (slice_cmp nat_cmp) (keys_of m.entries) → opened m.entries ≡ open_files (map_of m)
open_in m h = ap opened (sym (map_of_entries m h)) ∙ sym (open_entries (map_of m))

-- ## No file stands twice

rest_passes : (test p : List ℕ → Bool) (fs : List (List ℕ)) → list_all test fs ≡ true → list_all test (filter p fs) ≡ true
rest_passes test p [] h = refl
rest_passes test p (f ∷ fs) h = elim (p f) as (λ b. list_all test (cond b (f ∷ filter p fs) (filter p fs)) ≡ true) [
  | true ↦ joined _ _ (first _ _ h) (rest_passes test p fs (second _ _ h))
  | false ↦ rest_passes test p fs (second _ _ h)
]

fewer_apart : (p : List ℕ → Bool) (fs : List (List ℕ)) → are_apart fs ≡ true → are_apart (filter p fs) ≡ true
fewer_apart p [] h = refl
fewer_apart p (f ∷ fs) h = elim (p f) as (λ b. are_apart (cond b (f ∷ filter p fs) (filter p fs)) ≡ true) [
  | true ↦ joined _ _ (rest_passes (λ g. not (same g f)) p fs (first _ _ h)) (fewer_apart p fs (second _ _ h))
  | false ↦ fewer_apart p fs (second _ _ h)
]

all_apart : (f : List ℕ) (es : List (List ℕ × Record)) → below_all (slice_cmp nat_cmp) f es ≡ true → list_all (λ g. not (same g f)) (keys_of es) ≡ true
all_apart f [] h = refl
all_apart f (e ∷ es) h =
    let p : slice_cmp nat_cmp f e.0 ≡ Less = less _ (first _ _ h) in
    let q : same e.0 f ≡ false = sym (tied e.0 f) ∙ (eq_by_cmp_equiv nat_list_cmp_total).symm e.0 f ∙ ap is_eq p in
    joined _ _ (ap not q) (all_apart f es (second _ _ h))

keys_apart : (es : List (List ℕ × Record)) → is_sorted (slice_cmp nat_cmp) es ≡ true → are_apart (keys_of es) ≡ true
keys_apart [] h = refl
keys_apart (e ∷ es) h = joined _ _ (all_apart e.0 es (first _ _ h)) (keys_apart es (second _ _ h))

pub open_apart : (m : RecordMap) → are_apart (open_files m) ≡ true
open_apart m = fewer_apart (λ f. is_open (node_of (get m f))) (keys m) (keys_apart (entries m) (holds _ (entries_sorted m)))
