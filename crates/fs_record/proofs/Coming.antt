-- Records that come, and those that are taken away again.
use Rattle.std.proofs.Common.{◌≡◌, ◌∙◌, ℕ, List, [], ◌∷◌, ◌++◌, Bool, true, false, refl, ap, sym, subst, cond, inl, inr}
use Rattle.std.proofs.lemmas.Bool.{not-true}
use Rattle.std.specs.Prelude.{Option, Some, None, not, is_some, IfSome}
use Rattle.std.specs.List.{list_any}
use Rattle.std.specs.Ordering.{nat_cmp, eq_by_cmp, is_eq}
use Rattle.std.specs.Cmp.Lexicographic.{slice_cmp, nat_list_cmp_total}
use Rattle.std.specs.FinMap.{get, insert, remove, empty, entries, find, get-insert, get-empty, get-entries, entries_sorted, is_sorted}
use Rattle.std.specs.FinMap.Entries.{below_all, find-where_key, is_sorted-where_key}
use Rattle.std.specs.declared.cmp.Ordering.TheVariants.{Less}
use Rattle.fs_ident.specs.Ident.{same}
use Rattle.fs_ident.specs.Ordered.{Keyed}
use Rattle.fs_ident.proofs.Booleans.{first, second, joined, neither, less, holds}
use Rattle.fs_ident.proofs.MapsOf.{anti, remove-insert}
use Rattle.fs_ident.proofs.Options.{absent_is}
use Rattle.fs_map.specs.Map.{gives}
use Rattle.fs_record.specs.declared.record.Record.{Record}
use Rattle.fs_record.specs.Records.{RecordMap, AreRecords, IsRecord}
use Rattle.fs_record.specs.Moving.{are_absent, are_distinct, with_records, records_given, records_left, AreEachRecords}
use Rattle.fs_record.specs.Walk.{taken_back}
use Rattle.fs_record.proofs.Kept.{kept_insert}
use Rattle.fs_record.proofs.NodeValues.{key_is, tied}
use Rattle.fs_record.proofs.Parting.{left_at}

-- ## They come

-- a file that has come is none of those that come later
still_absent : (m : RecordMap) (e : List ℕ × Record) (es : Keyed Record) → list_any (λ f. same f.0 e.0) es ≡ false → are_absent m es ≡ true → are_absent (insert m e.0 e.1) es ≡ true
still_absent m e [] d h = refl
still_absent m e (f ∷ fs) d h =
    let p = neither (same f.0 e.0) (list_any (λ f. same f.0 e.0) fs) d in
    let q : get (insert m e.0 e.1) f.0 ≡ get m f.0 = get-insert nat_list_cmp_total m e.0 e.1 f.0 ∙ ap (λ b. cond b (Some e.1) (get m f.0)) (tied f.0 e.0 ∙ p.0) in
    joined _ _ (ap (λ (o : Option Record). not (is_some o)) q ∙ first _ _ h) (still_absent m e fs p.1 (second _ _ h))

pub come_next : (m : RecordMap) (e : List ℕ × Record) (es : Keyed Record) → are_distinct (e ∷ es) ≡ true → are_absent m (e ∷ es) ≡ true → are_absent (insert m e.0 e.1) es ≡ true
come_next m e es d h = still_absent m e es (not-true _ (first _ _ d)) (second _ _ h)

pub with_kept : (m : RecordMap) (es : Keyed Record) → AreRecords m → AreEachRecords es → AreRecords (with_records es m)
with_kept m [] s own = s
with_kept m (e ∷ es) s own = with_kept (insert m e.0 e.1) es (kept_insert m e.0 e.1 s (own e (inl refl))) (λ f i. own f (inr i))

pub left_kept : (prefix : List ℕ) (given : Keyed Bool) (m : RecordMap) → AreRecords m → AreRecords (records_left prefix given m)
left_kept prefix given m s q = subst (λ (o : Option Record). IfSome o IsRecord) (sym (left_at prefix given m q)) (either (not (gives prefix given q)) (get m q) (s q))
  where
    either : (b : Bool) (o : Option Record) → IfSome o IsRecord → IfSome (cond b o None) IsRecord
    either true o own = own
    either false o own = tt

-- ## They are taken away

pub taken_last : (files : List (List ℕ)) (file : List ℕ) (m : RecordMap) → taken_back (files ++ file ∷ []) m ≡ taken_back files (remove m file)
taken_last [] file m = refl
taken_last (f ∷ fs) file m = ap (λ n. remove n f) (taken_last fs file m)

-- what came last is taken away first
pub back_again : (files : List (List ℕ)) (m : RecordMap) (e : List ℕ × Record) (es : Keyed Record) → are_absent m (e ∷ es) ≡ true → taken_back (files ++ e.0 ∷ []) (insert m e.0 e.1) ≡ taken_back files m
back_again files m e es h = taken_last files e.0 (insert m e.0 e.1) ∙ ap (taken_back files) (remove-insert m e.0 e.1 (absent_is (get m e.0) (first _ _ h)))

-- ## Each file goes or stays

abbrev pub or_else : Option Record → Option Record → Option Record
or_else None o = o
or_else (Some r) o = Some r

not_found : (k q : List ℕ) (es : Keyed Record) → eq_by_cmp (slice_cmp nat_cmp) q k ≡ true → below_all (slice_cmp nat_cmp) k es ≡ true → find (slice_cmp nat_cmp) q es ≡ None
not_found k q [] t h = refl
not_found k q (e ∷ es) t h =
    let l : slice_cmp nat_cmp q e.0 ≡ Less = ap (λ x. slice_cmp nat_cmp x e.0) (key_is q k t) ∙ less _ (first _ _ h) in
    ap (λ r. cond (is_eq r) (Some e.1) (find (slice_cmp nat_cmp) q es)) l ∙ not_found k q es t (second _ _ h)

-- what came stands there, and else what stood there
pub come_at : (q : List ℕ) (es : Keyed Record) (m : RecordMap) → is_sorted (slice_cmp nat_cmp) es ≡ true → get (with_records es m) q ≡ or_else (find (slice_cmp nat_cmp) q es) (get m q)
come_at q [] m h = refl
come_at q (e ∷ es) m h =
    come_at q es (insert m e.0 e.1) (second _ _ h)
    ∙ ap (or_else (find (slice_cmp nat_cmp) q es)) (get-insert nat_list_cmp_total m e.0 e.1 q)
    ∙ elim (eq_by_cmp (slice_cmp nat_cmp) q e.0) as (λ b. eq_by_cmp (slice_cmp nat_cmp) q e.0 ≡ b → or_else (find (slice_cmp nat_cmp) q es) (cond b (Some e.1) (get m q)) ≡ or_else (cond b (Some e.1) (find (slice_cmp nat_cmp) q es)) (get m q)) [
      | true ↦ λ t. ap (λ o. or_else o (Some e.1)) (not_found e.0 q es t (first _ _ h))
      | false ↦ λ t. refl
    ] refl

pub or_none : (o : Option Record) → or_else o None ≡ o
or_none None = refl
or_none (Some r) = refl

pub given_at : (prefix : List ℕ) (given : Keyed Bool) (m : RecordMap) (q : List ℕ) → get (with_records (records_given prefix given m) empty) q ≡ cond (gives prefix given q) (get m q) None
given_at prefix given m q =
    come_at q (records_given prefix given m) empty (holds _ (is_sorted-where_key (slice_cmp nat_cmp) (λ k. gives prefix given k) (entries m) (entries_sorted m)))
    ∙ ap (or_else (find (slice_cmp nat_cmp) q (records_given prefix given m))) (get-empty (slice_cmp nat_cmp) q)
    ∙ or_none (find (slice_cmp nat_cmp) q (records_given prefix given m))
    ∙ find-where_key (slice_cmp nat_cmp) (λ k. gives prefix given k) q (λ x t. ap (gives prefix given) (sym (anti q x t))) (entries m)
    ∙ ap (λ o. cond (gives prefix given q) o None) (sym (get-entries m q))

pub goes : (m : RecordMap) (prefix file : List ℕ) (given : Keyed Bool) → gives prefix given file ≡ true
    → (get (records_left prefix given m) file ≡ None) × (get (with_records (records_given prefix given m) empty) file ≡ get m file)
goes m prefix file given h = (
  left_at prefix given m file ∙ ap (λ b. cond (not b) (get m file) None) h,
  given_at prefix given m file ∙ ap (λ b. cond b (get m file) None) h,
)

pub stays : (m : RecordMap) (prefix file : List ℕ) (given : Keyed Bool) → gives prefix given file ≡ false
    → (get (records_left prefix given m) file ≡ get m file) × (get (with_records (records_given prefix given m) empty) file ≡ None)
stays m prefix file given h = (
  left_at prefix given m file ∙ ap (λ b. cond (not b) (get m file) None) h,
  given_at prefix given m file ∙ ap (λ b. cond b (get m file) None) h,
)
