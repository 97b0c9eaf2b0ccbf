-- What goes can come to where it was, and all is as before.
use Rattle.std.proofs.Common.{◌≡◌, ◌∙◌, ℕ, List, [], ◌∷◌, Bool, true, false, refl, ap, ap₂, sym, cond, inl, inr}
use Rattle.std.specs.Prelude.{Option, Some, None, not, ◌||◌, is_some}
use Rattle.std.specs.List.{list_any}
use Rattle.std.specs.Ordering.{nat_cmp, eq_by_cmp, is_eq}
use Rattle.std.specs.Cmp.{eq_by_cmp_equiv}
use Rattle.std.specs.Cmp.Lexicographic.{slice_cmp, nat_list_cmp_total}
use Rattle.std.specs.FinMap.{get, entries, find, get-entries, entries_sorted, is_sorted, same_map}
use Rattle.std.specs.FinMap.Entries.{below_all, find-where_key, is_sorted-where_key}
use Rattle.std.specs.declared.cmp.Ordering.TheVariants.{Less}
use Rattle.fs_ident.specs.Ident.{same}
use Rattle.fs_ident.specs.In.{In}
use Rattle.fs_ident.specs.Ordered.{Keyed}
use Rattle.fs_ident.proofs.Booleans.{first, second, joined, less, holds}
use Rattle.fs_ident.proofs.MapsOf.{anti}
use Rattle.fs_ident.proofs.Passing.{In-all}
use Rattle.fs_map.specs.Map.{gives}
use Rattle.fs_record.specs.declared.record.Record.{Record}
use Rattle.fs_record.specs.Records.{RecordMap, AreRecords}
use Rattle.fs_record.specs.Moving.{are_absent, are_distinct, with_records, records_given, records_left, AreEachRecords}
use Rattle.fs_record.proofs.Coming.{come_at, or_else}
use Rattle.fs_record.proofs.Kept.{record_at}
use Rattle.fs_record.proofs.NodeValues.{tied}
use Rattle.fs_record.proofs.Parting.{left_at}

-- ## Entries in order

pub other : (k q : List ℕ) → slice_cmp nat_cmp k q ≡ Less → eq_by_cmp (slice_cmp nat_cmp) q k ≡ false
other k q l = (eq_by_cmp_equiv nat_list_cmp_total).symm q k ∙ ap is_eq l

none_same : (k : List ℕ) (es : Keyed Record) → below_all (slice_cmp nat_cmp) k es ≡ true → list_any (λ f. same f.0 k) es ≡ false
none_same k [] h = refl
none_same k (e ∷ es) h =
    let q : same e.0 k ≡ false = sym (tied e.0 k) ∙ other k e.0 (less _ (first _ _ h)) in
    ap₂ (λ a b. a || b) q (none_same k es (second _ _ h))

pub all_distinct : (es : Keyed Record) → is_sorted (slice_cmp nat_cmp) es ≡ true → are_distinct es ≡ true
all_distinct [] h = refl
all_distinct (e ∷ es) h = joined _ _ (ap not (none_same e.0 es (first _ _ h))) (all_distinct es (second _ _ h))

pub below_each : (k : List ℕ) (es : Keyed Record) (e : List ℕ × Record) → below_all (slice_cmp nat_cmp) k es ≡ true → In e es → slice_cmp nat_cmp k e.0 ≡ Less
below_each k [] e h i = absurd i
below_each k (f ∷ fs) e h i = elim i [
  | inl q ↦ ap (λ (x : List ℕ × Record). slice_cmp nat_cmp k x.0) q ∙ less _ (first _ _ h)
  | inr j ↦ below_each k fs e (second _ _ h) j
]

found : (es : Keyed Record) (e : List ℕ × Record) → is_sorted (slice_cmp nat_cmp) es ≡ true → In e es → find (slice_cmp nat_cmp) e.0 es ≡ Some e.1
found [] e h i = absurd i
found (f ∷ fs) e h i = elim i [
  | inl q ↦ ap (λ (x : List ℕ × Record). find (slice_cmp nat_cmp) x.0 (f ∷ fs)) q
      ∙ ap (λ b. cond b (Some f.1) (find (slice_cmp nat_cmp) f.0 fs)) ((eq_by_cmp_equiv nat_list_cmp_total).refl f.0)
      ∙ ap (λ (x : List ℕ × Record). Some x.1) (sym q)
  | inr j ↦ ap (λ b. cond b (Some f.1) (find (slice_cmp nat_cmp) e.0 fs)) (other f.0 e.0 (below_each f.0 fs e (first _ _ h) j)) ∙ found fs e (second _ _ h) j
]

-- ## What goes

pub given_sorted : (prefix : List ℕ) (given : Keyed Bool) (m : RecordMap) → is_sorted (slice_cmp nat_cmp) (records_given prefix given m) ≡ true
given_sorted prefix given m = holds _ (is_sorted-where_key (slice_cmp nat_cmp) (λ k. gives prefix given k) (entries m) (entries_sorted m))

pub given_distinct : (prefix : List ℕ) (given : Keyed Bool) (m : RecordMap) → are_distinct (records_given prefix given m) ≡ true
given_distinct prefix given m = all_distinct (records_given prefix given m) (given_sorted prefix given m)

pub found_given : (prefix : List ℕ) (given : Keyed Bool) (m : RecordMap) (q : List ℕ) → find (slice_cmp nat_cmp) q (records_given prefix given m) ≡ cond (gives prefix given q) (get m q) None
found_given prefix given m q =
    find-where_key (slice_cmp nat_cmp) (λ k. gives prefix given k) q (λ x t. ap (gives prefix given) (sym (anti q x t))) (entries m)
    ∙ ap (λ o. cond (gives prefix given q) o None) (sym (get-entries m q))

-- what is chosen was there, and is not left
chosen : (b : Bool) (o : Option Record) (r : Record) → cond b o None ≡ Some r → (o ≡ Some r) × (cond (not b) o None ≡ None)
chosen true o r h = (h, refl)
chosen false o r h = absurd (cc)

pub there : (prefix : List ℕ) (given : Keyed Bool) (m : RecordMap) (e : List ℕ × Record) → In e (records_given prefix given m) → (get m e.0 ≡ Some e.1) × (get (records_left prefix given m) e.0 ≡ None)
there prefix given m e i =
    let c = chosen (gives prefix given e.0) (get m e.0) e.1 (sym (found_given prefix given m e.0) ∙ found (records_given prefix given m) e (given_sorted prefix given m) i) in
    (c.0, left_at prefix given m e.0 ∙ c.1)

pub given_absent : (prefix : List ℕ) (given : Keyed Bool) (m : RecordMap) → are_absent (records_left prefix given m) (records_given prefix given m) ≡ true
given_absent prefix given m = In-all (λ e. not (is_some (get (records_left prefix given m) e.0))) (records_given prefix given m) (λ e i. ap (λ (o : Option Record). not (is_some o)) (there prefix given m e i).1)

pub given_each : (prefix : List ℕ) (given : Keyed Bool) (m : RecordMap) → AreRecords m → AreEachRecords (records_given prefix given m)
given_each prefix given m s e i = record_at m s e.0 e.1 (there prefix given m e i).0

-- ## It comes

again : (b : Bool) (o : Option Record) → or_else (cond b o None) (cond (not b) o None) ≡ o
again true None = refl
again true (Some r) = refl
again false o = refl

pub come_again : (prefix : List ℕ) (given : Keyed Bool) (m : RecordMap) → with_records (records_given prefix given m) (records_left prefix given m) ≡ m
come_again prefix given m = same_map nat_list_cmp_total anti _ _ (λ q.
    come_at q (records_given prefix given m) (records_left prefix given m) (given_sorted prefix given m)
    ∙ ap₂ or_else (found_given prefix given m q) (left_at prefix given m q)
    ∙ again (gives prefix given q) (get m q))
