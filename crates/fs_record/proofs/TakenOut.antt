-- Records that are taken out one after another.
use Rattle.std.proofs.Common.{◌≡◌, ◌∙◌, ℕ, List, [], ◌∷◌, ◌++◌, Bool, true, false, refl, ap, ap₂, sym, cond, inl, inr, append-nil, append_assoc}
use Rattle.std.specs.Prelude.{Option, Some, None, not, ◌||◌, is_some}
use Rattle.std.specs.List.{list_any}
use Rattle.std.specs.Map.{keys_of, lookup}
use Rattle.std.specs.BTreeMap.{BTreeMap, is_at}
use Rattle.std.specs.Ordering.{nat_cmp, eq_by_cmp}
use Rattle.std.specs.Cmp.Lexicographic.{slice_cmp, nat_list_cmp_total}
use Rattle.std.specs.declared.cmp.Ordering.TheVariants.{Equal}
use Rattle.std.specs.FinMap.{get, remove, insert, get-insert, get-remove, is_sorted, same_map}
use Rattle.std.specs.FinMap.Entries.{is_some-find}
use Rattle.fs_ident.specs.In.{In}
use Rattle.fs_ident.specs.Ordered.{Keyed}
use Rattle.fs_ident.proofs.Booleans.{first, neither, second}
use Rattle.fs_ident.specs.Maps.{map_of}
use Rattle.fs_ident.proofs.MapsOf.{anti, map_of_get}
use Rattle.fs_ident.proofs.Options.{absent_is}
use Rattle.fs_map.specs.Map.{gives}
use Rattle.fs_record.specs.declared.record.Record.{Record}
use Rattle.fs_record.specs.Records.{AreRecords, RecordMap}
use Rattle.fs_record.specs.Moving.{are_absent, records_given, records_left, records_without, with_records}
use Rattle.fs_record.specs.Walk.{taken_out, with_file}
use Rattle.fs_record.proofs.Kept.{kept_with_at}
use Rattle.fs_record.proofs.NodeValues.{key_is}
use Rattle.fs_record.proofs.Parting.{left_at}
use Rattle.fs_record.proofs.Returning.{below_each, found_given, given_sorted, other, there}

-- ## What is left

either : (a b : Bool) (o : Option Record) → cond b None (cond a None o) ≡ cond (a || b) None o
either true true o = refl
either true false o = refl
either false b o = refl

pub without_at : (files : List (List ℕ)) (m : RecordMap) (q : List ℕ) → get (records_without files m) q ≡ cond (list_any (eq_by_cmp (slice_cmp nat_cmp) q) files) None (get m q)
without_at [] m q = refl
without_at (f ∷ fs) m q =
    without_at fs (remove m f) q
    ∙ ap (cond (list_any (eq_by_cmp (slice_cmp nat_cmp) q) fs) None) (get-remove nat_list_cmp_total m f q)
    ∙ either (eq_by_cmp (slice_cmp nat_cmp) q f) (list_any (eq_by_cmp (slice_cmp nat_cmp) q) fs) (get m q)

-- each of the others is a record still
pub without_kept : (files : List (List ℕ)) (m : RecordMap) → AreRecords m → AreRecords (records_without files m)
without_kept [] m s = s
without_kept (f ∷ fs) m s = without_kept fs (remove m f) (kept_with_at m f None s tt)

-- ## What came goes again

pub absent_one : (q : List ℕ) (es : Keyed Record) (m : RecordMap) → are_absent m es ≡ true → list_any (eq_by_cmp (slice_cmp nat_cmp) q) (keys_of es) ≡ true → get m q ≡ None
absent_one q [] m a h = absurd (cc)
absent_one q (e ∷ es) m a h =
    elim (eq_by_cmp (slice_cmp nat_cmp) q e.0) as (λ b. eq_by_cmp (slice_cmp nat_cmp) q e.0 ≡ b → (b || list_any (eq_by_cmp (slice_cmp nat_cmp) q) (keys_of es)) ≡ true → get m q ≡ None) [
      | true ↦ λ t _. ap (get m) (key_is q e.0 t) ∙ absent_is (get m e.0) (first _ _ a)
      | false ↦ λ t k. absent_one q es m (second _ _ a) k
    ] refl h

pub came_beside : (q : List ℕ) (es : Keyed Record) (m : RecordMap) → list_any (eq_by_cmp (slice_cmp nat_cmp) q) (keys_of es) ≡ false → get (with_records es m) q ≡ get m q
came_beside q [] m h = refl
came_beside q (e ∷ es) m h =
    let n = neither (eq_by_cmp (slice_cmp nat_cmp) q e.0) (list_any (eq_by_cmp (slice_cmp nat_cmp) q) (keys_of es)) h in
    came_beside q es (insert m e.0 e.1) n.1 ∙ get-insert nat_list_cmp_total m e.0 e.1 q ∙ ap (λ b. cond b (Some e.1) (get m q)) n.0

pub gone_again : (es : Keyed Record) (m : RecordMap) → are_absent m es ≡ true → records_without (keys_of es) (with_records es m) ≡ m
gone_again es m a = same_map nat_list_cmp_total anti _ _ (λ q.
    without_at (keys_of es) (with_records es m) q
    ∙ elim (list_any (eq_by_cmp (slice_cmp nat_cmp) q) (keys_of es)) as (λ b. list_any (eq_by_cmp (slice_cmp nat_cmp) q) (keys_of es) ≡ b → cond b None (get (with_records es m) q) ≡ get m q) [
      | true ↦ λ h. sym (absent_one q es m a h)
      | false ↦ λ h. came_beside q es m h
    ] refl)

-- ## What goes

gone : (b : Bool) (o : Option Record) → cond (is_some (cond b o None)) None o ≡ cond (not b) o None
gone true None = refl
gone true (Some r) = refl
gone false o = refl

pub left_given : (prefix : List ℕ) (given : Keyed Bool) (m : RecordMap) → records_without (keys_of (records_given prefix given m)) m ≡ records_left prefix given m
left_given prefix given m = same_map nat_list_cmp_total anti _ _ (λ q.
    without_at (keys_of (records_given prefix given m)) m q
    ∙ ap (λ b. cond b None (get m q)) (sym (is_some-find (slice_cmp nat_cmp) q (records_given prefix given m)) ∙ ap (λ (o : Option Record). is_some o) (found_given prefix given m q))
    ∙ gone (gives prefix given q) (get m q)
    ∙ sym (left_at prefix given m q))

-- ## What is taken

all_taken : (es : Keyed Record) (m : RecordMap) → is_sorted (slice_cmp nat_cmp) es ≡ true → ((e : List ℕ × Record) → In e es → get m e.0 ≡ Some e.1) → taken_out (keys_of es) m ≡ es
all_taken [] m h f = refl
all_taken (e ∷ es) m h f =
    ap (λ o. with_file e.0 o (taken_out (keys_of es) (remove m e.0))) (f e (inl refl))
    ∙ ap (λ rest. e ∷ rest) (all_taken es (remove m e.0) (second _ _ h) (λ x i.
    get-remove nat_list_cmp_total m e.0 x.0
    ∙ ap (λ b. cond b None (get m x.0)) (other e.0 x.0 (below_each e.0 es x (first _ _ h) i))
    ∙ f x (inr i)))

pub taken_given : (prefix : List ℕ) (given : Keyed Bool) (m : RecordMap) → taken_out (keys_of (records_given prefix given m)) m ≡ records_given prefix given m
taken_given prefix given m = all_taken (records_given prefix given m) m (given_sorted prefix given m) (λ e i. (there prefix given m e i).0)

-- ## One record

pub taken_one : (m : BTreeMap (List ℕ) Record) (file : List ℕ) (e : List ℕ × Record) → slice_cmp nat_cmp file e.0 ≡ Equal → lookup (is_at (slice_cmp nat_cmp file)) m.entries ≡ Some e.1 → e ∷ [] ≡ with_file file (get (map_of m) file) []
taken_one m file e t v = ap (λ (k : List ℕ). (k, e.1) ∷ []) (sym (anti file e.0 t)) ∙ ap (λ o. with_file file o []) (sym (map_of_get m file ∙ v))

pub taken_none : (xs : Keyed Record) (m : BTreeMap (List ℕ) Record) (file : List ℕ) → lookup (is_at (slice_cmp nat_cmp file)) m.entries ≡ None → xs ≡ xs ++ with_file file (get (map_of m) file) []
taken_none xs m file v = sym (append-nil xs) ∙ ap (λ o. xs ++ with_file file o []) (sym (map_of_get m file ∙ v))

first_taken : (xs rest : Keyed Record) (file : List ℕ) (o : Option Record) → (xs ++ with_file file o []) ++ rest ≡ xs ++ with_file file o rest
first_taken xs rest file None = ap (λ ys. ys ++ rest) (append-nil xs)
first_taken xs rest file (Some r) = append_assoc xs ((file, r) ∷ []) rest

-- the record of the first file is taken, and then the others
pub taken_next : (xs ys : Keyed Record) (file : List ℕ) (files : List (List ℕ)) (m : RecordMap) → ys ≡ xs ++ with_file file (get m file) []
    → ys ++ taken_out files (remove m file) ≡ xs ++ taken_out (file ∷ files) m
taken_next xs ys file files m e = ap (λ (zs : Keyed Record). zs ++ taken_out files (remove m file)) e ∙ first_taken xs (taken_out files (remove m file)) file (get m file)

-- the files of what goes are taken out
pub left_these : (prefix : List ℕ) (given : Keyed Bool) (moved : Keyed Record) (inside old : RecordMap) (slice : Keyed Record) (new : RecordMap)
    → inside ≡ old → slice ≡ moved → moved ≡ records_given prefix given old → new ≡ records_without (keys_of slice) inside → new ≡ records_left prefix given old
left_these prefix given moved inside old slice new v s r e =
    e ∙ ap₂ (λ (es : Keyed Record) (m : RecordMap). records_without (keys_of es) m) (s ∙ r) v ∙ left_given prefix given old
