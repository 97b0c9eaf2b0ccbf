-- Records that are put among others: those of other files do not matter.
use Rattle.std.proofs.Common.{◌≡◌, ◌+◌, ℕ, Bool, true, false, List, [], ◌∷◌, ◌++◌, refl, ap, cond, sym, ◌∙◌, inl, inr}
use Rattle.std.specs.Prelude.{Option, Some, None, is_some}
use Rattle.std.specs.Ordering.{nat_cmp}
use Rattle.std.specs.Cmp.Lexicographic.{slice_cmp, nat_list_cmp_total}
use Rattle.std.specs.FinMap.{empty, entries, entries_sorted, find, get, get-empty, get-entries, get-insert, insert, same_map}
use Rattle.fs_ident.specs.In.{In}
use Rattle.fs_ident.specs.Ordered.{Keyed}
use Rattle.fs_ident.proofs.MapsOf.{anti}
use Rattle.fs_ident.proofs.Booleans.{holds}
use Rattle.fs_field.specs.declared.effect.Effect.{Effect}
use Rattle.fs_map.proofs.Found.{In_found, tied}
use Rattle.fs_field.specs.After.{changed_file}
use Rattle.fs_record.specs.Applied.{record_change, records_after, records_after_all, with_at}
use Rattle.fs_record.specs.Fresh.{records_after_gift, with_next}
use Rattle.fs_record.specs.Moving.{with_records}
use Rattle.fs_record.specs.Records.{RecordMap}
use Rattle.fs_record.specs.declared.record.Record.{Record}
use Rattle.fs_record.proofs.Coming.{come_at, or_else, or_none}
use Rattle.fs_record.proofs.Kept.{get_with_at}
use Rattle.fs_record.proofs.NodeValues.{key_is}

-- ## One record

both_keys : (a b : Bool) (x y z : Option Record) → (a ≡ true → b ≡ true → ⊥) → cond a x (cond b y z) ≡ cond b y (cond a x z)
both_keys true true x y z h = absurd (h refl refl)
both_keys true false x y z h = refl
both_keys false b x y z h = refl

-- what stands at two identifiers, in any order
pub at_swap : (m : RecordMap) (f g : List ℕ) (o p : Option Record) → (f ≡ g → ⊥) → with_at (with_at m f o) g p ≡ with_at (with_at m g p) f o
at_swap m f g o p h = same_map nat_list_cmp_total anti _ _ (λ q.
    get_with_at (with_at m f o) g p q
    ∙ ap (cond (tied q g) p) (get_with_at m f o q)
    ∙ both_keys (tied q g) (tied q f) p o (get m q) (λ a b. h (sym (key_is q f b) ∙ key_is q g a))
    ∙ sym (get_with_at (with_at m g p) f o q ∙ ap (cond (tied q f) o) (get_with_at m g p q)))

-- ## Several records

-- none of these is the file's
abbrev pub AreOther : List ℕ → Keyed Record → Type 0
AreOther f es = (e : List ℕ × Record) → In e es → e.0 ≡ f → ⊥

-- what stands at another file comes before them or after
pub at_past : (es : Keyed Record) (m : RecordMap) (f : List ℕ) (o : Option Record) → AreOther f es → with_records es (with_at m f o) ≡ with_at (with_records es m) f o
at_past [] m f o h = refl
at_past (e ∷ es) m f o h = ap (with_records es) (at_swap m f e.0 o (Some e.1) (λ q. h e (inl refl) (sym q))) ∙ at_past es (insert m e.0 e.1) f o (λ x i. h x (inr i))

-- and the file has what it had
pub get_past : (es : Keyed Record) (m : RecordMap) (f : List ℕ) → AreOther f es → get (with_records es m) f ≡ get m f
get_past [] m f h = refl
get_past (e ∷ es) m f h = get_past es (insert m e.0 e.1) f (λ x i. h x (inr i)) ∙ get-insert nat_list_cmp_total m e.0 e.1 f ∙ ap (λ b. cond b (Some e.1) (get m f)) (off (tied f e.0) refl) where
  off : (b : Bool) → tied f e.0 ≡ b → b ≡ false
  off true q = absurd (h e (inl refl) (sym (key_is f e.0 q)))
  off false q = refl

pub records-append : (xs ys : Keyed Record) (m : RecordMap) → with_records (xs ++ ys) m ≡ with_records ys (with_records xs m)
records-append [] ys m = refl
records-append (e ∷ es) ys m = records-append es ys (insert m e.0 e.1)

-- records of different files, in any order
pub records_swap : (xs ys : Keyed Record) (m : RecordMap) → ((e : List ℕ × Record) → In e xs → AreOther e.0 ys) → with_records xs (with_records ys m) ≡ with_records ys (with_records xs m)
records_swap [] ys m h = refl
records_swap (e ∷ es) ys m h = ap (with_records es) (sym (at_past ys m e.0 (Some e.1) (h e (inl refl)))) ∙ records_swap es ys (insert m e.0 e.1) (λ x i. h x (inr i))

-- the records of a map make it
pub records_alone : (m : RecordMap) → with_records (entries m) empty ≡ m
records_alone m = same_map nat_list_cmp_total anti _ _ (λ q.
    come_at q (entries m) empty (holds _ (entries_sorted m))
    ∙ ap (or_else (find (slice_cmp nat_cmp) q (entries m))) (get-empty (slice_cmp nat_cmp) q)
    ∙ or_none (find (slice_cmp nat_cmp) q (entries m))
    ∙ sym (get-entries m q))

-- what stands among the entries has a record
pub entry_has : (m : RecordMap) (e : List ℕ × Record) → In e (entries m) → is_some (get m e.0) ≡ true
entry_has m e i = ap is_some (get-entries m e.0 ∙ In_found e (entries m) (holds _ (entries_sorted m)) i)

-- ## Effects on one's own files

-- these are the files of the effects
abbrev pub AreOn : (List ℕ → Bool) → List Effect → Type 0
AreOn mine effects = (e : Effect) → In e effects → mine (changed_file e) ≡ true

pub effects_past : (es : Keyed Record) (m : RecordMap) (effects : List Effect) → ((e : Effect) → In e effects → AreOther (changed_file e) es) → with_records es (records_after_all m effects) ≡ records_after_all (with_records es m) effects
effects_past es m [] h = refl
effects_past es m (e ∷ rest) h =
    effects_past es (records_after m e) rest (λ x i. h x (inr i))
    ∙ ap (λ n. records_after_all n rest) (
    at_past es m (changed_file e) (record_change e (get m (changed_file e))) (h e (inl refl))
    ∙ ap (λ o. with_at (with_records es m) (changed_file e) (record_change e o)) (sym (get_past es m (changed_file e) (h e (inl refl)))))

-- a record more stands at a file that has one, or at its own
pub at_home : (mine : List ℕ → Bool) (m : RecordMap) (f : List ℕ) (o : Option Record) → mine f ≡ true → ((id : List ℕ) → is_some (get m id) ≡ true → mine id ≡ true) → (id : List ℕ) → is_some (get (with_at m f o) id) ≡ true → mine id ≡ true
at_home mine m f o own home id h = by (tied id f) refl (sym (ap is_some (get_with_at m f o id)) ∙ h) where
  by : (b : Bool) → tied id f ≡ b → is_some (cond b o (get m id)) ≡ true → mine id ≡ true
  by true q g = ap mine (key_is id f q) ∙ own
  by false q g = home id g

-- where a file has a record, it had one or an effect is on it
pub effects_home : (mine : List ℕ → Bool) (m : RecordMap) (effects : List Effect) → AreOn mine effects → ((id : List ℕ) → is_some (get m id) ≡ true → mine id ≡ true) → (id : List ℕ) → is_some (get (records_after_all m effects) id) ≡ true → mine id ≡ true
effects_home mine m [] h home = home
effects_home mine m (e ∷ rest) h home = effects_home mine (records_after m e) rest (λ x i. h x (inr i)) (at_home mine m (changed_file e) (record_change e (get m (changed_file e))) (h e (inl refl)) home)

-- ## A gift

pub gift_past : (es : Keyed Record) (m : RecordMap) (dir : List ℕ) (k : ℕ) → AreOther dir es → with_records es (records_after_gift m dir (Some k)) ≡ records_after_gift (with_records es m) dir (Some k)
gift_past es m dir k h = by (get m dir) ∙ ap (with_next (with_records es m) dir (k + 1)) (sym (get_past es m dir h)) where
  by : (o : Option Record) → with_records es (with_next m dir (k + 1) o) ≡ with_next (with_records es m) dir (k + 1) o
  by None = refl
  by (Some r) = at_past es m dir (Some (record r { next = k + 1 })) h

pub gift_home : (mine : List ℕ → Bool) (m : RecordMap) (dir : List ℕ) (k : ℕ) → mine dir ≡ true → ((id : List ℕ) → is_some (get m id) ≡ true → mine id ≡ true) → (id : List ℕ) → is_some (get (records_after_gift m dir (Some k)) id) ≡ true → mine id ≡ true
gift_home mine m dir k own home = by (get m dir) where
  by : (o : Option Record) → (id : List ℕ) → is_some (get (with_next m dir (k + 1) o) id) ≡ true → mine id ≡ true
  by None = home
  by (Some r) = at_home mine m dir (Some (record r { next = k + 1 })) own home
