-- How the numbers on each field change.
use Rattle.std.proofs.Common.{◌≡◌, ◌&&◌, ◌∷◌, ◌==◌, ℕ, length, Bool, true, false, List, [], refl, ap, cond, sym, ◌∙◌}
use Rattle.std.specs.Prelude.{Some, None}
use Rattle.std.specs.Ordering.{nat_cmp}
use Rattle.std.specs.BTreeMap.{BTreeMap, is_at}
use Rattle.std.specs.Map.{lookup, set_value}
use Rattle.std.specs.Cmp.Lexicographic.{slice_cmp, nat_list_cmp_total, texts_ties}
use Rattle.std.specs.FinMap.{get, insert, remove, get-insert, get-remove, get-empty}
use Rattle.std.proofs.Math.Bool.{and-true, and-false}
use Rattle.fs_ident.specs.Ident.{same}
use Rattle.fs_ident.specs.Maps.{map_of}
use Rattle.fs_ident.specs.declared.actor.LeaseNo.{LeaseNo}
use Rattle.fs_ident.proofs.Booleans.{both}
use Rattle.fs_ident.proofs.MapsOf.{map_of_get, map_of_set, map_of_empty, put_here}
use Rattle.fs_ident.proofs.Same.{same_is, after_zero}
use Rattle.fs_field.specs.declared.field.Field.{Field}
use Rattle.fs_field.specs.declared.field.Field.TheVariants.{Life, Child, Names, Info, Own, SelfW, Other}
use Rattle.fs_field.specs.Field.{file_of, same_field}
use Rattle.fs_rows.specs.declared.index.OnFile.{OnFile}
use Rattle.fs_rows.specs.Index.{has_none, listed, numbers_in, numbers_at, numbers_of, same_fact, ChangesIn, ChangesAt, ChangesOf}

-- ## What stands at a key

abbrev Changed : Type 0
Changed = List LeaseNo → List LeaseNo

put_there : {V : Type 0} (m n : BTreeMap (List ℕ) V) (k : List ℕ) (v : V) (q : List ℕ) → map_of n ≡ insert (map_of m) k v → get (map_of n) q ≡ cond (same q k) (Some v) (get (map_of m) q)
put_there m n k v q e = ap (λ x. get x q) e ∙ get-insert nat_list_cmp_total (map_of m) k v q ∙ ap (λ b. cond b (Some v) (get (map_of m) q)) (sym (texts_ties q k))

taken_there : {V : Type 0} (m n : BTreeMap (List ℕ) V) (k : List ℕ) (q : List ℕ) → map_of n ≡ remove (map_of m) k → get (map_of n) q ≡ cond (same q k) None (get (map_of m) q)
taken_there m n k q e = ap (λ x. get x q) e ∙ get-remove nat_list_cmp_total (map_of m) k q ∙ ap (λ b. cond b None (get (map_of m) q)) (sym (texts_ties q k))

-- ## Names

pub changed_at : (c : Changed) (m n : BTreeMap (List ℕ) (List LeaseNo)) (k : List ℕ) (ns : List LeaseNo) → listed (get (map_of m) k) ≡ ns → map_of n ≡ insert (map_of m) k (c ns) → ChangesAt c k m n
changed_at c m n k ns h e q =
    ap listed (put_there m n k (c ns) q e)
    ∙ elim (same q k) as (λ b. same q k ≡ b → listed (cond b (Some (c ns)) (get (map_of m) q)) ≡ cond b (c (listed (get (map_of m) q))) (listed (get (map_of m) q))) [
      | true ↦ λ t. ap c (sym h ∙ ap (λ z. listed (get (map_of m) z)) (sym (same_is q k t)))
      | false ↦ λ t. refl
    ] refl

-- where nothing is listed the entry can go
pub emptied_at : (c : Changed) (m n o : BTreeMap (List ℕ) (List LeaseNo)) (k : List ℕ) → ChangesAt c k m n → listed (get (map_of n) k) ≡ [] → map_of o ≡ remove (map_of n) k → ChangesAt c k m o
emptied_at c m n o k h z e q =
    ap listed (taken_there n o k q e)
    ∙ elim (same q k) as (λ b. same q k ≡ b → listed (cond b None (get (map_of n) q)) ≡ listed (get (map_of n) q)) [
      | true ↦ λ t. sym (ap (λ x. listed (get (map_of n) x)) (same_is q k t) ∙ z)
      | false ↦ λ t. refl
    ] refl
    ∙ h q

pub absent_at : (c : Changed) (m : BTreeMap (List ℕ) (List LeaseNo)) (k : List ℕ) → get (map_of m) k ≡ None → c [] ≡ [] → ChangesAt c k m m
absent_at c m k h e q = elim (same q k) as (λ b. same q k ≡ b → listed (get (map_of m) q) ≡ cond b (c (listed (get (map_of m) q))) (listed (get (map_of m) q))) [
  | true ↦ λ t. let none = ap (λ x. listed (get (map_of m) x)) (same_is q k t) ∙ ap listed h in none ∙ sym (ap c none ∙ e)
  | false ↦ λ t. refl
] refl

pub set_child : (c : Changed) (m n : BTreeMap (List ℕ) (List LeaseNo)) (k : List ℕ) (v w : List LeaseNo) → lookup (is_at (slice_cmp nat_cmp k)) m.entries ≡ Some v → n.entries ≡ set_value (is_at (slice_cmp nat_cmp k)) m.entries w → w ≡ c v → ChangesAt c k m n
set_child c m n k v w h s e = changed_at c m n k v (ap listed (map_of_get m k ∙ h)) (map_of_set m n k v w h s ∙ ap (λ x. insert (map_of m) k x) e)

pub new_child : (c : Changed) (m there n : BTreeMap (List ℕ) (List LeaseNo)) (k l : List ℕ) (w : List LeaseNo) → there ≡ m → lookup (is_at (slice_cmp nat_cmp k)) m.entries ≡ None → l ≡ k → w ≡ c [] → map_of n ≡ insert (map_of there) l w → ChangesAt c k m n
new_child c m there n k l w same h e f s = changed_at c m n k [] (ap listed (map_of_get m k ∙ h)) (s ∙ ap (λ x. insert (map_of x) l w) same ∙ ap (λ x. insert (map_of m) x w) e ∙ ap (λ x. insert (map_of m) k x) f)

none_long : (ns : List LeaseNo) → (length ns == 0) ≡ true → ns ≡ []
none_long [] h = refl
none_long (n ∷ ns) h = let wrong : true ≡ false = sym h ∙ after_zero (length ns) in absurd (cc)

-- an emptied entry
pub set_none : (m n : BTreeMap (List ℕ) (List LeaseNo)) (k : List ℕ) (v w : List LeaseNo) → lookup (is_at (slice_cmp nat_cmp k)) m.entries ≡ Some v → n.entries ≡ set_value (is_at (slice_cmp nat_cmp k)) m.entries w → (length w == 0) ≡ true → listed (get (map_of n) k) ≡ []
set_none m n k v w h s e = ap listed (ap (λ x. get x k) (map_of_set m n k v w h s) ∙ put_here (map_of m) k w) ∙ none_long w e

-- ## Fields

pub parts : (f g : Field) → same_field f g ≡ (same (file_of f) (file_of g) && same_fact f g)
parts (Life a) (Life b) = sym (and-true (same a b))
parts (Child a m) (Child b n) = refl
parts (Names a) (Names b) = sym (and-true (same a b))
parts (Info a) (Info b) = sym (and-true (same a b))
parts (Own a) (Own b) = sym (and-true (same a b))
parts (SelfW a m) (SelfW b n) = refl
parts (Other a m) (Other b n) = refl
parts f g = sym (and-false (same (file_of f) (file_of g)))

pub changed_files : (c : Changed) (field : Field) (m n : BTreeMap (List ℕ) OnFile) (o p : OnFile) → ((f : Field) → numbers_in o f ≡ numbers_at (get (map_of m) (file_of field)) f) → map_of n ≡ insert (map_of m) (file_of field) p → ChangesIn c field o p → ChangesOf c field m n
changed_files c field m n o p h e g f =
    ap (λ x. numbers_at x f) (put_there m n (file_of field) p (file_of f) e)
    ∙ elim (same (file_of f) (file_of field)) as (λ b. same (file_of f) (file_of field) ≡ b → numbers_at (cond b (Some p) (get (map_of m) (file_of f))) f ≡ cond (b && same_fact f field) (c (numbers_of m f)) (numbers_of m f)) [
      | true ↦ λ t. g f ∙ ap (λ ns. cond (same_fact f field) (c ns) ns) (h f ∙ ap (λ z. numbers_at (get (map_of m) z) f) (sym (same_is (file_of f) (file_of field) t)))
      | false ↦ λ t. refl
    ] refl
    ∙ ap (λ b. cond b (c (numbers_of m f)) (numbers_of m f)) (sym (parts f field))

emptied_files : (c : Changed) (field : Field) (m n o : BTreeMap (List ℕ) OnFile) → ChangesOf c field m n → ((f : Field) → numbers_at (get (map_of n) (file_of field)) f ≡ []) → map_of o ≡ remove (map_of n) (file_of field) → ChangesOf c field m o
emptied_files c field m n o h z e f =
    ap (λ x. numbers_at x f) (taken_there n o (file_of field) (file_of f) e)
    ∙ elim (same (file_of f) (file_of field)) as (λ b. same (file_of f) (file_of field) ≡ b → numbers_at (cond b None (get (map_of n) (file_of f))) f ≡ numbers_of n f) [
      | true ↦ λ t. sym (ap (λ x. numbers_at (get (map_of n) x) f) (same_is (file_of f) (file_of field) t) ∙ z f)
      | false ↦ λ t. refl
    ] refl
    ∙ h f

pub emptied_there : (c : Changed) (field : Field) (m n o : BTreeMap (List ℕ) OnFile) (k : List ℕ) → k ≡ file_of field → ChangesOf c field m n → ((f : Field) → numbers_at (get (map_of n) (file_of field)) f ≡ []) → map_of o ≡ remove (map_of n) k → ChangesOf c field m o
emptied_there c field m n o k e h z s = emptied_files c field m n o h z (s ∙ ap (remove (map_of n)) e)

none_changes : (c : Changed) (b : Bool) (ns : List LeaseNo) → ns ≡ [] → c [] ≡ [] → ns ≡ cond b (c ns) ns
none_changes c true ns h e = h ∙ sym (ap c h ∙ e)
none_changes c false ns h e = refl

pub absent_files : (c : Changed) (field : Field) (m : BTreeMap (List ℕ) OnFile) → get (map_of m) (file_of field) ≡ None → c [] ≡ [] → ChangesOf c field m m
absent_files c field m h e f =
    elim (same (file_of f) (file_of field)) as (λ b. same (file_of f) (file_of field) ≡ b → numbers_of m f ≡ cond (b && same_fact f field) (c (numbers_of m f)) (numbers_of m f)) [
      | true ↦ λ t. none_changes c (same_fact f field) (numbers_of m f) (ap (λ x. numbers_at (get (map_of m) x) f) (same_is (file_of f) (file_of field) t) ∙ ap (λ x. numbers_at x f) h) e
      | false ↦ λ t. refl
    ] refl
    ∙ ap (λ b. cond b (c (numbers_of m f)) (numbers_of m f)) (sym (parts f field))

-- ## The fields of one file

pub life_changes : (c : Changed) (file : List ℕ) (o : OnFile) (ns : List LeaseNo) → ns ≡ c o.life → ChangesIn c (Life file) o (record o { life = ns })
life_changes c file o ns e (Life a) = e
life_changes c file o ns e (Child a m) = refl
life_changes c file o ns e (Names a) = refl
life_changes c file o ns e (Info a) = refl
life_changes c file o ns e (Own a) = refl
life_changes c file o ns e (SelfW a m) = refl
life_changes c file o ns e (Other a m) = refl

pub names_changes : (c : Changed) (file : List ℕ) (o : OnFile) (ns : List LeaseNo) → ns ≡ c o.names → ChangesIn c (Names file) o (record o { names = ns })
names_changes c file o ns e (Life a) = refl
names_changes c file o ns e (Child a m) = refl
names_changes c file o ns e (Names a) = e
names_changes c file o ns e (Info a) = refl
names_changes c file o ns e (Own a) = refl
names_changes c file o ns e (SelfW a m) = refl
names_changes c file o ns e (Other a m) = refl

pub info_changes : (c : Changed) (file : List ℕ) (o : OnFile) (ns : List LeaseNo) → ns ≡ c o.info → ChangesIn c (Info file) o (record o { info = ns })
info_changes c file o ns e (Life a) = refl
info_changes c file o ns e (Child a m) = refl
info_changes c file o ns e (Names a) = refl
info_changes c file o ns e (Info a) = e
info_changes c file o ns e (Own a) = refl
info_changes c file o ns e (SelfW a m) = refl
info_changes c file o ns e (Other a m) = refl

pub own_changes : (c : Changed) (file : List ℕ) (o : OnFile) (ns : List LeaseNo) → ns ≡ c o.own → ChangesIn c (Own file) o (record o { own = ns })
own_changes c file o ns e (Life a) = refl
own_changes c file o ns e (Child a m) = refl
own_changes c file o ns e (Names a) = refl
own_changes c file o ns e (Info a) = refl
own_changes c file o ns e (Own a) = e
own_changes c file o ns e (SelfW a m) = refl
own_changes c file o ns e (Other a m) = refl

pub child_changes : (c : Changed) (file name : List ℕ) (o : OnFile) (ns : BTreeMap (List ℕ) (List LeaseNo)) → ChangesAt c name o.children ns → ChangesIn c (Child file name) o (record o { children = ns })
child_changes c file name o ns h (Life a) = refl
child_changes c file name o ns h (Child a m) = h m
child_changes c file name o ns h (Names a) = refl
child_changes c file name o ns h (Info a) = refl
child_changes c file name o ns h (Own a) = refl
child_changes c file name o ns h (SelfW a m) = refl
child_changes c file name o ns h (Other a m) = refl

pub nothing_new : (o : OnFile) → o.life ≡ [] → o.names ≡ [] → o.info ≡ [] → o.own ≡ [] → o.children.entries ≡ [] → (f : Field) → numbers_in o f ≡ []
nothing_new o a b c d e (Life x) = a
nothing_new o a b c d e (Child x m) = ap (λ y. listed (get y m)) (map_of_empty o.children e) ∙ ap listed (get-empty (slice_cmp nat_cmp) m)
nothing_new o a b c d e (Names x) = b
nothing_new o a b c d e (Info x) = c
nothing_new o a b c d e (Own x) = d
nothing_new o a b c d e (SelfW x m) = refl
nothing_new o a b c d e (Other x m) = refl

none_entered : {X : Type 0} (es : List (List ℕ × X)) → (length es == 0) ≡ true → es ≡ []
none_entered [] h = refl
none_entered (n ∷ ns) h = let wrong : true ≡ false = sym h ∙ after_zero (length ns) in absurd (cc)

nothing_there : (o : OnFile) → has_none o ≡ true → (f : Field) → numbers_in o f ≡ []
nothing_there o h =
    let q = both _ _ h in
    let r = both _ _ q.0 in
    let s = both _ _ r.0 in
    let t = both _ _ r.1 in
    nothing_new o (none_long o.life s.0) (none_long o.names s.1) (none_long o.info t.0) (none_long o.own t.1) (none_entered o.children.entries q.1)

pub set_files : (c : Changed) (field : Field) (m n : BTreeMap (List ℕ) OnFile) (k : List ℕ) (o p : OnFile) → k ≡ file_of field → lookup (is_at (slice_cmp nat_cmp k)) m.entries ≡ Some o → n.entries ≡ set_value (is_at (slice_cmp nat_cmp k)) m.entries p → ChangesIn c field o p → ChangesOf c field m n
set_files c field m n k o p e h s g = changed_files c field m n o p (λ f. sym (ap (λ x. numbers_at x f) (ap (get (map_of m)) (sym e) ∙ map_of_get m k ∙ h))) (map_of_set m n k o p h s ∙ ap (λ x. insert (map_of m) x p) e) g

pub new_files : (c : Changed) (field : Field) (m there n : BTreeMap (List ℕ) OnFile) (k l : List ℕ) (o p : OnFile) → there ≡ m → k ≡ file_of field → l ≡ file_of field → lookup (is_at (slice_cmp nat_cmp k)) m.entries ≡ None → map_of n ≡ insert (map_of there) l p → ((f : Field) → numbers_in o f ≡ []) → ChangesIn c field o p → ChangesOf c field m n
new_files c field m there n k l o p same e d h s z g =
    changed_files c field m n o p (λ f. z f ∙ sym (ap (λ x. numbers_at x f) (ap (get (map_of m)) (sym e) ∙ map_of_get m k ∙ h))) (s ∙ ap (λ x. insert (map_of x) l p) same ∙ ap (λ x. insert (map_of m) x p) d) g

-- an emptied file
pub set_nothing : (field : Field) (m n : BTreeMap (List ℕ) OnFile) (k : List ℕ) (o p : OnFile) → k ≡ file_of field → lookup (is_at (slice_cmp nat_cmp k)) m.entries ≡ Some o → n.entries ≡ set_value (is_at (slice_cmp nat_cmp k)) m.entries p → has_none p ≡ true → (f : Field) → numbers_at (get (map_of n) (file_of field)) f ≡ []
set_nothing field m n k o p e h s z f = ap (λ x. numbers_at x f) (ap (get (map_of n)) (sym e) ∙ ap (λ x. get x k) (map_of_set m n k o p h s) ∙ put_here (map_of m) k p) ∙ nothing_there p z f
