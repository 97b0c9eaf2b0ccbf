-- How the items at each file change.
use Rattle.std.proofs.Common.{◌≡◌, ◌||◌, ◌∷◌, ◌==◌, ◌+◌, ◌<◌, ◌≤◌, ℕ, length, Bool, true, false, not, List, [], refl, ap, cond, sym, ◌∙◌, get_or, take}
use Rattle.std.specs.Prelude.{Some, None}
use Rattle.std.specs.Ordering.{nat_cmp}
use Rattle.std.specs.BTreeMap.{is_at}
use Rattle.std.specs.List.{filter}
use Rattle.std.specs.Map.{lookup, set_value}
use Rattle.std.specs.Cmp.Lexicographic.{slice_cmp, nat_list_cmp_total, texts_ties, nat_list_eq_equiv}
use Rattle.std.specs.FinMap.{get, insert, remove, get-insert, get-remove, get-empty}
use Rattle.std.proofs.Math.Bool.{or-false}
use Rattle.std.proofs.lemmas.List.{take_more, take_all}
use Rattle.std.proofs.lemmas.List.Folds.{list_any-append}
use Rattle.fs_ident.specs.Ident.{same}
use Rattle.fs_ident.specs.Maps.{map_of}
use Rattle.fs_ident.specs.declared.actor.PathNo.{PathNo}
use Rattle.fs_ident.proofs.MapsOf.{map_of_get, map_of_set, map_of_empty, put_here}
use Rattle.fs_ident.proofs.Same.{same_is, after_zero}
use Rattle.fs_path.specs.ByFile.{ChangesAmong, ChangesAt, FilesOf, listed, listed_at}
use Rattle.fs_path.specs.Index.{AddsUnmet, ByFile, with_named, without_named}
use Rattle.fs_path.specs.Leases.{same_path_no}
use Rattle.fs_path.specs.Walk.{is_among}

-- ## What stands at a key

put_there : {X : Type 0} (m n : FilesOf X) (k : List ℕ) (v : List X) (q : List ℕ) → map_of n ≡ insert (map_of m) k v → get (map_of n) q ≡ cond (same q k) (Some v) (get (map_of m) q)
put_there m n k v q e = ap (λ x. get x q) e ∙ get-insert nat_list_cmp_total (map_of m) k v q ∙ ap (λ b. cond b (Some v) (get (map_of m) q)) (sym (texts_ties q k))

taken_there : {X : Type 0} (m n : FilesOf X) (k : List ℕ) (q : List ℕ) → map_of n ≡ remove (map_of m) k → get (map_of n) q ≡ cond (same q k) None (get (map_of m) q)
taken_there m n k q e = ap (λ x. get x q) e ∙ get-remove nat_list_cmp_total (map_of m) k q ∙ ap (λ b. cond b None (get (map_of m) q)) (sym (texts_ties q k))

-- ## At one file

pub changed_at : {X : Type 0} (c : List X → List X) (m n : FilesOf X) (k : List ℕ) (ns : List X) → listed_at m k ≡ ns → map_of n ≡ insert (map_of m) k (c ns) → ChangesAt c k m n
changed_at c m n k ns h e q =
    ap listed (put_there m n k (c ns) q e)
    ∙ elim (same q k) as (λ b. same q k ≡ b → listed (cond b (Some (c ns)) (get (map_of m) q)) ≡ cond b (c (listed_at m q)) (listed_at m q)) [
      | true ↦ λ t. ap c (sym h ∙ ap (listed_at m) (sym (same_is q k t)))
      | false ↦ λ t. refl
    ] refl

-- where nothing is listed the entry can go
pub emptied_at : {X : Type 0} (c : List X → List X) (m n o : FilesOf X) (k : List ℕ) → ChangesAt c k m n → listed_at n k ≡ [] → map_of o ≡ remove (map_of n) k → ChangesAt c k m o
emptied_at c m n o k h z e q =
    ap listed (taken_there n o k q e)
    ∙ elim (same q k) as (λ b. same q k ≡ b → listed (cond b None (get (map_of n) q)) ≡ listed_at n q) [
      | true ↦ λ t. sym (ap (listed_at n) (same_is q k t) ∙ z)
      | false ↦ λ t. refl
    ] refl
    ∙ h q

pub absent_at : {X : Type 0} (c : List X → List X) (m : FilesOf X) (k : List ℕ) → get (map_of m) k ≡ None → c [] ≡ [] → ChangesAt c k m m
absent_at c m k h e q = elim (same q k) as (λ b. same q k ≡ b → listed_at m q ≡ cond b (c (listed_at m q)) (listed_at m q)) [
  | true ↦ λ t. let none = ap (listed_at m) (same_is q k t) ∙ ap listed h in none ∙ sym (ap c none ∙ e)
  | false ↦ λ t. refl
] refl

pub set_at : {X : Type 0} (c : List X → List X) (m n : FilesOf X) (k : List ℕ) (v w : List X) → lookup (is_at (slice_cmp nat_cmp k)) m.entries ≡ Some v → n.entries ≡ set_value (is_at (slice_cmp nat_cmp k)) m.entries w → w ≡ c v → ChangesAt c k m n
set_at c m n k v w h s e = changed_at c m n k v (ap listed (map_of_get m k ∙ h)) (map_of_set m n k v w h s ∙ ap (λ x. insert (map_of m) k x) e)

pub new_at : {X : Type 0} (c : List X → List X) (m there n : FilesOf X) (k l : List ℕ) (w : List X) → there ≡ m → lookup (is_at (slice_cmp nat_cmp k)) m.entries ≡ None → l ≡ k → w ≡ c [] → map_of n ≡ insert (map_of there) l w → ChangesAt c k m n
new_at c m there n k l w same h e f s = changed_at c m n k [] (ap listed (map_of_get m k ∙ h)) (s ∙ ap (λ x. insert (map_of x) l w) same ∙ ap (λ x. insert (map_of m) x w) e ∙ ap (λ x. insert (map_of m) k x) f)

none_long : {X : Type 0} (ns : List X) → (length ns == 0) ≡ true → ns ≡ []
none_long [] h = refl
none_long (n ∷ ns) h = let wrong : true ≡ false = sym h ∙ after_zero (length ns) in absurd (cc)

-- an emptied entry
pub set_none : {X : Type 0} (m n : FilesOf X) (k : List ℕ) (v w : List X) → lookup (is_at (slice_cmp nat_cmp k)) m.entries ≡ Some v → n.entries ≡ set_value (is_at (slice_cmp nat_cmp k)) m.entries w → (length w == 0) ≡ true → listed_at n k ≡ []
set_none m n k v w h s e = ap listed (ap (λ x. get x k) (map_of_set m n k v w h s) ∙ put_here (map_of m) k w) ∙ none_long w e

pub found_there : {X : Type 0} (m : FilesOf X) (k : List ℕ) (v : List X) → lookup (is_at (slice_cmp nat_cmp k)) m.entries ≡ Some v → listed_at m k ≡ v
found_there m k v h = ap listed (map_of_get m k ∙ h)

pub none_named : {X : Type 0} (m : FilesOf X) → m.entries ≡ [] → (f : List ℕ) → listed_at m f ≡ []
none_named m e f = ap (λ x. listed (get x f)) (map_of_empty m e) ∙ ap listed (get-empty (slice_cmp nat_cmp) f)

-- ## At each of some files

pub same_turned : (a b : List ℕ) → same a b ≡ same b a
same_turned a b = nat_list_eq_equiv.symm a b

-- one file further
pub among_more : (f : List ℕ) (fs : List (List ℕ)) (i : ℕ) (d : List ℕ) → i < length fs → is_among f (take (i + 1) fs) ≡ (is_among f (take i fs) || same f (get_or fs i d))
among_more f fs i d l =
    ap (λ xs. is_among f xs) (take_more fs i d l)
    ∙ list_any-append (λ x. same x f) (take i fs) (get_or fs i d ∷ [])
    ∙ ap (λ b. is_among f (take i fs) || b) (or-false (same (get_or fs i d) f) ∙ same_turned (get_or fs i d) f)

step : {X : Type 0} (c : List X → List X) (a b : Bool) (x y z : List X) → c (c x) ≡ c x → y ≡ cond a (c x) x → z ≡ cond b (c y) y → z ≡ cond (a || b) (c x) x
step c true true x y z twice h g = g ∙ ap c h ∙ twice
step c true false x y z twice h g = g ∙ h
step c false true x y z twice h g = g ∙ ap c h
step c false false x y z twice h g = g ∙ h

-- a change that does no more the second time
pub changes_more : {X : Type 0} (c : List X → List X) → ((ns : List X) → c (c ns) ≡ c ns) → (fs : List (List ℕ)) (i : ℕ) (d : List ℕ) (old m n : FilesOf X) → i < length fs → ChangesAmong c (take i fs) old m → ChangesAt c (get_or fs i d) m n → ChangesAmong c (take (i + 1) fs) old n
changes_more c twice fs i d old m n l h g f =
    step c (is_among f (take i fs)) (same f (get_or fs i d)) (listed_at old f) (listed_at m f) (listed_at n f) (twice (listed_at old f)) (h f) (g f)
    ∙ ap (λ b. cond b (c (listed_at old f)) (listed_at old f)) (sym (among_more f fs i d l))

pub changes_none : {X : Type 0} (c : List X → List X) (old : FilesOf X) → ChangesAmong c [] old old
changes_none c old f = refl

pub changes_all : {X : Type 0} (c : List X → List X) (fs : List (List ℕ)) (i : ℕ) (old m : FilesOf X) → length fs ≤ i → ChangesAmong c (take i fs) old m → ChangesAmong c fs old m
changes_all c fs i old m l h f = h f ∙ ap (λ xs. cond (is_among f xs) (c (listed_at old f)) (listed_at old f)) (take_all i fs l)

-- where it was met it is there, and else it comes
unmet_step : {X : Type 0} (c : List X → List X) (a b : Bool) (x y z : List X) → (b ≡ true → a ≡ false) → y ≡ cond a (c x) x → z ≡ cond b (c y) y → z ≡ cond (a || b) (c x) x
unmet_step c true true x y z only h g = let wrong : true ≡ false = only refl in absurd (cc)
unmet_step c true false x y z only h g = g ∙ h
unmet_step c false true x y z only h g = g ∙ ap c h
unmet_step c false false x y z only h g = g ∙ h

met_still : (a b : Bool) → (b ≡ true → a ≡ true) → (a || b) ≡ a
met_still true b h = refl
met_still false true h = let wrong : false ≡ true = h refl in absurd (cc)
met_still false false h = refl

pub adds_more : (name : ℕ × PathNo) (fs : List (List ℕ)) (i : ℕ) (d : List ℕ) (old m n : ByFile) → i < length fs → ChangesAmong (with_named name) (take i fs) old m → AddsUnmet name (is_among (get_or fs i d) (take i fs)) (get_or fs i d) m n → ChangesAmong (with_named name) (take (i + 1) fs) old n
adds_more name fs i d old m n l h g f =
    by (is_among (get_or fs i d) (take i fs)) refl g ∙ ap (λ b. cond b (with_named name (listed_at old f)) (listed_at old f)) (sym (among_more f fs i d l))
  where
    there : (b : Bool) → is_among (get_or fs i d) (take i fs) ≡ b → same f (get_or fs i d) ≡ true → is_among f (take i fs) ≡ b
    there b e t = ap (λ x. is_among x (take i fs)) (same_is f (get_or fs i d) t) ∙ e

    by : (b : Bool) → is_among (get_or fs i d) (take i fs) ≡ b → AddsUnmet name b (get_or fs i d) m n → listed_at n f ≡ cond (is_among f (take i fs) || same f (get_or fs i d)) (with_named name (listed_at old f)) (listed_at old f)
    by true e k = ap (λ x. listed_at x f) k ∙ h f ∙ ap (λ b. cond b (with_named name (listed_at old f)) (listed_at old f)) (sym (met_still (is_among f (take i fs)) (same f (get_or fs i d)) (there true e)))
    by false e k = unmet_step (with_named name) (is_among f (take i fs)) (same f (get_or fs i d)) (listed_at old f) (listed_at m f) (listed_at n f) (there false e) (h f) (k f)

-- a file that was not met has what it had
pub unmet_same : {X : Type 0} (c : List X → List X) (fs : List (List ℕ)) (old m : FilesOf X) (f : List ℕ) → ChangesAmong c fs old m → is_among f fs ≡ false → listed_at m f ≡ listed_at old f
unmet_same c fs old m f h e = h f ∙ ap (λ b. cond b (c (listed_at old f)) (listed_at old f)) e

-- what passes a test passes it again
pub filtered_twice : {X : Type 0} (test : X → Bool) (xs : List X) → filter test (filter test xs) ≡ filter test xs
filtered_twice test [] = refl
filtered_twice test (x ∷ xs) = by (test x) refl (filtered_twice test xs)
  where
    by : (b : Bool) → test x ≡ b → filter test (filter test xs) ≡ filter test xs → filter test (cond b (x ∷ filter test xs) (filter test xs)) ≡ cond b (x ∷ filter test xs) (filter test xs)
    by true e rest = ap (λ c. cond c (x ∷ filter test (filter test xs)) (filter test (filter test xs))) e ∙ ap (λ ys. x ∷ ys) rest
    by false e rest = rest

-- those of a number go once
pub gone_twice : (number : PathNo) (ns : List (ℕ × PathNo)) → without_named number (without_named number ns) ≡ without_named number ns
gone_twice number ns = filtered_twice (λ n. not (same_path_no n.1 number)) ns
