-- Items whose numbers rise: where a number stands, where a greater one begins, and what goes with it.
use Rattle.std.proofs.Common.{◌≡◌, ◌==◌, ◌&&◌, ◌||◌, ◌+◌, ◌<◌, ◌≤◌, ◌∷◌, ℕ, zero, suc, Bool, true, false, not, List, [], refl, ap, cond, sym, ◌∙◌, length, get_or, map, arith, inl, inr}
use Rattle.std.specs.Prelude.{Option, Some, None, is_some, nat_lt, unwrap_or}
use Rattle.std.specs.List.{filter, find, list_all, list_any, position, position_or_len, remove}
use Rattle.std.specs.List.Sorted.{IsPartitionedBy, IsPartitionPoint}
use Rattle.std.specs.Ordering.{nat_cmp, is_lt, ordering_then}
use Rattle.std.specs.Cmp.{IsTotalOrder, nat_cmp_total}
use Rattle.std.specs.declared.cmp.Ordering.{Ordering}
use Rattle.std.proofs.lemmas.Cmp.{then_total, on_total}
use Rattle.std.proofs.lemmas.Bool.Decides.{nat_tests}
use Rattle.std.proofs.lemmas.List.Quantifiers.{position-Some}
use Rattle.std.proofs.lemmas.List.Sums.{position_or_len_is}
use Rattle.fs_ident.specs.In.{In}
use Rattle.fs_ident.specs.Ordered.{put_before}
use Rattle.fs_ident.specs.declared.actor.PathNo.{PathNo}
use Rattle.fs_ident.proofs.Booleans.{both, joined, less}
use Rattle.fs_ident.proofs.Passing.{all-In, In-all}
use Rattle.fs_ident.proofs.Standing.{In-filter}
use Rattle.fs_field.proofs.Places.{place_is}
use Rattle.fs_path.specs.Index.{are_rising, is_numbered}
use Rattle.fs_path.specs.Leases.{path_before, same_path_no}

-- ## Numbers

abbrev no_cmp : PathNo → PathNo → Ordering
no_cmp a b = ordering_then (nat_cmp a.server b.server) (nat_cmp a.count b.count)

no_total : IsTotalOrder no_cmp
no_total = then_total (on_total (λ (n : PathNo). n.server) nat_cmp_total) (on_total (λ (n : PathNo). n.count) nat_cmp_total)

pub before_trans : (a b c : PathNo) → path_before a b ≡ true → path_before b c ≡ true → path_before a c ≡ true
before_trans a b c p q = ap is_lt (no_total.trans a b c (less (no_cmp a b) p) (less (no_cmp b c) q))

one_way : (a b c d : ℕ) → ((a == c) && (b == d)) ≡ false → is_lt (ordering_then (nat_cmp c a) (nat_cmp d b)) ≡ false → is_lt (ordering_then (nat_cmp a c) (nat_cmp b d)) ≡ true
one_way a b c d h k = grind (arith, nat_tests)

-- of two numbers that differ one comes first
pub before_or_after : (a b : PathNo) → same_path_no a b ≡ false → path_before b a ≡ false → path_before a b ≡ true
before_or_after a b h k = one_way a.server a.count b.server b.count h k

apart : (a b c d : ℕ) → is_lt (ordering_then (nat_cmp a c) (nat_cmp b d)) ≡ true → ((a == c) && (b == d)) ≡ false
apart a b c d h = grind (arith, nat_tests)

not_after : (a b c d : ℕ) → is_lt (ordering_then (nat_cmp a c) (nat_cmp b d)) ≡ true → is_lt (ordering_then (nat_cmp c a) (nat_cmp d b)) ≡ false
not_after a b c d h = grind (arith, nat_tests)

pub unlike : (a b : PathNo) → path_before a b ≡ true → same_path_no a b ≡ false
unlike a b h = apart a.server a.count b.server b.count h

pub not_back : (a b : PathNo) → path_before a b ≡ true → path_before b a ≡ false
not_back a b h = not_after a.server a.count b.server b.count h

self_alike : (a b : ℕ) → ((a == a) && (b == b)) ≡ true
self_alike a b = grind (arith, nat_tests)

pub same_no_self : (a : PathNo) → same_path_no a a ≡ true
same_no_self a = self_alike a.server a.count

turned : (a b c d : ℕ) → ((a == c) && (b == d)) ≡ ((c == a) && (d == b))
turned a b c d = grind (arith, nat_tests)

pub same_no_symm : (a b : PathNo) → same_path_no a b ≡ same_path_no b a
same_no_symm a b = turned a.server a.count b.server b.count

equal_by : (a b : ℕ) → (a == b) ≡ true → a ≡ b
equal_by a b h = grind (arith, nat_tests)

pub same_no_is : (a b : PathNo) → same_path_no a b ≡ true → a ≡ b
same_no_is a b h =
    let q = both (a.server == b.server) (a.count == b.count) h in
    ap (λ s. let n : PathNo = record { server = s; count = a.count } in n) (equal_by a.server b.server q.0)
    ∙ ap (λ s. let n : PathNo = record { server = b.server; count = s } in n) (equal_by a.count b.count q.1)

-- ## Where the numbers rise

-- the number is lesser than those of all
abbrev first : {X : Type 0} → (X → PathNo) → PathNo → List X → Bool
first key n xs = list_all (λ y. path_before n (key y)) xs

pub In-there : {X : Type 0} (xs : List X) (k : ℕ) (d : X) → k < length xs → In (get_or xs k d) xs
In-there [] k d l = absurd (omega arith)
In-there (x ∷ xs) zero d l = inl refl
In-there (x ∷ xs) (suc k) d l = inr (In-there xs k d (omega arith))

rises : {X : Type 0} (key : X → PathNo) (m : PathNo) (xs : List X) → are_rising key xs ≡ true → (i j : ℕ) (d : X) → i ≤ j → j < length xs → path_before (key (get_or xs j d)) m ≡ true → path_before (key (get_or xs i d)) m ≡ true
rises key m [] o i j d l n h = absurd (omega arith)
rises key m (x ∷ xs) o zero zero d l n h = h
rises key m (x ∷ xs) o zero (suc j) d l n h =
    let q = both (first key (key x) xs) (are_rising key xs) o in
    before_trans (key x) (key (get_or xs j d)) m (all-In (λ y. path_before (key x) (key y)) xs q.0 (get_or xs j d) (In-there xs j d (omega arith))) h
rises key m (x ∷ xs) o (suc i) zero d l n h = absurd (omega arith)
rises key m (x ∷ xs) o (suc i) (suc j) d l n h = rises key m xs (both (first key (key x) xs) (are_rising key xs) o).1 i j d (omega arith) (omega arith) h

-- those with a lesser number stand before the others
pub partitioned : {X : Type 0} (key : X → PathNo) (m : PathNo) (xs : List X) → are_rising key xs ≡ true → IsPartitionedBy (λ (x : X). path_before (key x) m) xs
partitioned key m xs o = rises key m xs o

falls : {X : Type 0} (key : X → PathNo) (m : PathNo) (xs : List X) → are_rising key xs ≡ true → (i j : ℕ) (d : X) → i ≤ j → j < length xs → path_before m (key (get_or xs i d)) ≡ true → path_before m (key (get_or xs j d)) ≡ true
falls key m [] o i j d l n h = absurd (omega arith)
falls key m (x ∷ xs) o zero zero d l n h = h
falls key m (x ∷ xs) o zero (suc j) d l n h =
    let q = both (first key (key x) xs) (are_rising key xs) o in
    before_trans m (key x) (key (get_or xs j d)) h (all-In (λ y. path_before (key x) (key y)) xs q.0 (get_or xs j d) (In-there xs j d (omega arith)))
falls key m (x ∷ xs) o (suc i) zero d l n h = absurd (omega arith)
falls key m (x ∷ xs) o (suc i) (suc j) d l n h = falls key m xs (both (first key (key x) xs) (are_rising key xs) o).1 i j d (omega arith) (omega arith) h

pub flip : (a b : Bool) → (b ≡ true → a ≡ true) → not a ≡ true → not b ≡ true
flip true b h k = absurd (cc)
flip false true h k = let wrong : false ≡ true = h refl in absurd (cc)
flip false false h k = refl

-- those with a greater number stand behind the others
pub partitioned_behind : {X : Type 0} (key : X → PathNo) (m : PathNo) (xs : List X) → are_rising key xs ≡ true → IsPartitionedBy (λ (x : X). not (path_before m (key x))) xs
partitioned_behind key m xs o i j d l n h = flip (path_before m (key (get_or xs j d))) (path_before m (key (get_or xs i d))) (falls key m xs o i j d l n) h

-- ## The place of a number

pub below : (i n : ℕ) → true ≡ nat_lt i n → i < n
below i n h = grind (arith, nat_tests)

pub is_below : (i n : ℕ) → i < n → nat_lt i n ≡ true
is_below i n h = grind (arith, nat_tests)

not_below : (i n : ℕ) → false ≡ nat_lt i n → n ≤ i
not_below i n h = grind (arith, nat_tests)

none_below : (n : ℕ) → nat_lt n n ≡ false
none_below n = grind (arith, nat_tests)

one_more : (n : ℕ) → 1 + n ≡ suc n
one_more n = omega arith

at_place : {X : Type 0} (test : X → Bool) (xs : List X) (i : ℕ) → i < length xs → position_or_len test xs ≡ i → position test xs ≡ Some i
at_place test xs i l e = ap (λ n. cond (nat_lt n (length xs)) (Some n) None) e ∙ ap (λ b. cond b (Some i) None) (is_below i (length xs) l)

pub place_found : {X : Type 0} (key : X → PathNo) (m : PathNo) (xs : List X) (i : ℕ) (x : X) → IsPartitionPoint (λ (y : X). path_before (key y) m ≡ true) (λ (y : X). path_before (key y) m ≡ false) xs i → true ≡ nat_lt i (length xs) → x ≡ get_or xs i x → same_path_no (key x) m ≡ true → position (is_numbered key m) xs ≡ Some i
place_found key m xs i x p l e t =
    let h : i < length xs = below i (length xs) l in
    at_place (is_numbered key m) xs i h (position_or_len_is (is_numbered key m) xs i x (omega arith) (λ k b. unlike (key (get_or xs k x)) m (p.0 k x (omega arith) (omega arith))) (λ b. ap (is_numbered key m) (sym e) ∙ t))

at_end : {X : Type 0} (test : X → Bool) (xs : List X) → list_any test xs ≡ false → position_or_len test xs ≡ length xs
at_end test [] h = refl
at_end test (x ∷ xs) h = elim (test x) as (λ b. (b || list_any test xs) ≡ false → cond (not b) (1 + position_or_len test xs) 0 ≡ suc (length xs)) [
  | true ↦ λ g. absurd (cc)
  | false ↦ λ g. ap (λ n. 1 + n) (at_end test xs g) ∙ one_more (length xs)
] h

pub no_place : {X : Type 0} (test : X → Bool) (xs : List X) → list_any test xs ≡ false → position test xs ≡ None
no_place test xs h = ap (λ n. cond (nat_lt n (length xs)) (Some n) None) (at_end test xs h) ∙ ap (λ b. cond b (Some (length xs)) None) (none_below (length xs))

pub none_behind : {X : Type 0} (key : X → PathNo) (m : PathNo) (xs : List X) → first key m xs ≡ true → list_any (is_numbered key m) xs ≡ false
none_behind key m [] h = refl
none_behind key m (x ∷ xs) h =
    let q = both (path_before m (key x)) (first key m xs) h in
    ap (λ b. b || list_any (is_numbered key m) xs) (same_no_symm (key x) m ∙ unlike m (key x) q.0) ∙ none_behind key m xs q.1

further : {X : Type 0} (key : X → PathNo) (a b : PathNo) (xs : List X) → path_before a b ≡ true → first key b xs ≡ true → first key a xs ≡ true
further key a b [] h k = refl
further key a b (x ∷ xs) h k =
    let q = both (path_before b (key x)) (first key b xs) k in
    ap (λ t. t && first key a xs) (before_trans a b (key x) h q.0) ∙ further key a b xs h q.1

-- those before the place have lesser numbers, and those from it on have not
abbrev IsPlace : {X : Type 0} → (X → PathNo) → PathNo → List X → ℕ → Type 0
IsPlace {X} key m xs i = ((k : ℕ) (d : X) → k < i → k < length xs → path_before (key (get_or xs k d)) m ≡ true) × ((k : ℕ) (d : X) → i ≤ k → k < length xs → path_before (key (get_or xs k d)) m ≡ false)

behind_one : {X : Type 0} (key : X → PathNo) (m : PathNo) (x : X) (xs : List X) (i : ℕ) → IsPlace key m (x ∷ xs) (suc i) → IsPlace key m xs i
behind_one key m x xs i p = (λ k d l n. p.0 (suc k) d (omega arith) (omega arith), λ k d l n. p.1 (suc k) d (omega arith) (omega arith))

unlike_there : {X : Type 0} (key : X → PathNo) (m : PathNo) (xs : List X) (i : ℕ) (x : X) → are_rising key xs ≡ true → IsPlace key m xs i → i < length xs → x ≡ get_or xs i x → same_path_no (key x) m ≡ false → list_any (is_numbered key m) xs ≡ false
unlike_there key m [] i x o p l e t = refl
unlike_there key m (y ∷ ys) zero x o p l e t =
    let q = both (first key (key y) ys) (are_rising key ys) o in
    let s : same_path_no (key y) m ≡ false = ap (λ z. same_path_no (key z) m) (sym e) ∙ t in
    ap (λ b. b || list_any (is_numbered key m) ys) s
    ∙ none_behind key m ys (further key m (key y) ys (before_or_after m (key y) (same_no_symm m (key y) ∙ s) (p.1 0 y (omega arith) (omega arith))) q.0)
unlike_there key m (y ∷ ys) (suc i) x o p l e t =
    let q = both (first key (key y) ys) (are_rising key ys) o in
    ap (λ b. b || list_any (is_numbered key m) ys) (unlike (key y) m (p.0 0 y (omega arith) (omega arith)))
    ∙ unlike_there key m ys i x q.1 (behind_one key m y ys i p) (omega arith) e t

unlike_all : {X : Type 0} (key : X → PathNo) (m : PathNo) (xs : List X) (i : ℕ) → IsPlace key m xs i → length xs ≤ i → list_any (is_numbered key m) xs ≡ false
unlike_all key m [] i p l = refl
unlike_all key m (y ∷ ys) zero p l = absurd (omega arith)
unlike_all key m (y ∷ ys) (suc i) p l = ap (λ b. b || list_any (is_numbered key m) ys) (unlike (key y) m (p.0 0 y (omega arith) (omega arith))) ∙ unlike_all key m ys i (behind_one key m y ys i p) (omega arith)

is_place : {X : Type 0} (key : X → PathNo) (m : PathNo) (xs : List X) (i : ℕ) → IsPartitionPoint (λ (y : X). path_before (key y) m ≡ true) (λ (y : X). path_before (key y) m ≡ false) xs i → IsPlace key m xs i
is_place key m xs i p = (λ k d l n. p.0 k d (omega arith) l, λ k d l n. p.1 k d l n)

pub unplaced_at : {X : Type 0} (key : X → PathNo) (m : PathNo) (xs : List X) (i : ℕ) (x : X) → are_rising key xs ≡ true → IsPartitionPoint (λ (y : X). path_before (key y) m ≡ true) (λ (y : X). path_before (key y) m ≡ false) xs i → true ≡ nat_lt i (length xs) → x ≡ get_or xs i x → same_path_no (key x) m ≡ false → position (is_numbered key m) xs ≡ None
unplaced_at key m xs i x o p l e t = no_place (is_numbered key m) xs (unlike_there key m xs i x o (is_place key m xs i p) (below i (length xs) l) e t)

pub unplaced : {X : Type 0} (key : X → PathNo) (m : PathNo) (xs : List X) (i : ℕ) → IsPartitionPoint (λ (y : X). path_before (key y) m ≡ true) (λ (y : X). path_before (key y) m ≡ false) xs i → false ≡ nat_lt i (length xs) → position (is_numbered key m) xs ≡ None
unplaced key m xs i p l = no_place (is_numbered key m) xs (unlike_all key m xs i (is_place key m xs i p) (not_below i (length xs) l))

-- ## Where a greater number begins

place_there : {X : Type 0} (test : X → Bool) (xs : List X) (i : ℕ) → i ≤ length xs → ((k : ℕ) (d : X) → k < i → k < length xs → not (test (get_or xs k d)) ≡ true) → ((k : ℕ) (d : X) → i ≤ k → k < length xs → not (test (get_or xs k d)) ≡ false) → position_or_len test xs ≡ i
place_there test [] zero l f b = refl
place_there test [] (suc i) l f b = absurd (omega arith)
place_there test (y ∷ ys) zero l f b = ap (λ t. cond t (1 + position_or_len test ys) 0) (b 0 y (omega arith) (omega arith))
place_there test (y ∷ ys) (suc i) l f b =
    ap (λ t. cond t (1 + position_or_len test ys) 0) (f 0 y (omega arith) (omega arith))
    ∙ ap (λ n. 1 + n) (place_there test ys i (omega arith) (λ k d g n. f (suc k) d (omega arith) (omega arith)) (λ k d g n. b (suc k) d (omega arith) (omega arith)))
    ∙ one_more i

-- where none before it passes a test, and all from it on do, it is the place of the first that passes
pub placed_by : {X : Type 0} (test : X → Bool) (xs : List X) (i : ℕ) → i ≤ length xs → IsPartitionPoint (λ (x : X). not (test x) ≡ true) (λ (x : X). not (test x) ≡ false) xs i → i ≡ unwrap_or (position test xs) (length xs)
placed_by test xs i l p = sym (place_is test xs ∙ place_there test xs i l (λ k d g n. p.0 k d (omega arith) g) (λ k d g n. p.1 k d g n))

pub placed : {X : Type 0} (key : X → PathNo) (m : PathNo) (xs : List X) (i : ℕ) → i ≤ length xs → IsPartitionPoint (λ (x : X). not (path_before m (key x)) ≡ true) (λ (x : X). not (path_before m (key x)) ≡ false) xs i → i ≡ unwrap_or (position (λ (x : X). path_before m (key x)) xs) (length xs)
placed {X} key m xs i l p = placed_by (λ (x : X). path_before m (key x)) xs i l p

-- ## What there is of a number

some_if : (b : Bool) (n : ℕ) → is_some (cond b (Some n) None) ≡ b
some_if true n = refl
some_if false n = refl

one_less : (a b : ℕ) → nat_lt (1 + a) (suc b) ≡ nat_lt a b
one_less a b = grind (arith, nat_tests)

first_below : (n : ℕ) → nat_lt 0 (suc n) ≡ true
first_below n = grind (arith, nat_tests)

within : {X : Type 0} (test : X → Bool) (xs : List X) → nat_lt (position_or_len test xs) (length xs) ≡ list_any test xs
within test [] = refl
within test (x ∷ xs) = elim (test x) as (λ b. nat_lt (cond (not b) (1 + position_or_len test xs) 0) (suc (length xs)) ≡ (b || list_any test xs)) [
  | true ↦ first_below (length xs)
  | false ↦ one_less (position_or_len test xs) (length xs) ∙ within test xs
]

-- there is a place exactly where an item passes
pub placed_any : {X : Type 0} (test : X → Bool) (xs : List X) (o : Option ℕ) → o ≡ position test xs → is_some o ≡ list_any test xs
placed_any test xs o e = ap is_some e ∙ some_if (nat_lt (position_or_len test xs) (length xs)) (position_or_len test xs) ∙ within test xs

pub at_number : {X : Type 0} (test : X → Bool) (xs : List X) (i : ℕ) (d : X) → Some i ≡ position test xs → (i < length xs) × (test (get_or xs i d) ≡ true)
at_number test xs i d e = let q = position-Some test xs i d (sym e) in (q.0, q.1)

first_found : {X : Type 0} (test : X → Bool) (xs : List X) (i : ℕ) (d : X) → i < length xs → test (get_or xs i d) ≡ true → ((k : ℕ) → k < i → test (get_or xs k d) ≡ false) → find test xs ≡ Some (get_or xs i d)
first_found test [] i d l t before = absurd (omega arith)
first_found test (x ∷ xs) zero d l t before = ap (λ b. cond b (Some x) (find test xs)) t
first_found test (x ∷ xs) (suc i) d l t before = ap (λ b. cond b (Some x) (find test xs)) (before 0 (omega arith)) ∙ first_found test xs i d (omega arith) t (λ k g. before (suc k) (omega arith))

-- the item at the place is the first one that passes
pub find_place : {X : Type 0} (test : X → Bool) (xs : List X) (i : ℕ) (d : X) → Some i ≡ position test xs → find test xs ≡ Some (get_or xs i d)
find_place test xs i d e = let q = position-Some test xs i d (sym e) in first_found test xs i d q.0 q.1 q.2

-- none passes where there is no place
pub find_none : {X : Type 0} (test : X → Bool) (xs : List X) → None ≡ position test xs → find test xs ≡ None
find_none test xs e = none test xs (sym (placed_any test xs None e))
  where
    none : {Y : Type 0} (t : Y → Bool) (ys : List Y) → list_any t ys ≡ false → find t ys ≡ None
    none t [] h = refl
    none t (y ∷ ys) h = elim (t y) as (λ b. (b || list_any t ys) ≡ false → cond b (Some y) (find t ys) ≡ None) [
      | true ↦ λ g. absurd (cc)
      | false ↦ λ g. none t ys g
    ] h

-- ## What goes by its number

others : {X : Type 0} (key : X → PathNo) (m : PathNo) (x : X) (xs : List X) → is_numbered key m x ≡ true → first key (key x) xs ≡ true → first key m xs ≡ true
others key m x xs e h = ap (λ n. first key n xs) (sym (same_no_is (key x) m e)) ∙ h

behind_unlike : {X : Type 0} (key : X → PathNo) (m : PathNo) (x : X) → path_before m (key x) ≡ true → is_numbered key m x ≡ false
behind_unlike key m x h = same_no_symm (key x) m ∙ unlike m (key x) h

before_unlike : {X : Type 0} (key : X → PathNo) (m : PathNo) (x : X) (xs : List X) (i : ℕ) (d : X) → first key (key x) xs ≡ true → i < length xs → is_numbered key m (get_or xs i d) ≡ true → is_numbered key m x ≡ false
before_unlike key m x xs i d h l e =
    unlike (key x) m (ap (path_before (key x)) (sym (same_no_is (key (get_or xs i d)) m e)) ∙ all-In (λ y. path_before (key x) (key y)) xs h (get_or xs i d) (In-there xs i d l))

-- no two have one number: none behind the one of the number has it, and none before it
pub behind_none : {X : Type 0} (key : X → PathNo) (m : PathNo) (x : X) (xs : List X) → are_rising key (x ∷ xs) ≡ true → is_numbered key m x ≡ true → list_any (is_numbered key m) xs ≡ false
behind_none key m x xs o e = none_behind key m xs (others key m x xs e (both (first key (key x) xs) (are_rising key xs) o).0)

pub ahead_unlike : {X : Type 0} (key : X → PathNo) (m : PathNo) (x : X) (xs : List X) (i : ℕ) (d : X) → are_rising key (x ∷ xs) ≡ true → i < length xs → is_numbered key m (get_or xs i d) ≡ true → is_numbered key m x ≡ false
ahead_unlike key m x xs i d o l e = before_unlike key m x xs i d (both (first key (key x) xs) (are_rising key xs) o).0 l e

abbrev pub all_but : {X : Type 0} → (X → PathNo) → PathNo → List X → List X
all_but key m xs = filter (λ x. not (is_numbered key m x)) xs

none_goes : {X : Type 0} (key : X → PathNo) (m : PathNo) (xs : List X) → first key m xs ≡ true → all_but key m xs ≡ xs
none_goes key m [] h = refl
none_goes key m (x ∷ xs) h =
    let q = both (path_before m (key x)) (first key m xs) h in
    ap (λ b. cond (not b) (x ∷ all_but key m xs) (all_but key m xs)) (behind_unlike key m x q.0) ∙ ap (λ ys. x ∷ ys) (none_goes key m xs q.1)

pub gone_there : {X : Type 0} (key : X → PathNo) (m : PathNo) (xs : List X) (i : ℕ) (d : X) → are_rising key xs ≡ true → i < length xs → is_numbered key m (get_or xs i d) ≡ true → remove xs i ≡ all_but key m xs
gone_there key m [] i d o l e = absurd (omega arith)
gone_there key m (x ∷ xs) zero d o l e =
    let q = both (first key (key x) xs) (are_rising key xs) o in
    sym (ap (λ b. cond (not b) (x ∷ all_but key m xs) (all_but key m xs)) e ∙ none_goes key m xs (others key m x xs e q.0))
gone_there key m (x ∷ xs) (suc i) d o l e =
    let q = both (first key (key x) xs) (are_rising key xs) o in
    ap (λ ys. x ∷ ys) (gone_there key m xs i d q.1 (omega arith) e) ∙ sym (ap (λ b. cond (not b) (x ∷ all_but key m xs) (all_but key m xs)) (before_unlike key m x xs i d q.0 (omega arith) e))

pub none_go : {X : Type 0} (key : X → PathNo) (m : PathNo) (xs : List X) → list_any (is_numbered key m) xs ≡ false → all_but key m xs ≡ xs
none_go key m [] h = refl
none_go key m (x ∷ xs) h = elim (is_numbered key m x) as (λ b. (b || list_any (is_numbered key m) xs) ≡ false → cond (not b) (x ∷ all_but key m xs) (all_but key m xs) ≡ x ∷ xs) [
  | true ↦ λ k. absurd (cc)
  | false ↦ λ k. ap (λ ys. x ∷ ys) (none_go key m xs k)
] h

-- ## They rise still

pub rising_filter : {X : Type 0} (key : X → PathNo) (test : X → Bool) (xs : List X) → are_rising key xs ≡ true → are_rising key (filter test xs) ≡ true
rising_filter key test [] h = refl
rising_filter key test (x ∷ xs) h =
    let q = both (first key (key x) xs) (are_rising key xs) h in
    elim (test x) as (λ b. are_rising key (cond b (x ∷ filter test xs) (filter test xs)) ≡ true) [
      | true ↦ joined (first key (key x) (filter test xs)) (are_rising key (filter test xs))
          (In-all (λ y. path_before (key x) (key y)) (filter test xs) (λ y i. all-In (λ z. path_before (key x) (key z)) xs q.0 y (In-filter test y xs i)))
          (rising_filter key test xs q.1)
      | false ↦ rising_filter key test xs q.1
    ]

pub put_passes : {X : Type 0} (test greater : X → Bool) (new : X) (xs : List X) → test new ≡ true → list_all test xs ≡ true → list_all test (put_before greater new xs) ≡ true
put_passes test greater new [] t h = ap (λ b. b && true) t
put_passes test greater new (x ∷ xs) t h =
    let q = both (test x) (list_all test xs) h in
    elim (greater x) as (λ b. list_all test (cond b (new ∷ x ∷ xs) (x ∷ put_before greater new xs)) ≡ true) [
      | true ↦ joined (test new) (list_all test (x ∷ xs)) t h
      | false ↦ joined (test x) (list_all test (put_before greater new xs)) q.0 (put_passes test greater new xs t q.1)
    ]

-- with one more, whose number none has
pub rising_put : {X : Type 0} (key : X → PathNo) (new : X) (xs : List X) → are_rising key xs ≡ true → list_any (is_numbered key (key new)) xs ≡ false → are_rising key (put_before (λ x. path_before (key new) (key x)) new xs) ≡ true
rising_put key new [] h n = refl
rising_put key new (x ∷ xs) h n =
    let q = both (first key (key x) xs) (are_rising key xs) h in
    elim (path_before (key new) (key x)) as (λ b. path_before (key new) (key x) ≡ b → are_rising key (cond b (new ∷ x ∷ xs) (x ∷ put_before (λ y. path_before (key new) (key y)) new xs)) ≡ true) [
      | true ↦ λ t. joined (first key (key new) (x ∷ xs)) (are_rising key (x ∷ xs)) (joined (path_before (key new) (key x)) (first key (key new) xs) t (further key (key new) (key x) xs t q.0)) h
      | false ↦ λ t.
          let m = neither_of (is_numbered key (key new) x) (list_any (is_numbered key (key new)) xs) n in
          joined (first key (key x) (put_before (λ y. path_before (key new) (key y)) new xs)) (are_rising key (put_before (λ y. path_before (key new) (key y)) new xs))
          (put_passes (λ y. path_before (key x) (key y)) (λ y. path_before (key new) (key y)) new xs (before_or_after (key x) (key new) m.0 t) q.0)
          (rising_put key new xs q.1 m.1)
    ] refl
  where
    neither_of : (a b : Bool) → (a || b) ≡ false → (a ≡ false) × (b ≡ false)
    neither_of true b e = absurd (cc)
    neither_of false b e = (refl, e)

-- the items after a change that keeps their numbers
pub rising_map : {X Y : Type 0} (key : X → PathNo) (other : Y → PathNo) (f : X → Y) → ((x : X) → other (f x) ≡ key x) → (xs : List X) → are_rising other (map f xs) ≡ are_rising key xs
rising_map key other f same [] = refl
rising_map {X} {Y} key other f same (x ∷ xs) = ap (λ b. b && are_rising other (map f xs)) (firsts xs) ∙ ap (λ b. first key (key x) xs && b) (rising_map key other f same xs)
  where
    firsts : (ys : List X) → first other (other (f x)) (map f ys) ≡ first key (key x) ys
    firsts [] = refl
    firsts (y ∷ ys) = ap (λ n. path_before n (other (f y)) && first other (other (f x)) (map f ys)) (same x) ∙ ap (λ n. path_before (key x) n && first other (other (f x)) (map f ys)) (same y) ∙ ap (λ b. path_before (key x) (key y) && b) (firsts ys)
