-- Items in order of transaction: where those of one stand, and what goes with it.
use Rattle.std.proofs.Common.{◌≡◌, ◌==◌, ◌&&◌, ◌<◌, ◌≤◌, ◌∷◌, ℕ, zero, suc, Bool, true, false, not, List, [], refl, ap, cond, sym, ◌∙◌, length, get_or, map, arith}
use Rattle.std.specs.List.{filter, list_all, remove_range}
use Rattle.std.specs.List.Sorted.{IsPartitionedBy, IsPartitionPoint}
use Rattle.std.specs.Ordering.{nat_cmp, is_lt, ordering_then}
use Rattle.std.specs.Cmp.{IsTotalOrder, nat_cmp_total}
use Rattle.std.specs.declared.cmp.Ordering.{Ordering}
use Rattle.std.proofs.lemmas.Cmp.{then_total, on_total}
use Rattle.std.proofs.lemmas.Bool.Decides.{nat_tests}
use Rattle.fs_ident.specs.Ordered.{put_before}
use Rattle.fs_ident.specs.declared.actor.TxnNo.{TxnNo}
use Rattle.fs_ident.proofs.Booleans.{both, joined, less}
use Rattle.fs_ident.proofs.Passing.{all-In, In-all}
use Rattle.fs_ident.proofs.Standing.{In-filter}
use Rattle.fs_field.specs.Table.{same_txn}
use Rattle.fs_path.specs.Kept.{IsRange, are_in_order, txn_before}
use Rattle.fs_path.proofs.Rising.{In-there, flip, put_passes}

-- ## Transactions

abbrev txn_cmp : TxnNo → TxnNo → Ordering
txn_cmp a b = ordering_then (nat_cmp a.server b.server) (nat_cmp a.count b.count)

txn_total : IsTotalOrder txn_cmp
txn_total = then_total (on_total (λ (n : TxnNo). n.server) nat_cmp_total) (on_total (λ (n : TxnNo). n.count) nat_cmp_total)

pub before_trans : (a b c : TxnNo) → txn_before a b ≡ true → txn_before b c ≡ true → txn_before a c ≡ true
before_trans a b c p q = ap is_lt (txn_total.trans a b c (less (txn_cmp a b) p) (less (txn_cmp b c) q))

-- what is not before the first is not before one that is before the first or its like
follow : (a b c d e f : ℕ) → is_lt (ordering_then (nat_cmp a c) (nat_cmp b d)) ≡ true → is_lt (ordering_then (nat_cmp e c) (nat_cmp f d)) ≡ false → is_lt (ordering_then (nat_cmp a e) (nat_cmp b f)) ≡ true
follow a b c d e f h k = grind (arith, nat_tests)

-- before one, and so before what does not come before that one
pub before_not_behind : (a b c : TxnNo) → txn_before a b ≡ true → txn_before c b ≡ false → txn_before a c ≡ true
before_not_behind a b c h k = follow a.server a.count b.server b.count c.server c.count h k

lead : (a b c d e f : ℕ) → is_lt (ordering_then (nat_cmp e a) (nat_cmp f b)) ≡ false → is_lt (ordering_then (nat_cmp e c) (nat_cmp f d)) ≡ true → is_lt (ordering_then (nat_cmp a c) (nat_cmp b d)) ≡ true
lead a b c d e f h k = grind (arith, nat_tests)

-- what does not come behind one is before all that the one is before
pub not_behind_before : (a b c : TxnNo) → txn_before c a ≡ false → txn_before c b ≡ true → txn_before a b ≡ true
not_behind_before a b c h k = lead a.server a.count b.server b.count c.server c.count h k

unlike_by : (a b c d : ℕ) → is_lt (ordering_then (nat_cmp a c) (nat_cmp b d)) ≡ true → ((a == c) && (b == d)) ≡ false
unlike_by a b c d h = grind (arith, nat_tests)

pub unlike : (a b : TxnNo) → txn_before a b ≡ true → same_txn a b ≡ false
unlike a b h = unlike_by a.server a.count b.server b.count h

unlike_back : (a b c d : ℕ) → is_lt (ordering_then (nat_cmp c a) (nat_cmp d b)) ≡ true → ((a == c) && (b == d)) ≡ false
unlike_back a b c d h = grind (arith, nat_tests)

pub unlike_behind : (a b : TxnNo) → txn_before b a ≡ true → same_txn a b ≡ false
unlike_behind a b h = unlike_back a.server a.count b.server b.count h

neither_way : (a b c d : ℕ) → is_lt (ordering_then (nat_cmp a c) (nat_cmp b d)) ≡ false → is_lt (ordering_then (nat_cmp c a) (nat_cmp d b)) ≡ false → ((a == c) && (b == d)) ≡ true
neither_way a b c d h k = grind (arith, nat_tests)

pub alike : (a b : TxnNo) → txn_before a b ≡ false → txn_before b a ≡ false → same_txn a b ≡ true
alike a b h k = neither_way a.server a.count b.server b.count h k

one_way : (a b c d : ℕ) → is_lt (ordering_then (nat_cmp a c) (nat_cmp b d)) ≡ true → is_lt (ordering_then (nat_cmp c a) (nat_cmp d b)) ≡ false
one_way a b c d h = grind (arith, nat_tests)

pub not_back : (a b : TxnNo) → txn_before a b ≡ true → txn_before b a ≡ false
not_back a b h = one_way a.server a.count b.server b.count h

denied : (b : Bool) → not b ≡ true → b ≡ false
denied true h = absurd (cc)
denied false h = refl

-- ## In order

-- none of these comes before the transaction
abbrev from : {X : Type 0} → (X → TxnNo) → TxnNo → List X → Bool
from key m xs = list_all (λ y. not (txn_before (key y) m)) xs

-- before the first, and so before all
pub before_all : {X : Type 0} (key : X → TxnNo) (m : TxnNo) (x : X) (xs : List X) → txn_before m (key x) ≡ true → from key (key x) xs ≡ true → list_all (λ y. txn_before m (key y)) xs ≡ true
before_all key m x [] h k = refl
before_all key m x (y ∷ ys) h k =
    let q = both (not (txn_before (key y) (key x))) (from key (key x) ys) k in
    joined (txn_before m (key y)) (list_all (λ z. txn_before m (key z)) ys) (before_not_behind m (key x) (key y) h (denied _ q.0)) (before_all key m x ys h q.1)

leads : {X : Type 0} (key : X → TxnNo) (m : TxnNo) (xs : List X) → are_in_order key xs ≡ true → (i j : ℕ) (d : X) → i ≤ j → j < length xs → txn_before (key (get_or xs j d)) m ≡ true → txn_before (key (get_or xs i d)) m ≡ true
leads key m [] o i j d l n h = absurd (omega arith)
leads key m (x ∷ xs) o zero zero d l n h = h
leads key m (x ∷ xs) o zero (suc j) d l n h =
    let q = both (from key (key x) xs) (are_in_order key xs) o in
    not_behind_before (key x) m (key (get_or xs j d)) (denied _ (all-In (λ y. not (txn_before (key y) (key x))) xs q.0 (get_or xs j d) (In-there xs j d (omega arith)))) h
leads key m (x ∷ xs) o (suc i) zero d l n h = absurd (omega arith)
leads key m (x ∷ xs) o (suc i) (suc j) d l n h = leads key m xs (both (from key (key x) xs) (are_in_order key xs) o).1 i j d (omega arith) (omega arith) h

-- those of a lesser transaction stand before the others
pub partitioned : {X : Type 0} (key : X → TxnNo) (m : TxnNo) (xs : List X) → are_in_order key xs ≡ true → IsPartitionedBy (λ (x : X). txn_before (key x) m) xs
partitioned key m xs o = leads key m xs o

trails : {X : Type 0} (key : X → TxnNo) (m : TxnNo) (xs : List X) → are_in_order key xs ≡ true → (i j : ℕ) (d : X) → i ≤ j → j < length xs → txn_before m (key (get_or xs i d)) ≡ true → txn_before m (key (get_or xs j d)) ≡ true
trails key m [] o i j d l n h = absurd (omega arith)
trails key m (x ∷ xs) o zero zero d l n h = h
trails key m (x ∷ xs) o zero (suc j) d l n h =
    let q = both (from key (key x) xs) (are_in_order key xs) o in
    all-In (λ y. txn_before m (key y)) xs (before_all key m x xs h q.0) (get_or xs j d) (In-there xs j d (omega arith))
trails key m (x ∷ xs) o (suc i) zero d l n h = absurd (omega arith)
trails key m (x ∷ xs) o (suc i) (suc j) d l n h = trails key m xs (both (from key (key x) xs) (are_in_order key xs) o).1 i j d (omega arith) (omega arith) h

-- those of a greater transaction stand behind the others
pub partitioned_behind : {X : Type 0} (key : X → TxnNo) (m : TxnNo) (xs : List X) → are_in_order key xs ≡ true → IsPartitionedBy (λ (x : X). not (txn_before m (key x))) xs
partitioned_behind key m xs o i j d l n h = flip (txn_before m (key (get_or xs j d))) (txn_before m (key (get_or xs i d))) (trails key m xs o i j d l n) h

-- ## What goes with its transaction

abbrev pub all_but : {X : Type 0} → (X → TxnNo) → TxnNo → List X → List X
all_but key m xs = filter (λ x. not (same_txn (key x) m)) xs

turned : (b : Bool) → not b ≡ false → b ≡ true
turned true h = refl
turned false h = absurd (cc)

pub range_by : {X : Type 0} (key : X → TxnNo) (m : TxnNo) (xs : List X) (i j : ℕ)
    → IsPartitionPoint (λ (x : X). txn_before (key x) m ≡ true) (λ (x : X). txn_before (key x) m ≡ false) xs i
    → IsPartitionPoint (λ (x : X). not (txn_before m (key x)) ≡ true) (λ (x : X). not (txn_before m (key x)) ≡ false) xs j → IsRange key m xs i j
range_by key m xs i j p q = record {
  lesser = λ k d l n. p.0 k d (omega arith) l;
  rest = λ k d l n. p.1 k d l n;
  until = λ k d l n. denied _ (q.0 k d (omega arith) l);
  greater = λ k d l n. turned _ (q.1 k d l n);
}

-- one place less
abbrev pub IsNext : ℕ → ℕ → Type 0
IsNext i n = ((k : ℕ) → k < n → suc k < i) × ((k : ℕ) → n ≤ k → i ≤ suc k)

pub none_less : IsNext zero zero
none_less = (λ k h. absurd (omega arith), λ k h. omega arith)

pub one_less : (i : ℕ) → IsNext (suc i) i
one_less i = (λ k h. omega arith, λ k h. omega arith)

-- behind the first
pub range_behind : {X : Type 0} (key : X → TxnNo) (m : TxnNo) (x : X) (xs : List X) (i j n o : ℕ) → IsNext i n → IsNext j o → IsRange key m (x ∷ xs) i j → IsRange key m xs n o
range_behind key m x xs i j n o a b r = record {
  lesser = λ k d l w. r.lesser (suc k) d (a.0 k l) (omega arith);
  rest = λ k d l w. r.rest (suc k) d (a.1 k l) (omega arith);
  until = λ k d l w. r.until (suc k) d (b.0 k l) (omega arith);
  greater = λ k d l w. r.greater (suc k) d (b.1 k l) (omega arith);
}

-- the first cannot be before those of the transaction and behind them
pub not_both : {X : Type 0} (key : X → TxnNo) (m : TxnNo) (x : X) (xs : List X) (i : ℕ) → IsRange key m (x ∷ xs) (suc i) zero → ⊥
not_both key m x xs i r =
    let wrong : true ≡ false = sym (r.lesser 0 x (omega arith) (omega arith)) ∙ not_back m (key x) (r.greater 0 x (omega arith) (omega arith)) in absurd (cc wrong)

-- the first is behind them, is one of them, or stands before them
pub first_behind : {X : Type 0} (key : X → TxnNo) (m : TxnNo) (x : X) (xs : List X) → IsRange key m (x ∷ xs) zero zero → same_txn (key x) m ≡ false
first_behind key m x xs r = unlike_behind (key x) m (r.greater 0 x (omega arith) (omega arith))

pub first_of_them : {X : Type 0} (key : X → TxnNo) (m : TxnNo) (x : X) (xs : List X) (j : ℕ) → IsRange key m (x ∷ xs) zero (suc j) → same_txn (key x) m ≡ true
first_of_them key m x xs j r = alike (key x) m (r.rest 0 x (omega arith) (omega arith)) (r.until 0 x (omega arith) (omega arith))

pub first_before : {X : Type 0} (key : X → TxnNo) (m : TxnNo) (x : X) (xs : List X) (i j : ℕ) → IsRange key m (x ∷ xs) (suc i) (suc j) → same_txn (key x) m ≡ false
first_before key m x xs i j r = unlike (key x) m (r.lesser 0 x (omega arith) (omega arith))

pub range_rises : {X : Type 0} (key : X → TxnNo) (m : TxnNo) (xs : List X) (i j : ℕ) → i ≤ length xs → IsRange key m xs i j → i ≤ j
range_rises key m [] i j l r = omega arith
range_rises key m (x ∷ xs) zero j l r = omega arith
range_rises key m (x ∷ xs) (suc i) zero l r = absurd (not_both key m x xs i r)
range_rises key m (x ∷ xs) (suc i) (suc j) l r = let q = range_rises key m xs i j (omega arith) (range_behind key m x xs (suc i) (suc j) i j (one_less i) (one_less j) r) in omega (arith, q)

-- without the range are all but those of the transaction
pub gone_range : {X : Type 0} (key : X → TxnNo) (m : TxnNo) (xs : List X) (i j : ℕ) → IsRange key m xs i j → remove_range xs i j ≡ all_but key m xs
gone_range key m [] zero zero r = refl
gone_range key m [] zero (suc j) r = refl
gone_range key m [] (suc i) zero r = refl
gone_range key m [] (suc i) (suc j) r = refl
gone_range key m (x ∷ xs) zero zero r =
    ap (λ ys. x ∷ ys) (gone_range key m xs zero zero (range_behind key m x xs zero zero zero zero none_less none_less r))
    ∙ sym (ap (λ b. cond (not b) (x ∷ all_but key m xs) (all_but key m xs)) (first_behind key m x xs r))
gone_range key m (x ∷ xs) zero (suc j) r =
    gone_range key m xs zero j (range_behind key m x xs zero (suc j) zero j none_less (one_less j) r)
    ∙ sym (ap (λ b. cond (not b) (x ∷ all_but key m xs) (all_but key m xs)) (first_of_them key m x xs j r))
gone_range key m (x ∷ xs) (suc i) zero r = absurd (not_both key m x xs i r)
gone_range key m (x ∷ xs) (suc i) (suc j) r =
    ap (λ ys. x ∷ ys) (gone_range key m xs i j (range_behind key m x xs (suc i) (suc j) i j (one_less i) (one_less j) r))
    ∙ sym (ap (λ b. cond (not b) (x ∷ all_but key m xs) (all_but key m xs)) (first_before key m x xs i j r))

-- ## They are in order still

pub ordered_filter : {X : Type 0} (key : X → TxnNo) (test : X → Bool) (xs : List X) → are_in_order key xs ≡ true → are_in_order key (filter test xs) ≡ true
ordered_filter key test [] h = refl
ordered_filter key test (x ∷ xs) h =
    let q = both (from key (key x) xs) (are_in_order key xs) h in
    elim (test x) as (λ b. are_in_order key (cond b (x ∷ filter test xs) (filter test xs)) ≡ true) [
      | true ↦ joined (from key (key x) (filter test xs)) (are_in_order key (filter test xs))
          (In-all (λ y. not (txn_before (key y) (key x))) (filter test xs) (λ y i. all-In (λ z. not (txn_before (key z) (key x))) xs q.0 y (In-filter test y xs i)))
          (ordered_filter key test xs q.1)
      | false ↦ ordered_filter key test xs q.1
    ]

none_before : {X : Type 0} (key : X → TxnNo) (m : TxnNo) (xs : List X) → list_all (λ y. txn_before m (key y)) xs ≡ true → from key m xs ≡ true
none_before key m [] h = refl
none_before key m (x ∷ xs) h =
    let q = both (txn_before m (key x)) (list_all (λ y. txn_before m (key y)) xs) h in
    joined (not (txn_before (key x) m)) (from key m xs) (ap not (not_back m (key x) q.0)) (none_before key m xs q.1)

-- with one more, before the first that is greater
pub ordered_put : {X : Type 0} (key : X → TxnNo) (new : X) (xs : List X) → are_in_order key xs ≡ true → are_in_order key (put_before (λ x. txn_before (key new) (key x)) new xs) ≡ true
ordered_put key new [] h = refl
ordered_put key new (x ∷ xs) h =
    let q = both (from key (key x) xs) (are_in_order key xs) h in
    elim (txn_before (key new) (key x)) as (λ b. txn_before (key new) (key x) ≡ b → are_in_order key (cond b (new ∷ x ∷ xs) (x ∷ put_before (λ y. txn_before (key new) (key y)) new xs)) ≡ true) [
      | true ↦ λ t. joined (from key (key new) (x ∷ xs)) (are_in_order key (x ∷ xs))
          (none_before key (key new) (x ∷ xs) (joined (txn_before (key new) (key x)) (list_all (λ y. txn_before (key new) (key y)) xs) t (before_all key (key new) x xs t q.0))) h
      | false ↦ λ t. joined (from key (key x) (put_before (λ y. txn_before (key new) (key y)) new xs)) (are_in_order key (put_before (λ y. txn_before (key new) (key y)) new xs))
          (put_passes (λ y. not (txn_before (key y) (key x))) (λ y. txn_before (key new) (key y)) new xs (ap not t) q.0)
          (ordered_put key new xs q.1)
    ] refl

-- as what they are mapped to is
pub ordered_map : {X Y : Type 0} (key : X → TxnNo) (other : Y → TxnNo) (f : X → Y) → ((x : X) → other (f x) ≡ key x) → (xs : List X) → are_in_order other (map f xs) ≡ are_in_order key xs
ordered_map key other f same [] = refl
ordered_map {X} {Y} key other f same (x ∷ xs) = ap (λ b. b && are_in_order other (map f xs)) (firsts xs) ∙ ap (λ b. from key (key x) xs && b) (ordered_map key other f same xs)
  where
    firsts : (ys : List X) → from other (other (f x)) (map f ys) ≡ from key (key x) ys
    firsts [] = refl
    firsts (y ∷ ys) = ap (λ n. not (txn_before n (other (f x))) && from other (other (f x)) (map f ys)) (same y) ∙ ap (λ n. not (txn_before (key y) n) && from other (other (f x)) (map f ys)) (same x) ∙ ap (λ b. not (txn_before (key y) (key x)) && b) (firsts ys)
