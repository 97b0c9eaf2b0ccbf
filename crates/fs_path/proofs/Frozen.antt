-- Files that transactions keep, and the index that has them by file.
use Rattle.std.proofs.Common.{◌≡◌, ◌∙◌, ◌&&◌, ◌≤◌, ◌<◌, ◌+◌, ◌-◌, ℕ, zero, suc, Bool, true, false, not, List, [], ◌∷◌, refl, ap, cond, sym, subst, map, length, get_or, take, drop, arith}
use Rattle.std.specs.Prelude.{Some, option_map, slice_range}
use Rattle.std.specs.List.{filter, find, list_all}
use Rattle.std.specs.FinMap.{get}
use Rattle.std.proofs.lemmas.List.{drop-take}
use Rattle.fs_field.specs.Table.{same_txn}
use Rattle.fs_ident.specs.Ident.{same}
use Rattle.fs_ident.specs.Maps.{map_of}
use Rattle.fs_ident.specs.declared.actor.TxnNo.{TxnNo}
use Rattle.fs_ident.proofs.Booleans.{both, neither}
use Rattle.fs_path.specs.ByFile.{ChangesAmong, ChangesAt, FilesOf, listed, listed_at}
use Rattle.fs_path.specs.Kept.{AreInOrderAt, AreKept, IsKept, IsRange, are_in_order, but_txn, file_of, first_of, itself, keeping, txn_before, txn_of, with_txn}
use Rattle.fs_path.specs.Returns.{without_txn}
use Rattle.fs_path.specs.Tables.{frozen_for, with_frozen}
use Rattle.fs_path.specs.Walk.{is_among}
use Rattle.fs_path.specs.declared.kept.KeptIndex.{KeptIndex}
use Rattle.fs_path.proofs.ByFile.{changes_more, filtered_twice, none_named, same_turned}
use Rattle.fs_path.proofs.InOrder.{before_all, first_before, first_behind, none_less, not_both, one_less, ordered_filter, ordered_map, ordered_put, range_behind}

abbrev Frozen : Type 0
Frozen = List (List ℕ × TxnNo)

-- ## At one file

pub keeping_ordered : (f : List ℕ) (frozen : Frozen) → are_in_order txn_of frozen ≡ true → are_in_order itself (keeping f frozen) ≡ true
keeping_ordered f frozen h = ordered_map txn_of itself txn_of (λ x. refl) (filter (λ x. same x.0 f) frozen) ∙ ordered_filter txn_of (λ x. same x.0 f) frozen h

-- the first of them is the first that keeps the file
pub first_keeping : (f : List ℕ) (frozen : Frozen) → first_of (keeping f frozen) ≡ frozen_for f frozen
first_keeping f [] = refl
first_keeping f (x ∷ xs) = elim (same x.0 f) as (λ b. first_of (map txn_of (cond b (x ∷ filter (λ y. same y.0 f) xs) (filter (λ y. same y.0 f) xs))) ≡ option_map (λ (y : List ℕ × TxnNo). y.1) (cond b (Some x) (find (λ y. same y.0 f) xs))) [
  | true ↦ refl
  | false ↦ first_keeping f xs
]

-- without a transaction are all but it
pub keeping_without : (txn : TxnNo) (f : List ℕ) (frozen : Frozen) → keeping f (without_txn txn frozen) ≡ but_txn txn (keeping f frozen)
keeping_without txn f [] = refl
keeping_without txn f (x ∷ xs) = by (same x.0 f) refl (same_txn x.1 txn) refl (keeping_without txn f xs)
  where
    by : (b : Bool) → same x.0 f ≡ b → (c : Bool) → same_txn x.1 txn ≡ c → keeping f (without_txn txn xs) ≡ but_txn txn (keeping f xs)
        → keeping f (cond (not c) (x ∷ without_txn txn xs) (without_txn txn xs)) ≡ but_txn txn (map txn_of (cond b (x ∷ filter (λ y. same y.0 f) xs) (filter (λ y. same y.0 f) xs)))
    by true e true g rest = rest ∙ sym (ap (λ c. cond (not c) (x.1 ∷ but_txn txn (keeping f xs)) (but_txn txn (keeping f xs))) g)
    by true e false g rest =
        ap (λ b. map txn_of (cond b (x ∷ filter (λ y. same y.0 f) (without_txn txn xs)) (filter (λ y. same y.0 f) (without_txn txn xs)))) e
        ∙ ap (λ ts. x.1 ∷ ts) rest
        ∙ sym (ap (λ c. cond (not c) (x.1 ∷ but_txn txn (keeping f xs)) (but_txn txn (keeping f xs))) g)
    by false e true g rest = rest
    by false e false g rest = ap (λ b. map txn_of (cond b (x ∷ filter (λ y. same y.0 f) (without_txn txn xs)) (filter (λ y. same y.0 f) (without_txn txn xs)))) e ∙ rest

-- before all, a transaction goes first
txn_first : (txn : TxnNo) (txns : List TxnNo) → list_all (λ t. txn_before txn t) txns ≡ true → with_txn txn txns ≡ txn ∷ txns
txn_first txn [] h = refl
txn_first txn (t ∷ ts) h = ap (λ b. cond b (txn ∷ t ∷ ts) (t ∷ with_txn txn ts)) (both (txn_before txn t) (list_all (λ u. txn_before txn u) ts) h).0

all_keeping : (txn : TxnNo) (f : List ℕ) (frozen : Frozen) → list_all (λ x. txn_before txn (txn_of x)) frozen ≡ true → list_all (λ t. txn_before txn t) (keeping f frozen) ≡ true
all_keeping txn f [] h = refl
all_keeping txn f (x ∷ xs) h =
    let q = both (txn_before txn x.1) (list_all (λ y. txn_before txn (txn_of y)) xs) h in
    elim (same x.0 f) as (λ b. list_all (λ t. txn_before txn t) (map txn_of (cond b (x ∷ filter (λ y. same y.0 f) xs) (filter (λ y. same y.0 f) xs))) ≡ true) [
      | true ↦ ap (λ b. b && list_all (λ t. txn_before txn t) (keeping f xs)) q.0 ∙ all_keeping txn f xs q.1
      | false ↦ all_keeping txn f xs q.1
    ]

-- with one more file that a transaction keeps, the transaction is one more there
pub keeping_put : (file : List ℕ) (txn : TxnNo) (f : List ℕ) (frozen : Frozen) → are_in_order txn_of frozen ≡ true → keeping f (with_frozen file txn frozen) ≡ cond (same file f) (with_txn txn (keeping f frozen)) (keeping f frozen)
keeping_put file txn f [] h = elim (same file f) as (λ b. map txn_of (cond b ((file, txn) ∷ []) []) ≡ cond b (txn ∷ []) []) [
  | true ↦ refl
  | false ↦ refl
]
keeping_put file txn f (x ∷ xs) h = by (txn_before txn x.1) refl (same file f) refl (keeping_put file txn f xs q.1)
  where
    q : (list_all (λ (y : List ℕ × TxnNo). not (txn_before (txn_of y) x.1)) xs ≡ true) × (are_in_order txn_of xs ≡ true)
    q = both _ _ h

    new : List ℕ × TxnNo
    new = (file, txn)

    there : Frozen → Frozen
    there ys = filter (λ y. same y.0 f) ys

    by : (a : Bool) → txn_before txn x.1 ≡ a → (b : Bool) → same file f ≡ b → keeping f (with_frozen file txn xs) ≡ cond (same file f) (with_txn txn (keeping f xs)) (keeping f xs)
        → keeping f (cond a (new ∷ x ∷ xs) (x ∷ with_frozen file txn xs)) ≡ cond (same file f) (with_txn txn (keeping f (x ∷ xs))) (keeping f (x ∷ xs))
    by true e true g rest =
        let all : list_all (λ (y : List ℕ × TxnNo). txn_before txn (txn_of y)) (x ∷ xs) ≡ true = ap (λ b. b && list_all (λ (y : List ℕ × TxnNo). txn_before txn (txn_of y)) xs) e ∙ before_all txn_of txn x xs e q.0 in
        ap (λ b. map txn_of (cond b (new ∷ there (x ∷ xs)) (there (x ∷ xs)))) g
        ∙ sym (ap (λ b. cond b (with_txn txn (keeping f (x ∷ xs))) (keeping f (x ∷ xs))) g ∙ txn_first txn (keeping f (x ∷ xs)) (all_keeping txn f (x ∷ xs) all))
    by true e false g rest =
        ap (λ b. map txn_of (cond b (new ∷ there (x ∷ xs)) (there (x ∷ xs)))) g
        ∙ sym (ap (λ b. cond b (with_txn txn (keeping f (x ∷ xs))) (keeping f (x ∷ xs))) g)
    by false e true g rest =
        elim (same x.0 f) as (λ c. map txn_of (cond c (x ∷ there (with_frozen file txn xs)) (there (with_frozen file txn xs))) ≡ with_txn txn (map txn_of (cond c (x ∷ there xs) (there xs)))) [
          | true ↦ ap (λ ts. x.1 ∷ ts) (rest ∙ ap (λ b. cond b (with_txn txn (keeping f xs)) (keeping f xs)) g) ∙ sym (ap (λ a. cond a (txn ∷ x.1 ∷ keeping f xs) (x.1 ∷ with_txn txn (keeping f xs))) e)
          | false ↦ rest ∙ ap (λ b. cond b (with_txn txn (keeping f xs)) (keeping f xs)) g
        ]
        ∙ sym (ap (λ b. cond b (with_txn txn (keeping f (x ∷ xs))) (keeping f (x ∷ xs))) g)
    by false e false g rest =
        elim (same x.0 f) as (λ c. map txn_of (cond c (x ∷ there (with_frozen file txn xs)) (there (with_frozen file txn xs))) ≡ map txn_of (cond c (x ∷ there xs) (there xs))) [
          | true ↦ ap (λ ts. x.1 ∷ ts) (rest ∙ ap (λ b. cond b (with_txn txn (keeping f xs)) (keeping f xs)) g)
          | false ↦ rest ∙ ap (λ b. cond b (with_txn txn (keeping f xs)) (keeping f xs)) g
        ]
        ∙ sym (ap (λ b. cond b (with_txn txn (keeping f (x ∷ xs))) (keeping f (x ∷ xs))) g)

-- ## The range of a transaction

cut : (i j : ℕ) (frozen : Frozen) → i ≤ j → slice_range frozen i j ≡ drop i (take j frozen)
cut i j frozen h = sym (ap (λ n. drop i (take n frozen)) (whole i j h) ∙ drop-take i (j - i) frozen)
  where
    whole : (i j : ℕ) → i ≤ j → j ≡ i + (j - i)
    whole i j h = omega (arith, h)

-- an entry of another transaction stays
stays : (txn : TxnNo) (f : List ℕ) (x : List ℕ × TxnNo) (xs : Frozen) → same_txn x.1 txn ≡ false → but_txn txn (keeping f xs) ≡ keeping f xs → but_txn txn (keeping f (x ∷ xs)) ≡ keeping f (x ∷ xs)
stays txn f x xs e rest = elim (same x.0 f) as (λ b. but_txn txn (map txn_of (cond b (x ∷ filter (λ y. same y.0 f) xs) (filter (λ y. same y.0 f) xs))) ≡ map txn_of (cond b (x ∷ filter (λ y. same y.0 f) xs) (filter (λ y. same y.0 f) xs))) [
  | true ↦ ap (λ c. cond (not c) (x.1 ∷ but_txn txn (keeping f xs)) (but_txn txn (keeping f xs))) e ∙ ap (λ ts. x.1 ∷ ts) rest
  | false ↦ rest
]

-- a file of which none is in the range loses nothing
untouched : (txn : TxnNo) (f : List ℕ) (frozen : Frozen) (i j : ℕ) → IsRange txn_of txn frozen i j → is_among f (map file_of (drop i (take j frozen))) ≡ false → but_txn txn (keeping f frozen) ≡ keeping f frozen
untouched txn f [] i j r e = refl
untouched txn f (x ∷ xs) zero zero r e = stays txn f x xs (first_behind txn_of txn x xs r) (untouched txn f xs zero zero (range_behind txn_of txn x xs zero zero zero zero none_less none_less r) refl)
untouched txn f (x ∷ xs) zero (suc j) r e =
    let q = neither (same x.0 f) (is_among f (map file_of (take j xs))) e in
    ap (λ b. but_txn txn (map txn_of (cond b (x ∷ filter (λ y. same y.0 f) xs) (filter (λ y. same y.0 f) xs)))) q.0
    ∙ untouched txn f xs zero j (range_behind txn_of txn x xs zero (suc j) zero j none_less (one_less j) r) q.1
    ∙ sym (ap (λ b. map txn_of (cond b (x ∷ filter (λ y. same y.0 f) xs) (filter (λ y. same y.0 f) xs))) q.0)
untouched txn f (x ∷ xs) (suc i) zero r e = absurd (not_both txn_of txn x xs i r)
untouched txn f (x ∷ xs) (suc i) (suc j) r e = stays txn f x xs (first_before txn_of txn x xs i j r) (untouched txn f xs i j (range_behind txn_of txn x xs (suc i) (suc j) i j (one_less i) (one_less j) r) e)

-- ## The index

-- that of no file
pub kept_none : (files : FilesOf TxnNo) → files.entries ≡ [] → (are_in_order txn_of [] ≡ true) × AreKept files []
kept_none files e = (refl, none_named files e)

-- an equal one
pub kept_same : (old now : KeptIndex) (frozen : Frozen) → IsKept old frozen → now.whole ≡ old.whole → map_of now.files ≡ map_of old.files → IsKept now frozen
kept_same old now frozen h w same t = ((h (sym w ∙ t)).0, λ f. ap (λ m. listed (get m f)) same ∙ (h (sym w ∙ t)).1 f)

pub kept_ordered : (files : FilesOf TxnNo) (frozen : Frozen) → are_in_order txn_of frozen ≡ true → AreKept files frozen → AreInOrderAt files
kept_ordered files frozen o h f = ap (are_in_order itself) (h f) ∙ keeping_ordered f frozen o

-- one file more is kept
pub kept_put : (file : List ℕ) (txn : TxnNo) (frozen : Frozen) (old now : FilesOf TxnNo) → are_in_order txn_of frozen ≡ true → AreKept old frozen → ChangesAt (with_txn txn) file old now
    → (are_in_order txn_of (with_frozen file txn frozen) ≡ true) × AreKept now (with_frozen file txn frozen)
kept_put file txn frozen old now o h change = (
  ordered_put txn_of (file, txn) frozen o,
  λ f. change f
      ∙ ap (λ ts. cond (same f file) (with_txn txn ts) ts) (h f)
      ∙ ap (λ b. cond b (with_txn txn (keeping f frozen)) (keeping f frozen)) (same_turned f file)
      ∙ sym (keeping_put file txn f frozen o),
)

pub but_twice : (txn : TxnNo) (txns : List TxnNo) → but_txn txn (but_txn txn txns) ≡ but_txn txn txns
but_twice txn txns = filtered_twice (λ t. not (same_txn t txn)) txns

-- with a transaction forgotten they are in order still
pub forgets_ordered : (txn : TxnNo) (fs : List (List ℕ)) (old now : FilesOf TxnNo) → AreInOrderAt old → ChangesAmong (but_txn txn) fs old now → AreInOrderAt now
forgets_ordered txn fs old now h change f = ap (are_in_order itself) (change f) ∙ by (is_among f fs)
  where
    by : (b : Bool) → are_in_order itself (cond b (but_txn txn (listed_at old f)) (listed_at old f)) ≡ true
    by true = ordered_filter itself (λ t. not (same_txn t txn)) (listed_at old f) (h f)
    by false = h f

long : (frozen : Frozen) → length (map file_of frozen) ≡ length frozen
long [] = refl
long (x ∷ xs) = ap suc (long xs)

file_there : (frozen : Frozen) (i : ℕ) (x : List ℕ × TxnNo) → i < length frozen → x ≡ get_or frozen i x → x.0 ≡ get_or (map file_of frozen) i x.0
file_there [] i x l e = absurd (omega (arith, l))
file_there (y ∷ ys) zero x l e = ap file_of e
file_there (y ∷ ys) (suc i) x l e = file_there ys i x (omega (arith, l)) e

-- one file further
pub forgets_more : (txn : TxnNo) (frozen : Frozen) (i : ℕ) (x : List ℕ × TxnNo) (old m n : FilesOf TxnNo) → i < length frozen → x ≡ get_or frozen i x
    → ChangesAmong (but_txn txn) (take i (map file_of frozen)) old m → ChangesAt (but_txn txn) x.0 m n → ChangesAmong (but_txn txn) (take (i + 1) (map file_of frozen)) old n
forgets_more txn frozen i x old m n l e h g =
    changes_more (but_txn txn) (but_twice txn) (map file_of frozen) i x.0 old m n (subst (λ k. i < k) (sym (long frozen)) l) h (subst (λ f. ChangesAt (but_txn txn) f m n) (file_there frozen i x l e) g)

-- a transaction keeps no file any more
pub kept_thawed : (txn : TxnNo) (frozen : Frozen) (i j : ℕ) (old now : FilesOf TxnNo) → i ≤ j → IsRange txn_of txn frozen i j → AreKept old frozen → ChangesAmong (but_txn txn) (map file_of (slice_range frozen i j)) old now → AreKept now (without_txn txn frozen)
kept_thawed txn frozen i j old now l r h change f =
    change f
    ∙ ap (λ ts. cond (is_among f (map file_of (slice_range frozen i j))) (but_txn txn ts) ts) (h f)
    ∙ by (is_among f (map file_of (slice_range frozen i j))) refl
    ∙ sym (keeping_without txn f frozen)
  where
    by : (b : Bool) → is_among f (map file_of (slice_range frozen i j)) ≡ b → cond b (but_txn txn (keeping f frozen)) (keeping f frozen) ≡ but_txn txn (keeping f frozen)
    by true e = refl
    by false e = sym (untouched txn f frozen i j r (ap (λ ys. is_among f (map file_of ys)) (sym (cut i j frozen l)) ∙ e))
