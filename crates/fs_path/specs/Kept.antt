-- Files that transactions keep, by file, beside the list that has them in order of transaction.
use Rattle.std.specs.Prelude.{◌≡◌, ℕ, Bool, true, false, not, ◌&&◌, ◌<◌, ◌≤◌, length, slice_index_or, List, [], ◌∷◌, map, Option, Some, None}
use Rattle.std.specs.List.{filter, list_all}
use Rattle.fs_field.specs.Table.{same_txn}
use Rattle.fs_ident.specs.Ident.{same}
use Rattle.fs_ident.specs.Ordered.{put_before}
use Rattle.fs_ident.specs.declared.actor.TxnNo.{TxnNo}
use Rattle.fs_path.specs.ByFile.{FilesOf, listed_at}
use Rattle.fs_path.specs.Leases.{comes_before}
use Rattle.fs_path.specs.declared.kept.KeptIndex.{KeptIndex}

-- ## Order

-- a transaction comes before another: by server, then by count
abbrev pub txn_before : TxnNo → TxnNo → Bool
txn_before a b = comes_before (a.server, a.count) (b.server, b.count)

-- none stands behind one of a greater transaction
abbrev pub are_in_order : {X : Type 0} → (X → TxnNo) → List X → Bool
are_in_order key [] = true
are_in_order key (x ∷ xs) = list_all (λ y. not (txn_before (key y) (key x))) xs && are_in_order key xs

-- the file that is kept, and the transaction that keeps it
abbrev pub file_of : List ℕ × TxnNo → List ℕ
file_of x = x.0

abbrev pub txn_of : List ℕ × TxnNo → TxnNo
txn_of x = x.1

-- a transaction itself
abbrev pub itself : TxnNo → TxnNo
itself txn = txn

-- from the one place to the other stand those of the transaction, before them lesser ones, and behind them greater ones
pub record IsRange {X : Type 0} (key : X → TxnNo) (txn : TxnNo) (xs : List X) (start end : ℕ) : Type 0 where
  pub lesser : (k : ℕ) (d : X) → k < start → k < length xs → txn_before (key (slice_index_or xs k d)) txn ≡ true
  pub rest : (k : ℕ) (d : X) → start ≤ k → k < length xs → txn_before (key (slice_index_or xs k d)) txn ≡ false
  pub until : (k : ℕ) (d : X) → k < end → k < length xs → txn_before txn (key (slice_index_or xs k d)) ≡ false
  pub greater : (k : ℕ) (d : X) → end ≤ k → k < length xs → txn_before txn (key (slice_index_or xs k d)) ≡ true

-- ## At one file

-- the transactions that keep the file, in order
abbrev pub keeping : List ℕ → List (List ℕ × TxnNo) → List TxnNo
keeping file frozen = map txn_of (filter (λ x. same x.0 file) frozen)

-- one more, before the first that is greater
abbrev pub with_txn : TxnNo → List TxnNo → List TxnNo
with_txn txn txns = put_before (λ t. txn_before txn t) txn txns

-- all but this one
abbrev pub but_txn : TxnNo → List TxnNo → List TxnNo
but_txn txn txns = filter (λ t. not (same_txn t txn)) txns

-- the first of some
abbrev pub first_of : List TxnNo → Option TxnNo
first_of [] = None
first_of (txn ∷ txns) = Some txn

-- the transactions at each file are in order
abbrev pub AreInOrderAt : FilesOf TxnNo → Type 0
AreInOrderAt files = (f : List ℕ) → are_in_order itself (listed_at files f) ≡ true

-- ## Beside the list

-- at each file stand the transactions that keep it
abbrev pub AreKept : FilesOf TxnNo → List (List ℕ × TxnNo) → Type 0
AreKept files frozen = (f : List ℕ) → listed_at files f ≡ keeping f frozen

-- so it is while the index is whole, and they are in order
abbrev pub IsKept : KeptIndex → List (List ℕ × TxnNo) → Type 0
IsKept index frozen = index.whole ≡ true → (are_in_order txn_of frozen ≡ true) × AreKept index.files frozen
