-- A table of rows, in order of number.
use Rattle.std.specs.Prelude.{ℕ, ◌+◌, Bool, true, false, not, nat_lt, ◌==◌, ◌&&◌, ◌||◌, List, [], ◌∷◌, Option, Some, None, is_some, if◌then◌else◌}
use Rattle.std.specs.List.{list_all, cons_option}
use Rattle.std.specs.Ordering.{nat_cmp, is_lt, ordering_then}
use Rattle.fs_ident.specs.declared.actor.LeaseNo.{LeaseNo}
use Rattle.fs_ident.specs.declared.actor.TxnNo.{TxnNo}
use Rattle.fs_ident.specs.declared.actor.Session.{Session}
use Rattle.fs_ident.specs.Ident.{parent, same}
use Rattle.fs_field.specs.declared.field.Field.{Field}
use Rattle.fs_field.specs.declared.lease_kind.LeaseKind.{LeaseKind}
use Rattle.fs_field.specs.declared.lease_kind.LeaseKind.TheVariants.{Shared, Exclusive}
use Rattle.fs_field.specs.declared.row.Row.{Row}
use Rattle.fs_field.specs.Field.{same_field, file_of}
use Rattle.fs_ident.specs.Ordered.{put_before}
use Rattle.fs_field.specs.Conflict.{is_exclusive}

abbrev pub same_no : LeaseNo → LeaseNo → Bool
same_no a b = (a.server == b.server) && (a.count == b.count)

abbrev pub same_txn : TxnNo → TxnNo → Bool
same_txn a b = (a.server == b.server) && (a.count == b.count)

-- the first number comes before the second: by server, then by count
abbrev pub no_before : LeaseNo → LeaseNo → Bool
no_before a b = is_lt (ordering_then (nat_cmp a.server b.server) (nat_cmp a.count b.count))

-- each row has a lesser number than those behind it
abbrev pub is_ordered : List Row → Bool
is_ordered [] = true
is_ordered (r ∷ rs) = list_all (λ s. no_before r.no s.no) rs && is_ordered rs

-- the row has the number
abbrev pub has_no : LeaseNo → Row → Bool
has_no number row = same_no row.no number

-- one row more, before the first with a greater number
abbrev pub with_row : Row → List Row → List Row
with_row row rows = put_before (λ r. no_before row.no r.no) row rows

abbrev pub same_kind : LeaseKind → LeaseKind → Bool
same_kind Shared b = not (is_exclusive b)
same_kind Exclusive b = is_exclusive b

-- the row is that of this lease of the session
abbrev pub is_lease : LeaseNo → Session → Field → LeaseKind → Row → Bool
is_lease number session field kind row =
    ((has_no number row && (row.session.0 == session.0)) && same_field row.field field) && same_kind row.kind kind

-- the row lives until its end and the skew are over, and longer while a transaction keeps it
abbrev pub is_live : ℕ → ℕ → Row → Bool
is_live now skew row = is_some row.lock || nat_lt now (row.until + skew)

-- the row; that of this number ends no sooner than `until`
abbrev pub renewed_row : LeaseNo → ℕ → Row → Row
renewed_row number until row = if has_no number row && nat_lt row.until until then record row { until = until } else row

-- the row of this number, and no transaction keeps it
abbrev pub is_unlocked : LeaseNo → Row → Bool
is_unlocked number row = has_no number row && not (is_some row.lock)

-- the row; that of this number is kept by the transaction, if none kept it
abbrev pub locked_row : LeaseNo → TxnNo → Row → Row
locked_row number txn row = if is_unlocked number row then record row { lock = Some txn } else row

-- the lock is the transaction's
abbrev pub is_lock_of : TxnNo → Option TxnNo → Bool
is_lock_of txn None = false
is_lock_of txn (Some other) = same_txn other txn

-- the row, which the transaction does not keep any more
abbrev pub unlocked_row : TxnNo → Row → Row
unlocked_row txn row = if is_lock_of txn row.lock then record row { lock = None } else row

-- the transaction that keeps the first row on the field that one keeps
abbrev pub lock_on : Field → List Row → Option TxnNo
lock_on field [] = None
lock_on field (r ∷ rs) = if same_field r.field field && is_some r.lock then r.lock else lock_on field rs

-- the rows on the field
abbrev pub rows_on : Field → List Row → List (LeaseNo × Session)
rows_on field [] = []
rows_on field (r ∷ rs) = if same_field r.field field then (r.no, r.session) ∷ rows_on field rs else rows_on field rs

-- the last number of an identifier
abbrev pub last_number : List ℕ → Option ℕ
last_number [] = None
last_number (n ∷ []) = Some n
last_number (n ∷ m ∷ ms) = last_number (m ∷ ms)

-- the parent is the directory
abbrev pub is_parent : List ℕ → Option (List ℕ) → Bool
is_parent dir None = false
is_parent dir (Some other) = same other dir

-- the last number of a file that stands right below the directory
abbrev pub child_number : List ℕ → List ℕ → Option ℕ
child_number dir file = if is_parent dir (parent file) then last_number file else None

-- the last numbers of the files right below the directory that rows are on
abbrev pub borne_numbers : List ℕ → List Row → List ℕ
borne_numbers dir [] = []
borne_numbers dir (r ∷ rs) = cons_option (child_number dir (file_of r.field)) (borne_numbers dir rs)
