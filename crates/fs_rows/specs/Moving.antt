-- Rows that go to another server, and rows that come from one.
use Rattle.std.specs.Prelude.{ℕ, Bool, true, not, ◌&&◌, List, [], ◌∷◌, Option, Some, None, if◌then◌else◌}
use Rattle.std.specs.List.{filter, list_any, list_all}
use Rattle.std.specs.Ordering.{nat_cmp, ordering_then, is_lt}
use Rattle.fs_ident.specs.Ordered.{Keyed}
use Rattle.fs_ident.specs.declared.actor.TxnNo.{TxnNo}
use Rattle.fs_field.specs.Conflict.{plain_conflict}
use Rattle.fs_field.specs.Field.{file_of, tells_no_mode}
use Rattle.fs_field.specs.Table.{has_no, with_row}
use Rattle.fs_field.specs.declared.row.Row.{Row}
use Rattle.fs_map.specs.Map.{Owners, gives, is_given}

-- ## What goes

-- the row is on a file that the piece gives
abbrev pub is_on_given : List ℕ → Keyed Bool → Row → Bool
is_on_given prefix given row = gives prefix given (file_of row.field)

abbrev pub rows_given : List ℕ → Keyed Bool → List Row → List Row
rows_given prefix given rows = filter (is_on_given prefix given) rows

abbrev pub rows_left : List ℕ → Keyed Bool → List Row → List Row
rows_left prefix given rows = filter (λ r. not (is_on_given prefix given r)) rows

-- ## What keeps it from going

-- the first transaction comes before the second: by server, then by count
abbrev pub txn_before : TxnNo → TxnNo → Bool
txn_before a b = is_lt (ordering_then (nat_cmp a.server b.server) (nat_cmp a.count b.count))

abbrev pub lesser : TxnNo → TxnNo → TxnNo
lesser a b = if txn_before b a then b else a

abbrev pub least_of : Option TxnNo → Option TxnNo → Option TxnNo
least_of None b = b
least_of (Some a) None = Some a
least_of (Some a) (Some b) = Some (lesser a b)

-- the transaction that keeps the row, where it is on a file below the prefix that is the server's
abbrev pub lock_below : List ℕ → Owners → ℕ → Row → Option TxnNo
lock_below prefix owners me row = if is_given owners me prefix (file_of row.field) then row.lock else None

-- the least transaction that keeps such a row
abbrev pub locked_in : List ℕ → Owners → ℕ → List Row → Option TxnNo
locked_in prefix owners me [] = None
locked_in prefix owners me (r ∷ rs) = least_of (lock_below prefix owners me r) (locked_in prefix owners me rs)

-- ## What comes

-- no row has its number
abbrev pub is_new : List Row → Row → Bool
is_new rows row = not (list_any (has_no row.no) rows)

-- and none conflicts with it by their sessions, fields and kinds alone
abbrev pub stands_beside : List Row → Row → Bool
stands_beside rows row = is_new rows row && not (list_any (plain_conflict row) rows)

-- each in order stands beside those here and those before it
abbrev pub fits : List Row → List Row → Bool
fits rows [] = true
fits rows (m ∷ ms) = stands_beside rows m && fits (with_row m rows) ms

-- the number of each is new
abbrev pub are_new : List Row → List Row → Bool
are_new rows [] = true
are_new rows (m ∷ ms) = is_new rows m && are_new (with_row m rows) ms

-- each is on a field that is no part of what sessions tell of modes
abbrev pub are_off_modes : List Row → Bool
are_off_modes rows = list_all (λ r. tells_no_mode r.field) rows
