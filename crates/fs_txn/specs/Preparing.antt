-- How a server votes on a part, and which rows it locks.
use Rattle.std.specs.Prelude.{ℕ, Bool, not, ◌==◌, ◌&&◌, List, [], map, Option, Some, None, is_some, unwrap_or, if◌then◌else◌}
use Rattle.std.specs.List.{filter, find, list_any}
use Rattle.fs_ident.specs.declared.actor.PathNo.{PathNo}
use Rattle.fs_ident.specs.declared.actor.Session.{Session}
use Rattle.fs_ident.specs.declared.actor.TxnNo.{TxnNo}
use Rattle.fs_field.specs.Field.{tells_no_mode}
use Rattle.fs_field.specs.Table.{has_no, is_lease}
use Rattle.fs_field.specs.declared.row.Row.{Row}
use Rattle.fs_field.specs.declared.used.Part.{Part}
use Rattle.fs_field.specs.declared.used.Use.{Use}
use Rattle.fs_field.specs.declared.vote.Vote.{Vote}
use Rattle.fs_field.specs.declared.vote.Vote.TheVariants.{Yes, Ended, Moved, PathsOut}
use Rattle.fs_map.specs.Map.{Owners, longest, server_of}

-- ## Rows

-- the table that rows on the field stand in: that of what sessions tell of modes, or the other one
abbrev pub table_of : List Row → List Row → Use → List Row
table_of rows modes u = if tells_no_mode u.field then rows else modes

-- the row of the lease stands in its table
abbrev pub has_row : List Row → List Row → Session → Use → Bool
has_row rows modes by u = list_any (is_lease u.no by u.field u.kind) (table_of rows modes u)

-- the first use without its row
abbrev pub first_gone : List Row → List Row → Session → List Use → Option Use
first_gone rows modes by uses = find (λ u. not (has_row rows modes by u)) uses

-- ## The vote

-- the path lease that stands against a part that freezes a file
abbrev pub path_against : Option (List ℕ) → Option PathNo → Option PathNo
path_against None through = None
path_against (Some file) through = through

abbrev pub vote_by : Option Use → Option PathNo → ℕ → Vote
vote_by (Some u) through now = Ended u.no u.until now
vote_by None (Some lease) now = PathsOut lease
vote_by None None now = Yes

-- the vote of the server of the longest prefix that the map lists: the file is there
abbrev pub moved_to : Option (List ℕ × ℕ) → Vote
moved_to entry = let e : List ℕ × ℕ = unwrap_or entry ([], 0) in Moved e.0 e.1

-- the file is elsewhere, or a lease has no row, or a path over the file is given out; else Yes
abbrev pub vote_on : List Row → List Row → Owners → ℕ → ℕ → Session → Part → Option PathNo → Vote
vote_on rows modes owners me now by p through =
    if server_of owners p.file == me then vote_by (first_gone rows modes by p.uses) (path_against p.freeze through) now
    else moved_to (longest owners p.file)

-- ## Locks

-- the uses on what sessions tell of modes, and the others
abbrev pub uses_off : List Use → List Use
uses_off uses = filter (λ (u : Use). tells_no_mode u.field) uses

abbrev pub uses_of_modes : List Use → List Use
uses_of_modes uses = filter (λ (u : Use). not (tells_no_mode u.field)) uses

-- the row is that of one of the leases, by its number
abbrev pub is_used : List Use → Row → Bool
is_used uses r = list_any (λ (u : Use). has_no u.no r) uses

-- the row, locked for the transaction where one of the leases is its own; a lock that it has stays
abbrev pub row_locked : TxnNo → List Use → Row → Row
row_locked txn uses r = if is_used uses r && not (is_some r.lock) then record r { lock = Some txn } else r

abbrev pub rows_locked : TxnNo → List Use → List Row → List Row
rows_locked txn uses rows = map (row_locked txn uses) rows

-- the rows after the vote: those of the leases are locked for the transaction exactly where it is Yes
abbrev pub rows_voted : Vote → TxnNo → List Use → List Row → List Row
rows_voted Yes txn uses rows = rows_locked txn uses rows
rows_voted vote txn uses rows = rows
