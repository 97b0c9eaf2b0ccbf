-- A lock is no part of a lease's row.
use Rattle.std.specs.Prelude.{◌≡◌, ℕ, List, map, Option, if◌then◌else◌}
use Rattle.fs_ident.specs.declared.actor.LeaseNo.{LeaseNo}
use Rattle.fs_ident.specs.declared.actor.Session.{Session}
use Rattle.fs_ident.specs.declared.actor.TxnNo.{TxnNo}
use Rattle.fs_field.specs.Field.{file_of}
use Rattle.fs_field.specs.Table.{locked_row, unlocked_row}
use Rattle.fs_field.specs.declared.row.Row.{Row}
use Rattle.fs_msg.specs.declared.item.Item.{Item}
use Rattle.fs_server.specs.Server.{is_mine}
use Rattle.fs_server.specs.declared.state.Server.{Server}
use Rattle.fs_serial.specs.Parts.{AllHold}
use Rattle.fs_serial.specs.Settled.{Settled}
use Rattle.fs_serial.specs.Sight.{Sight}

-- what is done to each row leaves all parts as they were
abbrev pub KeepsParts : (Row → Row) → Type 0
KeepsParts change =
    (skew greatest : ℕ) (s : Sight) (replied : Session → List Item) (clients : Session → Settled) → AllHold skew greatest s replied clients
    → AllHold skew greatest (record s { rows = map change s.rows }) replied clients

abbrev pub LockKeepsParts : Type 0
LockKeepsParts = (number : LeaseNo) (txn : TxnNo) → KeepsParts (locked_row number txn)

abbrev pub UnlockKeepsParts : Type 0
UnlockKeepsParts = (txn : TxnNo) → KeepsParts (unlocked_row txn)

-- ## Rows are locked and unlocked

-- it locks or unlocks a row, and does nothing else to it
abbrev pub IsRelock : (Row → Row) → Type 0
IsRelock f = (r : Row) → (lock : Option TxnNo) × (f r ≡ record r { lock = lock })

-- what is done to the rows on files that the server manages, and to no others
abbrev pub at_home : Server → (Row → Row) → Row → Row
at_home s f r = if is_mine s (file_of r.field) then f r else r
