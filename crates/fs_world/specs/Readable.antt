-- What makes each message readable: the logs of clients, and the handles that servers have.
use Rattle.std.specs.Prelude.{◌≡◌, ℕ, true, List, IfSome}
use Rattle.std.specs.FinMap.{get}
use Rattle.fs_ident.specs.In.{In}
use Rattle.fs_ident.specs.Ordered.{Keyed}
use Rattle.std.specs.List.{AllByRecursion}
use Rattle.fs_model.specs.declared.node.Handle.{Handle}
use Rattle.fs_msg.specs.declared.entry.Entry.{Entry}
use Rattle.fs_record.specs.declared.record.Record.{Record}
use Rattle.fs_record.specs.Records.{RecordMap}
use Rattle.fs_client.specs.declared.state.Client.{Client}
use Rattle.fs_wire.specs.Readable.{is_readable_handle, is_readable_op}

-- the operation of each entry of the client's log is readable
abbrev pub LogReadable : Client → Type 0
LogReadable c = AllByRecursion (λ (e : Entry). is_readable_op e.op ≡ true) c.log

-- each handle of the file is readable: it has an access, and its session is one that there may be
abbrev pub HasOpenHandles : Record → Type 0
HasOpenHandles r = AllByRecursion (λ (h : Handle). is_readable_handle h ≡ true) r.node.handles

-- so is each handle of each file in the records
abbrev pub HandlesOpen : RecordMap → Type 0
HandlesOpen m = (file : List ℕ) → IfSome (get m file) HasOpenHandles

-- and in these records
abbrev pub RecordsOpen : Keyed Record → Type 0
RecordsOpen records = (e : List ℕ × Record) → In e records → HasOpenHandles e.1
