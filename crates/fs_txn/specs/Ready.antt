-- The parts that a server has ready for other servers' transactions, and what their decisions change.
use Rattle.std.specs.Prelude.{ℕ, Bool, not, ◌==◌, ◌&&◌, List, filter, if◌then◌else◌}
use Rattle.std.specs.List.{list_any}
use Rattle.fs_ident.specs.declared.actor.TxnNo.{TxnNo}
use Rattle.fs_field.specs.Table.{same_txn}
use Rattle.fs_field.specs.declared.effect.Effect.{Effect}
use Rattle.fs_field.specs.declared.row.Row.{Row}
use Rattle.fs_record.specs.Applied.{is_undoable, records_after_all, takes_away}
use Rattle.fs_record.specs.Records.{RecordMap}
use Rattle.fs_txn.specs.Locks.{Agreed, rows_unlocked}
use Rattle.fs_txn.specs.declared.ready.Ready.{Ready}

-- ## Which parts wait

-- it is the part of this number
abbrev pub is_part : TxnNo → ℕ → Ready → Bool
is_part txn number x = same_txn x.txn txn && (x.number == number)

-- that part waits for its decision
abbrev pub is_prepared : TxnNo → ℕ → List Ready → Bool
is_prepared txn number prepared = list_any (is_part txn number) prepared

-- a part of the transaction waits for its decision
abbrev pub is_awaited : TxnNo → List Ready → Bool
is_awaited txn prepared = list_any (λ (x : Ready). same_txn x.txn txn) prepared

-- the other parts
abbrev pub without_prepared : TxnNo → ℕ → List Ready → List Ready
without_prepared txn number prepared = filter (λ (x : Ready). not (is_part txn number x)) prepared

-- the part as one that said Yes, of which the laws of locks speak
abbrev pub agreed_of : Ready → Agreed
agreed_of x = record { key = record { txn = x.txn; part = x.number }; wanted = record { session = x.session; part = x.part } }

-- ## A decision

-- the rows where these parts are left: those of the transaction are unlocked with its last one
abbrev pub rows_left_by : TxnNo → List Ready → List Row → List Row
rows_left_by txn left rows = if is_awaited txn left then rows else rows_unlocked txn rows

-- the records with what was decided; what takes a file or a name away comes behind the rest, which is the order of all that leaders tell
abbrev pub records_decided : List Effect → RecordMap → RecordMap
records_decided es m = records_after_all (records_after_all m (filter is_undoable es)) (filter takes_away es)
