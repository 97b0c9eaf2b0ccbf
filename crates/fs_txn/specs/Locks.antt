-- Locks of one server's rows: no other server, and no word on its way, has to do with them.
use Rattle.std.specs.Prelude.{◌≡◌, ◌⊎◌, ◌++◌, Bool, true, false, not, List, ◌∷◌, map, Some, if◌then◌else◌}
use Rattle.std.specs.List.{filter, list_any}
use Rattle.fs_ident.specs.In.{In}
use Rattle.fs_ident.specs.declared.actor.LeaseNo.{LeaseNo}
use Rattle.fs_ident.specs.declared.actor.Session.{Session}
use Rattle.fs_ident.specs.declared.actor.TxnNo.{TxnNo}
use Rattle.fs_field.specs.Table.{same_txn, unlocked_row}
use Rattle.fs_field.specs.declared.field.Field.{Field}
use Rattle.fs_field.specs.declared.lease_kind.LeaseKind.{LeaseKind}
use Rattle.fs_field.specs.declared.row.Row.{Row}
use Rattle.fs_field.specs.declared.used.Use.{Use}
use Rattle.fs_field.specs.declared.vote.Vote.TheVariants.{Yes}
use Rattle.fs_txn.specs.Preparing.{is_used, rows_voted, table_of, uses_of_modes, uses_off}
use Rattle.fs_txn.specs.Stages.{Key, Wanted, same_key}

-- a part that said Yes at the server, and whose decision was not applied yet
pub record Agreed : Type 0 where
  pub key : Key
  pub wanted : Wanted

-- a transaction whose rows stay locked behind its commit, and its session
pub record Kept : Type 0 where
  pub txn : TxnNo
  pub session : Session

-- the row of the lease stands
pub record HasRow (rows : List Row) (by : Session) (lease : LeaseNo) (on : Field) (wanted : LeaseKind) : Type 0 where
  pub row : Row
  pub stands : In row rows
  pub number : row.no ≡ lease
  pub session : row.session ≡ by
  pub field : row.field ≡ on
  pub kind : row.kind ≡ wanted

-- it stands, and is locked for the transaction itself
pub record IsLocked (rows : List Row) (txn : TxnNo) (by : Session) (lease : LeaseNo) (on : Field) (wanted : LeaseKind) : Type 0 where
  pub has : HasRow rows by lease on wanted
  pub lock : has.row.lock ≡ Some txn

-- the transaction is the session's, and a part of it waits for its decision here
pub record IsOf (said : List Agreed) (txn : TxnNo) (by : Session) : Type 0 where
  pub agreed : Agreed
  pub among : In agreed said
  pub its : agreed.key.txn ≡ txn
  pub session : agreed.wanted.session ≡ by

-- the transaction is the session's, and has its rows locked behind its commit
pub record IsKept (kept : List Kept) (txn : TxnNo) (by : Session) : Type 0 where
  pub commit : Kept
  pub among : In commit kept
  pub its : commit.txn ≡ txn
  pub session : commit.session ≡ by

-- the rows of each part that said Yes are locked for its transaction; whoever locks a row waits for a decision here, or leads a
-- transaction of which others do not know the decision yet, and it is the row's own session's
pub record LocksHold (rows : List Row) (said : List Agreed) (kept : List Kept) : Type 0 where
  pub locked : (y : Agreed) → In y said → (u : Use) → In u y.wanted.part.uses
      → IsLocked rows y.key.txn y.wanted.session u.no u.field u.kind
  pub used : (r : Row) (txn : TxnNo) → In r rows → r.lock ≡ Some txn → IsOf said txn r.session ⊎ IsKept kept txn r.session

-- ## Steps

-- a part of the transaction still waits for its decision here
abbrev pub waits_here : TxnNo → List Agreed → Bool
waits_here txn said = list_any (λ (y : Agreed). same_txn y.key.txn txn) said

abbrev pub without_part : Key → List Agreed → List Agreed
without_part key said = filter (λ (y : Agreed). not (same_key y.key key)) said

abbrev pub rows_unlocked : TxnNo → List Row → List Row
rows_unlocked txn rows = map (unlocked_row txn) rows

-- the rows are unlocked with the last part of the transaction here
abbrev pub rows_decided : Key → List Row → List Agreed → List Row
rows_decided key rows said = if waits_here key.txn (without_part key said) then rows else rows_unlocked key.txn rows

abbrev pub without_txn : TxnNo → List Agreed → List Agreed
without_txn txn said = filter (λ (y : Agreed). not (same_txn y.key.txn txn)) said

abbrev pub without_kept : TxnNo → List Kept → List Kept
without_kept txn kept = filter (λ (x : Kept). not (same_txn x.txn txn)) kept

-- what every other kind of step does to a server's rows: who locks a row keeps it, and no row is locked anew
pub record LeavesLocks (rows new : List Row) : Type 0 where
  pub stays : (r : Row) → In r rows → (txn : TxnNo) → r.lock ≡ Some txn → IsLocked new txn r.session r.no r.field r.kind
  pub older : (r : Row) → In r new → (txn : TxnNo) → r.lock ≡ Some txn → IsLocked rows txn r.session r.no r.field r.kind

-- ## Each keeps the locks

-- whoever locks the row of a lease that the part uses is the transaction itself, and the row is the session's
pub record IsFree (y : Agreed) (r : Row) : Type 0 where
  pub session : r.session ≡ y.wanted.session
  pub own : (txn : TxnNo) → r.lock ≡ Some txn → txn ≡ y.key.txn

-- a part says Yes: the rows of its leases stand, each in its table, and no other transaction locks one
abbrev pub YesKeepsLocks : Type 0
YesKeepsLocks =
    (rows modes : List Row) (said : List Agreed) (kept : List Kept) (y : Agreed) → LocksHold (rows ++ modes) said kept
    → ((u : Use) → In u y.wanted.part.uses → HasRow (table_of rows modes u) y.wanted.session u.no u.field u.kind)
    → ((r : Row) → In r (rows ++ modes) → is_used y.wanted.part.uses r ≡ true → IsFree y r)
    → LocksHold
    (rows_voted Yes y.key.txn (uses_off y.wanted.part.uses) rows ++ rows_voted Yes y.key.txn (uses_of_modes y.wanted.part.uses) modes)
    (y ∷ said) kept

-- its decision is applied: parts of one transaction are one session's
abbrev pub DecideKeepsLocks : Type 0
DecideKeepsLocks =
    (rows : List Row) (said : List Agreed) (kept : List Kept) (key : Key) → LocksHold rows said kept
    → ((y z : Agreed) → In y said → In z said → y.key.txn ≡ z.key.txn → y.wanted.session ≡ z.wanted.session)
    → LocksHold (rows_decided key rows said) (without_part key said) kept

-- the leader commits, and keeps its rows locked until all others know
abbrev pub CommitKeepsLocks : Type 0
CommitKeepsLocks =
    (rows : List Row) (said : List Agreed) (kept : List Kept) (commit : Kept) → LocksHold rows said kept
    → ((y : Agreed) → In y said → y.key.txn ≡ commit.txn → y.wanted.session ≡ commit.session)
    → LocksHold rows (without_txn commit.txn said) (commit ∷ kept)

-- all others know the decision: the leader's rows are unlocked
abbrev pub LastDoneKeepsLocks : Type 0
LastDoneKeepsLocks =
    (rows : List Row) (said : List Agreed) (kept : List Kept) (txn : TxnNo) → LocksHold rows said kept
    → ((y : Agreed) → In y said → same_txn y.key.txn txn ≡ false)
    → LocksHold (rows_unlocked txn rows) said (without_kept txn kept)

-- every other kind of step shows how it leaves the locks
abbrev pub OthersKeepLocks : Type 0
OthersKeepLocks =
    (rows new : List Row) (said : List Agreed) (kept : List Kept) → LocksHold rows said kept → LeavesLocks rows new
    → LocksHold new said kept
