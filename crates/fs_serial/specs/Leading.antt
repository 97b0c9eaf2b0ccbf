-- What holds of transactions while their words are on their way.
use Rattle.std.specs.Prelude.{◌≡◌, ◌≢◌, ◌⊎◌, ◌==◌, ◌≤◌, ℕ, true, false, List, [], length, map, Some, None, slice_get}
use Rattle.std.specs.List.{find}
use Rattle.fs_ident.specs.Ident.{same}
use Rattle.fs_ident.specs.In.{In}
use Rattle.fs_ident.specs.declared.actor.Session.{Session}
use Rattle.fs_ident.specs.declared.actor.TxnNo.{TxnNo}
use Rattle.fs_ident.specs.declared.kind.Kind.{Kind}
use Rattle.fs_ident.specs.declared.kind.Kind.TheVariants.{Dir, File}
use Rattle.fs_field.specs.After.{changed_file}
use Rattle.fs_field.specs.declared.effect.Effect.{Effect}
use Rattle.fs_field.specs.declared.effect.Effect.TheVariants.{SetChild, SetParent, RemoveNode}
use Rattle.fs_field.specs.declared.field.Field.{Field}
use Rattle.fs_field.specs.declared.field.Field.TheVariants.{Life, Child, Names, Own}
use Rattle.fs_field.specs.declared.lease_kind.LeaseKind.{LeaseKind}
use Rattle.fs_field.specs.declared.lease_kind.LeaseKind.TheVariants.{Shared, Exclusive}
use Rattle.fs_field.specs.declared.row.Row.{Row}
use Rattle.fs_field.specs.declared.used.Part.{Part}
use Rattle.fs_field.specs.declared.used.Use.{Use}
use Rattle.fs_field.specs.declared.vote.Vote.TheVariants.{Yes}
use Rattle.fs_model.specs.declared.op.Op.{Op}
use Rattle.fs_model.specs.declared.op.Op.TheVariants as op
use Rattle.fs_record.specs.LedEffects.{led_effects}
use Rattle.fs_client.specs.Led.{end_fits, lead_of}
use Rattle.fs_client.specs.declared.exchange.Exchange.TheVariants.{Leads}
use Rattle.fs_client.specs.declared.led.Led.{Led}
use Rattle.fs_server.specs.Begins.{parts_in}
use Rattle.fs_server.specs.Leads.{mode_of}
use Rattle.fs_server.specs.declared.event.ServerEvent.{ServerEvent}
use Rattle.fs_server.specs.declared.state.Server.{Server}
use Rattle.fs_server.specs.Server.{Stepped}
use Rattle.fs_txn.specs.Decided.{IsDecided}
use Rattle.fs_txn.specs.Deciding.{effects_on, needs_path, reply_of}
use Rattle.fs_txn.specs.Guards.{is_enough}
use Rattle.fs_txn.specs.Leading.{ending_of, leading_of}
use Rattle.fs_txn.specs.Locks.{LeavesLocks, LocksHold}
use Rattle.fs_txn.specs.Ready.{is_part}
use Rattle.fs_txn.specs.Stages.{Key, StagesHold, Wanted, word_to}
use Rattle.fs_txn.specs.Stages.Stage.{Unknown}
use Rattle.fs_txn.specs.Stages.Word.{Decide}
use Rattle.fs_txn.specs.declared.leader.Leader.{Leader}
use Rattle.fs_txn.specs.declared.leading.Ending.{Ending}
use Rattle.fs_txn.specs.declared.leading.Leading.{Leading}
use Rattle.fs_txn.specs.declared.mode.Mode2.{Mode2}
use Rattle.fs_txn.specs.declared.ready.Ready.{Ready}
use Rattle.fs_serial.specs.Cluster.{Cluster, Lines, in_flight_from, without_arrived}
use Rattle.fs_serial.specs.Words.{desks_of, kept_at, key_of, rows_at, said_at, stage_of_key, telling_of}

-- ## Votes are awaited

-- the session waits for this server to lead this operation
pub record IsLedBy (lines : Session → Lines) (by : Session) (server : ℕ) (l : Led) : Type 0 where
  pub led : (lines by).client.led ≡ Some l
  pub asked : (lines by).client.exchange ≡ Some (Leads server)

-- a directory comes into another one
abbrev pub ComesInto : Kind → Op → Type 0
ComesInto Dir (op.Rename sdir sname ddir dname) = same sdir ddir ≡ false
ComesInto kind o = ⊥

-- it began in the mode of the operation, or its decision stands on the path of the directory into which another one comes
abbrev pub IsMode : Mode2 → Kind → Op → Type 0
IsMode mode kind o = (mode ≡ mode_of o kind) ⊎ ((needs_path mode o ≡ true) × ComesInto kind o)

-- the leader is that of the operation
pub record IsLeaderOf (l : Leader) (d : Led) : Type 0 where
  pub number : l.n ≡ d.entry.n
  pub op : l.op ≡ d.entry.op
  pub file : l.file ≡ d.file
  pub parts : l.parts ≡ parts_in l.mode (lead_of d)
  pub mode : IsMode l.mode d.kind l.op

-- what each part is told where the operation is carried out: its effects on the part's file
abbrev pub effects_told : Leading → List (List Effect)
effects_told l = map (λ (p : Part). effects_on (led_effects l.leader.op l.leader.file (reply_of l.leader.op)) p.file) l.leader.parts

-- the file comes into no other directory
abbrev pub StaysIn : Op → Type 0
StaysIn (op.Rename sdir sname ddir dname) = same sdir ddir ≡ true
StaysIn (op.Delete dir name) = Unit {0}
StaysIn o = ⊥

-- no directory comes into another one, or the home has said that it will not be
abbrev pub IsPlain : Led → Leader → Type 0
IsPlain d l = (d.kind ≡ File) ⊎ (StaysIn l.op ⊎ (slice_get l.votes 0 ≡ Some (Some Yes) → ⊥))

-- a transaction of the server of which votes are awaited, where these are the parts
pub record IsLeading (lines : Session → Lines) (s : Server) (parts : Key → Wanted) (l : Leading) : Type 0 where
  pub own : l.leader.txn.server ≡ s.me
  pub begun : l.leader.txn.count ≤ s.txns
  pub one : leading_of l.leader.txn s.leading ≡ Some l
  pub only : ending_of l.leader.txn s.ending ≡ None
  pub votes : length l.leader.votes ≡ length l.leader.parts
  pub asked : length l.at ≡ length l.leader.parts
  -- its home is here
  pub home : slice_get l.at 0 ≡ Some s.me
  pub wanted : (number : ℕ) (p : Part) → slice_get l.leader.parts number ≡ Some p
      → parts (key_of l.leader.txn number) ≡ (let w : Wanted = record { session = l.leader.session; part = p } in w)
  -- its session waits for it
  pub led : Led
  pub client : IsLedBy lines l.leader.session s.me led
  pub leader : IsLeaderOf l.leader led
  -- where its decision stands on no path
  pub plain : needs_path l.leader.mode l.leader.op ≡ false → IsPlain led l.leader

-- ## Decided

-- the session has a row on the field that is locked for the transaction
pub record HasLockFor (rows : List Row) (txn : TxnNo) (by : Session) (on : Field) (wanted : LeaseKind) : Type 0 where
  pub row : Row
  pub stands : In row rows
  pub session : row.session ≡ by
  pub field : row.field ≡ on
  pub enough : is_enough wanted row.kind ≡ true
  pub lock : row.lock ≡ Some txn

-- a transaction of the server that other servers were told of, where these are the parts
pub record IsEnded (lines : Session → Lines) (s : Server) (parts : Key → Wanted) (x : Ending) : Type 0 where
  pub own : x.txn.server ≡ s.me
  pub begun : x.txn.count ≤ s.txns
  pub one : ending_of x.txn s.ending ≡ Some x
  pub only : leading_of x.txn s.leading ≡ None
  pub waits : x.awaits ≢ []
  pub awaited : (n : ℕ × ℕ) → In n x.awaits → ((n.1 == s.me) ≡ false) × ((parts (key_of x.txn n.0)).session ≡ x.session)
  -- its session waits for this end
  pub led : Led
  pub client : IsLedBy lines x.session s.me led
  pub fits : end_fits (Some led) x.end ≡ true

-- one of the uses is of a lease on the field, of a kind that is enough
pub record HasUse (uses : List Use) (on : Field) (wanted : LeaseKind) : Type 0 where
  pub used : Use
  pub among : In used uses
  pub field : used.field ≡ on
  pub enough : is_enough wanted used.kind ≡ true

-- the leases of the effect's part guard it
abbrev pub IsCoveredBy : List Use → Effect → Type 0
IsCoveredBy uses (SetChild dir name to) = HasUse uses (Child dir name) Exclusive × HasUse uses (Life dir) Shared
IsCoveredBy uses (SetParent file dir name) = HasUse uses (Life file) Shared
IsCoveredBy uses (RemoveNode file) =
    HasUse uses (Names file) Shared × (HasUse uses (Life file) Exclusive × HasUse uses (Own file) Exclusive)
IsCoveredBy uses e = ⊥

-- where a file gets its place, its leader keeps the row on that name locked
abbrev pub IsPlaced : List Row → TxnNo → Session → Effect → Type 0
IsPlaced rows txn by (SetParent file dir name) = HasLockFor rows txn by (Child dir name) Exclusive
IsPlaced rows txn by e = Unit {0}

-- an effect that a part is told, where this was asked for
pub record IsToldOf (servers : List Server) (key : Key) (w : Wanted) (e : Effect) : Type 0 where
  pub decided : IsDecided e
  pub file : changed_file e ≡ w.part.file
  pub covered : IsCoveredBy w.part.uses e
  pub placed : IsPlaced (rows_at (slice_get servers key.txn.server)) key.txn w.session e

-- ## Together

pub record LedHolds (c : Cluster) : Type 0 where
  -- what was asked for each part
  pub parts : Key → Wanted
  pub stages : StagesHold (desks_of parts c)
  pub leading : (s : Server) → In s c.servers → (l : Leading) → In l s.leading → IsLeading c.lines s parts l
  pub ending : (s : Server) → In s c.servers → (x : Ending) → In x s.ending → IsEnded c.lines s parts x
  pub ready : (s : Server) → In s c.servers → (x : Ready) → In x s.prepared → find (is_part x.txn x.number) s.prepared ≡ Some x
  pub locks : (s : Server) → In s c.servers → LocksHold s.rows (said_at s) (kept_at s)
  -- no two parts of a transaction are on one file
  pub files : (a b : Key) → a.txn ≡ b.txn → (a.part == b.part) ≡ false → stage_of_key c.servers a ≢ Unknown
      → stage_of_key c.servers b ≢ Unknown → same (parts a).part.file (parts b).part.file ≡ false
  -- a part at another server is told one effect at most
  pub few : (key : Key) (at : ℕ) (effects : List Effect) → In (word_to key at (Decide effects)) (telling_of c.in_flight)
      → length effects ≤ 1
  pub told : (key : Key) (at : ℕ) (effects : List Effect) → In (word_to key at (Decide effects)) (telling_of c.in_flight) → (e : Effect)
      → In e effects → IsToldOf c.servers key (parts key) e

-- ## Every other kind of step

-- the server's tables and words stay as they are, and its locks
pub record LeavesLed (k : ℕ) (e : ServerEvent) (s : Server) (x : Stepped) (c : Cluster) : Type 0 where
  pub me : x.server.me ≡ s.me
  pub txns : s.txns ≤ x.server.txns
  pub leading : x.server.leading ≡ s.leading
  pub ending : x.server.ending ≡ s.ending
  pub prepared : x.server.prepared ≡ s.prepared
  pub words : telling_of (in_flight_from k x.out.send) ≡ []
  pub taken : telling_of (without_arrived k e c.in_flight) ≡ telling_of c.in_flight
  pub locks : LeavesLocks s.rows x.server.rows

-- the server leads something for the session
abbrev pub LeadsFor : Server → Session → Type 0
LeadsFor s by = ((m : Leading) × (In m s.leading × (m.leader.session ≡ by))) ⊎ ((x : Ending) × (In x s.ending × (x.session ≡ by)))

-- a session for which something is led waits for it still
abbrev pub LeavesLedClient : Session → Cluster → (Session → Lines) → Type 0
LeavesLedClient by c later =
    (server : ℕ) (l : Led) → IsLedBy c.lines by server l → ((s : Server) × (In s c.servers × LeadsFor s by)) → IsLedBy later by server l
