-- What is told of leases that had ended while an operation is led.
use Rattle.std.specs.Prelude.{◌≡◌, ℕ, ◌≤◌, List, Option, Some, None, slice_get}
use Rattle.fs_ident.specs.In.{In}
use Rattle.fs_ident.specs.declared.actor.LeaseNo.{LeaseNo}
use Rattle.fs_ident.specs.declared.actor.Session.{Session}
use Rattle.fs_ident.specs.declared.actor.TxnNo.{TxnNo}
use Rattle.fs_field.specs.declared.used.Use.{Use}
use Rattle.fs_field.specs.declared.vote.Vote.TheVariants as vote
use Rattle.fs_record.specs.declared.led_end.LedEnd.TheVariants as led
use Rattle.fs_msg.specs.declared.answer.Answer.TheVariants as answer
use Rattle.fs_msg.specs.declared.peer_msg.PeerMsg.TheVariants as peer
use Rattle.fs_msg.specs.declared.server_note.ServerNote.{ServerNote}
use Rattle.fs_msg.specs.declared.server_note.ServerNote.TheVariants as note
use Rattle.fs_msg.specs.declared.voted.Voted.{Voted}
use Rattle.fs_client.specs.declared.led.Led.{Led}
use Rattle.fs_server.specs.declared.event.ServerEvent.{ServerEvent}
use Rattle.fs_server.specs.declared.event.ServerEvent.TheVariants.{FromClient}
use Rattle.fs_server.specs.declared.state.Server.{Server}
use Rattle.fs_txn.specs.declared.leading.Ending.{Ending}
use Rattle.fs_txn.specs.declared.leading.Leading.{Leading}
use Rattle.fs_serial.specs.Cluster.{Cluster, InFlight}
use Rattle.fs_serial.specs.Refusals.{rows_in}
use Rattle.fs_serial.specs.Seen.{given_at}
use Rattle.fs_serial.specs.Steps.{HadEnded}
use Rattle.fs_serial.specs.Words.{led_in}

-- the session waits for an operation to be led that used the lease; its row is gone with all servers, for good since its number was
-- given before, and at that reading it had ended
pub record WasEnded (c : Cluster) (by : Session) (number : LeaseNo) (end now : ℕ) : Type 0 where
  pub led : Led
  pub waits : (c.lines by).client.led ≡ Some led
  pub used : Use
  pub no : used.no ≡ number
  pub until : used.until ≡ end
  pub had : HadEnded (rows_in c) now led.entry used
  pub given : number.count ≤ given_at (slice_get c.servers number.server)

-- whatever tells of a lease that it had ended is right
pub record EndsFair (c : Cluster) : Type 0 where
  -- a vote that is counted
  pub counted : (s : Server) → In s c.servers → (l : Leading) → In l s.leading → (number : LeaseNo) (end now : ℕ)
      → In (Some (vote.Ended number end now)) l.leader.votes → WasEnded c l.leader.session number end now
  -- a vote that comes to the leader
  pub coming : (f : InFlight) → In f c.in_flight → (m : Voted) → f.message ≡ peer.Vote m → (number : LeaseNo) (end now : ℕ)
      → m.vote ≡ vote.Ended number end now → (l : Leading) → led_in c.servers m.txn ≡ Some l
      → WasEnded c l.leader.session number end now
  -- an end that is kept until all is done
  pub kept : (s : Server) → In s c.servers → (x : Ending) → In x s.ending → (number : LeaseNo) (end now : ℕ)
      → x.end ≡ led.Ended number end now → WasEnded c x.session number end now
  -- an end that comes to its session
  pub told : (by : Session) (k : ℕ) (number : LeaseNo) (end now : ℕ)
      → In (k, answer.Led (led.Ended number end now)) (c.lines by).down → WasEnded c by number end now

-- ## What is noted

-- the session whose message comes in the event
abbrev pub asker_of : ServerEvent → Option Session
asker_of (FromClient by m) = Some by
asker_of e = None

-- the session of an operation that is led: the one in its leader's table, or, where none is there yet, the one that asks for it now
abbrev pub session_led : Option Leading → Option Session → Option Session
session_led (Some l) asker = Some l.leader.session
session_led None asker = asker

-- the session of a transaction, where these are the servers before the event, and that session asks in it
abbrev pub session_of_txn : List Server → Option Session → TxnNo → Option Session
session_of_txn servers asker txn = session_led (led_in servers txn) asker

-- where a server notes in an event between these two that an operation that it led is refused, the transaction's own session waits
-- for just that, and the lease had ended
abbrev pub IsFairAbort : Cluster → ServerEvent → Cluster → ServerNote → Type 0
IsFairAbort c e after n = (txn : TxnNo) (number : LeaseNo) (end now : ℕ) → n ≡ note.AbortsEnded txn number end now
    → (by : Session) × (session_of_txn c.servers (asker_of e) txn ≡ Some by) × WasEnded after by number end now
