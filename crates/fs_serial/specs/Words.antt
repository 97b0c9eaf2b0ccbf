-- What servers say to each other of transactions, while it is on its way, and where each part stands.
use Rattle.std.specs.Prelude.{◌≡◌, ℕ, List, [], map, ◌++◌, Option, Some, None, option_map, slice_get}
use Rattle.std.specs.List.{filter_map, find, flat_map}
use Rattle.fs_ident.specs.declared.actor.TxnNo.{TxnNo}
use Rattle.fs_field.specs.declared.effect.Effect.{Effect}
use Rattle.fs_field.specs.declared.row.Row.{Row}
use Rattle.fs_msg.specs.declared.client_msg.ClientMsg.TheVariants.{Lead}
use Rattle.fs_msg.specs.declared.peer_msg.PeerMsg.{PeerMsg}
use Rattle.fs_msg.specs.declared.peer_msg.PeerMsg.TheVariants as peer
use Rattle.fs_server.specs.Server.{Stepped}
use Rattle.fs_server.specs.declared.event.ServerEvent.{ServerEvent}
use Rattle.fs_server.specs.declared.event.ServerEvent.TheVariants.{FromClient, FromPeer}
use Rattle.fs_server.specs.declared.state.Server.{Server}
use Rattle.fs_txn.specs.Grants.{Decided}
use Rattle.fs_txn.specs.Leading.{ending_of, kept_by, leading_of, said_by, stage_in}
use Rattle.fs_txn.specs.Locks.{Agreed, Kept}
use Rattle.fs_txn.specs.Ready.{agreed_of, is_part}
use Rattle.fs_txn.specs.Stages.{Desks, Key, Stage, Told, Wanted, Word}
use Rattle.fs_txn.specs.Stages.Word.{Prepare, Voted, Decide, Done}
use Rattle.fs_txn.specs.declared.leading.Ending.{Ending}
use Rattle.fs_txn.specs.declared.leading.Leading.{Leading}
use Rattle.fs_txn.specs.declared.ready.Ready.{Ready}
use Rattle.fs_serial.specs.Cluster.{Cluster, InFlight, IsThere, after_step}
use Rattle.fs_serial.specs.Decided.{decided_for}

-- ## Words

abbrev pub key_of : TxnNo → ℕ → Key
key_of txn number = record { txn = txn; part = number }

-- what a message says of which part, if it speaks of one
abbrev pub word_in : PeerMsg → Option (Key × Word)
word_in (peer.Prepare m) = Some (key_of m.txn m.number, Prepare (record { session = m.session; part = m.part }))
word_in (peer.Vote m) = Some (key_of m.txn m.number, Voted m.vote)
word_in (peer.Decide m) = Some (key_of m.txn m.number, Decide m.effects)
word_in (peer.Done m) = Some (key_of m.txn m.number, Done)
word_in m = None

abbrev pub told_with : ℕ → ℕ → Key × Word → Told
told_with from to w = record { from = from; to = to; key = w.0; word = w.1 }

abbrev pub told_in : InFlight → Option Told
told_in f = option_map (told_with f.from f.to) (word_in f.message)

-- the words on their way, in order
abbrev pub telling_of : List InFlight → List Told
telling_of in_flight = filter_map told_in in_flight

-- ## A word comes

-- the server is reached by the message of that other one
abbrev pub Comes : ℕ → ℕ → Cluster → PeerMsg → Type 0
Comes k from c m = IsThere k (FromPeer from m) c

-- all, after the server's step on it
abbrev pub then_of : ℕ → ℕ → Cluster → PeerMsg → Stepped → Cluster
then_of k from c m x = after_step k (FromPeer from m) x c

-- an event that is neither a question to lead nor a word of a transaction
abbrev pub IsNoneOfLed : ServerEvent → Type 0
IsNoneOfLed (FromClient by (Lead m)) = ⊥
IsNoneOfLed (FromPeer from m) = word_in m ≡ None
IsNoneOfLed e = Unit {0}

-- ## What a server has of transactions

abbrev pub leading_at : Option Server → List Leading
leading_at None = []
leading_at (Some s) = s.leading

abbrev pub ending_at : Option Server → List Ending
ending_at None = []
ending_at (Some s) = s.ending

abbrev pub ready_at : Option Server → List Ready
ready_at None = []
ready_at (Some s) = s.prepared

abbrev pub rows_at : Option Server → List Row
rows_at None = []
rows_at (Some s) = s.rows

-- a transaction, at the server that leads it
abbrev pub led_in : List Server → TxnNo → Option Leading
led_in servers txn = leading_of txn (leading_at (slice_get servers txn.server))

abbrev pub ended_in : List Server → TxnNo → Option Ending
ended_in servers txn = ending_of txn (ending_at (slice_get servers txn.server))

-- ## Where each part stands

abbrev pub stage_of_key : List Server → Key → Stage
stage_of_key servers key = stage_in key.part (led_in servers key.txn) (ended_in servers key.txn)

abbrev pub wanted_of : Ready → Wanted
wanted_of x = record { session = x.session; part = x.part }

abbrev pub prepared_in : List Server → ℕ → Key → Option Wanted
prepared_in servers k key = option_map wanted_of (find (is_part key.txn key.part) (ready_at (slice_get servers k)))

-- all servers, where these are the parts: a server that has decided keeps no parts
abbrev pub desks_of : (Key → Wanted) → Cluster → Desks
desks_of parts c = record {
  parts = parts;
  stages = stage_of_key c.servers;
  prepared = prepared_in c.servers;
  telling = telling_of c.in_flight;
}

-- ## What is decided and not applied yet

abbrev pub decided_at : Option Ending → List Effect → List Decided
decided_at None es = []
decided_at (Some x) es = decided_for x.session es

-- what a message tells a part to do, for the session whose operation it is
abbrev pub decided_by : List Server → PeerMsg → List Decided
decided_by servers (peer.Decide m) = decided_at (ended_in servers m.txn) m.effects
decided_by servers m = []

abbrev pub decided_among : List Server → List InFlight → List Decided
decided_among servers in_flight = flat_map (λ (f : InFlight). decided_by servers f.message) in_flight

abbrev pub decided_in : Cluster → List Decided
decided_in c = decided_among c.servers c.in_flight

-- ## What locks the rows of a server

-- the parts that said Yes there
abbrev pub said_at : Server → List Agreed
said_at s = map agreed_of s.prepared ++ flat_map (said_by s.me) s.leading

-- the transactions whose rows stay locked behind their commit
abbrev pub kept_at : Server → List Kept
kept_at s = kept_by s.ending
