-- What a server sends: it goes to sessions that have joined and to other servers, and can be read.
use Rattle.std.proofs.Common.{◌≡◌, ◌≢◌, ◌∙◌, ◌<◌, ◌≤◌, ◌^◌, ℕ, Bool, true, false, List, [], ◌∷◌, refl, ap, cond, arith}
use Rattle.std.specs.Prelude.{◌&&◌, ◌==◌, nat_le}
use Rattle.std.specs.List.{AllByRecursion, list_all}
use Rattle.std.proofs.lemmas.Bool.Decides.{nat_tests}
use Rattle.fs_ident.specs.declared.actor.Peer.{Peer}
use Rattle.fs_ident.specs.declared.actor.Peer.TheVariants.{Client, Server}
use Rattle.fs_ident.specs.declared.actor.Session.{Session}
use Rattle.fs_ident.proofs.Booleans.{joined}
use Rattle.fs_ident.proofs.Passing.{In-all}
use Rattle.fs_ident.proofs.Same.{itself}
use Rattle.fs_field.specs.declared.row.Row.{Row}
use Rattle.fs_model.specs.declared.node.Handle.{Handle}
use Rattle.fs_msg.specs.Readable.{is_readable, is_readable_answer, is_readable_parcel, is_readable_record}
use Rattle.fs_msg.specs.declared.msg.Msg.{Msg}
use Rattle.fs_msg.specs.declared.msg.Msg.TheVariants as msg
use Rattle.fs_msg.specs.declared.peer_msg.PeerMsg.{PeerMsg}
use Rattle.fs_msg.specs.declared.peer_msg.PeerMsg.TheVariants.{Parcel as OfParcel, Prepare, Decide}
use Rattle.fs_record.specs.Records.{IsRecord}
use Rattle.fs_record.specs.declared.parcel.Parcel.{Parcel}
use Rattle.fs_record.specs.declared.record.Record.{Record}
use Rattle.fs_server.specs.Server.{Stepped, strange}
use Rattle.fs_server.specs.declared.event.ServerEvent.{ServerEvent}
use Rattle.fs_server.specs.declared.event.ServerEvent.TheVariants.{FromClient, FromPeer, Move, Recall, Turn}
use Rattle.fs_server.specs.declared.state.Server.{Server as Core}
use Rattle.fs_wire.specs.Readable.{is_readable_handle, is_readable_row, is_readable_session}
use Rattle.fs_world.specs.Linked.{Brings, HasJoined, IsCarried, IsNamedAnswer, IsParcelOf, IsServed}
use Rattle.fs_world.specs.Readable.{HasOpenHandles}
use Rattle.fs_world.specs.Served.{SessionStates}
use Rattle.fs_world.proofs.SeenRows.{AreOf}

-- ## What is sent

-- an answer to a session that has joined, which names servers that there are and can be read, or a message for another server
abbrev pub IsSent : ℕ → SessionStates → ℕ → Peer × Msg → Type 0
IsSent servers sessions k (Client s, msg.Answer a) = HasJoined sessions s × IsNamedAnswer servers a × (is_readable_answer a ≡ true)
IsSent servers sessions k (Server to, msg.Peer m) = IsCarried servers sessions (record { from = k; to = to; message = m })
IsSent servers sessions k x = ⊥

abbrev pub AreSent : ℕ → SessionStates → ℕ → List (Peer × Msg) → Type 0
AreSent servers sessions k messages = AllByRecursion (IsSent servers sessions k) messages

-- a step leaves such a server, and sends such messages
pub record IsStepped (servers : ℕ) (sessions : SessionStates) (k : ℕ) (x : Stepped) : Type 0 where
  pub server : IsServed servers sessions k x.server
  pub sends : AreSent servers sessions k x.out.send

-- what the event brings to the server of this number is of a session that has joined, and can be read; or another server sent it
abbrev pub IsBrought : ℕ → SessionStates → ℕ → ServerEvent → Type 0
IsBrought servers sessions k (FromClient by m) = HasJoined sessions by × (is_readable (msg.Client m) ≡ true)
IsBrought servers sessions k (FromPeer from m) = IsCarried servers sessions (record { from = from; to = k; message = m })
IsBrought servers sessions k (Move prefix to) = to < servers
IsBrought servers sessions k Turn = Unit {0}
IsBrought servers sessions k (Recall field) = Unit {0}

-- ## What is sent can be read

handles_pass : (hs : List Handle) → AllByRecursion (λ (h : Handle). is_readable_handle h ≡ true) hs → list_all is_readable_handle hs ≡ true
handles_pass [] h = refl
handles_pass (x ∷ xs) h = joined _ _ h.0 (handles_pass xs h.1)

-- a number in a range passes the test for it
pub in_range : (n least most : ℕ) → least ≤ n → n ≤ most → (nat_le least n && nat_le n most) ≡ true
in_range n least most some few = grind (arith, nat_tests)

record_passes : (r : Record) → HasOpenHandles r → IsRecord r → is_readable_record r ≡ true
record_passes r h own = joined _ _ (handles_pass r.node.handles h) (in_range r.next 1 (2 ^ 32) own.least own.most)

parcel_readable : (sessions : SessionStates) (p : Parcel) → ((s : Session) → HasJoined sessions s → is_readable_session s ≡ true)
    → IsParcelOf sessions p → is_readable_parcel p ≡ true
parcel_readable sessions p readable h =
    joined _ _ (In-all (λ (e : List ℕ × Record). is_readable_record e.1) p.records (λ e i. record_passes e.1 (h.handles e i) (h.each e i)))
    (In-all is_readable_row p.rows (λ row i. readable row.session (h.rows row i)))

peer_readable : (servers : ℕ) (sessions : SessionStates) (m : PeerMsg)
    → ((s : Session) → HasJoined sessions s → is_readable_session s ≡ true) → Brings servers sessions m → is_readable (msg.Peer m) ≡ true
peer_readable servers sessions (OfParcel p) readable h = parcel_readable sessions p readable h
peer_readable servers sessions (Prepare m) readable h = readable m.session h
peer_readable servers sessions (Decide m) readable h = h
peer_readable servers sessions m readable h = refl

pub sent_readable : (servers : ℕ) (sessions : SessionStates) (k : ℕ) (x : Peer × Msg)
    → ((s : Session) → HasJoined sessions s → is_readable_session s ≡ true) → IsSent servers sessions k x → is_readable x.1 ≡ true
sent_readable servers sessions k (Client s, msg.Answer a) readable h = h.2
sent_readable servers sessions k (Client s, msg.Client m) readable h = absurd h
sent_readable servers sessions k (Client s, msg.Peer m) readable h = absurd h
sent_readable servers sessions k (Server to, msg.Answer a) readable h = absurd h
sent_readable servers sessions k (Server to, msg.Client m) readable h = absurd h
sent_readable servers sessions k (Server to, msg.Peer m) readable h = peer_readable servers sessions m readable h.brings

-- ## Steps

module _ (servers : ℕ) (sessions : SessionStates) (k : ℕ) where
  abbrev Fine : Core → Type 0
  Fine s = IsServed servers sessions k s

  abbrev Goes : Stepped → Type 0
  Goes x = IsStepped servers sessions k x

  -- with other rows
  pub with_others : (s : Core) (rows : List Row) → Fine s → AreOf (HasJoined sessions) rows → Fine (record s { rows = rows })
  with_others s rows h g =
      record {
        me = h.me;
        peers = h.peers;
        named = h.named;
        records = h.records;
        handles = h.handles;
        rows = g;
        leading = h.leading;
        ending = h.ending;
      }

  pub strange_goes : (s : Core) → Fine s → Goes (strange s)
  strange_goes s h = record { server = h; sends = tt }

  pub either_goes : (b : Bool) (x y : Stepped) → Goes x → Goes y → Goes (cond b x y)
  either_goes true x y h g = h
  either_goes false x y h g = g

  -- another server, by its number
  pub differ : (to : ℕ) (s : Core) → Fine s → (to == s.me) ≡ false → k ≢ to
  differ to s h e q = let same : (to == s.me) ≡ true = ap (λ (n : ℕ). to == n) (h.me ∙ q) ∙ itself to in absurd (cc)
