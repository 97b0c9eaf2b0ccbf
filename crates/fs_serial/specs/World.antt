-- The server, and for each session its client with what is on its way between the two.
use Rattle.std.specs.Prelude.{◌≡◌, ℕ, ◌≤◌, ◌==◌, Bool, true, false, List, [], ◌∷◌, ◌++◌, Option, Some, None, option_map, if◌then◌else◌}
use Rattle.fs_ident.specs.In.{In}
use Rattle.fs_ident.specs.declared.actor.LeaseNo.{LeaseNo}
use Rattle.fs_ident.specs.declared.actor.Peer.{Peer}
use Rattle.fs_ident.specs.declared.actor.Peer.TheVariants.{Client as OfSession}
use Rattle.fs_ident.specs.declared.actor.Session.{Session}
use Rattle.fs_model.specs.declared.op.Op.{Op}
use Rattle.fs_model.specs.Asking.{may_ask}
use Rattle.fs_msg.specs.declared.answer.Answer.{Answer}
use Rattle.fs_msg.specs.declared.client_msg.ClientMsg.{ClientMsg}
use Rattle.fs_msg.specs.declared.client_msg.ClientMsg.TheVariants.{Lead}
use Rattle.fs_msg.specs.declared.item.Item.{Item}
use Rattle.fs_msg.specs.declared.msg.Msg.{Msg}
use Rattle.fs_msg.specs.declared.msg.Msg.TheVariants as msg
use Rattle.fs_server.specs.declared.event.ServerEvent.{ServerEvent}
use Rattle.fs_server.specs.declared.event.ServerEvent.TheVariants.{FromClient, FromPeer, Move}
use Rattle.fs_server.specs.declared.state.Server.{Server}
use Rattle.fs_server.specs.Ships.{item_of}
use Rattle.fs_server.specs.Step.{event_step}
use Rattle.fs_txn.specs.Grants.{Decided}
use Rattle.fs_client.specs.Acts.{act_plan}
use Rattle.fs_client.specs.Answers.{answer_plan}
use Rattle.fs_client.specs.Client.{committed, first_client}
use Rattle.fs_client.specs.Turns.{turn_plan}
use Rattle.fs_client.specs.declared.change.Change.{Change}
use Rattle.fs_client.specs.declared.change.Change.TheVariants as change
use Rattle.fs_client.specs.declared.plan.Plan.{Plan}
use Rattle.fs_client.specs.declared.state.Client.{Client}
use Rattle.fs_serial.specs.Client.{ClientFits}
use Rattle.fs_serial.specs.Exchange.{ExchangeFits, ReturnsFit, RenewalsBacked, asked_server, is_recall}
use Rattle.fs_serial.specs.Parts.{AllHold}
use Rattle.fs_serial.specs.Settled.{Lease, Settled, settled, settled_now}
use Rattle.fs_serial.specs.Sight.{Counts, Sight, sight_with}

-- the client, the questions that are on their way to the server, and the answers on their way back
pub record Ends : Type 0 where
  pub client : Client
  pub up : List ClientMsg
  pub down : List Answer

-- the client as it will be
abbrev pub settled_at : Session → Ends → Settled
settled_at x e = settled x e.down (settled_now e.client)

-- how many leases and reaps other servers made, the effects that are decided and not applied yet, the journal, and what
-- each session was told so far, are kept beside
pub record World : Type 0 where
  pub server : Server
  pub counts : Counts
  pub decided : List Decided
  pub journal : List Item
  pub replied : Session → List Item
  pub ends : Session → Ends

-- what stands there, as far as sessions rely on it
abbrev pub sight_in : World → Sight
sight_in w = sight_with w.counts w.decided w.server w.journal

-- each session is new
abbrev pub first_ends : ℕ → Session → Ends
first_ends term x = record { client = first_client x term; up = []; down = [] }

-- ## Answers on their way

abbrev pub with_answer : Session → Answer → (Session → Ends) → Session → Ends
with_answer to a ends x = if to.0 == x.0 then record (ends x) { down = (ends x).down ++ a ∷ [] } else ends x

-- one message after another
abbrev pub with_sent : List (Peer × Msg) → (Session → Ends) → Session → Ends
with_sent [] ends = ends
with_sent ((OfSession to, msg.Answer a) ∷ rest) ends = with_sent rest (with_answer to a ends)
with_sent (m ∷ rest) ends = with_sent rest ends

-- the session's question is taken
abbrev pub without_question : Session → (Session → Ends) → Session → Ends
without_question by ends x = if by.0 == x.0 then record (ends x) { up = [] } else ends x

-- ## Together

-- a lease has the number
pub record HasNumber (leases : List Lease) (wanted : LeaseNo) : Type 0 where
  pub lease : Lease
  pub held : In lease leases
  pub number : lease.no ≡ wanted

-- what goes back and what is renewed, while the server takes its steps: these clients are those that will be
pub record AllCarried (skew greatest : ℕ) (s : Sight) (ends : Session → Ends) (clients : Session → Settled) : Type 0 where
  pub returns : (x : Session) → ReturnsFit s.given s.rows x (ends x).client.view.leases (clients x).leases
  pub renewals : (x : Session) → RenewalsBacked skew greatest s.rows (ends x).down (settled_now (ends x).client).leases
  pub later : (x : Session) (l : Lease) → In l (settled_now (ends x).client).leases → HasNumber (clients x).leases l.no

-- all that holds while the server takes its steps
pub record GoesOn (skew greatest : ℕ) (s : Sight) (replied : Session → List Item)
    (ends : Session → Ends) (clients : Session → Settled) : Type 0 where
  pub all : AllHold skew greatest s replied clients
  pub carried : AllCarried skew greatest s ends clients

-- all that holds between events, where no reading was greater
pub record WorldHolds (greatest : ℕ) (w : World) : Type 0 where
  pub all : AllHold w.server.skew greatest (sight_in w) w.replied (λ x. settled_at x (w.ends x))
  pub clock : w.server.last ≤ greatest
  pub clients : (x : Session) → ClientFits x (w.ends x).client
  pub exchanges : (x : Session)
      → ExchangeFits w.server.skew greatest (sight_in w).given w.server.rows x
      (w.ends x).client (w.ends x).up (w.ends x).down (settled_now (w.ends x).client) (settled_at x (w.ends x))

-- ## The server's events

-- the question that the event is about is no longer on its way
abbrev pub without_taken : ServerEvent → (Session → Ends) → Session → Ends
without_taken (FromClient by m) ends = without_question by ends
without_taken e ends = ends

-- it is on its way before; what goes from server to server is no matter of one that has all
abbrev pub IsThere : ServerEvent → (Session → Ends) → Type 0
IsThere (FromClient by m) ends = In m (ends by).up
IsThere (FromPeer from m) ends = ⊥
IsThere (Move prefix to) ends = ⊥
IsThere e ends = Unit {0}

-- it is no question to lead an operation
abbrev pub IsOther : ServerEvent → Type 0
IsOther (FromClient by (Lead m)) = ⊥
IsOther e = Unit {0}

-- the world after an event, once the clock was set
abbrev pub after_begun : ServerEvent → World → World
after_begun e w = record {
  server = (event_step e w.server).server;
  counts = w.counts;
  decided = w.decided;
  journal = w.journal ++ (event_step e w.server).out.admitted;
  replied = w.replied;
  ends = with_sent (event_step e w.server).out.send (without_taken e w.ends);
}

-- ## A client's events

-- with one more at the end, where there is one
abbrev pub pushed : {X : Type 0} → Option X → List X → List X
pushed None xs = xs
pushed (Some x) xs = xs ++ x ∷ []

-- what the session's caller is told of, as the journal would have it: an entry that joins the log, or what was admitted at once
abbrev pub told_by : Session → Change → Option Item → Option Item
told_by by (change.Reply entry effects) admitted = Some (item_of by entry)
told_by by ch admitted = admitted

abbrev pub with_told : Session → Option Item → (Session → List Item) → Session → List Item
with_told by told replied x = if by.0 == x.0 then pushed told (replied x) else replied x

abbrev pub with_ends : Session → Ends → (Session → Ends) → Session → Ends
with_ends by e ends x = if by.0 == x.0 then e else ends x

abbrev pub message_in : Option (ℕ × ClientMsg) → Option ClientMsg
message_in sent = option_map (λ (m : ℕ × ClientMsg). m.1) sent

-- the world after what the client made of an event; these answers are still on their way to it
abbrev pub after_plan : {N : Type 0} → Session → List Answer → Plan N → World → World
after_plan by rest p w = record {
  server = w.server;
  counts = w.counts;
  decided = w.decided;
  journal = pushed p.out.admitted w.journal;
  replied = with_told by (told_by by p.ready.change p.out.admitted) w.replied;
  ends = with_ends by
      (record { client = committed p.ready (w.ends by).client; up = pushed (message_in p.out.send) (w.ends by).up; down = rest })
      w.ends;
}

pub data ClientEvent : Type 0 where
  -- the session's caller asks for an operation
  Does : (o : Op) → ClientEvent
  Turns : ClientEvent
  -- the first answer on its way comes from that server, and these come behind it
  Hears : (from : ℕ) → (answer : Answer) → (rest : List Answer) → ClientEvent

abbrev pub after_client : Session → ℕ → ClientEvent → World → World
after_client by now (Does o) w = after_plan by (w.ends by).down (act_plan (w.ends by).client now o) w
after_client by now Turns w = after_plan by (w.ends by).down (turn_plan (w.ends by).client now) w
after_client by now (Hears from a rest) w = after_plan by rest (answer_plan (w.ends by).client now from a) w

-- a caller may ask for it
abbrev pub is_called : Op → Bool
is_called o = may_ask o

-- the event can come; an answer comes from the server of the question
abbrev pub CanCome : Session → ClientEvent → (Session → Ends) → Type 0
CanCome by (Does o) ends = is_called o ≡ true
CanCome by Turns ends = Unit {0}
CanCome by (Hears from a rest) ends =
    ((ends by).down ≡ a ∷ rest) × (is_recall a ≡ false → asked_server (ends by).client.exchange ≡ Some from)
