-- The laws of servers and their clients on which those of worlds rest.
use Rattle.std.proofs.Common.{◌≡◌, ℕ, ◌+◌, ◌≤◌, true, max, List, Some, sym, subst, arith}
use Rattle.std.specs.Prelude.{◌≢◌, slice_get}
use Rattle.fs_ident.specs.In.{In}
use Rattle.fs_ident.specs.declared.actor.Session.{Session}
use Rattle.fs_ident.proofs.Standing.{In-front, In-got}
use Rattle.fs_model.specs.Sound.{AsksAccess}
use Rattle.fs_model.specs.declared.op.Op.{Op}
use Rattle.fs_model.specs.declared.op.Op.TheVariants as op
use Rattle.fs_model.specs.declared.reply.Reply.{Reply}
use Rattle.fs_msg.specs.declared.answer.Answer.{Answer}
use Rattle.fs_msg.specs.declared.client_msg.ClientMsg.TheVariants.{Ship}
use Rattle.fs_msg.specs.declared.client_note.ClientNote.TheVariants as client_note
use Rattle.fs_msg.specs.declared.entry.Entry.{Entry}
use Rattle.fs_msg.specs.declared.server_note.ServerNote.TheVariants as server_note
use Rattle.fs_client.specs.Answers.{answer_plan}
use Rattle.fs_client.specs.Led.{is_led}
use Rattle.fs_txn.specs.declared.leading.Leading.{Leading}
use Rattle.fs_server.specs.Step.{step}
use Rattle.fs_server.specs.declared.event.ServerEvent.{ServerEvent}
use Rattle.fs_server.specs.declared.event.ServerEvent.TheVariants.{FromClient}
use Rattle.fs_server.specs.declared.state.Server.{Server}
use Rattle.fs_serial.specs.Cluster.{CanCome, ClientEvent, Cluster, IsThere, after_client, after_server, after_step, first_cluster}
use Rattle.fs_serial.specs.Cluster.ClientEvent.{Hears}
use Rattle.fs_serial.specs.EndedLeases.{EndsFair, IsFairAbort}
use Rattle.fs_serial.specs.Exchange.{LeadsTold, OneExchange}
use Rattle.fs_serial.specs.Refusals.{IsFairStep}
use Rattle.fs_serial.specs.Leading.{IsLeading, IsLedBy, LedHolds}
use Rattle.fs_serial.specs.Owed.{ends_in}
use Rattle.fs_serial.specs.Seen.{ClusterHolds, IsAddressed}
use Rattle.fs_serial.specs.Whole.{ClusterStands}
use Rattle.fs_serial.proofs.Transactions.YesesStand.{session_stands}

pub record SerialLaws : Type 0 where
  -- every event of a server keeps all that holds, and the greatest reading may rise
  pub event : (skew greatest now k : ℕ) (e : ServerEvent) (s : Server) (c : Cluster) → slice_get c.servers k ≡ Some s
      → max s.last now ≤ greatest → IsThere k e c → ClusterStands skew greatest c → ClusterStands skew greatest (after_server now k e c)
  pub rises : (skew greatest later : ℕ) (c : Cluster) → greatest ≤ later → ClusterStands skew greatest c → ClusterStands skew later c
  -- so does every event of a client
  pub client : (skew greatest now : ℕ) (c : Cluster) (by : Session) → ClusterStands skew greatest c → (e : ClientEvent) → CanCome by e c
      → greatest ≤ now + skew → ClusterStands skew greatest (after_client by now e c)
  -- nothing that comes is strange
  pub server_plain : (skew greatest now k : ℕ) (e : ServerEvent) (s : Server) (c : Cluster) → slice_get c.servers k ≡ Some s
      → max s.last now ≤ greatest → IsThere k e c → ClusterStands skew greatest c → (step s now e).out.note ≢ server_note.Strange
  pub client_plain : (skew greatest now from : ℕ) (a : Answer) (by : Session) (c : Cluster) → CanCome by (Hears from a) c
      → ClusterHolds skew greatest c → (answer_plan (c.lines by).client now from a).out.note ≢ client_note.Strange
  -- all of it holds at the start
  pub first : (servers skew term greatest : ℕ) → 1 ≤ servers → ClusterStands skew greatest (first_cluster servers skew term)
  -- refusals are fair
  pub fair : (skew greatest now k : ℕ) (by : Session) (entries : List Entry) (s : Server) (c : Cluster) → slice_get c.servers k ≡ Some s
      → greatest ≤ now + skew → IsThere k (FromClient by (Ship entries)) c → ClusterHolds skew greatest c
      → IsFairStep now k by entries s c
  -- what is told of leases that had ended is right, and so is what a server notes of them
  pub fair_event : (skew greatest now k : ℕ) (e : ServerEvent) (s : Server) (c : Cluster) → slice_get c.servers k ≡ Some s
      → max s.last now ≤ greatest
      → greatest ≤ now + skew → IsThere k e c → ClusterHolds skew greatest c → EndsFair c → EndsFair (after_server now k e c)
  pub fair_note : (skew greatest now k : ℕ) (e : ServerEvent) (s : Server) (c : Cluster) → slice_get c.servers k ≡ Some s
      → max s.last now ≤ greatest
      → greatest ≤ now + skew → IsThere k e c → ClusterHolds skew greatest c → EndsFair c
      → IsFairAbort c e (after_step k e (step s now e) c) (step s now e).out.note
  pub fair_client : (skew greatest now : ℕ) (c : Cluster) (by : Session) → ClusterHolds skew greatest c → EndsFair c
      → (e : ClientEvent) → CanCome by e c → EndsFair (after_client by now e c)
  pub fair_first : (servers skew term : ℕ) → EndsFair (first_cluster servers skew term)

-- ## What events keep

-- one question is on its way or its answer, with the server's number, and what a server is asked to lead is led
pub record AsksOne (c : Cluster) (x : Session) : Type 0 where
  pub one : OneExchange (c.lines x).client (c.lines x).client.exchange (ends_in c x).up (ends_in c x).down
  pub leads : LeadsTold (ends_in c x).up (c.lines x).client.led
  pub addressed : IsAddressed (c.lines x)

-- in some sense of what holds of a cluster where no reading was greater, and of when an event with a reading comes in time
pub record EventLaws : Type 1 where
  pub Holds : ℕ → ℕ → Cluster → Type 0
  pub Within : ℕ → ℕ → ℕ → Type 0
  pub event : (skew greatest now k : ℕ) (e : ServerEvent) (s : Server) (c : Cluster) → slice_get c.servers k ≡ Some s
      → max s.last now ≤ greatest → Within skew greatest now → IsThere k e c → Holds skew greatest c
      → Holds skew greatest (after_server now k e c)
  pub rises : (skew greatest later : ℕ) (c : Cluster) → greatest ≤ later → Holds skew greatest c → Holds skew later c
  -- then it comes in time again with the same reading
  pub again : (skew greatest now : ℕ) → Within skew greatest now → Within skew (max greatest now) now
  pub client : (skew greatest now : ℕ) (c : Cluster) (by : Session) → Holds skew greatest c → (e : ClientEvent) → CanCome by e c
      → Within skew greatest now → Holds skew greatest (after_client by now e c)
  pub first : (servers skew term greatest : ℕ) → 1 ≤ servers → Holds skew greatest (first_cluster servers skew term)
  -- no server's reading was greater, a session hands in what asks for an access where it opens, and its client is its own
  pub clock : (skew greatest : ℕ) (s : Server) (c : Cluster) → In s c.servers → Holds skew greatest c → s.last ≤ greatest
  pub asks : (skew greatest : ℕ) (s : Server) (c : Cluster) (by : Session) (entries : List Entry) → In s c.servers
      → In (Ship entries) (ends_in c by).up → Holds skew greatest c → (e : Entry) → In e entries → AsksAccess e.op
  pub owned : (skew greatest : ℕ) (s : Server) (c : Cluster) (x : Session) → In s c.servers → Holds skew greatest c
      → (c.lines x).client.session ≡ x
  -- and asks one question at a time
  pub exchanges : (skew greatest : ℕ) (s : Server) (c : Cluster) (x : Session) → In s c.servers → Holds skew greatest c → AsksOne c x
  -- what a server leads asks for an access where it opens
  pub leaders : (skew greatest k : ℕ) (s : Server) (c : Cluster) → slice_get c.servers k ≡ Some s → Holds skew greatest c
      → (l : Leading) → In l s.leading → AsksAccess l.leader.op
  -- what servers lead is of sessions that wait for it
  pub led : (skew greatest : ℕ) (c : Cluster) → Holds skew greatest c → LedHolds c

-- of all parts
pub all_clock : (skew greatest : ℕ) (s : Server) (c : Cluster) → In s c.servers → ClusterHolds skew greatest c → s.last ≤ greatest
all_clock skew greatest s c i h = (h.parts s i).0.clock

pub all_asks : (skew greatest : ℕ) (s : Server) (c : Cluster) (by : Session) (entries : List Entry) → In s c.servers
    → In (Ship entries) (ends_in c by).up → ClusterHolds skew greatest c → (e : Entry) → In e entries → AsksAccess e.op
all_asks skew greatest s c by entries i there h e j =
    let parts = (h.parts s i).0 in
    let front = (parts.exchanges by).front entries there in
    ((parts.all.fitting by).entries e (subst (λ es. In e es) (sym front.log) (In-front e entries front.rest j))).access

pub all_owned : (skew greatest : ℕ) (s : Server) (c : Cluster) (x : Session) → In s c.servers → ClusterHolds skew greatest c
    → (c.lines x).client.session ≡ x
all_owned skew greatest s c x i h = ((h.parts s i).0.clients x).session

pub all_exchanges : (skew greatest : ℕ) (s : Server) (c : Cluster) (x : Session) → In s c.servers → ClusterHolds skew greatest c
    → AsksOne c x
all_exchanges skew greatest s c x i h = let e = (h.parts s i).0.exchanges x in
    record { one = e.one; leads = e.leads; addressed = h.addressed x }

-- what moves or goes opens nothing
moves_ask : (o : Op) (r : Reply) → is_led o r ≡ true → AsksAccess o
moves_ask (op.OpenFile file x modes) r e = absurd (cc e)
moves_ask o r e = tt

pub all_leaders : (skew greatest k : ℕ) (s : Server) (c : Cluster) → slice_get c.servers k ≡ Some s → ClusterHolds skew greatest c
    → (l : Leading) → In l s.leading → AsksAccess l.leader.op
all_leaders skew greatest k s c at h l i =
    let q : IsLeading c.lines s h.led.parts l = h.led.leading s (In-got c.servers k s at) l i in
    let its : IsLedBy c.lines l.leader.session k q.led =
    subst (λ (n : ℕ). IsLedBy c.lines l.leader.session n q.led) (h.places.numbered k s at) q.client in
    subst AsksAccess (sym q.leader.op)
    (moves_ask q.led.entry.op q.led.entry.reply (session_stands k skew greatest c s at h l i q.led its).leads)

-- all of it, and that what is told of leases that had ended is right
pub record TimedHolds (skew greatest : ℕ) (c : Cluster) : Type 0 where
  pub all : ClusterStands skew greatest c
  pub fair : EndsFair c

-- in time is an event where no reading before it is ahead of its own by more than the skew
abbrev pub timed : SerialLaws → EventLaws
timed laws = record {
  Holds = TimedHolds;
  Within = λ skew greatest now. greatest ≤ now + skew;
  again = λ skew greatest now within. omega (arith, within);
  event = λ skew greatest now k e s c at clock within there h. record {
    all = laws.event skew greatest now k e s c at clock there h.all;
    fair = laws.fair_event skew greatest now k e s c at clock within there h.all.holds h.fair;
  };
  rises = λ skew greatest later c rises h. record { all = laws.rises skew greatest later c rises h.all; fair = h.fair };
  client = λ skew greatest now c by h e can within. record {
    all = laws.client skew greatest now c by h.all e can within;
    fair = laws.fair_client skew greatest now c by h.all.holds h.fair e can;
  };
  first = λ servers skew term greatest some. record {
    all = laws.first servers skew term greatest some;
    fair = laws.fair_first servers skew term;
  };
  clock = λ skew greatest s c i h. all_clock skew greatest s c i h.all.holds;
  asks = λ skew greatest s c by entries i there h. all_asks skew greatest s c by entries i there h.all.holds;
  owned = λ skew greatest s c x i h. all_owned skew greatest s c x i h.all.holds;
  exchanges = λ skew greatest s c x i h. all_exchanges skew greatest s c x i h.all.holds;
  leaders = λ skew greatest k s c at h. all_leaders skew greatest k s c at h.all.holds;
  led = λ skew greatest c h. h.all.holds.led;
}
