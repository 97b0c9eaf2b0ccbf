-- What the messages bring that a server hears, and what it sends at all of them.
use Rattle.std.proofs.Common.{◌≡◌, ◌==◌, ℕ, ◌<◌, true, List, [], ◌∷◌, sym, subst}
use Rattle.std.specs.FinMap.{get}
use Rattle.std.proofs.lemmas.Bool.{eqb-true}
use Rattle.std.specs.Prelude.{Option, Some, None}
use Rattle.fs_ident.specs.In.{In}
use Rattle.fs_ident.specs.declared.actor.Peer.{Peer}
use Rattle.fs_ident.specs.declared.actor.Peer.TheVariants.{Server, Client}
use Rattle.fs_ident.specs.declared.actor.Session.{Session}
use Rattle.fs_ident.proofs.Booleans.{first, second}
use Rattle.fs_ident.proofs.Passing.{found}
use Rattle.fs_serial.specs.Cluster.{is_between}
use Rattle.fs_serial.specs.declared.in_flight.InFlight.{InFlight}
use Rattle.fs_serial.proofs.Lists.SetAt.{In_without}
use Rattle.fs_server.specs.Step.{step}
use Rattle.fs_server.specs.declared.event.ServerEvent.{ServerEvent}
use Rattle.fs_server.specs.declared.event.ServerEvent.TheVariants.{FromClient, FromPeer, Turn, Recall, Move}
use Rattle.fs_server.specs.declared.state.Server.{Server as Core}
use Rattle.fs_wire.specs.Readable.{is_readable_session}
use Rattle.fs_world.specs.Linked.{HasJoined, IsCarried, IsServed}
use Rattle.fs_world.specs.Served.{SessionStates, flying_without, sessions_without, sessions_without_each, without_up}
use Rattle.fs_world.specs.declared.servers.session_state.SessionState.{SessionState}
use Rattle.fs_world.proofs.LinkedFirst.{carried_then}
use Rattle.fs_world.proofs.MessagesRead.{message_readable}
use Rattle.fs_world.proofs.NamedServers.{AreSent, IsBrought, IsSent, IsStepped, step_goes}
use Rattle.fs_world.proofs.OpenHandles.{each_both}
use Rattle.fs_world.proofs.Seen.{joined_still}
use Rattle.fs_world.proofs.ServerEach.{server_sends}
use Rattle.fs_world.proofs.ServerNext.{AreNext, IsNext}

-- all of them
abbrev pub AreBrought : ℕ → SessionStates → ℕ → List ServerEvent → Type 0
AreBrought servers sessions k [] = Unit {0}
AreBrought servers sessions k (e ∷ es) = IsBrought servers sessions k e × AreBrought servers sessions k es

one_still : (servers : ℕ) (a b : SessionStates) (k : ℕ) (e : ServerEvent) → ((t : Session) → HasJoined a t → HasJoined b t)
    → IsBrought servers a k e → IsBrought servers b k e
one_still servers a b k (FromClient by m) g h = (g by h.0, h.1)
one_still servers a b k (FromPeer from m) g h = carried_then servers a b (record { from = from; to = k; message = m }) g h
one_still servers a b k Turn g h = h
one_still servers a b k (Recall field) g h = h
one_still servers a b k (Move prefix to) g h = h

pub brought_still : (servers : ℕ) (a b : SessionStates) (k : ℕ) (es : List ServerEvent) → ((t : Session) → HasJoined a t → HasJoined b t)
    → AreBrought servers a k es → AreBrought servers b k es
brought_still servers a b k [] g h = tt
brought_still servers a b k (e ∷ es) g h = (one_still servers a b k e g h.0, brought_still servers a b k es g h.1)

-- ## The next messages on their way

-- the sender, if it is a session, has joined
abbrev pub IsSender : SessionStates → Peer → Type 0
IsSender sessions (Client s) = HasJoined sessions s
IsSender sessions (Server i) = Unit {0}

one_brings : (servers k : ℕ) (from : Peer) (e : ServerEvent) (b sessions : SessionStates) (in_flight : List InFlight) → IsSender b from
    → ((f : InFlight) → In f in_flight → IsCarried servers b f) → IsNext k from e sessions in_flight → IsBrought servers b k e
one_brings servers k (Client s) e b sessions in_flight sender carried h =
    subst (IsBrought servers b k) (sym h.is) (sender, message_readable h.asked.1 h.fits)
one_brings servers k (Server i) e b sessions in_flight sender carried h =
    let f : InFlight = h.flies in
    let there : In f in_flight × (is_between i k f ≡ true) = found (is_between i k) in_flight f h.first in
    let from : f.from ≡ i = eqb-true f.from i (first (f.from == i) (f.to == k) there.1) in
    let to : f.to ≡ k = eqb-true f.to k (second (f.from == i) (f.to == k) there.1) in
    subst (IsBrought servers b k) (sym h.is)
    (subst (λ (j : ℕ). IsCarried servers b (record { from = j; to = k; message = f.message })) from
    (subst (λ (j : ℕ). IsCarried servers b (record { from = f.from; to = j; message = f.message })) to (carried f there.0)))

pub left_flying : (k : ℕ) (from : Peer) (in_flight : List InFlight) (f : InFlight) → In f (flying_without k from in_flight) → In f in_flight
left_flying k (Client s) in_flight f i = i
left_flying k (Server j) in_flight f i = In_without (is_between j k) in_flight f i

pub next_brought : (servers k : ℕ) (from : Peer) (es : List ServerEvent) (b sessions : SessionStates) (in_flight : List InFlight)
    → IsSender b from → ((f : InFlight) → In f in_flight → IsCarried servers b f) → AreNext k from es sessions in_flight
    → AreBrought servers b k es
next_brought servers k from [] b sessions in_flight sender carried h = tt
next_brought servers k from (e ∷ es) b sessions in_flight sender carried h = (
  one_brings servers k from e b sessions in_flight sender carried h.0,
  next_brought servers k from es b (sessions_without k from sessions) (flying_without k from in_flight) sender
      (λ f i. carried f (left_flying k from in_flight f i)) h.1,
)

-- whoever has joined has, without messages on their way
one_joined : (k : ℕ) (from : Peer) (sessions : SessionStates) (t : Session) → HasJoined sessions t
    → HasJoined (sessions_without k from sessions) t
one_joined k (Server j) sessions t h = h
one_joined k (Client s) sessions t h = go (get sessions s.0)
  where
    go : (o : Option SessionState) → HasJoined (without_up k o s.0 sessions) t
    go None = h
    go (Some state) = joined_still sessions s t _ h

pub still_joined : {Y : Type 0} (k : ℕ) (from : Peer) (ys : List Y) (sessions : SessionStates) (t : Session) → HasJoined sessions t
    → HasJoined (sessions_without_each k from ys sessions) t
still_joined k from [] sessions t h = h
still_joined k from (y ∷ ys) sessions t h = still_joined k from ys (sessions_without k from sessions) t (one_joined k from sessions t h)

-- ## What is sent at all of them

pub all_sent : (servers : ℕ) (sessions : SessionStates) (k : ℕ) → k < servers
    → ((s : Session) → HasJoined sessions s → is_readable_session s ≡ true) → (now : ℕ) (es : List ServerEvent) (c : Core)
    → AreBrought servers sessions k es → IsServed servers sessions k c
    → AreSent servers sessions k (server_sends now es c)
all_sent servers sessions k few readable now [] c brought h = tt
all_sent servers sessions k few readable now (e ∷ es) c brought h =
    let one : IsStepped servers sessions k (step c now e) = step_goes servers sessions k few readable c now e brought.0 h in
    each_both (IsSent servers sessions k) (step c now e).out.send (server_sends now es (step c now e).server) one.sends
    (all_sent servers sessions k few readable now es (step c now e).server brought.1 one.server)
