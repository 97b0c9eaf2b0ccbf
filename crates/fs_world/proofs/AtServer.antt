-- What happened at a server, in the world.
use Rattle.std.proofs.Common.{◌≡◌, ℕ, ◌<◌, Bool, List, length, refl, ap, ap₂, sym, ◌∙◌, subst}
use Rattle.std.specs.Prelude.{Option, Some, None, Result, Ok, Err, IfOk, OnOk, slice_get, slice_set, slice_index_or}
use Rattle.std.proofs.lemmas.Option.{slice_get_read}
use Rattle.fs_ident.specs.declared.actor.Peer.{Peer}
use Rattle.fs_ident.specs.declared.actor.Peer.TheVariants.{Server}
use Rattle.fs_ident.specs.In.{In}
use Rattle.fs_record.specs.Moving.{AreEachRecords}
use Rattle.fs_record.specs.declared.parcel.Parcel.{Parcel}
use Rattle.fs_serial.specs.Cluster.{parcel_in, parcels_of}
use Rattle.fs_actor.specs.Actor.{is_full_down}
use Rattle.fs_server.specs.Step.{spent_by, step}
use Rattle.fs_msg.specs.declared.core_error.CoreError.{CoreError}
use Rattle.fs_msg.specs.declared.item.Item.{Item}
use Rattle.fs_schedule.specs.declared.outcome.Outcome.{Outcome}
use Rattle.fs_serial.specs.declared.in_flight.InFlight.{InFlight}
use Rattle.fs_server.specs.declared.event.ServerEvent.{ServerEvent}
use Rattle.fs_server.specs.declared.state.Server.{Server as Core}
use Rattle.fs_window.specs.Post.{Links, post_accepted}
use Rattle.fs_window.specs.declared.packet.Packet.{Packet}
use Rattle.fs_world.specs.Calls.{server_left, world_left}
use Rattle.fs_world.specs.Linked.{Brings, FitsDown, IsLinked}
use Rattle.fs_world.specs.Packets.{Packets}
use Rattle.fs_world.specs.Planned.{IsAnswered, IsOwn, WasSent}
use Rattle.fs_world.specs.Served.{SessionStates, ServerStepped, Stepped, at_server, core_step, server_step, server_step_at}
use Rattle.fs_world.specs.Served.{server_receive_packet_at, with_server}
use Rattle.fs_world.specs.declared.servers.world.Served.{Served}
use Rattle.fs_world.proofs.AtSession.{linked_after}
use Rattle.fs_world.proofs.Spending.{has_room}
use Rattle.fs_world.proofs.Linked.{server_linked, receive_packet_server_linked}
use Rattle.fs_serial.proofs.Moves.Parcels.{parcel_flies}
use Rattle.fs_world.specs.Linked.{IsParcelOf}
use Rattle.fs_msg.specs.declared.peer_msg.PeerMsg.{PeerMsg}
use Rattle.fs_msg.specs.declared.peer_msg.PeerMsg.TheVariants.{Parcel as OfParcel}

-- what is lent out of a list stands there
pub item_there : {X : Type 0} (xs : List X) (k : ℕ) (x : X) → k < length xs → x ≡ slice_index_or xs k x → slice_get xs k ≡ Some x
item_there xs k x below is = slice_get_read xs (length xs) k x refl below is

abbrev pub served_by : Served → ℕ → Core → Links → SessionStates → List InFlight → List Item → Packets → Served
served_by w k s post sessions in_flight journal packets = record w {
  servers = slice_set w.servers k s;
  posts = slice_set w.posts k post;
  sessions = sessions;
  in_flight = in_flight;
  journal = journal;
  packets = packets;
}

-- what an event leaves at a server, in the world
pub served_at : (r : Result Outcome CoreError) (w : Served) (k : ℕ) (s : Core) (post : Links) (sessions : SessionStates)
    (in_flight : List InFlight) (journal : List Item) (packets : Packets) (x : ServerStepped)
    → IfOk r (λ outcome. server_left outcome s post sessions in_flight journal packets ≡ x)
    → IfOk r (λ outcome. world_left outcome (served_by w k s post sessions in_flight journal packets) ≡ with_server k x w)
served_at (Ok o) w k s post sessions in_flight journal packets x e = ap (λ (y : ServerStepped). with_server k y w) e
served_at (Err o) w k s post sessions in_flight journal packets x e = tt

-- the event of a server that there is
pub step_there : (w : Served) (k : ℕ) (turn : Bool) (now : ℕ) (e : ServerEvent) (s : Core) (post : Links) → slice_get w.servers k ≡ Some s
    → slice_get w.posts k ≡ Some post
    → server_step k turn now e w ≡ with_server k (core_step k turn None now e (at_server s post w)) w
step_there w k turn now e s post there tied = ap₂ (λ (a : Option Core) (b : Option Links). server_step_at a b k turn now e w) there tied

-- ## The links after it

pub own_after : (r : Result Outcome CoreError) (w new : Served) (k : ℕ) (turn : Bool) (now : ℕ) (e : ServerEvent) (s : Core) (post : Links)
    → slice_get w.servers k ≡ Some s → slice_get w.posts k ≡ Some post
    → IsOwn (length w.servers) e → IsLinked w
    → IfOk r (λ outcome. world_left outcome new ≡ server_step k turn now e w) → OnOk r (FitsDown (step s now e).out.send)
    → OnOk r (IsLinked new)
own_after r w new k turn now e s post there tied own h is fits =
    linked_after r new (server_step k turn now e w) (FitsDown (step s now e).out.send)
    (λ fit none.
    let room = sym (ap (λ (y : Stepped). y.spent) (step_there w k turn now e s post there tied)) ∙ none in
    server_linked w k s post turn now e there tied own fit (has_room (spent_by s now e) (is_full_down (step s now e).out.send post) room) h)
    is fits

pub receive_packet_server_at : (w : Served) (k now : ℕ) (from : Peer) (p : Packet) → WasSent from (Server k) (Some p) w.packets.sent
    → ((s : Core) (post : Links) → slice_get w.servers k ≡ Some s → slice_get w.posts k ≡ Some post
    → IsAnswered now from (post_accepted post from p).heard.joined (at_server s (post_accepted post from p).links w))
    → IsLinked w → IsLinked (server_receive_packet_at (slice_get w.servers k) (slice_get w.posts k) now k from p w).world
receive_packet_server_at w k now from p x fits h = go (slice_get w.servers k) (slice_get w.posts k) refl refl
  where
    go : (a : Option Core) (b : Option Links) → slice_get w.servers k ≡ a → slice_get w.posts k ≡ b
        → IsLinked (server_receive_packet_at a b now k from p w).world
    go None b e f = h
    go (Some s) None e f = h
    go (Some s) (Some post) e f = receive_packet_server_linked w k s post now from p e f x (fits s post e f) h

pub receive_packet_after : (r : Result Outcome CoreError) (w new : Served) (k now : ℕ) (from : Peer) (p : Packet)
    → WasSent from (Server k) (Some p) w.packets.sent
    → ((s : Core) (post : Links) → slice_get w.servers k ≡ Some s → slice_get w.posts k ≡ Some post
    → OnOk r (IsAnswered now from (post_accepted post from p).heard.joined (at_server s (post_accepted post from p).links w)))
    → IsLinked w
    → IfOk r (λ outcome. world_left outcome new ≡ server_receive_packet_at (slice_get w.servers k) (slice_get w.posts k) now k from p
    w) → OnOk r (IsLinked new)
receive_packet_after (Ok o) w new k now from p x fits h is =
    subst IsLinked (sym (ap (λ (y : Stepped). y.world) is)) (receive_packet_server_at w k now from p x fits h)
receive_packet_after (Err o) w new k now from p x fits h is = tt

-- ## Parcels on their way

brought : (servers : ℕ) (sessions : SessionStates) (m : PeerMsg) (p : Parcel) → parcel_in m ≡ Some p → Brings servers sessions m
    → IsParcelOf sessions p
brought servers sessions (OfParcel q) p e h = let same : q ≡ p = cc in subst (IsParcelOf sessions) same h
brought servers sessions m p e h = absurd (cc)

pub parcels_apart : (w : Served) → IsLinked w → (parcels : List Parcel) → parcels ≡ parcels_of w.in_flight → (p : Parcel) → In p parcels
    → AreEachRecords p.records
parcels_apart w h parcels is p i =
    let q = parcel_flies p w.in_flight (subst (λ (ps : List Parcel). In p ps) is i) in
    let own : IsParcelOf w.sessions p = brought (length w.servers) w.sessions q.0.message p q.1.1 (h.in_flight q.0 q.1.0).brings in
    own.each
