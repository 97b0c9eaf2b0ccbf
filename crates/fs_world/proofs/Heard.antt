-- What a server hears is the first message that is on its way to it.
use Rattle.std.proofs.Common.{◌≡◌, ℕ, List, ◌∷◌, Option, Some, None, refl, ap}
use Rattle.std.specs.List.{find}
use Rattle.fs_ident.specs.declared.actor.Peer.TheVariants.{Server, Client}
use Rattle.fs_ident.specs.declared.actor.Session.{Session}
use Rattle.fs_frag.specs.declared.joined.Joined.{Joined}
use Rattle.fs_msg.specs.Ranges.{FitsMessage}
use Rattle.fs_msg.specs.declared.client_msg.ClientMsg.{ClientMsg}
use Rattle.fs_msg.specs.declared.msg.Msg.{Msg}
use Rattle.fs_msg.specs.declared.msg.Msg.TheVariants as msg
use Rattle.fs_actor.specs.Hearing.{event_heard, event_of}
use Rattle.fs_actor.proofs.AsSent.{sent_read}
use Rattle.fs_serial.specs.Cluster.{is_between, is_with}
use Rattle.fs_serial.specs.declared.in_flight.InFlight.{InFlight}
use Rattle.fs_server.specs.declared.event.ServerEvent.TheVariants.{FromClient, FromPeer}
use Rattle.fs_world.specs.Carried.{AreFirstOf, flying_between, ups_of}
use Rattle.fs_world.specs.declared.servers.session_state.SessionState.{SessionState}
use Rattle.fs_world.proofs.LinkedLists.{found_joined}

-- a question of the session
pub first_question : (k : ℕ) (s : Session) (state : SessionState) (j : Joined) (js : List Joined)
    → AreFirstOf (j ∷ js) (ups_of k (Some state))
    → (m : ℕ × ClientMsg) × (find (is_with k) state.up ≡ Some m) × (event_heard (Client s) (j ∷ js) ≡ Some
    (FromClient s m.1)) × FitsMessage (msg.Client m.1)
first_question k s state j js f = at (find (is_with k) state.up) refl
  where
    as_sent : ℕ × ClientMsg → Msg
    as_sent m = msg.Client m.1

    at : (o : Option (ℕ × ClientMsg)) → find (is_with k) state.up ≡ o
        → (m : ℕ × ClientMsg) × (find (is_with k) state.up ≡ Some m) × (event_heard (Client s) (j ∷ js) ≡ Some
        (FromClient s m.1)) × FitsMessage (msg.Client m.1)
    at None e = absurd (found_joined as_sent (is_with k) state.up (j ∷ js) None e f)
    at (Some m) e =
        let here = found_joined as_sent (is_with k) state.up (j ∷ js) (Some m) e f in
        (m, e, ap (event_of (Client s)) (sent_read j (msg.Client m.1) here.0.0 here.0.1), here.0.1)

-- a message of another server
pub first_flying : (k i : ℕ) (in_flight : List InFlight) (j : Joined) (js : List Joined)
    → AreFirstOf (j ∷ js) (flying_between i k in_flight)
    → (f : InFlight) × (find (is_between i k) in_flight ≡ Some f) × (event_heard (Server i) (j ∷ js) ≡ Some (FromPeer i f.message))
first_flying k i in_flight j js f = at (find (is_between i k) in_flight) refl
  where
    as_sent : InFlight → Msg
    as_sent x = msg.Peer x.message

    at : (o : Option InFlight) → find (is_between i k) in_flight ≡ o
        → (x : InFlight) × (find (is_between i k) in_flight ≡ Some x) × (event_heard (Server i) (j ∷ js) ≡ Some (FromPeer i x.message))
    at None e = absurd (found_joined as_sent (is_between i k) in_flight (j ∷ js) None e f)
    at (Some x) e =
        let here = found_joined as_sent (is_between i k) in_flight (j ∷ js) (Some x) e f in
        (x, e, ap (event_of (Server i)) (sent_read j (msg.Peer x.message) here.0.0 here.0.1))
