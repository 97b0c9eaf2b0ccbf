-- Every event of a world of the servers form keeps what holds of it.
use Rattle.std.proofs.Common.{◌≡◌, ℕ, ◌≤◌, ◌<◌, max, Bool, true, false, List, [], length, refl, sym, subst, arith}
use Rattle.std.proofs.lemmas.Bool.Decides.{nat_tests}
use Rattle.std.specs.Prelude.{Option, Some, None, nat_lt, slice_get}
use Rattle.std.specs.FinMap.{get}
use Rattle.fs_ident.specs.declared.actor.Peer.{Peer}
use Rattle.fs_ident.specs.declared.actor.Peer.TheVariants.{Server, Client}
use Rattle.fs_ident.proofs.Booleans.{both}
use Rattle.fs_ident.proofs.Standing.{In-got}
use Rattle.fs_window.specs.Post.{Links, post_accepted}
use Rattle.fs_window.specs.Reading.{packet_at}
use Rattle.fs_window.specs.declared.packet.Packet.{Packet}
use Rattle.fs_window.specs.declared.sent.Sent.{Sent}
use Rattle.fs_field.specs.declared.field.Field.{Field}
use Rattle.fs_msg.specs.declared.note.Note.TheVariants as note
use Rattle.fs_schedule.specs.declared.event.Head.TheVariants.{Servers}
use Rattle.fs_schedule.specs.declared.event.What.{What}
use Rattle.fs_schedule.specs.declared.event.What.TheVariants.{Join, Do, Tell, Turn, Recall, Move}
use Rattle.fs_server.specs.declared.event.ServerEvent.{ServerEvent}
use Rattle.fs_server.specs.declared.event.ServerEvent.TheVariants.{Turn as TheTurn, Recall as TheRecall, Move as TheMove}
use Rattle.fs_server.specs.declared.state.Server.{Server as Core}
use Rattle.fs_actor.specs.Hearing.{heard_in}
use Rattle.fs_serial.specs.Cluster.{IsThere, without_question}
use Rattle.fs_serial.specs.declared.in_flight.InFlight.{InFlight}
use Rattle.fs_serial.proofs.Lists.SetAt.{set_same}
use Rattle.fs_world.specs.Carried.{Carries, GivesFirst, AreFirstOf, between, joined_at, post_of}
use Rattle.fs_world.specs.Order.{Tale, after}
use Rattle.fs_world.specs.Packets.{first_undelivered}
use Rattle.fs_world.specs.Parts.{lines_of}
use Rattle.fs_world.specs.Served.{SessionStates, ServerStepped, Stepped, arrives, at_server, comes, flying_without_each}
use Rattle.fs_world.specs.Served.{sessions_without_each, server_step_at, server_receive_packet, server_receive_packet_at, step_of, tell_at}
use Rattle.fs_world.specs.Served.{with_server, without_joined}
use Rattle.fs_world.specs.World.{may_happen}
use Rattle.fs_world.specs.declared.servers.world.Served.{Served}
use Rattle.fs_world.proofs.SeenRows.{IsAsked}
use Rattle.fs_world.specs.Linked.{HasJoined}
use Rattle.fs_world.proofs.SerialLaws.{EventLaws}
use Rattle.fs_world.proofs.ServedEach.{all_hold, parts_at}
use Rattle.fs_world.proofs.ServedHolds.{Holds, cluster_of}
use Rattle.fs_world.proofs.ServerEach.{heard_is, taking_all}
use Rattle.fs_world.proofs.ServerHolds.{after_core, server_holds}
use Rattle.fs_world.proofs.ServerNext.{events_in, flying_alike, sessions_alike}
use Rattle.fs_world.proofs.ClientTelling.{quiet_note}
use Rattle.fs_world.proofs.SessionSteps.{HoldsOf, Then, do_holds, join_holds, parts_of, still, told_holds, turn_holds, untold}

-- what the test says
pub is_less : (a b : ℕ) → nat_lt a b ≡ true → a < b
is_less a b e = grind (arith, nat_tests, e)

module _ (laws : EventLaws) (count skew greatest : ℕ) (tale : Tale) (w : Served) (h : HoldsOf laws count skew greatest tale w) (now : ℕ)
    (within : laws.Within skew greatest now) (some : 1 ≤ count) where
  abbrev Is : Served → Type 0
  Is v = Then laws count skew greatest tale w h now within some [] tale.leads v

  abbrev same : Is w
  same = still laws count skew greatest tale w h now within some

  abbrev quietly : (v : Served) → HoldsOf laws count skew (max greatest now) tale v → Is v
  quietly v x = untold laws count skew greatest tale w h now within some v x

  -- ## At a server that there is

  module _ (k : ℕ) (c : Core) (post : Links) (at : slice_get w.servers k ≡ Some c) where
    server_receives : (from : Peer) (p : Packet) → AreFirstOf (post_accepted post from p).heard.joined (between w from (Server k))
        → Is (with_server k (server_receive_packet now k from p (at_server c post w)) w).world
    server_receives from p f =
        let a = post_accepted post from p in
        let js = a.heard.joined in
        let x : ServerStepped = record (at_server c post w) { post = a.links } in
        let es = events_in w k from js f in
        let start : Holds laws count skew greatest tale (parts_at (parts_of w) k x) =
        subst (λ (servers : List Core). Holds laws count skew greatest tale (record (parts_of w) { servers = servers }))
        (sym (set_same w.servers k c at)) h in
        let then = all_hold es.0 laws count skew greatest tale (parts_of w) x k c at start now within from es.2 in
        let all : Holds laws count skew (max greatest now) tale
        (parts_at (parts_of w) k (taking_all k now es.0 (without_joined k from js x))) =
        subst (λ (m : SessionStates). Holds laws count skew (max greatest now) tale
        (parts_at (parts_of w) k (taking_all k now es.0 (record x {
          sessions = m;
          in_flight =
              flying_without_each k from js w.in_flight;
        })))) (sym (sessions_alike k from js es.0 w.sessions es.1))
        (subst (λ (fs : List InFlight). Holds laws count skew (max greatest now) tale
        (parts_at (parts_of w) k (taking_all k now es.0 (record x {
          sessions =
              sessions_without_each k from es.0 w.sessions;
          in_flight = fs;
        })))) (sym (flying_alike k from js es.0 w.in_flight es.1)) then) in
        subst (λ (y : ServerStepped). Is (with_server k y w).world)
        (sym (heard_is k now from (heard_in from p) a.heard es.0 (without_joined k from js x) es.1))
        (quietly (with_server k (taking_all k now es.0 (without_joined k from js x)) w).world all)

    -- what no message brings
    own_step : (turn : Bool) (e : ServerEvent) → lines_of w.term w.sessions ≡ without_question k e (lines_of w.term w.sessions)
        → IsThere k e (cluster_of h.replied (parts_of w)) → IsAsked (HasJoined w.sessions) e
        → Holds laws count skew (max greatest now) tale (after_core laws count skew greatest tale (parts_of w) h now k c at e w.sessions)
    own_step turn e taken there asker =
        server_holds laws count skew greatest tale (parts_of w) h now k c at within e w.sessions taken (λ x i. i) there asker

  -- ## At any server

  abbrev After : What → Stepped → Type 0
  After what x = HoldsOf laws count skew (max greatest now) (after what x.outcome tale) x.world

  receive_packet_at_server : (number : Option ℕ) (k : ℕ) (from : Peer) (p : Packet) (c : Option Core) (post : Option Links)
      → slice_get w.servers k ≡ c → AreFirstOf (joined_at post from p) (between w from (Server k))
      → After (Tell number) (server_receive_packet_at c post now k from p w)
  receive_packet_at_server number k from p (Some c) (Some post) at f = server_receives k c post at from p f
  receive_packet_at_server number k from p (Some c) None at f = same
  receive_packet_at_server number k from p None (Some post) at f = same
  receive_packet_at_server number k from p None None at f = same

  turn_at_server : (k : ℕ) (c : Option Core) (post : Option Links) → slice_get w.servers k ≡ c
      → Is (server_step_at c post k true now TheTurn w).world
  turn_at_server k (Some c) (Some post) at =
      quietly (server_step_at (Some c) (Some post) k true now TheTurn w).world (own_step k c post at true TheTurn refl tt tt)
  turn_at_server k (Some c) None at = same
  turn_at_server k None (Some post) at = same
  turn_at_server k None None at = same

  recall_at_server : (k : ℕ) (field : Field) (c : Option Core) (post : Option Links) → slice_get w.servers k ≡ c
      → Is (server_step_at c post k false now (TheRecall field) w).world
  recall_at_server k field (Some c) (Some post) at = quietly (server_step_at (Some c) (Some post) k false now (TheRecall field) w).world
      (own_step k c post at false (TheRecall field) refl tt tt)
  recall_at_server k field (Some c) None at = same
  recall_at_server k field None (Some post) at = same
  recall_at_server k field None None at = same

  move_at_server : (k : ℕ) (prefix : List ℕ) (to : ℕ) (c : Option Core) (post : Option Links) → slice_get w.servers k ≡ c
      → to < length w.servers → Is (server_step_at c post k false now (TheMove prefix to) w).world
  move_at_server k prefix to (Some c) (Some post) at few =
      quietly (server_step_at (Some c) (Some post) k false now (TheMove prefix to) w).world
      (own_step k c post at false (TheMove prefix to) refl few tt)
  move_at_server k prefix to (Some c) None at few = same
  move_at_server k prefix to None (Some post) at few = same
  move_at_server k prefix to None None at few = same

  -- ## A packet is told

  comes_then : (number : Option ℕ) (from to : Peer) (p : Packet) → AreFirstOf (joined_at (post_of w to) from p) (between w from to)
      → After (Tell number) (comes now from to p w)
  comes_then number (Client s) (Server k) p f =
      receive_packet_at_server number k (Client s) p (slice_get w.servers k) (slice_get w.posts k) refl f
  comes_then number (Server j) (Server k) p f =
      receive_packet_at_server number k (Server j) p (slice_get w.servers k) (slice_get w.posts k) refl f
  comes_then number (Server j) (Client s) p f =
      told_holds laws count skew greatest tale w h now within some s j p (get w.sessions s.0) refl f
  comes_then number (Client r) (Client s) p f = same

  arrives_then : (number : Option ℕ) (from to : Peer) (p : Option Packet) → GivesFirst w from to p
      → After (Tell number) (arrives now from to p w)
  arrives_then number from (Server k) None f = same
  arrives_then number from (Client s) None f = subst (λ ts. Then laws count skew greatest tale w h now within some ts tale.leads w)
      (sym (quiet_note s (tale.leads s) note.Strange refl)) same
  arrives_then number from to (Some p) f = comes_then number from to p f

  -- that it counts as told is of no matter
  tell_then : (number : Option ℕ) → Carries w → (o : Option Sent) (k : ℕ) → slice_get w.packets.sent k ≡ o
      → After (Tell number) (tell_at o now k w)
  tell_then number carry None k at = same
  tell_then number carry (Some x) k at = arrives_then number x.from x.to (packet_at x.bytes) (carry x (In-got w.packets.sent k x at))

  -- ## Each event

  pub to_there : (to : ℕ) → nat_lt to count ≡ true → to < length w.servers
  to_there to e = subst (λ (n : ℕ). to < n) (sym h.many) (is_less to count e)

  pub step_holds : Carries w → (term : ℕ) (what : What) → may_happen (Servers count skew term) what ≡ true → After what (step_of w now what)
  step_holds carry term (Join s) may = join_holds laws count skew greatest tale w h now within some s (get w.sessions s.0) refl
  step_holds carry term (Do s o) may = do_holds laws count skew greatest tale w h now within some s o (get w.sessions s.0) refl may
  step_holds carry term (Tell None) may =
      tell_then None carry (slice_get w.packets.sent (first_undelivered w.packets.delivered)) (first_undelivered w.packets.delivered) refl
  step_holds carry term (Tell (Some k)) may = tell_then (Some k) carry (slice_get w.packets.sent k) k refl
  step_holds carry term (Turn (Client s)) may = turn_holds laws count skew greatest tale w h now within some s (get w.sessions s.0) refl
  step_holds carry term (Turn (Server k)) may = turn_at_server k (slice_get w.servers k) (slice_get w.posts k) refl
  step_holds carry term (Recall k field) may = recall_at_server k field (slice_get w.servers k) (slice_get w.posts k) refl
  step_holds carry term (Move k prefix to) may = move_at_server k prefix to (slice_get w.servers k) (slice_get w.posts k) refl
      (to_there to (both (nat_lt k count) (nat_lt to count) may).1)
