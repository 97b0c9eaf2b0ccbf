-- Nothing comes over a link that was not sent over it: whatever comes is a packet, and each message was on its way.
use Rattle.std.proofs.Common.{◌≡◌, ℕ, Bool, true, false, List, [], ◌∷◌, Option, Some, None, refl, sym, subst, cond}
use Rattle.std.specs.Prelude.{Result, Ok, Err, IfOk, slice_get, ◌==◌}
use Rattle.std.specs.FinMap.{get}
use Rattle.std.specs.List.{AllByRecursion}
use Rattle.fs_ident.specs.declared.actor.Peer.{Peer}
use Rattle.fs_ident.specs.declared.actor.Peer.TheVariants.{Server, Client}
use Rattle.fs_ident.specs.declared.actor.Session.{Session}
use Rattle.fs_ident.proofs.Standing.{In-got}
use Rattle.fs_actor.specs.Hearing.{heard_in, quiet_note}
use Rattle.fs_model.specs.declared.op.Op.{Op}
use Rattle.fs_window.specs.Post.{Links, post_accepted}
use Rattle.fs_window.specs.Reading.{packet_at}
use Rattle.fs_window.specs.declared.heard.Heard.{Heard}
use Rattle.fs_window.specs.declared.packet.Packet.{Packet}
use Rattle.fs_window.specs.declared.sent.Sent.{Sent}
use Rattle.fs_msg.specs.declared.answer.Answer.{Answer}
use Rattle.fs_msg.specs.declared.core_error.CoreError.{CoreError}
use Rattle.fs_msg.specs.declared.item.Item.{Item}
use Rattle.fs_msg.specs.declared.note.Note.{Note}
use Rattle.fs_msg.specs.declared.note.Note.TheVariants as note
use Rattle.fs_client.specs.Answers.{answer_plan}
use Rattle.fs_client.specs.Client.{committed}
use Rattle.fs_client.specs.declared.state.Client.{Client as ClientCore}
use Rattle.fs_schedule.specs.declared.event.Event.{Event}
use Rattle.fs_schedule.specs.declared.event.What.{What}
use Rattle.fs_schedule.specs.declared.event.What.TheVariants.{Join, Do, Tell, Turn, Recall, Move}
use Rattle.fs_schedule.specs.declared.outcome.Outcome.{Outcome}
use Rattle.fs_server.specs.Step.{step as core_step}
use Rattle.fs_server.specs.declared.event.ServerEvent.{ServerEvent}
use Rattle.fs_server.specs.declared.event.ServerEvent.TheVariants.{Turn as TheTurn, Recall as TheRecall, Move as TheMove}
use Rattle.fs_server.specs.declared.state.Server.{Server as Core}
use Rattle.fs_world.specs.Direct as direct
use Rattle.fs_world.specs.Carried.{Carries, GivesFirst, AreFirstOf, LinksCarry, between, downs_of, joined_at, post_of, state_post}
use Rattle.fs_world.specs.Packets.{Packets, first_undelivered}
use Rattle.fs_world.specs.Refusals.{HasNone, is_link_strange}
use Rattle.fs_world.specs.Served as served
use Rattle.fs_world.specs.Calls.{client_hears, server_heard}
use Rattle.fs_world.specs.Served.{SessionStepped, ServerStepped, arrives, at_server, comes, do_at, join_at, server_step_at}
use Rattle.fs_world.specs.Served.{server_receive_packet_at, tell, tell_at, client_receive_packet_at, turn_at, without_joined}
use Rattle.fs_world.specs.World.{step}
use Rattle.fs_world.specs.declared.direct.world.Direct.{Direct as TheDirect}
use Rattle.fs_world.specs.declared.form.Form.{Form}
use Rattle.fs_world.specs.declared.form.Form.TheVariants.{Direct, Served}
use Rattle.fs_world.specs.declared.servers.session_state.SessionState.{SessionState}
use Rattle.fs_world.specs.declared.servers.world.Served.{Served as TheServed}
use Rattle.fs_world.proofs.HeardEach.{answers_in, heard_is, heard_notes, notes_all}
use Rattle.fs_world.proofs.ServerEach.{heard_is as server_heard_is, heard_notes as noted_there, server_notes}
use Rattle.fs_world.proofs.ServerNext.{events_in}

-- nothing unsent came over a link
abbrev IsPlain : Outcome → Type 0
IsPlain o = HasNone is_link_strange o

-- ## What a packet completes

quiet_plain : (h : Heard) → is_link_strange (quiet_note h) ≡ false
quiet_plain h = elim (h.fresh == 0) as (λ (b : Bool). is_link_strange (cond b note.None note.Part) ≡ false) [ true ↦ refl | false ↦ refl ]

answers_plain : (now k : ℕ) (answers : List Answer) (c : ClientCore)
    → AllByRecursion (λ (n : Note). is_link_strange n ≡ false) (notes_all now k answers c)
answers_plain now k [] c = tt
answers_plain now k (a ∷ answers) c = (refl, answers_plain now k answers (committed (answer_plan c now k a).ready c))

heard_plain : (h : Heard) (now k : ℕ) (answers : List Answer) (c : ClientCore)
    → AllByRecursion (λ (n : Note). is_link_strange n ≡ false) (heard_notes h now k answers c)
heard_plain h now k [] c = (quiet_plain h, tt)
heard_plain h now k (a ∷ answers) c = answers_plain now k (a ∷ answers) c

client_plain : (now : ℕ) (s : Session) (k : ℕ) (from : Option Peer) (h : Heard) (state : SessionState) (journal : List Item) (p : Packets)
    → AreFirstOf h.joined (downs_of k (Some state)) → IsPlain (client_hears now s k from h state journal p).outcome
client_plain now s k from h state journal p f =
    let heard = answers_in k h.joined state.down f in
    subst (λ (x : SessionStepped). IsPlain x.outcome) (sym (heard_is s now k from h heard.0 state journal p heard.1))
    (heard_plain h now k heard.0 state.client)

steps_plain : (now : ℕ) (es : List ServerEvent) (c : Core)
    → AllByRecursion (λ (n : Note). is_link_strange n ≡ false) (server_notes now es c)
steps_plain now [] c = tt
steps_plain now (e ∷ es) c = (refl, steps_plain now es (core_step c now e).server)

heard_there : (h : Heard) (now : ℕ) (es : List ServerEvent) (c : Core)
    → AllByRecursion (λ (n : Note). is_link_strange n ≡ false) (noted_there h now es c)
heard_there h now [] c = (quiet_plain h, tt)
heard_there h now (e ∷ es) c = steps_plain now (e ∷ es) c

server_plain : (w : TheServed) (now k : ℕ) (from : Option Peer) (h : Heard) (x : ServerStepped) (who : Peer)
    → AreFirstOf h.joined (between w who (Server k)) → IsPlain (server_heard now k who from h x).outcome
server_plain w now k from h x who f =
    let es = events_in w k who h.joined f in
    subst (λ (y : ServerStepped). IsPlain y.outcome) (sym (server_heard_is k now who from h es.0 x es.1)) (heard_there h now es.0 x.server)

-- ## A packet is told

module _ (w : TheServed) (now : ℕ) where
  told_plain : (s : Session) (k : ℕ) (p : Packet) (o : Option SessionState)
      → AreFirstOf (joined_at (state_post o) (Server k) p) (downs_of k o) → IsPlain (client_receive_packet_at o now s k p w).outcome
  told_plain s k p None f = (refl, tt)
  told_plain s k p (Some state) f =
      let a = post_accepted state.post (Server k) p in
      client_plain now s k (heard_in (Server k) p) a.heard (record state { post = a.links }) w.journal w.packets f

  server_comes_plain : (k : ℕ) (from : Peer) (p : Packet) (c : Option Core) (o : Option Links)
      → AreFirstOf (joined_at o from p) (between w from (Server k)) → IsPlain (server_receive_packet_at c o now k from p w).outcome
  server_comes_plain k from p None o f = (refl, tt)
  server_comes_plain k from p (Some c) None f = (refl, tt)
  server_comes_plain k from p (Some c) (Some post) f =
      let a = post_accepted post from p in
      server_plain w now k (heard_in from p) a.heard (without_joined k from a.heard.joined (record (at_server c post w) {
        post =
            a.links;
      })) from f

  comes_plain : (from to : Peer) (p : Packet) → AreFirstOf (joined_at (post_of w to) from p) (between w from to)
      → IsPlain (comes now from to p w).outcome
  comes_plain from (Server k) p f = server_comes_plain k from p (slice_get w.servers k) (slice_get w.posts k) f
  comes_plain (Server k) (Client s) p f = told_plain s k p (get w.sessions s.0) f
  comes_plain (Client t) (Client s) p f = (refl, tt)

  arrives_plain : (from to : Peer) (o : Option Packet) → GivesFirst w from to o → IsPlain (arrives now from to o w).outcome
  arrives_plain from to None f = absurd f
  arrives_plain from to (Some p) f = comes_plain from to p f

tell_plain : (w : TheServed) (now k : ℕ) → Carries w → IsPlain (tell now k w).outcome
tell_plain w now k carry = go (slice_get w.packets.sent k) refl
  where
    go : (o : Option Sent) → slice_get w.packets.sent k ≡ o → IsPlain (tell_at o now k w).outcome
    go None e = (refl, tt)
    go (Some x) e = arrives_plain w now x.from x.to (packet_at x.bytes) (carry x (In-got w.packets.sent k x e))

-- ## An event of a world with servers

join_plain : (o : Option SessionState) (s : Session) (w : TheServed) → IsPlain (join_at o s w).outcome
join_plain None s w = (refl, tt)
join_plain (Some state) s w = (refl, tt)

do_plain : (o : Option SessionState) (now : ℕ) (s : Session) (op : Op) (w : TheServed) → IsPlain (do_at o now s op w).outcome
do_plain None now s op w = (refl, tt)
do_plain (Some state) now s op w = (refl, tt)

turn_plain : (o : Option SessionState) (now : ℕ) (s : Session) (w : TheServed) → IsPlain (turn_at o now s w).outcome
turn_plain None now s w = (refl, tt)
turn_plain (Some state) now s w = (refl, tt)

server_step_plain : (c : Option Core) (o : Option Links) (k : ℕ) (turn : Bool) (now : ℕ) (e : ServerEvent) (w : TheServed)
    → IsPlain (server_step_at c o k turn now e w).outcome
server_step_plain None o k turn now e w = (refl, tt)
server_step_plain (Some c) None k turn now e w = (refl, tt)
server_step_plain (Some c) (Some post) k turn now e w = (refl, tt)

served_plain : (w : TheServed) (now : ℕ) (what : What) → Carries w → IsPlain (served.step_of w now what).outcome
served_plain w now (Join s) h = join_plain (get w.sessions s.0) s w
served_plain w now (Do s o) h = do_plain (get w.sessions s.0) now s o w
served_plain w now (Tell None) h = tell_plain w now (first_undelivered w.packets.delivered) h
served_plain w now (Tell (Some k)) h = tell_plain w now k h
served_plain w now (Turn (Client s)) h = turn_plain (get w.sessions s.0) now s w
served_plain w now (Turn (Server k)) h = server_step_plain (slice_get w.servers k) (slice_get w.posts k) k true now TheTurn w
served_plain w now (Recall k field) h = server_step_plain (slice_get w.servers k) (slice_get w.posts k) k false now (TheRecall field) w
served_plain w now (Move k prefix to) h = server_step_plain (slice_get w.servers k) (slice_get w.posts k) k false now (TheMove prefix to) w

-- ## An event of any world

-- in the direct form nothing comes over a link
direct_join : (o : Option ℕ) (w : TheDirect) (s : Session) → IsPlain (direct.join_at o w s).outcome
direct_join None w s = (refl, tt)
direct_join (Some n) w s = (refl, tt)

direct_do : (o : Option ℕ) (w : TheDirect) (s : Session) (op : Op) → IsPlain (direct.do_at o w s op).outcome
direct_do None w s op = (refl, tt)
direct_do (Some n) w s op = (refl, tt)

direct_plain : (w : TheDirect) (what : What) → IsPlain (direct.step_of w what).outcome
direct_plain w (Join s) = direct_join (get w.asked s.0) w s
direct_plain w (Do s o) = direct_do (get w.asked s.0) w s o
direct_plain w what = (refl, tt)

pub step_plain : (w : Form) (e : Event) → LinksCarry w → HasNone is_link_strange (step w e).outcome
step_plain (Direct w) e h = direct_plain w e.what
step_plain (Served w) e h = served_plain w e.reading e.what h

-- what was answered is what the event came to
pub answered_plain : (w : Form) (e : Event) (r : Result Outcome CoreError) → LinksCarry w
    → IfOk r (λ (o : Outcome). o ≡ (step w e).outcome) → IfOk r (HasNone is_link_strange)
answered_plain w e (Ok o) h is = subst (λ (x : Outcome). HasNone is_link_strange x) (sym is) (step_plain w e h)
answered_plain w e (Err error) h is = tt
